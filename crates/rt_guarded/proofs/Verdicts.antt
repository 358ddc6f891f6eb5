-- The greatest family, the least family and the verdict are each one.
use Rattle.std.proofs.Common.{◌≡◌, inl, inr, ℕ, ◌<◌, Bool, List, [], ◌∷◌, ◌++◌, refl, sym, ap, subst, ◌∙◌, arith}
use Rattle.std.specs.List.{Contains, AllByRecursion}
use Rattle.std.proofs.lemmas.List.Elements.{Contains-append_right}
use Rattle.rt_tree_nodes.specs.declared.store.Proc.{Proc}
use Rattle.rt_tree.specs.Stored.{System, brick}
use Rattle.rt_guarded.specs.Families.{Family, IsHeld, IsMay}
use Rattle.rt_guarded.specs.Tests.{Guard, HasReference, HasBadAccess, HasBadOrder, HasBadArgument, AreUnreferenced, AreGuarded, IsRising}
use Rattle.rt_guarded.specs.Verdicts.{Verdict, Yes, Argument, Taken, Reference, Access, Order, IsBefore, IsFirst, IsFirstGuard, IsFirstAccess, IsFirstOrder, IsVerdict}
use Rattle.rt_guarded.specs.Laws.{HeldIsOne, MayIsOne, VerdictsAreOne}

pub held_is_one : HeldIsOne
held_is_one ps rs H G h g = g.greatest H h.keeps

pub may_is_one : MayIsOne
may_is_one ps rs M G m g = m.least G g.keeps

-- ---- what is first is one

neither_before : (a b c d : ℕ) → (a < c → ⊥) → (c < a → ⊥) → (a ≡ c → b < d → ⊥) → (c ≡ a → d < b → ⊥) → (a ≡ c) × (b ≡ d)
neither_before a b c d one two three four =
    let same : a ≡ c = omega (arith, one, two) in (same, last (three same) (four (sym same)))
  where
    last : (b < d → ⊥) → (d < b → ⊥) → b ≡ d
    last h k = omega (arith, h, k)

same_brick : (f g : Proc) → (IsBefore f g → ⊥) → (IsBefore g f → ⊥) → f ≡ g
same_brick f g h k =
    let both = neither_before f.module f.brick g.module g.brick (λ x. h (inl x)) (λ x. k (inl x)) (λ e x. h (inr (e, x))) (λ e x. k (inr (e, x))) in
    ap (λ (m : ℕ). brick m f.brick) both.0 ∙ ap (λ (b : ℕ). brick g.module b) both.1

first_is_one : (P Q : Proc → Type 0) → ((f : Proc) → P f → Q f) → ((f : Proc) → Q f → P f) → (f g : Proc) → IsFirst P f → IsFirst Q g → f ≡ g
first_is_one P Q to from f g h k = same_brick f g (λ b. k.before f b (to f h.fails)) (λ b. h.before g b (from g k.fails))

fronts_are_one : (P Q : Guard → Type 0) → ((g : Guard) → P g → Q g) → ((g : Guard) → Q g → P g) → (a b : List Guard) (g h : Guard) (r s : List Guard)
    → a ++ g ∷ r ≡ b ++ h ∷ s → AllByRecursion (λ x. P x → ⊥) a → AllByRecursion (λ x. Q x → ⊥) b → P g → Q h → g ≡ h
fronts_are_one P Q to from [] [] g h r s e m n p q = cc
fronts_are_one P Q to from [] (y ∷ b) g h r s e m n p q = let same : g ≡ y = cc in absurd (n.0 (subst Q same (to g p)))
fronts_are_one P Q to from (x ∷ a) [] g h r s e m n p q = let same : h ≡ x = cc in absurd (m.0 (subst P same (from h q)))
fronts_are_one P Q to from (x ∷ a) (y ∷ b) g h r s e m n p q =
    let rest : a ++ g ∷ r ≡ b ++ h ∷ s = cc in
    fronts_are_one P Q to from a b g h r s rest m.1 n.1 p q

first_guard_is_one : (P Q : Guard → Type 0) → ((g : Guard) → P g → Q g) → ((g : Guard) → Q g → P g) → (guards : List Guard) (g h : Guard) → IsFirstGuard P guards g → IsFirstGuard Q guards h → g ≡ h
first_guard_is_one P Q to from guards g h m n = fronts_are_one P Q to from m.front n.front g h m.rest n.rest (sym m.parts ∙ n.parts) m.before n.before m.fails n.fails

stands_among : (guards front rest : List Guard) (g : Guard) → guards ≡ front ++ g ∷ rest → Contains guards g
stands_among guards front rest g e = subst (λ (gs : List Guard). Contains gs g) (sym e) (Contains-append_right front (g ∷ rest) g (0, omega arith, refl))

module _ (ps : System) (rs : List Proc) (guards : List Guard) (order : Bool) where
  same_access : (H G : Family) → IsHeld ps rs H → IsHeld ps rs G → (g : Guard) (f : Proc) → HasBadAccess ps rs H g f → HasBadAccess ps rs G g f
  same_access H G h k g f x = (x.0, x.1, x.2, λ inside. x.3 (held_is_one ps rs G H k h f x.0 g.facility inside))

  unreferenced : (g : Guard) → IsFirstGuard (HasReference ps rs) guards g → AreUnreferenced ps rs guards → ⊥
  unreferenced g h none = none g (stands_among guards h.front h.rest g h.parts) h.fails

  unguarded : (line : ℕ) (f : Proc) (H : Family) → IsFirstAccess ps rs guards order line f → IsHeld ps rs H → AreGuarded ps rs H guards → ⊥
  unguarded line f H x h all =
      all x.guard (stands_among guards x.first_guard.front x.first_guard.rest x.guard x.first_guard.parts) x.first_guard.fails.0 (same_access x.held H x.is_held h x.guard x.first_guard.fails.0 x.first_guard.fails.1)

  one_access : (l m : ℕ) (f g : Proc) → IsFirstAccess ps rs guards order l f → IsFirstAccess ps rs guards order m g → Access l f ≡ Access m g
  one_access l m f g x y =
      let to = same_access x.held y.held x.is_held y.is_held in
      let from = same_access y.held x.held y.is_held x.is_held in
      let guard : x.guard ≡ y.guard = first_guard_is_one (λ z. (h : Proc) × HasBadAccess ps rs x.held z h) (λ z. (h : Proc) × HasBadAccess ps rs y.held z h)
      (λ z h. (h.0, to z h.0 h.1)) (λ z h. (h.0, from z h.0 h.1)) guards x.guard y.guard x.first_guard y.first_guard in
      let first = subst (λ (z : Guard). IsFirst (HasBadAccess ps rs y.held z) g) (sym guard) y.first in
      let same : f ≡ g = first_is_one (HasBadAccess ps rs x.held x.guard) (HasBadAccess ps rs y.held x.guard) (to x.guard) (from x.guard) f g x.first first in
      let line : l ≡ m = x.line_is ∙ ap (λ (z : Guard). z.line) guard ∙ sym y.line_is in
      ap (λ (n : ℕ). Access n f) line ∙ ap (λ (h : Proc). Access m h) same

  one_order : (f g : Proc) → IsFirstOrder ps rs guards order f → IsFirstOrder ps rs guards order g → f ≡ g
  one_order f g x y =
      first_is_one (HasBadOrder ps rs x.may) (HasBadOrder ps rs y.may)
      (λ h b. (b.0, b.1, b.2, b.3, may_is_one ps rs x.may y.may x.is_may y.is_may h b.0 b.2 b.4, b.5))
      (λ h b. (b.0, b.1, b.2, b.3, may_is_one ps rs y.may x.may y.is_may x.is_may h b.0 b.2 b.4, b.5)) f g x.first y.first

  one_reference : (g h : Guard) → IsFirstGuard (HasReference ps rs) guards g → IsFirstGuard (HasReference ps rs) guards h → g ≡ h
  one_reference g h x y = first_guard_is_one (HasReference ps rs) (HasReference ps rs) (λ z r. r) (λ z r. r) guards g h x y

  out_of_order : (f : Proc) (M : Family) → IsFirstOrder ps rs guards order f → IsMay ps rs M → IsRising ps rs M → ⊥
  out_of_order f M x m rises =
      let b = x.first.fails in
      rises f (b.0, b.1, b.2, b.3, may_is_one ps rs x.may M x.is_may m f b.0 b.2 b.4, b.5)

  one_verdict : (v w : Verdict) → IsVerdict ps rs guards order v → IsVerdict ps rs guards order w → v ≡ w
  one_verdict (Argument f) (Argument g) h k = ap (λ (x : Proc). Argument x) (first_is_one (HasBadArgument ps rs) (HasBadArgument ps rs) (λ x b. b) (λ x b. b) f g h k)
  one_verdict (Argument f) Yes h k = absurd (k.arguments f h.fails)
  one_verdict (Argument f) Taken h k = absurd (k.0 f h.fails)
  one_verdict (Argument f) (Reference l) h k = absurd (k.0 f h.fails)
  one_verdict (Argument f) (Access l g) h k = absurd (k.0 f h.fails)
  one_verdict (Argument f) (Order g) h k = absurd (k.0 f h.fails)
  one_verdict Taken Taken h k = refl
  one_verdict Taken (Argument g) h k = absurd (h.0 g k.fails)
  one_verdict Taken Yes h k = absurd (k.taken h.1)
  one_verdict Taken (Reference l) h k = absurd (k.1 h.1)
  one_verdict Taken (Access l g) h k = absurd (k.1 h.1)
  one_verdict Taken (Order g) h k = absurd (k.1 h.1)
  one_verdict (Reference l) (Reference m) h k = ap (λ (n : ℕ). Reference n) (h.2.2 ∙ ap (λ (g : Guard). g.line) (one_reference h.2.0 k.2.0 h.2.1 k.2.1) ∙ sym k.2.2)
  one_verdict (Reference l) (Argument g) h k = absurd (h.0 g k.fails)
  one_verdict (Reference l) Taken h k = absurd (h.1 k.1)
  one_verdict (Reference l) Yes h k = absurd (unreferenced h.2.0 h.2.1 k.references)
  one_verdict (Reference l) (Access m g) h k = absurd (unreferenced h.2.0 h.2.1 k.2)
  one_verdict (Reference l) (Order g) h k = absurd (unreferenced h.2.0 h.2.1 k.2)
  one_verdict (Access l f) (Access m g) h k = one_access l m f g h.3 k.3
  one_verdict (Access l f) (Argument g) h k = absurd (h.0 g k.fails)
  one_verdict (Access l f) Taken h k = absurd (h.1 k.1)
  one_verdict (Access l f) (Reference m) h k = absurd (unreferenced k.2.0 k.2.1 h.2)
  one_verdict (Access l f) Yes h k = absurd (unguarded l f k.held h.3 k.is_held k.accesses)
  one_verdict (Access l f) (Order g) h k = absurd (unguarded l f k.3.held h.3 k.3.is_held k.3.guarded)
  one_verdict (Order f) (Order g) h k = ap (λ (x : Proc). Order x) (one_order f g h.3 k.3)
  one_verdict (Order f) (Argument g) h k = absurd (h.0 g k.fails)
  one_verdict (Order f) Taken h k = absurd (h.1 k.1)
  one_verdict (Order f) (Reference m) h k = absurd (unreferenced k.2.0 k.2.1 h.2)
  one_verdict (Order f) (Access m g) h k = absurd (unguarded m g h.3.held k.3 h.3.is_held h.3.guarded)
  one_verdict (Order f) Yes h k = absurd (out_of_order f k.may h.3 k.is_may (k.rises h.3.asked))
  one_verdict Yes Yes h k = refl
  one_verdict Yes (Argument g) h k = absurd (h.arguments g k.fails)
  one_verdict Yes Taken h k = absurd (h.taken k.1)
  one_verdict Yes (Reference l) h k = absurd (unreferenced k.2.0 k.2.1 h.references)
  one_verdict Yes (Access l g) h k = absurd (unguarded l g h.held k.3 h.is_held h.accesses)
  one_verdict Yes (Order g) h k = absurd (out_of_order g h.may k.3 h.is_may (h.rises k.3.asked))

pub verdicts_are_one : VerdictsAreOne
verdicts_are_one ps rs guards order v w h k = one_verdict ps rs guards order v w h k
