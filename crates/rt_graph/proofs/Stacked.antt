-- The needs of roots against the words of stacks.
use Rattle.std.proofs.Common.{◌≡◌, ℕ, zero, suc, ◌+◌, ◌<◌, ◌≤◌, inl, inr, ltb, eqb, ◌&&◌, if◌then◌else◌, min, Bool, true, false, List, [], ◌∷◌, length, drop, Option, Some, None, slice_get, refl, sym, ap, ◌∙◌, subst, arith}
use Rattle.std.proofs.lemmas.Bool.Decides.{nat_tests}
use Rattle.rt_tree_nodes.specs.declared.store.Proc.{Proc}
use Rattle.rt_object.specs.declared.object.Brick.{Brick}
use Rattle.rt_object.specs.declared.object.BrickKind.{BrickKind}
use Rattle.rt_object.specs.declared.object.ObjectParts.{ObjectParts}
use Rattle.rt_match.specs.declared.bindings.Bound.{Bound}
use Rattle.rt_system.specs.declared.parts.Task.{Task}
use Rattle.rt_digraph.specs.Walks.{Has, root}
use Rattle.rt_digraph.proofs.Lists.{no_element, some_is}
use Rattle.rt_digraph.proofs.Moves.{same_or_not}
use Rattle.rt_graph.specs.Calls.{brick, body_in, content_at, content_of, own, IsProcedure}
use Rattle.rt_graph.specs.Needs.{counted, HasNeed, AreNeeds}
use Rattle.rt_graph.specs.Numbers.{and_then}
use Rattle.rt_graph.specs.Scans.{is_same, told_need, less_by, less, small, root_named, stack_named}
use Rattle.rt_graph.specs.Tasks.{IsRootNamed, IsGood, HasEnough, IsFirstSmall, AreFound}
use Rattle.rt_graph.proofs.Tasked.{root_is, root_to, stack_is, stack_to}
use Rattle.rt_graph.proofs.Unique.{one_need}

same_is : (f g : Proc) → is_same f g ≡ true → f ≡ g
same_is f g e = ap (λ (k : ℕ). brick k f.brick) (left f.«module» g.«module» f.brick g.brick e) ∙ ap (λ (k : ℕ). brick g.«module» k) (right f.«module» g.«module» f.brick g.brick e)
  where
    left : (a b c d : ℕ) → (eqb a b && eqb c d) ≡ true → a ≡ b
    left a b c d e = grind (arith, e)

    right : (a b c d : ℕ) → (eqb a b && eqb c d) ≡ true → c ≡ d
    right a b c d e = grind (arith, e)

same_self : (f : Proc) → is_same f f ≡ true
same_self f = both f.«module» f.brick
  where
    both : (a b : ℕ) → (eqb a a && eqb b b) ≡ true
    both a b = grind (arith, nat_tests)

module _ (objects : List ObjectParts) (of : List (List Bound)) where
  needs_tail : (f : Proc) (fs : List Proc) (ns : List ℕ) → AreNeeds objects of (f ∷ fs) ns → AreNeeds objects of fs (drop 1 ns)
  needs_tail f fs ns h = record { one_each = long ns h.one_each; each = λ i g at. (let e = h.each (suc i) g at in (e.0, e.1, behind ns i (counted e.0) e.2)) }
    where
      long : (ms : List ℕ) → length ms ≡ suc (length fs) → length (drop 1 ms) ≡ length fs
      long [] e = absurd (omega arith)
      long (m ∷ ms) e = omega arith

      behind : (ms : List ℕ) (i k : ℕ) → slice_get ms (suc i) ≡ Some k → slice_get (drop 1 ms) i ≡ Some k
      behind [] i k e = absurd cc
      behind (m ∷ ms) i k e = e

  pub told_is : (fs : List Proc) (ns : List ℕ) (f : Proc) → AreNeeds objects of fs ns → Has fs f → (n : ℕ) × HasNeed objects of f n × (told_need fs ns f ≡ Some (counted n))
  told_is [] ns f h has = absurd (no_element has.0 f has.1)
  told_is (g ∷ fs) ns f h has = by (is_same g f) refl (told_is fs (drop 1 ns) f (needs_tail g fs ns h))
    where
      later : (has : Has (g ∷ fs) f) → is_same g f ≡ false → Has fs f
      later (zero, e) q = absurd (let s : g ≡ f = some_is g f e in let t : is_same g f ≡ true = subst (λ (x : Proc). is_same g x ≡ true) s (same_self g) in let z : true ≡ false = sym t ∙ q in cc)
      later (suc i, e) q = (i, e)

      by : (b : Bool) → is_same g f ≡ b → (Has fs f → (n : ℕ) × HasNeed objects of f n × (told_need fs (drop 1 ns) f ≡ Some (counted n))) → (n : ℕ) × HasNeed objects of f n × (told_need (g ∷ fs) ns f ≡ Some (counted n))
      by true q rest =
          let e = h.each 0 g refl in
          (e.0, subst (λ (x : Proc). HasNeed objects of x e.0) (same_is g f q) e.1, ap (λ (b : Bool). if b then slice_get ns 0 else told_need fs (drop 1 ns) f) q ∙ e.2)
      by false q rest =
          let r = rest (later has q) in
          (r.0, r.1, ap (λ (b : Bool). if b then slice_get ns 0 else told_need fs (drop 1 ns) f) q ∙ r.2)

  module _ (tasks : List Task) (order : List Proc) (needs : List ℕ) (found : AreFound objects tasks of order needs) where
    -- what is told of a task's root
    root_told : (i : ℕ) (t : Task) → slice_get tasks i ≡ Some t → (f : Proc) × (n : ℕ) × (words : ℕ) × (root_named objects t.root ≡ Some f) × (stack_named objects t.stack ≡ Some words) × HasNeed objects of f n × (told_need order needs f ≡ Some (counted n))
    root_told i t at =
        let r = found.are_roots.each i t at in
        let good : IsGood objects tasks i t r.0 r.1 = r.2 in
        let has = found.is_order.order.all r.0 (root (record { listed = (i, r.3); procedure = root_procedure r.0 t.root good.root })) in
        let n = told_is order needs r.0 found.are_needs has in
        (r.0, n.0, r.1, root_to objects t.root r.0 good.root, stack_to objects t.stack r.1 good.stack, n.1, n.2)
      where
        root_procedure : (f : Proc) (name : List ℕ) → IsRootNamed objects name f → IsProcedure objects f
        root_procedure f name h =
            let e = h.entry.entry in
            (_, own {o = e.object} {p = h.body} (record { of = e.of; is = ap (λ (x : Option Brick). body_in (content_at x)) e.at ∙ ap (λ (k : BrickKind). body_in (content_of k)) e.ent }))

    small_is : (t : Task) (f : Proc) (n words : ℕ) → root_named objects t.root ≡ Some f → stack_named objects t.stack ≡ Some words → told_need order needs f ≡ Some (counted n) → small objects order needs t ≡ less (counted n) words
    small_is t f n words r s e =
        ap (λ (o : Option ℕ). and_then o (λ has. and_then (root_named objects t.root) (λ g. and_then (told_need order needs g) (λ k. less k has)))) s
        ∙ ap (λ (o : Option Proc). and_then o (λ g. and_then (told_need order needs g) (λ k. less k words))) r
        ∙ ap (λ (o : Option ℕ). and_then o (λ k. less k words)) e

    less_none : (k words : ℕ) → less k words ≡ None → k ≤ words
    less_none k words e = by (ltb words k) refl e
      where
        not_less : (a b : ℕ) → ltb a b ≡ false → b ≤ a
        not_less a b e = grind (arith, e)

        by : (b : Bool) → ltb words k ≡ b → less_by b k words ≡ None → k ≤ words
        by true q f = absurd cc
        by false q f = not_less words k q

    less_some : (k words need has : ℕ) → less k words ≡ Some (need, has) → (words < k) × (need ≡ k) × (has ≡ words)
    less_some k words need has e = by (ltb words k) refl e
      where
        is_less : (a b : ℕ) → ltb a b ≡ true → a < b
        is_less a b e = grind (arith, e)

        by : (b : Bool) → ltb words k ≡ b → less_by b k words ≡ Some (need, has) → (words < k) × (need ≡ k) × (has ≡ words)
        by true q f = let s : (k, words) ≡ (need, has) = some_is (k, words) (need, has) f in (is_less words k q, ap (λ (p : ℕ × ℕ). p.0) (sym s), ap (λ (p : ℕ × ℕ). p.1) (sym s))
        by false q f = absurd cc

    fits_in : (n words : ℕ) → counted n ≤ words → words < 65536 → n ≤ words
    fits_in n words a b = by n words a b
      where
        by : (n w : ℕ) → min n 4294967295 ≤ w → w < 65536 → n ≤ w
        by n w a b = omega arith

    counted_below : (n words : ℕ) → words < counted n → words < n
    counted_below n words a = by n words a
      where
        by : (n w : ℕ) → w < min n 4294967295 → w < n
        by n w a = omega arith

    pub enough : (i : ℕ) (t : Task) → slice_get tasks i ≡ Some t → small objects order needs t ≡ None → ((n : ℕ) → stack_named objects t.stack ≡ Some n → n < 65536) → HasEnough objects tasks of t
    enough i t at none few f words need is_root stack has =
        let r = root_told i t at in
        let words_is : stack_named objects t.stack ≡ Some words = stack_to objects t.stack words stack in
        let w : r.2 ≡ words = some_is r.2 words (sym r.4 ∙ words_is) in
        let g : r.0 ≡ f = some_is r.0 f (sym r.3 ∙ root_to objects t.root f is_root) in
        let n : r.1 ≡ need = one_need objects of f r.1 need (subst (λ (x : Proc). HasNeed objects of x r.1) g r.5) has in
        let l = less_none (counted r.1) r.2 (sym (small_is t r.0 r.1 r.2 r.3 r.4 r.6) ∙ none) in
        let k = few words words_is in
        let m = fits_in r.1 r.2 l (omega arith) in omega arith

    pub first_small : (i : ℕ) (t : Task) (name : List ℕ) (need has : ℕ) → slice_get tasks i ≡ Some t → name ≡ t.name → small objects order needs t ≡ Some (need, has) → ((j : ℕ) (u : Task) → j < i → slice_get tasks j ≡ Some u → HasEnough objects tasks of u) → IsFirstSmall objects tasks of name need has
    first_small i t name need has at named e before =
        let r = root_told i t at in
        let l = less_some (counted r.1) r.2 need has (sym (small_is t r.0 r.1 r.2 r.3 r.4 r.6) ∙ e) in record {
          number = i;
          task = t;
          at = at;
          named = named;
          root = r.0;
          is_root = root_is objects t.root r.0 r.3;
          need = r.1;
          needs = r.5;
          told_is = l.1;
          stack = stack_is objects t.stack has (r.4 ∙ ap (λ (k : ℕ). Some k) (sym l.2));
          small = (let a = counted_below r.1 r.2 l.0 in let b = l.2 in omega arith);
          first = before;
        }

-- what holds of the tasks looked at, and of the next
pub each_more : (P : ℕ → Task → Type 0) (tasks : List Task) (n : ℕ) (t : Task) → ((i : ℕ) (u : Task) → i < n → slice_get tasks i ≡ Some u → P i u) → slice_get tasks n ≡ Some t → P n t → (i : ℕ) (u : Task) → i < n + 1 → slice_get tasks i ≡ Some u → P i u
each_more P tasks n t below at here i u l e = elim (same_or_not i n) [
  | inl same ↦ (let is : t ≡ u = some_is t u (sym at ∙ subst (λ (k : ℕ). slice_get tasks k ≡ Some u) same e) in subst (λ (k : ℕ). P k u) (sym same) (subst (P n) is here))
  | inr other ↦ below i u (less i n l other) e
]
  where
    less : (i n : ℕ) → i < n + 1 → (i ≡ n → ⊥) → i < n
    less i n l other = grind (arith, l, other)
