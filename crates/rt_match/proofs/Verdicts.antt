-- What bindings and verdicts are to one another.
use Rattle.std.proofs.Common.{◌≡◌, ◌⊎◌, ℕ, zero, suc, Bool, true, false, List, Option, Some, None, slice_get, refl, sym, ap, ◌∙◌, subst, inl, inr}
use Rattle.std.specs.Str.{bytes_eq}
use Rattle.std.proofs.lemmas.Slice.Eq.{bytes_eq-Decides}
use Rattle.rt_modes.specs.Bricks.{number_of, supplied_by}
use Rattle.rt_modes.specs.declared.supplied.Supplied.{Supplied}
use Rattle.rt_match.specs.declared.bindings.Bound.{Bound}
use Rattle.rt_match.specs.declared.bindings.Bound.TheVariants as bound
use Rattle.rt_match.specs.declared.fault.MatchFault.TheVariants as fault
use Rattle.rt_match.specs.Matching as matching
use Rattle.rt_match.specs.Matching.{Kind, Sort, Signature, System, module_of, AreAlike, IsSupplied, Before, HasBrick, IsEntry, AsksFor, Duplicates, Lacks, DiffersFrom, Differs, IsUnsupplied, Never, IsFirst, FirstIn, FirstDiffering, Fails, Match, IsBound, Correspond, AreBound}
use Rattle.rt_match.specs.Walking.{supplied_as}
use Rattle.rt_match.specs.Laws.{at_place, binding_of, AllHaveOne, ExtsAreEntries, SvcsAreSupplied, LeadToEntries, HaveOneTable, NeverBoth, HaveOneFault}
use Rattle.rt_match.proofs.Walking.{has_one, some_one}
use Rattle.rt_match.proofs.Asking.{supplied_from, before_or, same_entry, lacks_is, differs_is, unsupplied_is}

-- ---- whether two bricks are alike

same_sort : (r s : Sort) → (r ≡ s) ⊎ (r ≡ s → ⊥)
same_sort matching.Proc matching.Proc = inl refl
same_sort matching.Data matching.Data = inl refl
same_sort matching.Stack matching.Stack = inl refl
same_sort matching.Proc matching.Data = inr (λ e. cc)
same_sort matching.Proc matching.Stack = inr (λ e. cc)
same_sort matching.Data matching.Proc = inr (λ e. cc)
same_sort matching.Data matching.Stack = inr (λ e. cc)
same_sort matching.Stack matching.Proc = inr (λ e. cc)
same_sort matching.Stack matching.Data = inr (λ e. cc)

same_text : (a b : List ℕ) → (a ≡ b) ⊎ (a ≡ b → ⊥)
same_text a b = by (bytes_eq a b) refl
  where
    by : (q : Bool) → bytes_eq a b ≡ q → (a ≡ b) ⊎ (a ≡ b → ⊥)
    by true e = inl ((bytes_eq-Decides a b).0 e)
    by false e = inr (λ h. let yes : bytes_eq a b ≡ true = (bytes_eq-Decides a b).1 h in let bad : true ≡ false = sym yes ∙ e in cc)

alike_unless : (s e : Signature) → ((AreAlike s e → ⊥) → ⊥) → AreAlike s e
alike_unless s e h = by (same_sort s.sort e.sort) (same_text s.mode e.mode)
  where
    by : (s.sort ≡ e.sort) ⊎ (s.sort ≡ e.sort → ⊥) → (s.mode ≡ e.mode) ⊎ (s.mode ≡ e.mode → ⊥) → AreAlike s e
    by (inl p) (inl q) = record { sort = p; mode = q }
    by (inr n) q = absurd (h (λ a. n a.sort))
    by (inl p) (inr n) = absurd (h (λ a. n a.mode))

-- ---- lists that correspond

at_right : {A B : Type 0} (R : A → B → Type 0) (xs : List A) (ys : List B) (k : ℕ) (x : A) → Correspond R xs ys → slice_get xs k ≡ Some x → (y : B) × (slice_get ys k ≡ Some y) × R x y
at_right R _ _ k x matching.none e = absurd cc
at_right {A} R _ _ zero x (matching.one {x = a} {y = b} {xs} {ys} r rest) e = let same : a ≡ x = cc in (b, refl, subst (λ (z : A). R z b) same r)
at_right R _ _ (suc k) x (matching.one {x = a} {y = b} {xs} {ys} r rest) e = at_right R xs ys k x rest e

at_left : {A B : Type 0} (R : A → B → Type 0) (xs : List A) (ys : List B) (k : ℕ) (y : B) → Correspond R xs ys → slice_get ys k ≡ Some y → (x : A) × (slice_get xs k ≡ Some x) × R x y
at_left R _ _ k y matching.none e = absurd cc
at_left {A} {B} R _ _ zero y (matching.one {x = a} {y = b} {xs} {ys} r rest) e = let same : b ≡ y = cc in (a, refl, subst (λ (z : B). R a z) same r)
at_left R _ _ (suc k) y (matching.one {x = a} {y = b} {xs} {ys} r rest) e = at_left R xs ys k y rest e

one_list : {A B : Type 0} (R : A → B → Type 0) → ((x : A) (y z : B) → R x y → R x z → y ≡ z) → (xs : List A) (ys zs : List B) → Correspond R xs ys → Correspond R xs zs → ys ≡ zs
one_list R one _ _ zs matching.none matching.none = refl
one_list R one _ _ _ (matching.one {x} {y} {xs} {ys} r rest) (matching.one {y = z} {ys = zs} q more) =
    let head : y ≡ z = one x y z r q in
    let tail : ys ≡ zs = one_list R one xs ys zs rest more in
    cc

-- ---- bindings

pub all_have_one : AllHaveOne
all_have_one sys of zero b s h has = let bad : None ≡ Some has.bricks = has.of in absurd cc
all_have_one sys of (suc m) b s h has =
    let row = at_right (Correspond (IsBound sys)) sys of m has.bricks h has.of in
    let to = at_right (IsBound sys) has.bricks row.0 b s row.2 has.at in
    (to.0, ap (λ (o : Option (List Bound)). at_place o b) row.1 ∙ to.1, to.2)

pub exts_are_entries : ExtsAreEntries
exts_are_entries sys of m b s match h has ext = let x = all_have_one sys of m b s h has in by x.0 x.1 x.2
  where
    asked : (e : Signature) (to : Bound) → AsksFor sys s e to → binding_of of m b ≡ Some to → (n c : ℕ) × (f : Signature) × (binding_of of m b ≡ Some (bound.Brick n c)) × IsEntry sys n c f × (f.name ≡ s.name) × AreAlike s f
    asked e _ (matching.entry {n} {c} k is named) q =
        let like : AreAlike s e = alike_unless s e (λ d. match.alike m b s (e, record { is = has; to = bound.Brick n c; asks = matching.entry k is named; differ = d })) in
        (n, c, e, q, is, named, like)
    asked e _ (matching.supplied k is named) q = let bad : matching.Ext ≡ matching.Svc = sym ext ∙ k in absurd cc

    by : (to : Bound) → binding_of of m b ≡ Some to → IsBound sys s to → (n c : ℕ) × (f : Signature) × (binding_of of m b ≡ Some (bound.Brick n c)) × IsEntry sys n c f × (f.name ≡ s.name) × AreAlike s f
    by _ q (matching.own k) = let bad : matching.Ext ≡ matching.Own = sym ext ∙ k in absurd cc
    by _ q (matching.ent k) = let bad : matching.Ext ≡ matching.Ent = sym ext ∙ k in absurd cc
    by _ q (matching.asks {e} {to} a) = asked e to a q

pub svcs_are_supplied : SvcsAreSupplied
svcs_are_supplied sys of m b s match h has svc = let x = all_have_one sys of m b s h has in by x.0 x.1 x.2
  where
    asked : (e : Signature) (to : Bound) → AsksFor sys s e to → binding_of of m b ≡ Some to → (k : ℕ) × (f : Signature) × (binding_of of m b ≡ Some (bound.Supplied k)) × IsSupplied k f × (f.name ≡ s.name) × AreAlike s f
    asked e _ (matching.entry k is named) q = let bad : matching.Svc ≡ matching.Ext = sym svc ∙ k in absurd cc
    asked e _ (matching.supplied {k = n} k is named) q =
        let like : AreAlike s e = alike_unless s e (λ d. match.alike m b s (e, record { is = has; to = bound.Supplied n; asks = matching.supplied k is named; differ = d })) in
        (n, e, q, is, named, like)

    by : (to : Bound) → binding_of of m b ≡ Some to → IsBound sys s to → (k : ℕ) × (f : Signature) × (binding_of of m b ≡ Some (bound.Supplied k)) × IsSupplied k f × (f.name ≡ s.name) × AreAlike s f
    by _ q (matching.own k) = let bad : matching.Svc ≡ matching.Own = sym svc ∙ k in absurd cc
    by _ q (matching.ent k) = let bad : matching.Svc ≡ matching.Ent = sym svc ∙ k in absurd cc
    by _ q (matching.asks {e} {to} a) = asked e to a q

pub lead_to_entries : LeadToEntries
lead_to_entries sys of zero b n c h e = absurd cc
lead_to_entries sys of (suc m) b n c h e = by (slice_get of m) refl e
  where
    asked : (s f : Signature) (to : Bound) → AsksFor sys s f to → to ≡ bound.Brick n c → (g : Signature) × IsEntry sys n c g
    asked s f _ (matching.entry {n = i} {c = j} k is named) q =
        let qi : i ≡ n = cc in
        let qj : j ≡ c = cc in
        (f, subst (λ (x : ℕ). IsEntry sys x c f) qi (subst (λ (y : ℕ). IsEntry sys i y f) qj is))
    asked s f _ (matching.supplied k is named) q = absurd cc

    bound_so : (s : Signature) (to : Bound) → IsBound sys s to → to ≡ bound.Brick n c → (g : Signature) × IsEntry sys n c g
    bound_so s _ (matching.own k) q = absurd cc
    bound_so s _ (matching.ent k) q = absurd cc
    bound_so s _ (matching.asks {e = f} {to} a) q = asked s f to a q

    by : (o : Option (List Bound)) → slice_get of m ≡ o → at_place o b ≡ Some (bound.Brick n c) → (g : Signature) × IsEntry sys n c g
    by None q f = absurd cc
    by (Some ts) q f =
        let row = at_left (Correspond (IsBound sys)) sys of m ts h q in
        let x = at_left (IsBound sys) row.0 ts b (bound.Brick n c) row.2 f in
        bound_so x.0 (bound.Brick n c) x.2 refl

-- ---- what is asked for is one

asks_one : (sys : System) → Never sys (Duplicates sys) → (s e f : Signature) (to other : Bound) → AsksFor sys s e to → AsksFor sys s f other → (e ≡ f) × (to ≡ other)
asks_one sys once s e f _ _ (matching.entry {n} {c} k is named) (matching.entry {n = m} {c = b} l isf namedf) =
    let x = same_entry sys n c m b e f once is isf (named ∙ sym namedf) in
    (x.2, ap (λ (i : ℕ). bound.Brick i c) x.0 ∙ ap (λ (j : ℕ). bound.Brick m j) x.1)
asks_one sys once s e f _ _ (matching.supplied {k = i} k is named) (matching.supplied {k = j} l isf namedf) =
    let x = supplied_from i e is in
    let y = supplied_from j f isf in
    let p : Supplied = x.0 in
    let q : Supplied = y.0 in
    let same : p ≡ q = some_one p q (sym x.1 ∙ (ap supplied_by (named ∙ sym namedf) ∙ y.1)) in
    let ef : e ≡ f = x.3 ∙ (ap supplied_as same ∙ sym y.3) in
    let ij : i ≡ j = x.2 ∙ (ap number_of same ∙ sym y.2) in
    (ef, ap bound.Supplied ij)
asks_one sys once s e f _ _ (matching.entry k is named) (matching.supplied l isf namedf) = let bad : matching.Ext ≡ matching.Svc = sym k ∙ l in absurd cc
asks_one sys once s e f _ _ (matching.supplied k is named) (matching.entry l isf namedf) = let bad : matching.Svc ≡ matching.Ext = sym k ∙ l in absurd cc

own_not : (sys : System) (s e : Signature) (to : Bound) → AsksFor sys s e to → s.kind ≡ matching.Own → ⊥
own_not sys s e _ (matching.entry k is named) q = let bad : matching.Own ≡ matching.Ext = sym q ∙ k in absurd cc
own_not sys s e _ (matching.supplied k is named) q = let bad : matching.Own ≡ matching.Svc = sym q ∙ k in absurd cc

ent_not : (sys : System) (s e : Signature) (to : Bound) → AsksFor sys s e to → s.kind ≡ matching.Ent → ⊥
ent_not sys s e _ (matching.entry k is named) q = let bad : matching.Ent ≡ matching.Ext = sym q ∙ k in absurd cc
ent_not sys s e _ (matching.supplied k is named) q = let bad : matching.Ent ≡ matching.Svc = sym q ∙ k in absurd cc

bound_one : (sys : System) → Never sys (Duplicates sys) → (s : Signature) (to other : Bound) → IsBound sys s to → IsBound sys s other → to ≡ other
bound_one sys once s _ _ (matching.own k) (matching.own l) = refl
bound_one sys once s _ _ (matching.own k) (matching.ent l) = refl
bound_one sys once s _ _ (matching.ent k) (matching.own l) = refl
bound_one sys once s _ _ (matching.ent k) (matching.ent l) = refl
bound_one sys once s _ _ (matching.own k) (matching.asks {e} {to} a) = absurd (own_not sys s e to a k)
bound_one sys once s _ _ (matching.ent k) (matching.asks {e} {to} a) = absurd (ent_not sys s e to a k)
bound_one sys once s _ _ (matching.asks {e} {to} a) (matching.own k) = absurd (own_not sys s e to a k)
bound_one sys once s _ _ (matching.asks {e} {to} a) (matching.ent k) = absurd (ent_not sys s e to a k)
bound_one sys once s _ _ (matching.asks {e} {to} a) (matching.asks {e = f} {to = other} b) = (asks_one sys once s e f to other a b).1

pub have_one_table : HaveOneTable
have_one_table sys of other match h k =
    one_list (Correspond (IsBound sys)) (λ ss ts us p q. one_list (IsBound sys) (λ s to x y z. bound_one sys match.one_entry s to x y z) ss ts us p q) sys of other h k

-- ---- the verdict is one

module _ (sys : System) (Case : ℕ → ℕ → Signature → Type 0) (is : (m b : ℕ) (s : Signature) → Case m b s → HasBrick sys m b s) where
  one_first : (m b n c : ℕ) (s t : Signature) → IsFirst sys Case m b s → IsFirst sys Case n c t → (m ≡ n) × (b ≡ c) × (s ≡ t)
  one_first m b n c s t h k = by (before_or m b n c)
    where
      by : Before m b n c ⊎ (((m ≡ n) × (b ≡ c)) ⊎ Before n c m b) → (m ≡ n) × (b ≡ c) × (s ≡ t)
      by (inl l) = absurd (k.first m b s l h.is)
      by (inr (inr g)) = absurd (h.first n c t g k.is)
      by (inr (inl q)) =
          let moved : HasBrick sys n c s = subst (λ (x : ℕ). HasBrick sys x c s) q.0 (subst (λ (y : ℕ). HasBrick sys m y s) q.1 (is m b s h.is)) in
          (q.0, q.1, has_one sys n c s t moved (is n c t k.is))

  one_name : (m n : ℕ) (x y : List ℕ) → FirstIn sys Case m x → FirstIn sys Case n y → (m ≡ n) × (x ≡ y)
  one_name m n x y h k =
      let q = one_first m h.brick n k.brick h.signature k.signature h.first k.first in
      (q.0, h.named ∙ (ap (λ (s : Signature). s.name) q.2 ∙ sym k.named))

twice_is : (sys : System) (m b : ℕ) (s : Signature) → Duplicates sys m b s → HasBrick sys m b s
twice_is sys m b s h = h.second.is

one_differing : (sys : System) → Never sys (Duplicates sys) → (m n : ℕ) (x y wx wy fx fy : List ℕ) → FirstDiffering sys m x wx fx → FirstDiffering sys n y wy fy → (m ≡ n) × (x ≡ y) × (wx ≡ wy) × (fx ≡ fy)
one_differing sys once m n x y wx wy fx fy h k =
    let q = one_first sys (Differs sys) (differs_is sys) m h.brick n k.brick h.signature k.signature h.first k.first in
    let moved : AsksFor sys k.signature h.other h.from.to = subst (λ (s : Signature). AsksFor sys s h.other h.from.to) q.2 h.from.asks in
    let other : h.other ≡ k.other = (asks_one sys once k.signature h.other k.other h.from.to k.from.to moved k.from.asks).0 in
    (q.0, h.named ∙ (ap (λ (s : Signature). s.name) q.2 ∙ sym k.named), h.own ∙ (ap (λ (s : Signature). s.mode) q.2 ∙ sym k.own), h.its ∙ (ap (λ (s : Signature). s.mode) other ∙ sym k.its))

-- the first case of a test is a case of it
no_first : (sys : System) (Case : ℕ → ℕ → Signature → Type 0) (m : ℕ) (x : List ℕ) → Never sys Case → FirstIn sys Case m x → ⊥
no_first sys Case m x none h = none m h.brick h.signature h.first.is

no_differing : (sys : System) (m : ℕ) (x w f : List ℕ) → Never sys (Differs sys) → FirstDiffering sys m x w f → ⊥
no_differing sys m x w f none h = none m h.brick h.signature h.first.is

pub never_both : NeverBoth
never_both sys fault.Memory match r h = r
never_both sys (fault.Duplicate x) match r h = no_first sys (Duplicates sys) h.0 x match.one_entry h.1
never_both sys (fault.Missing m x) match r h = no_first sys (Lacks sys) m x match.entries h.1
never_both sys (fault.Mismatch m x w f) match r h = no_differing sys m x w f match.alike h.2
never_both sys (fault.NotSupplied m x) match r h = no_first sys (IsUnsupplied sys) m x match.supplied h.3

pub have_one_fault : HaveOneFault
have_one_fault sys fault.Memory g r q h k = absurd r
have_one_fault sys (fault.Duplicate x) fault.Memory r q h k = absurd q
have_one_fault sys (fault.Missing m x) fault.Memory r q h k = absurd q
have_one_fault sys (fault.Mismatch m x w f) fault.Memory r q h k = absurd q
have_one_fault sys (fault.NotSupplied m x) fault.Memory r q h k = absurd q
have_one_fault sys (fault.Duplicate x) (fault.Duplicate y) r q h k = ap fault.Duplicate (one_name sys (Duplicates sys) (twice_is sys) h.0 k.0 x y h.1 k.1).1
have_one_fault sys (fault.Duplicate x) (fault.Missing n y) r q h k = absurd (no_first sys (Duplicates sys) h.0 x k.0 h.1)
have_one_fault sys (fault.Duplicate x) (fault.Mismatch n y w f) r q h k = absurd (no_first sys (Duplicates sys) h.0 x k.0 h.1)
have_one_fault sys (fault.Duplicate x) (fault.NotSupplied n y) r q h k = absurd (no_first sys (Duplicates sys) h.0 x k.0 h.1)
have_one_fault sys (fault.Missing m x) (fault.Duplicate y) r q h k = absurd (no_first sys (Duplicates sys) k.0 y h.0 k.1)
have_one_fault sys (fault.Missing m x) (fault.Missing n y) r q h k =
    let e = one_name sys (Lacks sys) (lacks_is sys) m n x y h.1 k.1 in
    ap (λ (i : ℕ). fault.Missing i x) e.0 ∙ ap (λ (z : List ℕ). fault.Missing n z) e.1
have_one_fault sys (fault.Missing m x) (fault.Mismatch n y w f) r q h k = absurd (no_first sys (Lacks sys) m x k.1 h.1)
have_one_fault sys (fault.Missing m x) (fault.NotSupplied n y) r q h k = absurd (no_first sys (Lacks sys) m x k.1 h.1)
have_one_fault sys (fault.Mismatch m x w f) (fault.Duplicate y) r q h k = absurd (no_first sys (Duplicates sys) k.0 y h.0 k.1)
have_one_fault sys (fault.Mismatch m x w f) (fault.Missing n y) r q h k = absurd (no_first sys (Lacks sys) n y h.1 k.1)
have_one_fault sys (fault.Mismatch m x w f) (fault.Mismatch n y v g) r q h k =
    let e = one_differing sys h.0 m n x y w v f g h.2 k.2 in
    ap (λ (i : ℕ). fault.Mismatch i x w f) e.0 ∙ (ap (λ (z : List ℕ). fault.Mismatch n z w f) e.1 ∙ (ap (λ (z : List ℕ). fault.Mismatch n y z f) e.2 ∙ ap (λ (z : List ℕ). fault.Mismatch n y v z) e.3))
have_one_fault sys (fault.Mismatch m x w f) (fault.NotSupplied n y) r q h k = absurd (no_differing sys m x w f k.2 h.2)
have_one_fault sys (fault.NotSupplied m x) (fault.Duplicate y) r q h k = absurd (no_first sys (Duplicates sys) k.0 y h.0 k.1)
have_one_fault sys (fault.NotSupplied m x) (fault.Missing n y) r q h k = absurd (no_first sys (Lacks sys) n y h.1 k.1)
have_one_fault sys (fault.NotSupplied m x) (fault.Mismatch n y w f) r q h k = absurd (no_differing sys n y w f h.2 k.2)
have_one_fault sys (fault.NotSupplied m x) (fault.NotSupplied n y) r q h k =
    let e = one_name sys (IsUnsupplied sys) (unsupplied_is sys) m n x y h.3 k.3 in
    ap (λ (i : ℕ). fault.NotSupplied i x) e.0 ∙ ap (λ (z : List ℕ). fault.NotSupplied n z) e.1
