-- The fault that is answered counts of all that stand.
use Rattle.std.proofs.Common.{◌≡◌, Bool, true, false, List, [], ◌∷◌, Option, Some, None, Result, Ok, Err, inl, inr, refl, sym, ap, ◌∙◌, subst}
use Rattle.std.specs.Prelude.{IfOk, IfErr, IsTrue}
use Rattle.rt_check_faults.specs.declared.fault.CheckFault.{CheckFault}
use Rattle.rt_check_faults.specs.Outcomes.{Outcome, sooner, is_before, UnlessMemory, IsLeast, IsAnswered}
use Rattle.rt_check_declared.specs.Verdicts.{Verdict, fit, unfit, first_of, outcome, IsIn, Stands, Answers, with_faults, GatheredCounts, GathersLeast}
use Rattle.rt_check_faults.proofs.Counting.{sooner_yes, sooner_no, sooner_assoc, before_same, before_through, before_turned}
use Rattle.rt_check_faults.proofs.Joins.{told, given, free}

stands_by : (f x : CheckFault) (gs : List CheckFault) (b : Bool) → is_before f x ≡ b → IsIn x gs → IsIn (sooner f x) (f ∷ gs)
stands_by f x gs true e k = inl (sooner_yes f x e)
stands_by f x gs false e k = inr (subst (λ (g : CheckFault). IsIn g gs) (sym (sooner_no f x e)) k)

stands_first : (f : CheckFault) (fs : List CheckFault) → IsIn (first_of f fs) (f ∷ fs)
stands_first f [] = inl refl
stands_first f (g ∷ gs) = stands_by f (first_of g gs) (g ∷ gs) (is_before f (first_of g gs)) refl (stands_first g gs)

before_left : (f x : CheckFault) (b : Bool) → is_before f x ≡ b → is_before (sooner f x) f ≡ true
before_left f x true e = ap (λ (g : CheckFault). is_before g f) (sooner_yes f x e) ∙ before_same f
before_left f x false e = ap (λ (g : CheckFault). is_before g f) (sooner_no f x e) ∙ before_turned f x e

before_right : (f x h : CheckFault) (b : Bool) → is_before f x ≡ b → is_before x h ≡ true → is_before (sooner f x) h ≡ true
before_right f x h true e k = ap (λ (g : CheckFault). is_before g h) (sooner_yes f x e) ∙ before_through f x h e k
before_right f x h false e k = ap (λ (g : CheckFault). is_before g h) (sooner_no f x e) ∙ k

least_first : (f : CheckFault) (fs : List CheckFault) (h : CheckFault) → IsIn h (f ∷ fs) → is_before (first_of f fs) h ≡ true
least_first f [] h (inl e) = subst (λ (g : CheckFault). is_before f g ≡ true) (sym e) (before_same f)
least_first f [] h (inr k) = absurd k
least_first f (g ∷ gs) h (inl e) = subst (λ (x : CheckFault). is_before (sooner f (first_of g gs)) x ≡ true) (sym e) (before_left f (first_of g gs) (is_before f (first_of g gs)) refl)
least_first f (g ∷ gs) h (inr k) = before_right f (first_of g gs) h (is_before f (first_of g gs)) refl (least_first g gs h k)

is_true : (b : Bool) → b ≡ true → IsTrue b
is_true b e = e

abbrev err_of : {A : Type 0} → CheckFault → Outcome A
err_of p = Err p

abbrev ok_of : {A : Type 0} → A → Outcome A
ok_of x = Ok x

same_err : {A : Type 0} (p q : CheckFault) → err_of {A = A} p ≡ Err q → p ≡ q
same_err p q e = cc

same_ok : {A : Type 0} (p q : A) → ok_of p ≡ Ok q → p ≡ q
same_ok p q e = cc

no_ok : {A : Type 0} (x : A) (f : CheckFault) → ok_of x ≡ Err f → ⊥
no_ok x f e = cc

no_err : {A : Type 0} (f : CheckFault) (x : A) → err_of f ≡ Ok x → ⊥
no_err f x e = cc

least_of : (f : CheckFault) (fs : List CheckFault) (g : CheckFault) → first_of f fs ≡ g → IsLeast (λ h. IsIn h (f ∷ fs)) g
least_of f fs g e = subst (λ (x : CheckFault). IsLeast (λ h. IsIn h (f ∷ fs)) x) e (record { stands = stands_first f fs; least = λ h k. is_true (is_before (first_of f fs) h) (least_first f fs h k) })

-- ---- the clauses of a call that answers a verdict

pub answer_fits : {A : Type 0} (v : Verdict A) (r : Result A CheckFault) → Answers (λ x. x) r v → IfOk r (λ x. v ≡ fit x)
answer_fits (fit a) (Ok x) h = ap fit (same_ok a x h)
answer_fits (unfit f fs) (Ok x) h = absurd (no_err (first_of f fs) x h)
answer_fits v (Err g) h = tt

pub answer_only : {A : Type 0} (v : Verdict A) (r : Result A CheckFault) → Answers (λ x. x) r v → (x : A) → v ≡ fit x → IsAnswered x r
answer_only v (Ok y) h x e = inl (sym (h) ∙ ap outcome e)
answer_only v (Err g) h x e = elim (told g (outcome v ≡ Err g) h) [
  | inl m ↦ inr (ap (λ (q : CheckFault). Err q) m)
  | inr s ↦ absurd (no_ok x g (sym (ap outcome e) ∙ s))
]

least_by : {A : Type 0} (v : Verdict A) (g : CheckFault) → outcome v ≡ Err g → IsLeast (Stands v) g
least_by (fit a) g s = absurd (no_ok a g s)
least_by (unfit f fs) g s = least_of f fs g (same_err (first_of f fs) g s)

pub answer_counts : {A : Type 0} (v : Verdict A) (r : Result A CheckFault) → Answers (λ x. x) r v → IfErr r (λ g. UnlessMemory g (IsLeast (Stands v) g))
answer_counts v (Ok x) h = tt
answer_counts v (Err g) h = elim (told g (outcome v ≡ Err g) h) [
  | inl m ↦ free g (IsLeast (Stands v) g) m
  | inr s ↦ given g (IsLeast (Stands v) g) (least_by v g s)
]

-- ---- faults that are gathered

first_sooner : (f g : CheckFault) (gs : List CheckFault) → first_of (sooner f g) gs ≡ sooner f (first_of g gs)
first_sooner f g [] = refl
first_sooner f g (h ∷ hs) = sym (sooner_assoc f g (first_of h hs))

gathered : (f : CheckFault) (fs : List CheckFault) → with_faults (Some f) fs ≡ Some (first_of f fs)
unfolding with_faults
gathered f [] = refl
gathered f (g ∷ gs) = gathered (sooner f g) gs ∙ ap (λ (x : CheckFault). Some x) (first_sooner f g gs)

gathered_all : (f : CheckFault) (fs : List CheckFault) → with_faults None (f ∷ fs) ≡ Some (first_of f fs)
unfolding with_faults
gathered_all f fs = gathered f fs

gathered_none : with_faults None [] ≡ None
unfolding with_faults
gathered_none = refl

pub gathers_least : GathersLeast
gathers_least [] = subst (λ (o : Option CheckFault). GatheredCounts [] o) (sym gathered_none) refl
gathers_least (f ∷ fs) = subst (λ (o : Option CheckFault). GatheredCounts (f ∷ fs) o) (sym (gathered_all f fs)) (least_of f fs (first_of f fs) refl)
