-- The answer of a function that follows the definition, in the terms of fitting.
use Rattle.std.proofs.Common.{◌≡◌, Bool, true, false, Option, Some, None, refl, Result, Ok, Err, inl, inr, sym, ap, ◌∙◌, subst}
use Rattle.std.specs.Prelude.{IfOk, IfErr, IsTrue}
use Rattle.rt_syntax_exprs.specs.declared.tree.Expr.{Expr}
use Rattle.rt_tree_nodes.specs.declared.value.Value.{Value}
use Rattle.rt_check_faults.specs.declared.fault.CheckFault.{CheckFault}
use Rattle.rt_check_faults.specs.declared.fault.CheckFault.TheVariants.{Memory, UnknownName, WrongMode, NotAssignable, WrongCount, RefOfLocal, LeftOut, DeclaredTwice, BadStart, UnknownLabel, NoResult, Unknown}
use Rattle.rt_exprs.specs.Sights.{Sight}
use Rattle.rt_exprs.specs.Modes.{Want}
use Rattle.rt_check_faults.specs.Outcomes.{Outcome, Gives, is_before, is_unknown, IsLeast, Settles, IsAnswered, IsAnsweredAs}
use Rattle.rt_exprs.specs.Operands.{fits}
use Rattle.rt_exprs.specs.Judging.{judged}
use Rattle.rt_exprs.specs.Fitting.{FitsBy, Takes, Unfit}
use Rattle.rt_check_faults.proofs.Joins.{told}
use Rattle.rt_check_faults.proofs.Counting.{Stops}
use Rattle.rt_exprs.proofs.Complete.{takes_judged, unfit_stops}
use Rattle.rt_exprs.proofs.Known.{fits_known, takes_known}
use Rattle.rt_check_faults.proofs.Told.{Bad, hid, bad, Tells, is_it}
use Rattle.rt_exprs.proofs.Sound.{SoundFit, sound_fit, expr_sound}

settled : (Stands : CheckFault → Type 0) (g : CheckFault) → is_unknown g ≡ false → IsLeast Stands g → Settles Stands g
settled Stands Memory n h = tt
settled Stands (UnknownName at) n h = h
settled Stands (WrongMode at) n h = h
settled Stands (NotAssignable at) n h = h
settled Stands (WrongCount at) n h = h
settled Stands (RefOfLocal at) n h = h
settled Stands (LeftOut form at) n h = h
settled Stands (DeclaredTwice at) n h = h
settled Stands (BadStart at) n h = h
settled Stands (UnknownLabel at) n h = h
settled Stands (NoResult at) n h = h
settled Stands Unknown n h = absurd cc

settled_memory : (Stands : CheckFault → Type 0) (g : CheckFault) → g ≡ Memory → Settles Stands g
settled_memory Stands g e = subst (λ (h : CheckFault). Settles Stands h) (sym e) tt

is_true : (b : Bool) → b ≡ true → IsTrue b
is_true b e = e

abbrev err_of : {A : Type 0} → CheckFault → Outcome A
err_of p = Err p

abbrev ok_of : {A : Type 0} → A → Outcome A
ok_of x = Ok x

is_err : {A : Type 0} (p q : CheckFault) → err_of {A = A} p ≡ Err q → p ≡ q
is_err p q e = cc

-- An outcome, what holds of it, and the faults that stand, which are found or found to count later.
module _ {A : Type 0} (t : Outcome A) (Holds : A → Type 0) (Stands : CheckFault → Type 0)
    (holds : (x : A) → t ≡ Ok x → Holds x) (found : (x : A) → Holds x → t ≡ Ok x) (stands : (g : CheckFault) → is_unknown g ≡ false → t ≡ Err g → Stands g) (stops : (g : CheckFault) → Stands g → Stops t g) where
  pub least_of : (g h : CheckFault) → t ≡ Err g → Stops t h → IsTrue (is_before g h)
  least_of g h e s = let same : s.first ≡ g = is_err {A = A} s.first g (sym s.is ∙ e) in is_true (is_before g h) (subst (λ (q : CheckFault). is_before q h ≡ true) same s.counts)

  pub answer_holds : {X : Type 0} (view : X → A) (r : Result X CheckFault) → Gives view r t → IfOk r (λ x. Holds (view x))
  answer_holds view (Ok x) h = holds (view x) h
  answer_holds view (Err g) h = tt

  pub answer_as : {X : Type 0} (view : X → A) (r : Result X CheckFault) → Gives view r t → (x : A) → Holds x → IsAnsweredAs view x r
  answer_as view (Ok y) h x k = let both : ok_of (view y) ≡ Ok x = sym h ∙ found x k in cc
  answer_as view (Err g) h x k = elim (told g (t ≡ Err g) h) [
    | inl m ↦ m
    | inr e ↦ absurd (let both : ok_of x ≡ Err g = sym (found x k) ∙ e in cc)
  ]

  pub answer_only : (r : Result A CheckFault) → Gives (λ x. x) r t → (x : A) → Holds x → IsAnswered x r
  answer_only (Ok y) h x k = inl (sym h ∙ found x k)
  answer_only (Err g) h x k = inr (ap (λ (q : CheckFault). Err q) (answer_as (λ (y : A). y) (Err g) h x k))

  -- where it can't be known no fault stands
  pub none_stands : t ≡ Err Unknown → (h : CheckFault) → Stands h → ⊥
  none_stands e h k = let s = stops h k in let same : s.first ≡ Unknown = is_err {A = A} s.first Unknown (sym s.is ∙ e) in let bad : true ≡ false = ap is_unknown (sym same) ∙ s.real in cc

  settles_by : (g : CheckFault) → t ≡ Err g → (b : Bool) → is_unknown g ≡ b → Settles Stands g
  settles_by g e true u = let here = is_it g u in subst (Settles Stands) (sym here) (none_stands (e ∙ ap (λ (q : CheckFault). err_of {A = A} q) here))
  settles_by g e false u = settled Stands g u (record { stands = stands g u e; least = λ k s. least_of g k e (stops k s) })

  pub answer_settles : {X : Type 0} (view : X → A) (r : Result X CheckFault) → Gives view r t → IfErr r (Settles Stands)
  answer_settles view (Ok x) h = tt
  answer_settles view (Err g) h = elim (told g (t ≡ Err g) h) [
    | inl m ↦ settled_memory Stands g m
    | inr e ↦ settles_by g e (is_unknown g) refl
  ]

  pub at_most_one : (x y : A) → Holds x → Holds y → x ≡ y
  at_most_one x y h k = let both : ok_of x ≡ Ok y = sym (found x h) ∙ found y k in cc

  pub none_where_faulty : (x : A) (g : CheckFault) → Holds x → Stands g → ⊥
  none_where_faulty x g h s = let bad : ok_of x ≡ Err (stops g s).first = sym (found x h) ∙ (stops g s).is in cc

-- what is told of an outcome, by what it is
pub tells_ok : {A : Type 0} (T : Option A → Type 0) (F : CheckFault → Type 0) (t : Outcome A) (x : A) → Tells T F t → t ≡ Ok x → T (Some x)
tells_ok T F t x h e = subst (Tells T F) e h

pub bad_is : (H : Type 0) (F : CheckFault → Type 0) (g : CheckFault) → Bad H F g → is_unknown g ≡ false → F g
bad_is H F _ (hid h) n = absurd (let bad : true ≡ false = n in cc)
bad_is H F g (bad m h) n = h

pub tells_err : {A : Type 0} (T : Option A → Type 0) (F : CheckFault → Type 0) (t : Outcome A) (g : CheckFault) → Tells T F t → is_unknown g ≡ false → t ≡ Err g → F g
tells_err T F t g h n e = bad_is (T None) F g (subst (Tells T F) e h) n

module _ (s : Sight) (e : Expr) (w : Want) where
  fit_tells : SoundFit s e w (fits (judged s e) w)
  fit_tells = sound_fit s e w (judged s e) (expr_sound s e)

  pub fit_holds : (x : Value) → fits (judged s e) w ≡ Ok x → FitsBy s e w x
  fit_holds x is = fits_known x (tells_ok (Takes s e w) (Unfit s e w) (fits (judged s e) w) x fit_tells is) refl

  pub fit_found : (x : Value) → FitsBy s e w x → fits (judged s e) w ≡ Ok x
  fit_found x h = takes_judged (takes_known h)

  pub fit_stands : (g : CheckFault) → is_unknown g ≡ false → fits (judged s e) w ≡ Err g → Unfit s e w g
  fit_stands g n is = tells_err (Takes s e w) (Unfit s e w) (fits (judged s e) w) g fit_tells n is

  pub fit_fits : (r : Result Value CheckFault) → Gives (λ v. v) r (fits (judged s e) w) → IfOk r (FitsBy s e w)
  fit_fits = answer_holds (fits (judged s e) w) (FitsBy s e w) (Unfit s e w) fit_holds fit_found fit_stands (λ g u. unfit_stops u) (λ v. v)

  pub fit_only : (r : Result Value CheckFault) → Gives (λ v. v) r (fits (judged s e) w) → (x : Value) → FitsBy s e w x → IsAnswered x r
  fit_only = answer_only (fits (judged s e) w) (FitsBy s e w) (Unfit s e w) fit_holds fit_found fit_stands (λ g u. unfit_stops u)

  pub fit_settles : (r : Result Value CheckFault) → Gives (λ v. v) r (fits (judged s e) w) → IfErr r (Settles (Unfit s e w))
  fit_settles = answer_settles (fits (judged s e) w) (FitsBy s e w) (Unfit s e w) fit_holds fit_found fit_stands (λ g u. unfit_stops u) (λ v. v)

  pub one_fits : (x y : Value) → FitsBy s e w x → FitsBy s e w y → x ≡ y
  one_fits = at_most_one (fits (judged s e) w) (FitsBy s e w) (Unfit s e w) fit_holds fit_found fit_stands (λ g u. unfit_stops u)

  pub none_fits : (x : Value) (g : CheckFault) → FitsBy s e w x → Unfit s e w g → ⊥
  none_fits = none_where_faulty (fits (judged s e) w) (FitsBy s e w) (Unfit s e w) fit_holds fit_found fit_stands (λ g u. unfit_stops u)
