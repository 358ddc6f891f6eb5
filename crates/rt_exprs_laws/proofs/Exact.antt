-- What is computed of a node is exact.
use Rattle.std.proofs.Common.{◌≡◌, ℕ, ◌==◌, ◌&&◌, Bool, true, false, Ok, Err, refl, sym, ap, ◌∙◌, arith}
use Rattle.std.specs.Prelude.{nat_lt, nat_le, ◌||◌, not}
use Rattle.std.proofs.lemmas.Bool.Decides.{nat_tests}
use Rattle.rt_grammar.specs.declared.at.At.{At}
use Rattle.rt_syntax_exprs.specs.declared.tree.Chain.{Chain}
use Rattle.rt_syntax_exprs.specs.declared.tree.Cond.{Cond}
use Rattle.rt_syntax_exprs.specs.declared.tree.Expr.{Expr}
use Rattle.rt_check_faults.specs.declared.fault.CheckFault.{CheckFault}
use Rattle.rt_check_faults.specs.declared.fault.CheckFault.TheVariants.{Unknown}
use Rattle.rt_exprs.specs.Sights.{Sight}
use Rattle.rt_exprs.specs.Fitting.{FitsBy, Unfit, Alone, UnfitAlone, AssignsAs, NotAssigned, AssignsValAs, NotAssignedVal, CallIs, NoCall, TestIs, FaultInTest}
use Rattle.rt_exprs.specs.Judging.{judged, fitted, fitted_alone, target, val_target, alone, tested}
use Rattle.rt_exprs.specs.Modes.{Want}
use Rattle.rt_check_faults.specs.Outcomes.{Outcome, IsLeast, is_unknown, is_before, item_of, number_of}
use Rattle.rt_check_faults.proofs.Counting.{Stops}
use Rattle.rt_check_faults.proofs.Told.{is_it, real_before}
use Rattle.rt_exprs.proofs.Complete.{unfit_stops, alone_reaches}
use Rattle.rt_exprs.proofs.Sound.{sound_alone, expr_sound}
use Rattle.rt_exprs.proofs.Judged.{least_of, none_stands as none_behind, bad_is, fit_holds, fit_found, fit_stands}
use Rattle.rt_exprs.proofs.Others.{target_holds, target_found, target_stands, target_stops, val_holds, val_found, val_stands, val_stops, call_holds, call_found, call_stands, call_stops, test_holds, test_judged, test_stands, test_stops}
use Rattle.rt_exprs_laws.specs.Exact.{Alike, IsExact, IsLeastAlone}

no_later : (i k j n : ℕ) → (nat_lt i j || (i == j && nat_le k n)) ≡ true → (nat_lt j i || (j == i && nat_le n k)) ≡ true → i ≡ j
no_later i k j n a b = grind (arith, nat_tests)

no_greater : (i k j n : ℕ) → (nat_lt i j || (i == j && nat_le k n)) ≡ true → (nat_lt j i || (j == i && nat_le n k)) ≡ true → k ≡ n
no_greater i k j n a b = grind (arith, nat_tests)

known_before : (u v : Bool) (i k j n : ℕ) → u ≡ false → v ≡ false → (v || (not u && (nat_lt i j || (i == j && nat_le k n)))) ≡ true → (nat_lt i j || (i == j && nat_le k n)) ≡ true
known_before true v i k j n e o a = absurd cc
known_before false true i k j n e o a = absurd cc
known_before false false i k j n e o a = a

alike : (f g : CheckFault) → is_unknown f ≡ false → is_unknown g ≡ false → is_before f g ≡ true → is_before g f ≡ true → Alike f g
alike f g m n a b =
    let x = known_before (is_unknown f) (is_unknown g) (item_of f) (number_of f) (item_of g) (number_of g) m n a in
    let y = known_before (is_unknown g) (is_unknown f) (item_of g) (number_of g) (item_of f) (number_of f) n m b in
    record { items = no_later (item_of f) (number_of f) (item_of g) (number_of g) x y; numbers = no_greater (item_of f) (number_of f) (item_of g) (number_of g) x y }

module _ {A : Type 0} (t : Outcome A) (Holds : A → Type 0) (Stands : CheckFault → Type 0)
    (holds : (x : A) → t ≡ Ok x → Holds x) (found : (x : A) → Holds x → t ≡ Ok x) (stands : (g : CheckFault) → is_unknown g ≡ false → t ≡ Err g → Stands g) (stops : (g : CheckFault) → Stands g → Stops t g) where
  counts : (g : CheckFault) → is_unknown g ≡ false → t ≡ Err g → IsLeast Stands g
  counts g n e = record { stands = stands g n e; least = λ h k. least_of t Holds Stands holds found stands stops g h e (stops h k) }

  least : (g : CheckFault) → IsLeast Stands g → (f : CheckFault) × (t ≡ Err f) × Alike f g
  least g l =
      let s = stops g l.stands in
      let back = l.least s.first (stands s.first s.real s.is) in
      (s.first, s.is, alike s.first g s.real (real_before g s.first back s.real) s.counts back)

  by_outcome : (o : Outcome A) → t ≡ o → ((x : A) → Holds x → ⊥) → ((g : CheckFault) → Stands g → ⊥) → t ≡ Err Unknown
  by_outcome (Ok x) e empty none = absurd (empty x (holds x e))
  by_outcome (Err g) e empty none = by_fault (is_unknown g) refl where
    by_fault : (b : Bool) → is_unknown g ≡ b → t ≡ Err Unknown
    by_fault true u = e ∙ ap (λ (q : CheckFault). Err q) (is_it g u)
    by_fault false u = absurd (none g (stands g u e))

  exact : IsExact t Holds Stands
  exact = record { found = found; holds = holds; least = least; counts = counts; hidden = by_outcome t refl; none_stands = λ e g k. none_behind t Holds Stands holds found stands stops e g k }

pub expressions_exact : (s : Sight) (e : Expr) (w : Want) → IsExact (fitted s e w) (FitsBy s e w) (Unfit s e w)
expressions_exact s e w = exact (fitted s e w) (FitsBy s e w) (Unfit s e w) (fit_holds s e w) (fit_found s e w) (fit_stands s e w) (λ g u. unfit_stops u)

pub targets_exact : (s : Sight) (c : Chain) → IsExact (target s c) (AssignsAs s c) (NotAssigned s c)
targets_exact s c = exact (target s c) (AssignsAs s c) (NotAssigned s c) (target_holds s c) (target_found s c) (target_stands s c) (target_stops s c)

pub val_targets_exact : (s : Sight) (at : At) (c : Chain) → IsExact (val_target s at c) (AssignsValAs s at c) (NotAssignedVal s at c)
val_targets_exact s at c = exact (val_target s at c) (AssignsValAs s at c) (NotAssignedVal s at c) (val_holds s at c) (val_found s at c) (val_stands s at c) (val_stops s at c)

pub calls_exact : (s : Sight) (c : Chain) → IsExact (alone s c) (CallIs s c) (NoCall s c)
calls_exact s c = exact (alone s c) (CallIs s c) (NoCall s c) (call_holds s c) (call_found s c) (call_stands s c) (call_stops s c)

pub tests_exact : (s : Sight) (c : Cond) → IsExact (tested s c) (TestIs s c) (FaultInTest s c)
tests_exact s c = exact (tested s c) (TestIs s c) (FaultInTest s c) (test_holds s c) (λ t h. test_judged h) (test_stands s c) (λ g h. test_stops h)

pub alone_exact : (s : Sight) (e : Expr) → IsLeastAlone s e
alone_exact s e = record { counts = counts; none_stands = none_stands } where
  counts : is_unknown (fitted_alone s e) ≡ false → IsLeast (UnfitAlone s e) (fitted_alone s e)
  counts n = record { stands = bad_is (Alone s e) (UnfitAlone s e) (fitted_alone s e) (sound_alone s e (judged s e) (expr_sound s e)) n; least = λ h k. (alone_reaches k).counts }

  none_stands : is_unknown (fitted_alone s e) ≡ true → (g : CheckFault) → UnfitAlone s e g → ⊥
  none_stands u g k = let bad : true ≡ false = sym u ∙ (alone_reaches k).real in cc
