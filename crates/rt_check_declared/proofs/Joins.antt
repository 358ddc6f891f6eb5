-- Verdicts that are joined, and what is answered of them.
use Rattle.std.proofs.Common.{◌≡◌, List, [], ◌∷◌, ◌++◌, refl, ap, ◌∙◌}
use Rattle.rt_check_faults.specs.declared.fault.CheckFault.{CheckFault}
use Rattle.rt_check_faults.specs.Outcomes as plain
use Rattle.rt_check_faults.specs.Outcomes.{sooner}
use Rattle.rt_check_faults.proofs.Counting.{sooner_assoc}
use Rattle.rt_check_declared.specs.Verdicts.{Verdict, fit, unfit, first_of, outcome, both, after}

pub first_append : (f g : CheckFault) (fs gs : List CheckFault) → first_of f (fs ++ g ∷ gs) ≡ sooner (first_of f fs) (first_of g gs)
first_append f g [] gs = refl
first_append f g (h ∷ fs) gs = ap (sooner f) (first_append h g fs gs) ∙ sooner_assoc f (first_of h fs) (first_of g gs)

-- ---- verdicts that are joined

pub both_outcome : {A B : Type 0} (x : Verdict A) (y : Verdict B) → outcome (both x y) ≡ plain.both (outcome x) (outcome y)
both_outcome (fit a) (fit b) = refl
both_outcome (fit a) (unfit g gs) = refl
both_outcome (unfit f fs) (fit b) = refl
both_outcome {A} {B} (unfit f fs) (unfit g gs) = let e : first_of f (fs ++ g ∷ gs) ≡ sooner (first_of f fs) (first_of g gs) = first_append f g fs gs in rw e refl

pub after_outcome : {A : Type 0} (x : Verdict (List A)) (y : Verdict A) → outcome (after x y) ≡ plain.after (outcome x) (outcome y)
after_outcome (fit a) (fit b) = refl
after_outcome (fit a) (unfit g gs) = refl
after_outcome (unfit f fs) (fit b) = refl
after_outcome (unfit f fs) (unfit g gs) = let e : first_of f (fs ++ g ∷ gs) ≡ sooner (first_of f fs) (first_of g gs) = first_append f g fs gs in rw e refl
