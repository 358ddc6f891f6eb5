use Rattle.std.proofs.Common.{subst, sym}
use Rattle.rt_check_faults.specs.Outcomes.{Outcome, Gives}
use Rattle.rt_check_declared.specs.Verdicts.{outcome}
use Rattle.rt_check_declared.proofs.Joins.{after_outcome}
use Rattle.rt_check_declared.proofs.join.after.Goals as goal

pub returns : goal.returns
returns g c xs x h k = subst (λ (o : Outcome _). Gives (λ y. y) c.after.result o) (sym (after_outcome xs x)) (c.after.ensures.gives (outcome xs) (outcome x) h k)
