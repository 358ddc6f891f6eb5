use Rattle.std.proofs.Common.{subst, sym}
use Rattle.rt_check_faults.specs.Outcomes.{Outcome, Gives}
use Rattle.rt_check_declared.specs.Verdicts.{outcome}
use Rattle.rt_check_declared.proofs.Joins.{both_outcome}
use Rattle.rt_check_declared.proofs.join.both.Goals as goal

pub returns : goal.returns
returns g c l r h k = subst (λ (o : Outcome _). Gives (λ x. x) c.both.result o) (sym (both_outcome l r)) (c.both.ensures.gives (outcome l) (outcome r) h k)
