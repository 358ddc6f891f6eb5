use Rattle.rt_guarded.proofs.Verdicts.{held_is_one, may_is_one, verdicts_are_one}
use Rattle.rt_guarded.proofs.laws.families_and_verdicts_are_one.Goals as goal

pub returns-clause-held : goal.returns-clause-held
returns-clause-held c = held_is_one

pub returns-clause-may : goal.returns-clause-may
returns-clause-may c = may_is_one

pub returns-clause-verdict : goal.returns-clause-verdict
returns-clause-verdict c = verdicts_are_one
