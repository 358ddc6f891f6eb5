use Rattle.rt_link.proofs.Verdicts.{each_is_linked, never_with_fault}
use Rattle.rt_link.proofs.laws.one_verdict.Goals as goal

pub returns-clause-linked : goal.returns-clause-linked
returns-clause-linked c = each_is_linked c.each_has_a_stack.ensures

pub returns-clause-apart : goal.returns-clause-apart
returns-clause-apart c = never_with_fault
