use Rattle.rt_link.proofs.TaskStacks.{each_stack}
use Rattle.rt_link.proofs.verdict_laws.each_has_a_stack.Goals as goal

pub returns : goal.returns
returns c = each_stack
