use Rattle.rt_link.proofs.TaskLines.{tasks_of_lines}
use Rattle.rt_link.proofs.laws.tasks_are_those_of_the_lines.Goals as goal

pub returns : goal.returns
returns c = tasks_of_lines c.each_has_a_stack.ensures
