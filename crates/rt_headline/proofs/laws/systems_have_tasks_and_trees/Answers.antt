use Rattle.rt_headline.proofs.Accepting.{tasks_are_there, lines_have_trees}
use Rattle.rt_headline.proofs.laws.systems_have_tasks_and_trees.Goals as goal

pub returns-clause-tasks : goal.returns-clause-tasks
returns-clause-tasks c = tasks_are_there

pub returns-clause-those : goal.returns-clause-those
returns-clause-those c = c.tasks_are_those.ensures

pub returns-clause-trees : goal.returns-clause-trees
returns-clause-trees c = lines_have_trees
