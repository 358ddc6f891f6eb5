use Rattle.rt_check.proofs.Alone.{one_tree, no_tree}
use Rattle.rt_check.proofs.laws.one_tree.Goals as goal

pub returns-clause-one : goal.returns-clause-one
returns-clause-one c = one_tree

pub returns-clause-none : goal.returns-clause-none
returns-clause-none c = no_tree
