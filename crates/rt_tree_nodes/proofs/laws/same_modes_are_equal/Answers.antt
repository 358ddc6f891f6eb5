use Rattle.rt_tree_nodes.proofs.Same.{same_equal, equal_same}
use Rattle.rt_tree_nodes.proofs.laws.same_modes_are_equal.Goals as goal

pub returns : goal.returns
returns c = λ m n. (same_equal m n, equal_same m n)
