use Rattle.std.proofs.Common.{◌≡◌, take}
use Rattle.rt_tree_nodes.proofs.copy.+copy.Given as goal

abbrev pub invariant-copy_onto-loop-mode : goal.invariant-copy_onto-loop-mode
invariant-copy_onto-loop-mode l = l.copied ≡ take l.mode-index l.modes
