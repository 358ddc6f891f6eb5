use Rattle.std.proofs.Common.{◌≡◌, map, drop}
use Rattle.rt_tree_nodes.specs.Scopes.{same, all_same}
use Rattle.rt_tree_nodes.proofs.modes.+same_modes.Given as goal

abbrev pub invariant-same_modes-loop-m : goal.invariant-same_modes-loop-m
invariant-same_modes-loop-m l = all_same (map same (drop l.m-index l.a)) l.right ≡ all_same (map same l.a) l.b
