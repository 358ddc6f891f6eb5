use Rattle.std.proofs.Common.{◌≡◌, map, drop}
use Rattle.rt_tree_nodes.specs.Code as seen
use Rattle.rt_tree_nodes.specs.Typing as typing
use Rattle.rt_tree_nodes.proofs.typing.+typing.Given as goal

abbrev pub invariant-all_suit-loop-value : goal.invariant-all_suit-loop-value
invariant-all_suit-loop-value l =
    typing.all_suit l.modes (map (typing.valued (seen.scope l.scope)) (drop l.value-index l.values)) ≡ typing.all_suit l.wanted (map (typing.valued (seen.scope l.scope)) l.values)
