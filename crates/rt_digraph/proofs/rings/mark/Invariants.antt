use Rattle.std.proofs.Common.{◌≡◌, drop}
use Rattle.rt_digraph.specs.Rings.{mark}
use Rattle.rt_digraph.proofs.rings.mark.Given as goal

abbrev pub invariant-loop-node : goal.invariant-loop-node
invariant-loop-node l = mark (drop l.node-index l.nodes) l.marks ≡ mark l.nodes l.initial.marks
