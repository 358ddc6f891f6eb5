use Rattle.std.proofs.Common.{◌≡◌, drop}
use Rattle.rt_digraph.specs.Alone.{unmark}
use Rattle.rt_digraph.proofs.alone.unmark.Given as goal

abbrev pub invariant-loop-node : goal.invariant-loop-node
invariant-loop-node l = unmark l.numbers l.same (drop l.node-index l.nodes) l.marks ≡ unmark l.numbers l.same l.nodes l.initial.marks
