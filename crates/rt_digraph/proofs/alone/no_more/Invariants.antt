use Rattle.std.proofs.Common.{◌≡◌, drop}
use Rattle.rt_digraph.specs.Alone.{no_more}
use Rattle.rt_digraph.proofs.alone.no_more.Given as goal

abbrev pub invariant-loop-node : goal.invariant-loop-node
invariant-loop-node l = no_more l.numbers l.most (drop l.node-index l.nodes) ≡ no_more l.numbers l.most l.nodes
