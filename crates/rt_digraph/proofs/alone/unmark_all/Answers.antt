use Rattle.std.proofs.Common.{ap, ◌∙◌, arith}
use Rattle.rt_digraph.specs.Alone.{unmark, rank}
use Rattle.rt_digraph.proofs.Told.{unmarked_more, unmarked_all}
use Rattle.rt_digraph.proofs.alone.unmark_all.Goals as goal

pub loop-node-preserved : goal.loop-node-preserved
loop-node-preserved c =
    let numbers = c.args.numbers.now in
    let old = c.loop-node.marks in
    unmarked_more numbers c.args.graph.now c.loop-node.node old c.unmark.new.marks c.loop-node.invariant
    (c.unmark.ensures ∙ ap (λ m. unmark numbers m c.successors.result.now old) c.rank-same.ensures ∙ ap (λ ns. unmark numbers (rank numbers c.loop-node.node) ns old) c.successors.ensures)

pub returns : goal.returns
returns c = unmarked_all c.args.numbers.now c.args.graph.now c.loop-node.node c.loop-node.marks (omega arith) c.requires c.loop-node.invariant
