use Rattle.std.proofs.Common.{◌≡◌, true, sym, subst, ◌∙◌, arith}
use Rattle.rt_digraph.specs.Alone.{no_more, rank}
use Rattle.rt_digraph.proofs.Told.{ranks_more, ranks_all}
use Rattle.rt_digraph.proofs.alone.are_ranks.Goals as goal

pub loop-node-preserved : goal.loop-node-preserved
loop-node-preserved c =
    let numbers = c.args.numbers.now in
    ranks_more numbers c.args.graph.now c.loop-node.node c.loop-node.invariant
    (subst (λ ns. no_more numbers (rank numbers c.loop-node.node) ns ≡ true) c.successors.ensures
    (subst (λ m. no_more numbers m c.successors.result.now ≡ true) c.rank-most.ensures (sym c.no_more.ensures ∙ c.if-not-no_more.false)))

pub returns : goal.returns
returns c = λ t. ranks_all c.args.numbers.now c.args.graph.now c.loop-node.node (omega arith) c.loop-node.invariant
