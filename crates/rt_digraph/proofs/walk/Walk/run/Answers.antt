use Rattle.rt_digraph.proofs.Runs.{taken, turned_met, turned_on, over_at}
use Rattle.rt_digraph.proofs.walk.Walk.run.Goals as goal

pub returns-then-branch-clause-ends : goal.returns-then-branch-clause-ends
returns-then-branch-clause-ends c roots g =
    turned_met c.args.graph.now roots c.args.stop c.in_ok-step.field-0 c.step.new.self c.if-branch.true
    (c.in_ok-step.ensures.goes roots (taken c.args.graph.now roots c.args.stop c.loop-node.self c.pop.new.self c.in-Some.node c.in-Some.ensures (c.loop-node.invariant.0 roots g)))

pub loop-node-preserved : goal.loop-node-preserved
loop-node-preserved c = (
  λ roots g. turned_on c.args.graph.now roots c.args.stop c.in_ok-step.field-0 c.step.new.self c.if-branch.false
      (c.in_ok-step.ensures.goes roots (taken c.args.graph.now roots c.args.stop c.loop-node.self c.pop.new.self c.in-Some.node c.in-Some.ensures (c.loop-node.invariant.0 roots g))),
  λ n m. c.in_ok-step.ensures.keeps n (c.loop-node.invariant.1 n m),
)

pub returns-clause-ends : goal.returns-clause-ends
returns-clause-ends c roots g =
    over_at c.args.graph.now roots c.args.stop c.loop-node.self c.pop.new.self c.in_default.ensures.0 c.in_default.ensures.1 (c.loop-node.invariant.0 roots g)
