use Rattle.std.proofs.Common.{ℕ, List, ◌+◌, ◌-◌, ◌∷◌, ◌++◌, [], replicate, ap, ◌∙◌, arith}
use Rattle.rt_graph.proofs.Rows.{replicate_more, moved}
use Rattle.rt_graph.proofs.nodes.push_none.Goals as goal

pub loop-preserved : goal.loop-preserved
loop-preserved c =
    let n = c.args.count in
    let i = c.loop.counter in
    let none : List ℕ = [] in
    (omega arith, moved c.loop.graph c.push.new.self (replicate (n - i) none) (replicate (n - (i + 1)) none) (c.args.graph.now ++ replicate n none) none (c.in_ok-push.ensures.ok ∙ ap (λ (x : List ℕ). c.loop.graph ++ x ∷ []) c.in_ok-none.ensures) (replicate_more none n i (omega arith)) c.loop.invariant.1)
