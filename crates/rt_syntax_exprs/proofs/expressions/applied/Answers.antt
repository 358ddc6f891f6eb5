use Rattle.std.proofs.Common.{◌≡◌, ◌∙◌, ap, List, ◌++◌, ◌∷◌, []}
use Rattle.rt_grammar.specs.declared.at.At.{At}
use Rattle.rt_syntax_exprs.specs.declared.tree.Op1.{Op1}
use Rattle.rt_syntax_exprs.specs.Expressions as line
use Rattle.rt_syntax_exprs.proofs.Applied.{applied_last}
use Rattle.rt_syntax_exprs.proofs.expressions.applied.Goals as goal

pub loop-op-preserved : goal.loop-op-preserved
loop-op-preserved c =
    let whole : c.in_ok-new.field-0 ≡ c.loop-op.whole = c.in_ok-new.ensures in
    let last : c.loop-op.operators ≡ c.pop.new.self ++ (c.in-Some.op, c.in-Some.at) ∷ [] = c.in-Some.ensures in
    rw whole (c.loop-op.invariant ∙ ap (λ (t : List (Op1 × At)). line.applied t c.loop-op.whole) last ∙ applied_last c.pop.new.self (c.in-Some.op, c.in-Some.at) c.loop-op.whole)
