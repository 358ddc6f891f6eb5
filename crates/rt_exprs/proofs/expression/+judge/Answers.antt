use Rattle.std.proofs.Common.{◌≡◌, ◌≤◌, min, length, refl, arith}
use Rattle.rt_exprs.specs.Judging as spec
use Rattle.rt_exprs.specs.Names.{find}
use Rattle.rt_syntax_exprs.specs.declared.tree.Chain.{out-Chain}
use Rattle.rt_check_faults.proofs.Joins.{given}
use Rattle.rt_exprs.proofs.Trees.{judged_number, judged_text, judged_chained, judged_val, judged_monadic, judged_dyadic, linked_dot, follow_apply, follow_alone, alone_next, chain_ends, arguments_end}
use Rattle.rt_exprs.proofs.expression.+judge.Goals as goal

pub judge-returns-in-Number : goal.judge-returns-in-Number
judge-returns-in-Number t c = judged_number c.args.scope.now c.args.expr.now c.in-Number.n c.in-Number.at c.in-Number.is

pub judge-returns-in-Text : goal.judge-returns-in-Text
judge-returns-in-Text t c = rw (judged_text c.args.scope.now c.args.expr.now _ _ c.in-Text.is) c.text_at.ensures

pub judge-returns-in-Chain : goal.judge-returns-in-Chain
judge-returns-in-Chain t c = rw (judged_chained c.args.scope.now c.args.expr.now _ c.in-Chain.is) c.judge_chain.ensures

pub judge-returns-in-Val : goal.judge-returns-in-Val
judge-returns-in-Val t c = rw (judged_val c.args.scope.now c.args.expr.now _ _ c.in-Val.is) (c.val.ensures _ c.judge_chain-operand.ensures)

pub judge-returns-in-Monadic : goal.judge-returns-in-Monadic
judge-returns-in-Monadic t c = rw (judged_monadic c.args.scope.now c.args.expr.now _ _ _ c.in-Monadic.is, ← c.get.ensures) (c.monadic.ensures _ c.judge-operand.ensures)

pub judge-returns-in-Dyadic : goal.judge-returns-in-Dyadic
judge-returns-in-Dyadic t c =
    rw (judged_dyadic c.args.scope.now c.args.expr.now _ _ _ _ c.in-Dyadic.is, ← c.get-in-Dyadic.ensures, ← c.get-in-Dyadic-2.ensures) (c.dyadic.ensures _ _ c.judge-left.ensures c.judge-right.ensures)

pub fit_arguments-returns : goal.fit_arguments-returns
fit_arguments-returns t c =
    let kept = c.loop-i.invariant in
    let short : min (length c.args.arguments.now) (length c.args.parameters.now) ≤ c.loop-i.i = omega (arith, c.min-count.ensures) in
    let ends = arguments_end (spec.judged c.args.scope.now) c.args.arguments.now c.args.parameters.now c.loop-i.i kept.0 short in
    rw (← kept.2, ends) kept.1

pub all_alone-loop-expr-init : goal.all_alone-loop-expr-init
all_alone-loop-expr-init t c = (c.args.fault, given c.args.fault (c.args.fault ≡ c.args.fault) refl, refl)

pub all_alone-loop-expr-preserved : goal.all_alone-loop-expr-preserved
all_alone-loop-expr-preserved t c =
    let kept = c.loop-expr.invariant in
    alone_next c.args.scope.now c.args.exprs.now c.loop-expr.expr-index c.expr-item.result c.loop-expr.first c.by_itself.result c.sooner-first.result kept.0 _ c.loop-expr-test.true c.expr-item.is kept.1
    (c.by_itself.ensures (spec.judged c.args.scope.now c.expr-item.result) c.judge.ensures) c.sooner-first.ensures kept.2

pub follow-returns-in-Dot : goal.follow-returns-in-Dot
follow-returns-in-Dot t c = λ o h. rw (linked_dot c.args.scope.now c.args.link.now _ _ o c.in-Dot.is, ← c.modes.ensures) (c.dot.ensures o h)

pub follow-returns-in-Ok : goal.follow-returns-in-Ok
follow-returns-in-Ok t c = λ o h. follow_apply c.args.scope.now c.args.link.now c.in-Apply.arguments c.as_slice-arguments.result.now c.in-Apply.at c.args.operand c.in-Ok.operand o c.apply.result c.in-Apply.is c.as_slice-arguments.ensures c.in-Ok.is h c.apply.ensures

pub follow-returns-in-Err : goal.follow-returns-in-Err
follow-returns-in-Err t c = λ o h. follow_alone c.args.scope.now c.args.link.now c.in-Apply.arguments c.as_slice-arguments.result.now c.in-Apply.at c.args.operand c.in-Err.fault c.all_alone.result o c.in-Apply.is c.as_slice-arguments.ensures c.in-Err.is h c.all_alone.ensures

pub judge_chain-returns : goal.judge_chain-returns
judge_chain-returns t c =
    let first = spec.begun (out-Chain c.args.chain.now).at (find c.args.scope.now (out-Chain c.args.chain.now).name) in
    let k = c.loop-link.invariant first (rw (← c.as_slice.ensures.bytes, ← c.find.ensures) c.named-operand.ensures) in
    rw (chain_ends c.args.scope.now c.args.chain.now c.as_slice-link-items.result.now c.loop-link.link-index first k.0 refl c.as_slice-link-items.ensures k.2 c.loop-link-test.false) k.1
