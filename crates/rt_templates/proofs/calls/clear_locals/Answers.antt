use Rattle.std.proofs.Common.{◌≡◌, suc, ◌+◌, ◌-◌, [], ◌∷◌, length, replicate, sym, ap, ◌∙◌, arith}
use Rattle.pdp_code.specs.declared.instruction.SingleOp.TheVariants.{Clr}
use Rattle.rt_templates.specs.Lines.{after, quiet, on, put}
use Rattle.rt_templates.proofs.Behind.{after_same, after_none, words_after}
use Rattle.rt_templates.proofs.calls.clear_locals.Goals as goal

pub loop-init : goal.loop-init
loop-init c = let all : c.args.locals - 0 ≡ c.args.locals = omega arith in (ap (λ n. after c.args.out.now (replicate n (quiet (on Clr put)))) all, omega (arith, c.requires), omega arith)

pub put-requires-clause-room : goal.put-requires-clause-room
put-requires-clause-room c = omega (arith, c.loop.invariant.1, c.loop-test.true)

pub loop-preserved : goal.loop-preserved
loop-preserved c =
    let one = quiet (on Clr put) in
    let left : c.args.locals - c.loop.counter ≡ suc (c.args.locals - (c.loop.counter + 1)) = omega (arith, c.loop-test.true) in
    let same = ap (λ v. after v (replicate (c.args.locals - (c.loop.counter + 1)) one)) c.in_ok-put.ensures ∙ after_same c.loop.out one (c.args.locals - (c.loop.counter + 1)) (c.args.locals - c.loop.counter) left in
    let far = ap (λ v. length v.words) c.in_ok-put.ensures ∙ words_after c.loop.out (one ∷ []) in
    (same ∙ c.loop.invariant.0, omega (arith, far, c.loop.invariant.1, c.loop-test.true), omega (arith, c.loop-test.true))

pub returns : goal.returns
returns c =
    let none : c.args.locals - c.loop.counter ≡ 0 = omega (arith, c.loop-test.false) in
    sym (ap (λ n. after c.loop.out (replicate n (quiet (on Clr put)))) none ∙ after_none c.loop.out) ∙ c.loop.invariant.0
