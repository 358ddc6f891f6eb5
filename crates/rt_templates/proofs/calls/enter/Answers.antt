use Rattle.std.proofs.Common.{◌≡◌, ◌++◌, length, replicate, ap, ◌∙◌, subst, arith, OnOk}
use Rattle.pdp_code.specs.declared.instruction.SingleOp.TheVariants.{Clr}
use Rattle.rt_templates.specs.Calls.{begin, recovery}
use Rattle.rt_templates.specs.Lines.{after, quiet, on, put}
use Rattle.rt_templates.proofs.Behind.{after_append, words_after, cleared_long}
use Rattle.rt_templates.proofs.calls.enter.Goals as goal

pub recovery-requires : goal.recovery-requires
recovery-requires c =
    let first = ap (λ v. length v.words) c.in_ok-begin.ensures ∙ words_after c.args.out.now begin in
    let next = ap (λ v. length v.words) c.in_ok-clear_locals.ensures ∙ words_after c.begin.new.out (replicate c.args.locals (quiet (on Clr put))) in
    omega (arith, c.requires, first, next, cleared_long c.args.locals)

pub returns : goal.returns
returns c =
    let cleared = replicate c.args.locals (quiet (on Clr put)) in
    let tail = recovery c.args.recovers in
    let so_far = c.in_ok-clear_locals.ensures ∙ ap (λ v. after v cleared) c.in_ok-begin.ensures ∙ after_append c.args.out.now begin cleared in
    subst (λ z. OnOk c.recovery.result (c.recovery.new.out ≡ z)) (ap (λ v. after v tail) so_far ∙ after_append c.args.out.now (begin ++ cleared) tail) c.recovery.ensures
