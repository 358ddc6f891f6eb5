use Rattle.std.proofs.Common.{◌+◌, length, sum, map, drop, refl, sym, ap, ◌∙◌, arith}
use Rattle.std.proofs.lemmas.List.{drop_all}
use Rattle.rt_icode.specs.Weights.{words_of}
use Rattle.rt_icode.proofs.Weights.{weigh_all, weigh_cons}
use Rattle.rt_templates.specs.Lines.{after}
use Rattle.rt_templates.specs.Templates.{template, templates}
use Rattle.rt_templates.proofs.Behind.{after_append, after_none, words_after, drop_next}
use Rattle.rt_templates.proofs.Lengths.{weighs}
use Rattle.rt_templates.proofs.expansion.put_templates.Goals as goal

pub loop-number-init : goal.loop-number-init
loop-number-init c = (refl, omega (arith, c.requires), omega arith)

pub put_template-requires-clause-small : goal.put_template-requires-clause-small
put_template-requires-clause-small c = omega (arith, c.requires, weigh_all c.args.code.now, c.loop-number.invariant.2)

pub put_template-requires-clause-room : goal.put_template-requires-clause-room
put_template-requires-clause-room c =
    let cut = ap (λ v. sum (map words_of v)) (drop_next c.args.code.now c.loop-number.number c.index-code-number.result c.loop-number-test.true c.index-code-number.is) in
    omega (arith, c.loop-number.invariant.1, cut, weigh_cons c.index-code-number.result (drop (c.loop-number.number + 1) c.args.code.now))

pub loop-number-preserved : goal.loop-number-preserved
loop-number-preserved c =
    let f = c.args.layout.now in
    let n = c.loop-number.number in
    let i = c.index-code-number.result in
    let rest = drop (n + 1) c.args.code.now in
    let here = drop_next c.args.code.now n i c.loop-number-test.true c.index-code-number.is in
    let cut = ap (λ v. sum (map words_of v)) here in
    let one = ap (λ v. after v (templates f (n + 1) rest)) c.in_ok-put_template.ensures ∙ after_append c.loop-number.out (template f n i) (templates f (n + 1) rest) in
    let all = sym (ap (λ v. after c.loop-number.out (templates f n v)) here) in
    let far = ap (λ v. length v.words) c.in_ok-put_template.ensures ∙ words_after c.loop-number.out (template f n i) in
    (one ∙ all ∙ c.loop-number.invariant.0, omega (arith, far, weighs f n i, c.loop-number.invariant.1, cut, weigh_cons i rest), omega (arith, c.loop-number-test.true))

pub returns : goal.returns
returns c =
    let none = drop_all c.loop-number.number c.args.code.now (omega (arith, c.loop-number-test.false)) in
    sym (ap (λ v. after c.loop-number.out (templates c.args.layout.now c.loop-number.number v)) none ∙ after_none c.loop-number.out) ∙ c.loop-number.invariant.0
