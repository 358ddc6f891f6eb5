use Rattle.std.proofs.Common.{◌≡◌, ◌+◌, ℕ, Some, length, slice_get, ap, ◌∙◌, arith}
use Rattle.std.proofs.lemmas.Option.{slice_get_read}
use Rattle.rt_digraph.proofs.Lists.{long_one}
use Rattle.rt_graph.proofs.Classing.{told_more, all_told}
use Rattle.rt_graph.proofs.classes.Classes.of.Goals as goal

pub loop-text-preserved : goal.loop-text-preserved
loop-text-preserved c =
    let texts = c.args.texts.now in
    let i = c.loop-text.text-index in
    let size : length c.loop-text.of ≡ i = c.loop-text.invariant.size in
    let at : slice_get texts i ≡ Some c.text-item.result = slice_get_read texts (length texts) i c.text-item.result (omega arith) (omega arith) c.text-item.is in record {
      apart = c.in_ok-class.ensures.apart;
      count = (let a = c.in_ok-class.ensures.count in let b = c.loop-text.invariant.count in omega arith);
      size = ap length c.in_ok-push.ensures.ok ∙ long_one c.loop-text.of c.in_ok-class.class ∙ ap (λ (k : ℕ). k + 1) size;
      each = told_more texts c.loop-text.map c.class_told.new.map c.loop-text.of c.push.new.self i c.text-item.result c.in_ok-class.class size at c.loop-text.invariant.each c.in_ok-class.ensures.kept c.in_ok-class.ensures.told c.in_ok-push.ensures.ok;
    }

pub returns : goal.returns
returns c = all_told c.args.texts.now c.loop-text.map c.loop-text.of c.loop-text.count c.loop-text.text-index c.loop-text.invariant.apart c.loop-text.invariant.count (omega arith) c.loop-text.invariant.size c.loop-text.invariant.each
