use Rattle.std.proofs.Common.{take, ◌∙◌, arith, length-set}
use Rattle.std.proofs.lemmas.List.{take_more_set}
use Rattle.rt_words.specs.Format.{any}
use Rattle.rt_words.specs.Reading as formats
use Rattle.rt_words.proofs.Turning.{each_turn}
use Rattle.rt_image.proofs.tasks.read_block_words.Goals as goal

pub loop-number-preserved : goal.loop-number-preserved
loop-number-preserved c =
    let size = c.loop-number.invariant.size in
    record {
      all = each_turn (λ _. formats.word any) 8 c.loop-number.number (take c.loop-number.number c.loop-number.block) _ c.loop-number.rest.now c.in_ok-word.after.now c.in_ok-word.word (omega arith)
          c.loop-number.invariant.all c.in_ok-word.ensures (take_more_set c.loop-number.block c.loop-number.number c.in_ok-word.word (omega arith));
      size = length-set c.loop-number.block c.loop-number.number c.in_ok-word.word ∙ size;
    }
