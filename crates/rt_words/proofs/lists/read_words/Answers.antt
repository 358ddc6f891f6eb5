use Rattle.std.proofs.Common.{arith}
use Rattle.rt_words.specs.Format.{any}
use Rattle.rt_words.specs.Reading as reads
use Rattle.rt_words.proofs.Turning.{each_turn}
use Rattle.rt_words.proofs.lists.read_words.Goals as goal

pub loop-turn-preserved : goal.loop-turn-preserved
loop-turn-preserved c = each_turn (λ _. reads.word any) c.args.count c.loop-turn._turn c.loop-turn.found _ c.loop-turn.rest.now c.in_ok-word.after.now c.in_ok-word.word
    (omega arith) c.loop-turn.invariant c.in_ok-word.ensures c.in_ok-push.ensures.ok
