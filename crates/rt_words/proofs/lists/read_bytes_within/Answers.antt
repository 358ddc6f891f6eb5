use Rattle.std.proofs.Common.{arith}
use Rattle.rt_words.specs.Format.{within}
use Rattle.rt_words.specs.Reading as reads
use Rattle.rt_words.proofs.Turning.{each_turn}
use Rattle.rt_words.proofs.lists.read_bytes_within.Goals as goal

pub loop-turn-preserved : goal.loop-turn-preserved
loop-turn-preserved c =
    each_turn (λ _. reads.byte (within c.args.least c.args.most)) c.args.count c.loop-turn._turn c.loop-turn.found _ c.loop-turn.rest.now c.in_ok-byte.after.now c.in_ok-byte.byte
    (omega arith) c.loop-turn.invariant c.in_ok-byte.ensures.byte c.in_ok-push.ensures.ok
