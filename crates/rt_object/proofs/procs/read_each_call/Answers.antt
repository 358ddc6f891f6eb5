use Rattle.std.proofs.Common.{arith}
use Rattle.rt_words.proofs.Turning.{each_turn}
use Rattle.rt_object.specs.Reading as reads
use Rattle.rt_object.proofs.procs.read_each_call.Goals as goal

pub loop-turn-preserved : goal.loop-turn-preserved
loop-turn-preserved c =
    each_turn (λ _. reads.call_reader c.args.known.now.records.now c.args.known.now.strings c.args.known.now.bricks) c.args.count c.loop-turn._turn c.loop-turn.found _ c.loop-turn.rest.now c.in_ok-call.after.now c.in_ok-call.call
    (omega arith) c.loop-turn.invariant c.in_ok-call.ensures c.in_ok-push.ensures.ok
