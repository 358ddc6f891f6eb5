use Rattle.std.proofs.Common.{◌≡◌, ◌+◌, ap, ◌∙◌, arith, length}
use Rattle.std.proofs.lemmas.List.{length_push}
use Rattle.rt_words.proofs.Turning.{each_turn}
use Rattle.rt_object.specs.Reading as reads
use Rattle.rt_object.proofs.strings.read_each_string.Goals as goal

pub loop-turn-preserved : goal.loop-turn-preserved
loop-turn-preserved c =
    let few = c.loop-turn.invariant.few in
    let size : length c.push.new.self ≡ length c.loop-turn.found + 1 = ap length c.in_ok-push.ensures.ok ∙ length_push c.loop-turn.found c.in_ok-string.string in
    record {
      all = each_turn (λ _. reads.string_reader) c.args.count c.loop-turn._turn c.loop-turn.found _ c.loop-turn.rest.now c.in_ok-string.after.now c.in_ok-string.string (omega arith)
          c.loop-turn.invariant.all c.in_ok-string.ensures c.in_ok-push.ensures.ok;
      few = omega arith;
    }
