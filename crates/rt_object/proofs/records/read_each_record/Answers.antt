use Rattle.std.proofs.Common.{◌≡◌, ◌+◌, ap, sym, ◌∙◌, arith, length}
use Rattle.rt_words.proofs.Turning.{each_turn}
use Rattle.std.proofs.lemmas.List.{length_push}
use Rattle.rt_object.specs.Reading as reads
use Rattle.rt_object.proofs.Turns.{names_more}
use Rattle.rt_object.proofs.records.read_each_record.Goals as goal

pub loop-turn-preserved : goal.loop-turn-preserved
loop-turn-preserved c =
    let front = c.in_ok-definition.ensures in
    let few = c.loop-turn.invariant.few in
    let size : length c.push.new.self ≡ length c.loop-turn.found + 1 = ap length c.in_ok-push.ensures.ok ∙ length_push c.loop-turn.found c.in_ok-definition.definition in
    record {
      all = each_turn (reads.record_reader c.args.records) c.args.count c.loop-turn._turn c.loop-turn.found _ c.loop-turn.rest.now c.in_ok-definition.after.now c.in_ok-definition.definition (omega arith)
          c.loop-turn.invariant.all (ap (λ f. reads.record_reader c.args.records f c.loop-turn.rest.now) (sym c.as_slice.ensures) ∙ front.record) c.in_ok-push.ensures.ok;
      names = names_more (λ x. x.name) c.as_slice.result.now c.loop-turn.found _ c.in_ok-definition.definition _ c.as_slice.ensures c.in_ok-push.ensures.ok front.known;
      few = omega arith;
    }
