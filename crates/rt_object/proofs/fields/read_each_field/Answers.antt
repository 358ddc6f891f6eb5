use Rattle.std.proofs.Common.{ap, sym, ◌∙◌, arith}
use Rattle.rt_words.proofs.Turning.{each_turn}
use Rattle.rt_object.specs.Reading as reads
use Rattle.rt_object.proofs.Turns.{names_more}
use Rattle.rt_object.proofs.fields.read_each_field.Goals as goal

pub loop-turn-preserved : goal.loop-turn-preserved
loop-turn-preserved c =
    let front = c.in_ok-field.ensures in
    record {
      all = each_turn (reads.field_reader c.args.records c.args.labels) c.args.count c.loop-turn._turn c.loop-turn.found _ c.loop-turn.rest.now c.in_ok-field.after.now c.in_ok-field.field (omega arith)
          c.loop-turn.invariant.all (ap (λ f. reads.field_reader c.args.records c.args.labels f c.loop-turn.rest.now) (sym c.as_slice.ensures) ∙ front.field) c.in_ok-push.ensures.ok;
      names = names_more (λ x. x.name) c.as_slice.result.now c.loop-turn.found _ c.in_ok-field.field _ c.as_slice.ensures c.in_ok-push.ensures.ok front.known;
    }
