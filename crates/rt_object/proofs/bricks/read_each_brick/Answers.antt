use Rattle.std.proofs.Common.{ap, sym, ◌∙◌, arith}
use Rattle.rt_words.proofs.Turning.{each_turn}
use Rattle.rt_object.specs.Reading as reads
use Rattle.rt_object.proofs.Turns.{names_more}
use Rattle.rt_object.proofs.bricks.read_each_brick.Goals as goal

pub loop-turn-preserved : goal.loop-turn-preserved
loop-turn-preserved c =
    let front = c.in_ok-brick.ensures in
    record {
      all = each_turn (reads.brick_reader c.args.known.now.records.now c.args.known.now.strings c.args.known.now.bricks) c.args.known.now.bricks c.loop-turn._turn c.loop-turn.found _ c.loop-turn.rest.now c.in_ok-brick.after.now c.in_ok-brick.brick (omega arith)
          c.loop-turn.invariant.all (ap (λ f. reads.brick_reader c.args.known.now.records.now c.args.known.now.strings c.args.known.now.bricks f c.loop-turn.rest.now) (sym c.as_slice.ensures) ∙ front.brick) c.in_ok-push.ensures.ok;
      names = names_more (λ x. x.name) c.as_slice.result.now c.loop-turn.found _ c.in_ok-brick.brick _ c.as_slice.ensures c.in_ok-push.ensures.ok front.known;
    }
