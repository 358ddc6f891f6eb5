use Rattle.std.proofs.Common.{◌+◌, ap, sym, subst, ◌∙◌, arith}
use Rattle.rt_words.proofs.Turning.{each_turn}
use Rattle.rt_object.specs.Known.{AreAbove}
use Rattle.rt_object.specs.Reading as reads
use Rattle.rt_object.proofs.Turns.{above_more}
use Rattle.rt_object.proofs.taken.read_each_taken.Goals as goal

pub loop-turn-preserved : goal.loop-turn-preserved
loop-turn-preserved c = record {
  all = each_turn (reads.taken_number c.args.bricks.now) c.args.count c.loop-turn._turn c.loop-turn.found _ c.loop-turn.rest.now c.in_ok-number.after.now c.in_ok-number.number (omega arith) c.loop-turn.invariant.all
      (ap (λ f. reads.taken_number c.args.bricks.now f c.loop-turn.rest.now) (sym c.as_slice.ensures) ∙ c.in_ok-number.ensures.number) c.in_ok-push.ensures.ok;
  above = subst (λ n. AreAbove (n + 1) c.push.new.self) (sym c.from-least.ensures) (above_more c.loop-turn.least c.loop-turn.found c.push.new.self c.in_ok-number.number c.loop-turn.invariant.above c.in_ok-number.ensures.least c.in_ok-push.ensures.ok);
}
