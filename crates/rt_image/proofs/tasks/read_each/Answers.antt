use Rattle.std.proofs.Common.{◌≡◌, ◌+◌, ap, sym, ◌∙◌, arith, length}
use Rattle.std.proofs.lemmas.List.{length_push}
use Rattle.rt_words.proofs.Turning.{each_turn}
use Rattle.rt_image.specs.Reading as reads
use Rattle.rt_image.proofs.tasks.read_each.Goals as goal

pub loop-turn-preserved : goal.loop-turn-preserved
loop-turn-preserved c =
    let few = c.loop-turn.invariant.few in
    let size : length c.push.new.self ≡ length c.loop-turn.found + 1 = ap length c.in_ok-push.ensures.ok ∙ length_push c.loop-turn.found c.in_ok-task.task in
    record {
      all = each_turn (reads.task c.args.code_end c.args.used) c.args.count c.loop-turn._turn c.loop-turn.found _ c.loop-turn.rest.now c.in_ok-task.after.now c.in_ok-task.task (omega arith)
          c.loop-turn.invariant.all (ap (λ f. reads.task c.args.code_end c.args.used f c.loop-turn.rest.now) (sym c.as_slice.ensures) ∙ c.in_ok-task.ensures) c.in_ok-push.ensures.ok;
      few = omega arith;
    }
