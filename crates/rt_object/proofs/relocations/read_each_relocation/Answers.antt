use Rattle.std.proofs.Common.{◌+◌, ap, sym, subst, ◌∙◌, arith}
use Rattle.rt_words.proofs.Turning.{each_turn}
use Rattle.rt_object.specs.Known.{AreBehind}
use Rattle.rt_object.specs.Reading as reads
use Rattle.rt_object.proofs.Turns.{behind_more}
use Rattle.rt_object.proofs.relocations.read_each_relocation.Goals as goal

pub loop-turn-preserved : goal.loop-turn-preserved
loop-turn-preserved c = record {
  all = each_turn (reads.relocation_reader c.args.known.now.records.now c.args.known.now.strings c.args.known.now.bricks c.args.step c.args.places) c.args.count c.loop-turn._turn c.loop-turn.found _ c.loop-turn.rest.now c.in_ok-relocation.after.now c.in_ok-relocation.relocation (omega arith)
      c.loop-turn.invariant.all (ap (λ f. reads.relocation_reader c.args.known.now.records.now c.args.known.now.strings c.args.known.now.bricks c.args.step c.args.places f c.loop-turn.rest.now) (sym c.as_slice.ensures) ∙ c.in_ok-relocation.ensures.relocation) c.in_ok-push.ensures.ok;
  behind = subst (λ n. AreBehind (n + 1) c.push.new.self) (sym c.from-least.ensures) (behind_more c.loop-turn.least c.loop-turn.found c.push.new.self c.in_ok-relocation.relocation c.loop-turn.invariant.behind c.in_ok-relocation.ensures.least c.in_ok-push.ensures.ok);
}
