use Rattle.rt_exprs.specs.Names.{find}
use Rattle.rt_check_module.proofs.Steps.{part_unknown}
use Rattle.rt_check_module.proofs.judge.+unknown.Goals as goal

pub note_all_unknown-loop-part-preserved : goal.note_all_unknown-loop-part-preserved
note_all_unknown-loop-part-preserved t c =
    part_unknown c.args.scope.now.records (find c.args.scope.now) c.args.scope.now.strings c.args.parts.now c.loop-part.part-index c.part-item.result c.loop-part-test.true c.part-item.is c.loop-part.faults c.note_unknown.new.faults _ c.note_unknown.ensures c.loop-part.invariant
