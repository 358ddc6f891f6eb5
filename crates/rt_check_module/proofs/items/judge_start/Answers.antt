use Rattle.rt_check_module.specs.Items.{known_faults}
use Rattle.rt_check_module.specs.Starts.{written_in}
use Rattle.rt_check_module.proofs.Judged.{first_judged, else_judged}
use Rattle.rt_check_module.proofs.items.judge_start.Goals as goal

pub returns-in-Some : goal.returns-in-Some
returns-in-Some c =
    first_judged c.args.faults.now c.note.new.faults c.note_unknown.new.faults (written_in c.args.scope.now c.args.start.now).unknown (known_faults c.args.at (written_in c.args.scope.now c.args.start.now) c.args.mode.now) c.in-Some.fault
    c.note_unknown.ensures c.in-Some.is c.note.ensures

pub returns-in-None : goal.returns-in-None
returns-in-None c =
    else_judged c.args.faults.now c.judge_known.new.faults c.note_unknown.new.faults (written_in c.args.scope.now c.args.start.now).unknown (known_faults c.args.at (written_in c.args.scope.now c.args.start.now) c.args.mode.now)
    c.note_unknown.ensures c.in-None.is c.judge_known.ensures
