use Rattle.std.proofs.Common.{◌≡◌, ℕ, ◌==◌, ◌&&◌, Bool, sym, ap, ◌∙◌}
use Rattle.rt_exprs.specs.Names.{find}
use Rattle.rt_check_module.specs.Items.{bad_unless}
use Rattle.rt_check_module.specs.Starts.{Written, written_in}
use Rattle.rt_check_module.proofs.Judged.{first_judged, else_judged}
use Rattle.rt_check_module.proofs.Lists.{copies_seen}
use Rattle.rt_check_declared.specs.Verdicts.{with_faults}
use Rattle.rt_check_module.proofs.items.judge_known.Goals as goal

pub returns-in-Some : goal.returns-in-Some
returns-in-Some c =
    let w : Written = written_in c.args.scope.now c.args.start.now in
    first_judged c.args.faults.now c.note.new.faults c.judge-fits.new.faults (w.private c.args.mode.now) (bad_unless (w.fits c.args.mode.now && w.copies == 1) c.args.at) c.in-Some.fault c.judge-fits.ensures.private c.in-Some.is c.note.ensures

pub returns-in-None : goal.returns-in-None
returns-in-None c =
    let w : Written = written_in c.args.scope.now c.args.start.now in
    let one : c.copies.result ≡ w.copies = c.copies.ensures ∙ sym (copies_seen c.args.scope.now.records (find c.args.scope.now) c.args.scope.now.strings c.args.start.now) in
    else_judged c.args.faults.now c.note_bad.new.faults c.judge-fits.new.faults (w.private c.args.mode.now) (bad_unless (w.fits c.args.mode.now && w.copies == 1) c.args.at) c.judge-fits.ensures.private c.in-None.is
    (c.note_bad.ensures ∙ ap (λ (b : Bool). with_faults c.args.faults.now (bad_unless (b && c.copies.result == 1) c.args.at)) c.judge-fits.ensures.fits ∙ ap (λ (n : ℕ). with_faults c.args.faults.now (bad_unless (w.fits c.args.mode.now && n == 1) c.args.at)) one)
