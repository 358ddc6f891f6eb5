use Rattle.std.proofs.Common.{[], ◌∷◌, ◌++◌, ap, ◌∙◌}
use Rattle.rt_exprs.specs.Names.{find_in}
use Rattle.rt_check_declared.specs.declared.records.Head.{Head}
use Rattle.rt_check_declared.proofs.RecordSteps.{head_made}
use Rattle.rt_check_declared.proofs.records.read_mode.Goals as goal

pub returns-clause-heads : goal.returns-clause-heads
returns-clause-heads c =
    c.in_ok-push-2.ensures.ok
    ∙ ap (λ (h : Head). c.args.read.now.heads ++ h ∷ [])
    (head_made (find_in c.args.levels.now) c.args.mode.now c.as_slice-lines.result.now c.in_ok-fields.fields c.in_ok-found.found.fault c.in_ok-second.second c.as_slice-lines.ensures c.in_ok-fields.ensures c.in_ok-found.ensures.fault
    c.in_ok-second.ensures)
