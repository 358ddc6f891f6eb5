use Rattle.std.proofs.Common.{ap, ◌∙◌}
use Rattle.rt_exprs.specs.Names.{find_in}
use Rattle.rt_check_declared.specs.Parts.{recovers, parts_faults}
use Rattle.rt_check_declared.proofs.HeadingSteps.{either_noted, parts_noted}
use Rattle.rt_check_declared.proofs.bricks.add_imported_data.Goals as goal

pub returns-clause-fault : goal.returns-clause-fault
returns-clause-fault c =
    either_noted (parts_faults (find_in c.args.levels.now) (recovers c.args.data.now.import c.args.data.now.name.name)) c.as_slice-2.result.now c.args.data.now.lines c.args.found.now.fault c.in_ok-read.read.fault c.either-found.result c.as_slice-2.ensures
    (parts_noted (find_in c.args.levels.now) c.recovers-erl.result (recovers c.args.data.now.import c.args.data.now.name.name) c.as_slice-2.result.now c.in_ok-read.read.fault (c.recovers-erl.ensures ∙ ap (recovers c.args.data.now.import) c.as_slice.ensures.bytes) c.in_ok-read.ensures.fault) c.either-found.ensures
