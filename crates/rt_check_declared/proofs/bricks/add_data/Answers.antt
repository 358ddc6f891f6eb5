use Rattle.rt_exprs.specs.Names.{find_in}
use Rattle.rt_check_declared.specs.Parts.{item_faults}
use Rattle.rt_check_declared.proofs.HeadingSteps.{either_noted}
use Rattle.rt_check_declared.proofs.bricks.add_data.Goals as goal

pub returns-clause-fault : goal.returns-clause-fault
returns-clause-fault c =
    either_noted (item_faults (find_in c.args.levels.now)) c.as_slice.result.now c.args.data.now.lines c.args.found.now.fault c.in_ok-read.read.fault c.either-found.result c.as_slice.ensures c.in_ok-read.ensures.fault c.either-found.ensures
