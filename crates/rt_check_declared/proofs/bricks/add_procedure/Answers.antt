use Rattle.std.proofs.Common.{refl}
use Rattle.rt_exprs.specs.Names.{find_in}
use Rattle.rt_check_declared.specs.Bricks.{procedure_faults}
use Rattle.rt_check_declared.proofs.HeadingSteps.{either_noted}
use Rattle.rt_check_declared.proofs.bricks.add_procedure.Goals as goal

pub returns-clause-fault : goal.returns-clause-fault
returns-clause-fault c =
    either_noted (procedure_faults (find_in c.args.levels.now)) c.args.procedure.now c.args.procedure.now c.args.found.now.fault c.in_ok-headed.headed.fault c.either-found.result refl c.in_ok-headed.ensures.fault c.either-found.ensures
