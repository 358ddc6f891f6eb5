use Rattle.rt_exprs.specs.Names.{find_in}
use Rattle.rt_check_declared.proofs.HeadingSteps.{procedure_noted, procedure_given}
use Rattle.rt_check_declared.proofs.procedures.read_procedure.Goals as goal

pub returns-clause-fault : goal.returns-clause-fault
returns-clause-fault c =
    procedure_noted (find_in c.args.levels.now) c.args.procedure.now c.as_slice.result.now c.in_ok-found.found.fault c.with_result-fault.result c.in_ok-answer.answer c.as_slice.ensures c.in_ok-found.ensures.fault c.in_ok-answer.ensures c.with_result-fault.ensures

pub returns-clause-given : goal.returns-clause-given
returns-clause-given c =
    procedure_given (find_in c.args.levels.now) c.args.procedure.now c.as_slice.result.now c.in_ok-found.found.fields c.as_slice-2.result.now c.with_result-fault.result c.in_ok-answer.answer c.in_ok-given.given c.as_slice.ensures c.in_ok-found.ensures.fields
    c.as_slice-2.ensures
    (procedure_noted (find_in c.args.levels.now) c.args.procedure.now c.as_slice.result.now c.in_ok-found.found.fault c.with_result-fault.result c.in_ok-answer.answer c.as_slice.ensures c.in_ok-found.ensures.fault c.in_ok-answer.ensures
    c.with_result-fault.ensures)
    c.in_ok-answer.ensures c.in_ok-given.ensures
