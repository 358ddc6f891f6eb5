use Rattle.std.proofs.Common.{None, Some}
use Rattle.rt_pieces.proofs.Looking.{within_by}
use Rattle.rt_pieces.proofs.cut.next_step.Goals as goal

pub returns-in-None-clause-within : goal.returns-in-None-clause-within
returns-in-None-clause-within c = within_by c.args.opened None c.args.bytes.now c.step_of.result c.in-None.is c.step_of.ensures

pub returns-in-Some-clause-within : goal.returns-in-Some-clause-within
returns-in-Some-clause-within c = within_by c.args.opened (Some c.in-Some.field-0) c.args.bytes.now c.digits_step.result c.in-Some.is c.digits_step.ensures
