use Rattle.std.proofs.Common.{arith}
use Rattle.pdp_core.proofs.Registers.{pointer_is}
use Rattle.pdp_core.proofs.operand.pointer.Goals as goal

pub returns : goal.returns
returns c = pointer_is _ (omega arith) c.requires
