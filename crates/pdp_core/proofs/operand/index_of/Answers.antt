use Rattle.std.proofs.Common.{◌%◌, ◌∙◌, arith}
use Rattle.pdp_core.proofs.Registers.{number_of}
use Rattle.pdp_core.proofs.operand.index_of.Goals as goal

pub returns-clause-value : goal.returns-clause-value
returns-clause-value c = c.from.ensures ∙ number_of (c.args.n % 8) (omega arith)
