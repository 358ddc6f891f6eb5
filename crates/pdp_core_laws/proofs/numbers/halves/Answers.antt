use Rattle.std.proofs.Common.{arith}
use Rattle.std.proofs.lemmas.Grind.{common_steps}
use Rattle.pdp_code.specs.declared.instruction.Size.TheVariants.{Word, Byte}
use Rattle.pdp_core_laws.specs.Numbers.{ShiftsRight}
use Rattle.pdp_core_laws.proofs.numbers.halves.Goals as goal

lost_below : ShiftsRight
lost_below g Word y p = grind (arith, common_steps)
lost_below g Byte y p = grind (arith, common_steps)

pub returns-clause-shift : goal.returns-clause-shift
returns-clause-shift c = lost_below
