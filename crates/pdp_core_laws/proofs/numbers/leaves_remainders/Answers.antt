use Rattle.std.proofs.Common.{arith}
use Rattle.std.proofs.lemmas.Grind.{common_steps}
use Rattle.std.proofs.lemmas.Int.{quot-rem}
use Rattle.rt_words.specs.Word.{signed_of}
use Rattle.pdp_core_laws.specs.Numbers.{signed_long, Quotient, Remainder}
use Rattle.pdp_core_laws.proofs.numbers.leaves_remainders.Goals as goal

quotient : Quotient
quotient a b p q r e = grind (arith, common_steps)

remainder : Remainder
remainder a b p q r = grind (arith, common_steps)

pub returns-clause-division : goal.returns-clause-division
returns-clause-division c = λ a b p q r e. rw (quotient a b p q r e, remainder a b p q r) (quot-rem (signed_long a) (signed_of b))
