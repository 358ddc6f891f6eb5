use Rattle.std.proofs.Common.{arith}
use Rattle.pdp_core_laws.proofs.Values.{left_value, left_signed, right_value}
use Rattle.pdp_core_laws.proofs.numbers.shifts_pairs.Goals as goal

pub returns-clause-leftward : goal.returns-clause-leftward
returns-clause-leftward c = λ x n p. left_value 4294967296 2147483648 x n (omega arith) p

pub returns-clause-doubling : goal.returns-clause-doubling
returns-clause-doubling c = λ x n p e. left_signed 2147483648 x n (omega arith) p e

pub returns-clause-rightward : goal.returns-clause-rightward
returns-clause-rightward c = λ x n p. right_value 2147483648 x n p
