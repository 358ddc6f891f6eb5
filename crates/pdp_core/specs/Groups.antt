-- The instruction that a first word begins, from one group of codes on.
use Rattle.std.specs.Prelude.{ℕ, ◌/◌, ◌%◌, Option}
use Rattle.pdp_code.specs.declared.instruction.Instr.{Instr}
use Rattle.pdp_code.specs.First.{or_else, sum_of, sum_first, single_of, single_first, word_of, word_first, register_of, register_first, condition_of, branch_first, other_first}

-- where it is no instruction of a source and a target, no sum, and none of one operand, of words or of bytes, and so on: each
-- of these is what the group's own table tells, or what the next group has
abbrev pub branch_or_other : ℕ → Option Instr
branch_or_other w = or_else (branch_first (condition_of (w / 256)) w) (other_first w)

abbrev pub from_registers : ℕ → Option Instr
from_registers w = or_else (register_first (register_of (w / 512)) w) (branch_or_other w)

abbrev pub from_words : ℕ → Option Instr
from_words w = or_else (word_first (word_of (w / 64)) w) (from_registers w)

abbrev pub from_singles : ℕ → Option Instr
from_singles w = or_else (single_first (single_of (w / 64 % 512)) w) (from_words w)

abbrev pub from_sums : ℕ → Option Instr
from_sums w = or_else (sum_first (sum_of (w / 4096)) w) (from_singles w)
