-- What ties the table of first words, by which a machine goes, to the words of instructions.
use Rattle.std.specs.Prelude.{◌≡◌, ℕ, ◌<◌, Some}
use Rattle.pdp_code.specs.declared.instruction.Instr.{Instr}
use Rattle.pdp_code.specs.Code.{first_word, IsCodable}
use Rattle.pdp_code.specs.First.{first_of, blank}

-- the first word of each instruction begins that instruction, with 0 for each word that follows
abbrev pub WordsBegin : Type 0
WordsBegin = (i : Instr) → IsCodable i → first_of (first_word i) ≡ Some (blank i)

-- and what a word begins is an instruction that has this first word, and 0 for each word that follows
abbrev pub WordsCome : Type 0
WordsCome = (w : ℕ) (i : Instr) → w < 65536 → first_of w ≡ Some i → IsCodable i × (first_word i ≡ w) × (blank i ≡ i)
