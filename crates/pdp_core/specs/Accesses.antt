-- The accesses to the memory that one instruction makes: each once, in this order, and no other.
use Rattle.std.specs.Prelude.{ℕ, Option, Some, None, Result, Ok, Err, if◌then◌else◌}
use Rattle.rt_words.specs.Word.{wrap_add, wrap_sub}
use Rattle.pdp_code.specs.declared.instruction.Reg.TheVariants.{Sp, Pc}
use Rattle.pdp_code.specs.declared.instruction.Operand.{Operand}
use Rattle.pdp_code.specs.declared.instruction.Operand.TheVariants.{Register, Deferred, Increment, IncrementDeferred, Decrement, DecrementDeferred, Index, IndexDeferred, Immediate, Absolute}
use Rattle.pdp_code.specs.declared.instruction.Size.{Size}
use Rattle.pdp_code.specs.declared.instruction.Size.TheVariants.{Word, Byte}
use Rattle.pdp_code.specs.declared.instruction.DoubleOp.{DoubleOp}
use Rattle.pdp_code.specs.declared.instruction.DoubleOp.TheVariants.{Mov, Cmp, Bit, Bic, Bis}
use Rattle.pdp_code.specs.declared.instruction.SingleOp.{SingleOp}
use Rattle.pdp_code.specs.declared.instruction.SingleOp.TheVariants.{Clr, Tst}
use Rattle.pdp_code.specs.declared.instruction.WordOp.{WordOp}
use Rattle.pdp_code.specs.declared.instruction.WordOp.TheVariants.{Swab, Sxt}
use Rattle.pdp_code.specs.declared.instruction.RegisterOp.{RegisterOp}
use Rattle.pdp_code.specs.declared.instruction.RegisterOp.TheVariants.{Mul, Div, Ash, Ashc, Xor}
use Rattle.pdp_code.specs.declared.instruction.Instr.{Instr}
use Rattle.pdp_code.specs.declared.instruction.Instr.TheVariants.{Double, Sum, Single, OnWord, OnRegister, Branch, Loop, Jump, Call, Return, Trap, Flags}
use Rattle.pdp_code.specs.First.{first_of}
use Rattle.pdp_core.specs.declared.cpu.Regs.{Regs}
use Rattle.pdp_core.specs.declared.cpu.Failure.{Failure}
use Rattle.pdp_core.specs.declared.cpu.Place.{Place}
use Rattle.pdp_core.specs.declared.cpu.Place.TheVariants.{InRegister, InMemory, InCode}
use Rattle.pdp_core.specs.World.{World}
use Rattle.pdp_core.specs.Log.{Log, noted, FetchesWord, ReadsWord, ReadsByte, WritesWord, WritesByte}
use Rattle.pdp_core.specs.Execute.{reg, pointer_reg, next_word, address, load, operand, is_odd_pair, target}

-- the accesses of a part, and then those of what follows it where it meets no fault
abbrev pub after : {A : Type 0} → Result A Failure → (A → Log → Log) → Log → Log
after (Ok x) f made = f x made
after (Err e) f made = made

-- the next word of the instruction
abbrev pub next_made : Regs → Log → Log
next_made g made = noted (FetchesWord (reg g Pc)) made

-- the address of an operand
abbrev pub address_made : World → Regs → Operand → Log → Log
address_made w g (Register r) made = made
address_made w g (Deferred r) made = made
address_made w g (Increment p) made = made
address_made w g (IncrementDeferred p) made = noted (ReadsWord (reg g (pointer_reg p))) made
address_made w g (Decrement r) made = made
address_made w g (DecrementDeferred r) made = noted (ReadsWord (wrap_sub (reg g r) 2)) made
address_made w g (Index r x) made = next_made g made
address_made w g (IndexDeferred r x) made =
    after (next_word w g) (λ n. noted (ReadsWord (wrap_add n.0 (reg n.1 r)))) (next_made g made)
address_made w g (Immediate x) made = next_made g made
address_made w g (Absolute x) made = next_made g made

-- the value at a place; that of an immediate operand was fetched
abbrev pub load_made : Size → Place → Log → Log
load_made z (InRegister r) made = made
load_made Word (InMemory a) made = noted (ReadsWord a) made
load_made Byte (InMemory a) made = noted (ReadsByte a) made
load_made z (InCode a x) made = made

abbrev pub operand_made : World → Size → Regs → Operand → Log → Log
operand_made w z g o made = after (address w z g o) (λ p. load_made z p.0) (address_made w g o made)

-- a value put at a place
abbrev pub store_made : Size → Place → Log → Log
store_made z (InRegister r) made = made
store_made Word (InMemory a) made = noted (WritesWord a) made
store_made Byte (InMemory a) made = noted (WritesByte a) made
store_made Word (InCode a x) made = noted (WritesWord a) made
store_made Byte (InCode a x) made = noted (WritesByte a) made

-- the value at a place, and another in its stead
abbrev pub update_made : World → Size → Regs → Place → Log → Log
update_made w z g p made = after (load w z g p) (λ y. store_made z p) (load_made z p made)

-- MOV doesn't read its destination, and CMP and BIT don't write theirs
abbrev pub double_made : World → Regs → DoubleOp → Size → Place → Log → Log
double_made w g Mov z p made = store_made z p made
double_made w g Cmp z p made = load_made z p made
double_made w g Bit z p made = load_made z p made
double_made w g Bic z p made = update_made w z g p made
double_made w g Bis z p made = update_made w z g p made

-- TST alone writes nothing
abbrev pub single_end_made : SingleOp → Size → Place → Log → Log
single_end_made Tst z p made = made
single_end_made o z p made = store_made z p made

-- a value that is read first
abbrev pub single_read_made : World → Regs → SingleOp → Size → Place → Log → Log
single_read_made w g o z p made = after (load w z g p) (λ y. single_end_made o z p) (load_made z p made)

-- CLR alone reads nothing
abbrev pub single_made : World → Regs → SingleOp → Size → Place → Log → Log
single_made w g Clr z p made = store_made z p made
single_made w g o z p made = single_read_made w g o z p made

-- SXT doesn't read its operand
abbrev pub word_made : World → Regs → WordOp → Place → Log → Log
word_made w g Swab p made = update_made w Word g p made
word_made w g Sxt p made = store_made Word p made

-- XOR alone writes its operand
abbrev pub register_made : World → Regs → RegisterOp → Place → Log → Log
register_made w g Mul p made = load_made Word p made
register_made w g Div p made = load_made Word p made
register_made w g Ash p made = load_made Word p made
register_made w g Ashc p made = load_made Word p made
register_made w g Xor p made = update_made w Word g p made

-- a register pushed, and a register popped
abbrev pub push_made : Regs → Log → Log
push_made g made = noted (WritesWord (wrap_sub (reg g Sp) 2)) made

abbrev pub pop_made : Regs → Log → Log
pop_made g made = noted (ReadsWord (reg g Sp)) made

-- an operand, and what is done at its place with the registers after it
abbrev pub at_place : World → Size → Regs → Operand → (Regs → Place → Log → Log) → Log → Log
at_place w z g o does made = after (address w z g o) (λ p. does p.1 p.0) (address_made w g o made)

-- a source that is addressed and read, and a destination
abbrev pub from_source : World → Size → Regs → Operand → Operand → (Regs → Place → Log → Log) → Log → Log
from_source w z g s d does made = after (operand w z g s) (λ x. at_place w z x.1 d does) (operand_made w z g s made)

-- the instruction at a place, the registers past its first word
abbrev pub perform_made : ℕ → World → Regs → Instr → Log → Log
perform_made at w g (Double o z s d) made = from_source w z g s d (λ h. double_made w h o z) made
perform_made at w g (Sum o s d) made = from_source w Word g s d (λ h. update_made w Word h) made
perform_made at w g (Single o z d) made = at_place w z g d (λ h. single_made w h o z) made
perform_made at w g (OnWord o d) made = at_place w Word g d (λ h. word_made w h o) made
perform_made at w g (OnRegister o r s) made =
    if is_odd_pair o r then made else at_place w Word g s (λ h. register_made w h o) made
perform_made at w g (Branch c n) made = made
perform_made at w g (Loop r n) made = made
perform_made at w g (Jump d) made = address_made w g d made
perform_made at w g (Call r d) made =
    at_place w Word g d (λ h p. after (target at p) (λ a. push_made h)) made
perform_made at w g (Return r) made = pop_made g made
perform_made at w g (Trap n) made = made
perform_made at w g (Flags u n z v c) made = made

abbrev pub first_made : ℕ → World → Regs → Option Instr → Log → Log
first_made at w g None made = made
first_made at w g (Some i) made = perform_made at w g i made

-- one instruction
abbrev pub execute_made : World → Regs → Log → Log
execute_made w g made = after (next_word w g) (λ n. first_made (reg g Pc) w n.1 (first_of n.0)) (next_made g made)
