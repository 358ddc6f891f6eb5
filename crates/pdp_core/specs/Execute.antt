-- What one instruction does.
use Rattle.std.specs.Prelude.{ℕ, ◌+◌, ◌-◌, ◌*◌, ◌/◌, ◌%◌, Bool, true, false, ◌==◌, ◌&&◌, ◌||◌, nat_lt, nat_le, not, if◌then◌else◌, Option, Some, None, Result, Ok, Err, slice_index, slice_set, bit_and, bit_or, bit_xor}
use Rattle.rt_words.specs.Word.{wrap_add, wrap_sub, extend_sign, with_low_byte, differ}
use Rattle.pdp_code.specs.declared.instruction.Reg.{Reg}
use Rattle.pdp_code.specs.declared.instruction.Reg.TheVariants.{R0, R1, R2, R3, R4, R5, Sp, Pc}
use Rattle.pdp_code.specs.declared.instruction.Pointer.{Pointer}
use Rattle.pdp_code.specs.declared.instruction.Pointer.TheVariants.{P0, P1, P2, P3, P4, P5, PSp}
use Rattle.pdp_code.specs.declared.instruction.Operand.{Operand}
use Rattle.pdp_code.specs.declared.instruction.Operand.TheVariants.{Register, Deferred, Increment, IncrementDeferred, Decrement, DecrementDeferred, Index, IndexDeferred, Immediate, Absolute}
use Rattle.pdp_code.specs.declared.instruction.Size.{Size}
use Rattle.pdp_code.specs.declared.instruction.Size.TheVariants.{Word, Byte}
use Rattle.pdp_code.specs.declared.instruction.DoubleOp.{DoubleOp}
use Rattle.pdp_code.specs.declared.instruction.DoubleOp.TheVariants.{Mov, Cmp, Bit, Bic, Bis}
use Rattle.pdp_code.specs.declared.instruction.SumOp.{SumOp}
use Rattle.pdp_code.specs.declared.instruction.SumOp.TheVariants.{Add, Sub}
use Rattle.pdp_code.specs.declared.instruction.SingleOp.{SingleOp}
use Rattle.pdp_code.specs.declared.instruction.SingleOp.TheVariants.{Clr, Tst}
use Rattle.pdp_code.specs.declared.instruction.WordOp.{WordOp}
use Rattle.pdp_code.specs.declared.instruction.WordOp.TheVariants.{Swab, Sxt}
use Rattle.pdp_code.specs.declared.instruction.RegisterOp.{RegisterOp}
use Rattle.pdp_code.specs.declared.instruction.RegisterOp.TheVariants.{Mul, Div, Ash, Ashc, Xor}
use Rattle.pdp_code.specs.declared.instruction.Condition.{Condition}
use Rattle.pdp_code.specs.declared.instruction.Condition.TheVariants.{Always, NotEqual, Equal, AtLeast, Less, Greater, AtMost, Plus, Minus, Higher, LowerSame, NoOverflow, Overflow, NoCarry, Carry}
use Rattle.pdp_code.specs.declared.instruction.Instr.{Instr}
use Rattle.pdp_code.specs.declared.instruction.Instr.TheVariants.{Double, Sum, Single, OnWord, OnRegister, Branch, Loop, Jump, Call, Return, Trap, Flags}
use Rattle.pdp_code.specs.Code.{reg_code}
use Rattle.pdp_code.specs.First.{first_of}
use Rattle.pdp_core.specs.declared.cpu.Regs.{Regs}
use Rattle.pdp_core.specs.declared.cpu.Refused.{Refused}
use Rattle.pdp_core.specs.declared.cpu.Refused.TheVariants.{Odd as OddAddress, Access as NoAccess}
use Rattle.pdp_core.specs.declared.cpu.Kind.{Kind}
use Rattle.pdp_core.specs.declared.cpu.Kind.TheVariants.{Odd, Reserved, Access, BadJump}
use Rattle.pdp_core.specs.declared.cpu.Failure.{Failure}
use Rattle.pdp_core.specs.declared.cpu.Stop.{Stop}
use Rattle.pdp_core.specs.declared.cpu.Stop.TheVariants.{Went, Trap as Service, Fault}
use Rattle.pdp_code.specs.declared.value.Shift.{Shift}
use Rattle.pdp_core.specs.declared.cpu.Place.{Place}
use Rattle.pdp_core.specs.declared.cpu.Place.TheVariants.{InRegister, InMemory, InCode}
use Rattle.pdp_code.specs.Values.{negative, plus, minus, single_value, single_carry, single_overflow, product_of, no_word, too_large, quotient_word, remainder_word, shifted}
use Rattle.pdp_core.specs.World.{World, fetched, word_read, byte_read, word_written, byte_written}

-- what an instruction leaves
pub record Outcome : Type 0 where
  pub stop : Stop
  pub regs : Regs
  pub world : World

-- one part after another, up to the first fault
abbrev pub and_then : {A B E : Type 0} → Result A E → (A → Result B E) → Result B E
and_then (Ok x) f = f x
and_then (Err e) f = Err e

-- a kind of fault and its address
abbrev pub failure : Kind → ℕ → Failure
failure k a = record { kind = k; at = a }

-- a refused access, with its address
abbrev pub of_refused : Refused → Failure
of_refused (OddAddress a) = failure Odd a
of_refused (NoAccess a) = failure Access a

-- what the memory answers
abbrev pub of_memory : {A : Type 0} → Result A Refused → Result A Failure
of_memory (Ok x) = Ok x
of_memory (Err e) = Err (of_refused e)

abbrev pub reg : Regs → Reg → ℕ
reg g r = slice_index g.r (reg_code r)

abbrev pub with_reg : Regs → Reg → ℕ → Regs
with_reg g r v = record g { r = slice_set g.r (reg_code r) v }

abbrev pub pointer_reg : Pointer → Reg
pointer_reg P0 = R0
pointer_reg P1 = R1
pointer_reg P2 = R2
pointer_reg P3 = R3
pointer_reg P4 = R4
pointer_reg P5 = R5
pointer_reg PSp = Sp

-- how far a register goes past an operand
abbrev pub stride : Size → Reg → ℕ
stride Word r = 2
stride Byte r = if nat_lt (reg_code r) 6 then 1 else 2

-- ---- operands

abbrev pub fetch : World → ℕ → Result ℕ Failure
fetch w a = of_memory (fetched w a)

abbrev pub load_word : World → ℕ → Result ℕ Failure
load_word w a = of_memory (word_read w a)

abbrev pub past_word : Regs → Regs
past_word g = with_reg g Pc (wrap_add (reg g Pc) 2)

-- the next word of the instruction
abbrev pub next_word : World → Regs → Result (ℕ × Regs) Failure
next_word w g = and_then (fetch w (reg g Pc)) (λ x. Ok (x, past_word g))

-- where an operand is, and the registers after it
abbrev pub address : World → Size → Regs → Operand → Result (Place × Regs) Failure
address w s g (Register r) = Ok (InRegister r, g)
address w s g (Deferred r) = Ok (InMemory (reg g r), g)
address w s g (Increment p) =
    let a = reg g (pointer_reg p) in
    Ok (InMemory a, with_reg g (pointer_reg p) (wrap_add a (stride s (pointer_reg p))))
address w s g (IncrementDeferred p) =
    and_then (load_word w (reg g (pointer_reg p))) (λ a.
    Ok (InMemory a, with_reg g (pointer_reg p) (wrap_add (reg g (pointer_reg p)) 2)))
address w s g (Decrement r) =
    let a = wrap_sub (reg g r) (stride s r) in
    Ok (InMemory a, with_reg g r a)
address w s g (DecrementDeferred r) =
    let b = wrap_sub (reg g r) 2 in
    and_then (load_word w b) (λ a. Ok (InMemory a, with_reg g r b))
address w s g (Index r x) = and_then (next_word w g) (λ n. Ok (InMemory (wrap_add n.0 (reg n.1 r)), n.1))
address w s g (IndexDeferred r x) =
    and_then (next_word w g) (λ n. and_then (load_word w (wrap_add n.0 (reg n.1 r))) (λ a. Ok (InMemory a, n.1)))
address w s g (Immediate x) = and_then (next_word w g) (λ n. Ok (InCode (reg g Pc) n.0, n.1))
address w s g (Absolute x) = and_then (next_word w g) (λ n. Ok (InMemory n.0, n.1))

-- the value at a place
abbrev pub load : World → Size → Regs → Place → Result ℕ Failure
load w Word g (InRegister r) = Ok (reg g r)
load w Byte g (InRegister r) = Ok (reg g r % 256)
load w Word g (InMemory a) = load_word w a
load w Byte g (InMemory a) = of_memory (byte_read w a)
load w Word g (InCode a x) = Ok x
load w Byte g (InCode a x) = Ok (x % 256)

-- an operand's value, and the registers after it
abbrev pub operand : World → Size → Regs → Operand → Result (ℕ × Regs) Failure
operand w s g o = and_then (address w s g o) (λ p. and_then (load w s p.1 p.0) (λ x. Ok (x, p.1)))

-- what is left where an instruction does not stop
abbrev pub goes_on : World → Regs → Result Outcome Failure
goes_on w g = Ok (record { stop = Went; regs = g; world = w })

-- a value put at a place, last of all
abbrev pub store : World → Size → Regs → Place → ℕ → Result Outcome Failure
store w Word g (InRegister r) x = goes_on w (with_reg g r x)
store w Byte g (InRegister r) x = goes_on w (with_reg g r (with_low_byte (reg g r) x))
store w Word g (InMemory a) x = and_then (of_memory (word_written w a x)) (λ w2. goes_on w2 g)
store w Byte g (InMemory a) x = and_then (of_memory (byte_written w a x)) (λ w2. goes_on w2 g)
store w Word g (InCode a y) x = and_then (of_memory (word_written w a x)) (λ w2. goes_on w2 g)
store w Byte g (InCode a y) x = and_then (of_memory (byte_written w a x)) (λ w2. goes_on w2 g)

-- ---- flags

abbrev pub flags : Regs → Bool → Bool → Bool → Bool → Regs
flags g n z v c = record g { n = n; z = z; v = v; c = c }

-- N and Z by a result
abbrev pub by_value : Regs → Size → ℕ → Bool → Bool → Regs
by_value g z x v c = flags g (negative z x) (x == 0) v c

-- the flags of a - b
abbrev pub by_difference : Regs → Size → ℕ → ℕ → Regs
by_difference g z a b =
    let x = minus z a b in
    by_value g z x (differ (negative z a) (negative z b) && not (differ (negative z x) (negative z b))) (nat_lt a b)

-- the flags of a + b
abbrev pub by_sum : Regs → ℕ → ℕ → Regs
by_sum g a b =
    let x = plus Word a b in
    by_value g Word x (not (differ (negative Word a) (negative Word b)) && differ (negative Word x) (negative Word b)) (nat_le 65536 (a + b))

-- ---- instructions

-- a byte moved to a register extends its sign
abbrev pub move : World → Regs → Size → ℕ → Place → Result Outcome Failure
move w g Word x d = store w Word g d x
move w g Byte x (InRegister r) = goes_on w (with_reg g r (extend_sign x))
move w g Byte x (InMemory a) = store w Byte g (InMemory a) x
move w g Byte x (InCode a y) = store w Byte g (InCode a y) x

-- a source's value x, and a destination
abbrev pub double : World → Regs → DoubleOp → Size → ℕ → Place → Result Outcome Failure
double w g Mov z x d = move w (by_value g z x false g.c) z x d
double w g Cmp z x d = and_then (load w z g d) (λ y. goes_on w (by_difference g z x y))
double w g Bit z x d = and_then (load w z g d) (λ y. goes_on w (by_value g z (bit_and y x) false g.c))
double w g Bic z x d = and_then (load w z g d) (λ y. let v = y - bit_and y x in store w z (by_value g z v false g.c) d v)
double w g Bis z x d = and_then (load w z g d) (λ y. let v = bit_or y x in store w z (by_value g z v false g.c) d v)

abbrev pub sum : World → Regs → SumOp → ℕ → Place → Result Outcome Failure
sum w g Add x d = and_then (load w Word g d) (λ y. store w Word (by_sum g y x) d (plus Word y x))
sum w g Sub x d = and_then (load w Word g d) (λ y. store w Word (by_difference g Word y x) d (minus Word y x))

abbrev pub single_flags : Regs → SingleOp → Size → ℕ → Regs
single_flags g o z y =
    let x = single_value o z g.c y in
    by_value g z x (single_overflow o z g.c y x) (single_carry o z g.c y x)

-- TST alone writes nothing
abbrev pub single_end : World → Regs → SingleOp → Size → ℕ → Place → Result Outcome Failure
single_end w g Tst z x d = goes_on w g
single_end w g o z x d = store w z g d x

-- a value that is read first
abbrev pub single_read : World → Regs → SingleOp → Size → Place → Result Outcome Failure
single_read w g o z d = and_then (load w z g d) (λ y. single_end w (single_flags g o z y) o z (single_value o z g.c y) d)

-- CLR alone reads nothing
abbrev pub single : World → Regs → SingleOp → Size → Place → Result Outcome Failure
single w g Clr z d = store w z (flags g false true false false) d 0
single w g o z d = single_read w g o z d

abbrev pub on_word : World → Regs → WordOp → Place → Result Outcome Failure
on_word w g Swab d = and_then (load w Word g d) (λ y.
    let x = y % 256 * 256 + y / 256 in
    store w Word (by_value g Byte (x % 256) false false) d x)
on_word w g Sxt d = store w Word (flags g g.n (not g.n) false g.c) d (if g.n then 65535 else 0)

-- ---- a register and an operand

-- the word of a register and that of the next, as 32 bits
abbrev pub pair : Regs → Reg → ℕ
pair g r = slice_index g.r (reg_code r) * 65536 + slice_index g.r (reg_code r + 1)

abbrev pub with_pair : Regs → Reg → ℕ → ℕ → Regs
with_pair g r x y = record g { r = slice_set (slice_set g.r (reg_code r) x) (reg_code r + 1) y }

-- the registers after a product of 32 bits: the pair of an even register, or the low word in an odd one
abbrev pub with_product : Regs → Reg → ℕ → Regs
with_product g r x =
    let f = flags g (nat_le 2147483648 x) (x == 0) false (no_word x) in
    if reg_code r % 2 == 1 then with_reg f r (x % 65536) else with_pair f r (x / 65536) (x % 65536)

-- a divided by b, where b is not 0; where the quotient is too large, N and Z are 0 and no register is written (a choice
-- of this project)
abbrev pub with_quotient : Regs → Reg → ℕ → ℕ → Regs
with_quotient g r a b =
    if too_large a b then flags g false false true false else
    with_pair (by_value g Word (quotient_word a b) false false) r (quotient_word a b) (remainder_word a b)

-- where the divisor is 0, N and Z are 0 and no register is written (a choice of this project)
abbrev pub divided : Regs → Reg → ℕ → Regs
divided g r b = if b == 0 then flags g false false true true else with_quotient g r (pair g r) b

abbrev pub shift_word : Regs → Reg → Shift → Regs
shift_word g r s = with_reg (by_value g Word s.value s.turned s.carry) r s.value

abbrev pub shift_pair : Regs → Reg → Shift → Regs
shift_pair g r s = with_pair (flags g (nat_le 2147483648 s.value) (s.value == 0) s.turned s.carry) r (s.value / 65536) (s.value % 65536)

-- k is the register's word before the operand was addressed, which XOR takes
abbrev pub on_register : World → Regs → ℕ → RegisterOp → Reg → Place → Result Outcome Failure
on_register w g k Mul r p = and_then (load w Word g p) (λ x. goes_on w (with_product g r (product_of (reg g r) x)))
on_register w g k Div r p = and_then (load w Word g p) (λ x. goes_on w (divided g r x))
on_register w g k Ash r p = and_then (load w Word g p) (λ x. goes_on w (shift_word g r (shifted 65536 32768 (reg g r) x)))
on_register w g k Ashc r p = and_then (load w Word g p) (λ x. goes_on w (shift_pair g r (shifted 4294967296 2147483648 (pair g r) x)))
on_register w g k Xor r p = and_then (load w Word g p) (λ x.
    let y = bit_xor x k in
    store w Word (by_value g Word y false g.c) p y)

-- whether an operation is not there for a register: DIV and ASHC want an even one (a choice of this project)
abbrev pub is_odd_pair : RegisterOp → Reg → Bool
is_odd_pair Mul r = false
is_odd_pair Div r = reg_code r % 2 == 1
is_odd_pair Ash r = false
is_odd_pair Ashc r = reg_code r % 2 == 1
is_odd_pair Xor r = false

-- ---- jumps

abbrev pub holds : Regs → Condition → Bool
holds g Always = true
holds g NotEqual = not g.z
holds g Equal = g.z
holds g AtLeast = not (differ g.n g.v)
holds g Less = differ g.n g.v
holds g Greater = not g.z && not (differ g.n g.v)
holds g AtMost = g.z || differ g.n g.v
holds g Plus = not g.n
holds g Minus = g.n
holds g Higher = not g.c && not g.z
holds g LowerSame = g.c || g.z
holds g NoOverflow = not g.v
holds g Overflow = g.v
holds g NoCarry = not g.c
holds g Carry = g.c

abbrev pub branch : Regs → Bool → ℕ → Regs
branch g true n = with_reg g Pc (wrap_add (reg g Pc) (wrap_add (extend_sign n) (extend_sign n)))
branch g false n = g

abbrev pub loop : Regs → Reg → ℕ → Regs
loop g r n =
    let x = wrap_sub (reg g r) 1 in
    let h = with_reg g r x in
    if x == 0 then h else with_reg h Pc (wrap_sub (reg h Pc) (2 * n))

-- flags set or cleared
abbrev pub marked : Regs → Bool → Bool → Bool → Bool → Bool → Regs
marked g u n z v c = flags g (if n then u else g.n) (if z then u else g.z) (if v then u else g.v) (if c then u else g.c)

-- the address of a jump, for an instruction at a place
abbrev pub target : ℕ → Place → Result ℕ Failure
target at (InRegister r) = Err (failure BadJump at)
target at (InMemory a) = Ok a
target at (InCode a x) = Ok a

abbrev pub call : World → Regs → Reg → ℕ → Result Outcome Failure
call w g r a =
    let s = wrap_sub (reg g Sp) 2 in
    and_then (of_memory (word_written w s (reg g r))) (λ w2.
    goes_on w2 (with_reg (with_reg (with_reg g Sp s) r (reg g Pc)) Pc a))

abbrev pub return_by : World → Regs → Reg → Result Outcome Failure
return_by w g r =
    and_then (load_word w (reg g Sp)) (λ x.
    goes_on w (with_reg (with_reg (with_reg g Pc (reg g r)) Sp (wrap_add (reg g Sp) 2)) r x))

abbrev pub trap : ℕ → World → Regs → ℕ → Result Outcome Failure
trap at w g n = if nat_le 1 n && nat_le n 11 then Ok (record { stop = Service n; regs = g; world = w }) else Err (failure Reserved at)

-- a source and a destination: the source is addressed and read before the destination is addressed
abbrev pub double_step : World → Regs → DoubleOp → Size → Operand → Operand → Result Outcome Failure
double_step w g o z s d = and_then (operand w z g s) (λ x. and_then (address w z x.1 d) (λ p. double w p.1 o z x.0 p.0))

abbrev pub sum_step : World → Regs → SumOp → Operand → Operand → Result Outcome Failure
sum_step w g o s d = and_then (operand w Word g s) (λ x. and_then (address w Word x.1 d) (λ p. sum w p.1 o x.0 p.0))

abbrev pub single_step : World → Regs → SingleOp → Size → Operand → Result Outcome Failure
single_step w g o z d = and_then (address w z g d) (λ p. single w p.1 o z p.0)

abbrev pub word_step : World → Regs → WordOp → Operand → Result Outcome Failure
word_step w g o d = and_then (address w Word g d) (λ p. on_word w p.1 o p.0)

abbrev pub register_step : ℕ → World → Regs → RegisterOp → Reg → Operand → Result Outcome Failure
register_step at w g o r s =
    if is_odd_pair o r then Err (failure Reserved at) else and_then (address w Word g s) (λ p. on_register w p.1 (reg g r) o r p.0)

abbrev pub jump_step : ℕ → World → Regs → Operand → Result Outcome Failure
jump_step at w g d = and_then (address w Word g d) (λ p. and_then (target at p.0) (λ a. goes_on w (with_reg p.1 Pc a)))

abbrev pub call_step : ℕ → World → Regs → Reg → Operand → Result Outcome Failure
call_step at w g r d = and_then (address w Word g d) (λ p. and_then (target at p.0) (λ a. call w p.1 r a))

-- the instruction at a place, the registers past its first word
abbrev pub perform : ℕ → World → Regs → Instr → Result Outcome Failure
perform at w g (Double o z s d) = double_step w g o z s d
perform at w g (Sum o s d) = sum_step w g o s d
perform at w g (Single o z d) = single_step w g o z d
perform at w g (OnWord o d) = word_step w g o d
perform at w g (OnRegister o r s) = register_step at w g o r s
perform at w g (Branch c n) = goes_on w (branch g (holds g c) n)
perform at w g (Loop r n) = goes_on w (loop g r n)
perform at w g (Jump d) = jump_step at w g d
perform at w g (Call r d) = call_step at w g r d
perform at w g (Return r) = return_by w g r
perform at w g (Trap n) = trap at w g n
perform at w g (Flags u n z v c) = goes_on w (marked g u n z v c)

-- the instruction that a first word begins
abbrev pub perform_first : ℕ → World → Regs → Option Instr → Result Outcome Failure
perform_first at w g None = Err (failure Reserved at)
perform_first at w g (Some i) = perform at w g i

abbrev pub plan : World → Regs → Result Outcome Failure
plan w g = and_then (next_word w g) (λ n. perform_first (reg g Pc) w n.1 (first_of n.0))

-- nothing changes on a fault
abbrev pub settle : World → Regs → Result Outcome Failure → Outcome
settle w g (Ok o) = o
settle w g (Err f) = record { stop = Fault f.kind f.at; regs = g; world = w }

-- one instruction
abbrev pub execute : World → Regs → Outcome
execute w g = settle w g (plan w g)

-- a value and the registers after it, where there is one
abbrev pub paired : {A B E : Type 0} → Result A E → B → Result (A × B) E
paired (Ok x) g = Ok (x, g)
paired (Err e) g = Err e

-- what an instruction leaves, where there is no fault
abbrev pub left : Result (Unit {0}) Failure → Regs → World → Result Outcome Failure
left (Ok u) g w = goes_on w g
left (Err e) g w = Err e

-- the same of an instruction that may call the monitor
abbrev pub ended : Result Stop Failure → Regs → World → Result Outcome Failure
ended (Ok s) g w = Ok (record { stop = s; regs = g; world = w })
ended (Err e) g w = Err e
