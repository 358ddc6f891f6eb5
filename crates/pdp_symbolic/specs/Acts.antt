-- What an instruction asks of the memory and leaves of a task, as templates see it.
use Rattle.std.specs.Prelude.{ℕ, ◌+◌, ◌-◌, ◌*◌, ◌/◌, ◌%◌, Bool, true, false, ◌==◌, ◌&&◌, nat_lt, nat_le, not, if◌then◌else◌, List, [], ◌∷◌, length, bit_and, bit_or, bit_xor}
use Rattle.rt_words.specs.Word.{wrap_add, wrap_sub, is_negative, extend_sign, with_low_byte, differ}
use Rattle.pdp_code.specs.declared.instruction.Reg.{Reg}
use Rattle.pdp_code.specs.declared.instruction.Reg.TheVariants.{R0, R1, R2, R3, R4, R5, Sp, Pc}
use Rattle.pdp_code.specs.declared.instruction.Pointer.TheVariants.{PSp}
use Rattle.pdp_code.specs.declared.instruction.Operand.{Operand}
use Rattle.pdp_code.specs.declared.instruction.Operand.TheVariants.{Register, Deferred, Increment, IncrementDeferred, Decrement, Index, IndexDeferred, Immediate, Absolute}
use Rattle.pdp_code.specs.declared.instruction.Size.{Size}
use Rattle.pdp_code.specs.declared.instruction.Size.TheVariants.{Word, Byte}
use Rattle.pdp_code.specs.declared.instruction.DoubleOp.{DoubleOp}
use Rattle.pdp_code.specs.declared.instruction.DoubleOp.TheVariants.{Mov, Cmp, Bit, Bic, Bis}
use Rattle.pdp_code.specs.declared.instruction.SumOp.{SumOp}
use Rattle.pdp_code.specs.declared.instruction.SumOp.TheVariants.{Add, Sub}
use Rattle.pdp_code.specs.declared.instruction.SingleOp.{SingleOp}
use Rattle.pdp_code.specs.declared.instruction.SingleOp.TheVariants.{Clr, Tst}
use Rattle.pdp_code.specs.declared.instruction.WordOp.{WordOp}
use Rattle.pdp_code.specs.declared.instruction.WordOp.TheVariants.{Swab, Sxt}
use Rattle.pdp_code.specs.declared.instruction.RegisterOp.{RegisterOp}
use Rattle.pdp_code.specs.declared.instruction.RegisterOp.TheVariants.{Mul, Div, Ash, Ashc, Xor}
use Rattle.pdp_code.specs.declared.instruction.Instr.{Instr}
use Rattle.pdp_code.specs.declared.instruction.Instr.TheVariants.{Double, Sum, Single, OnWord, OnRegister, Branch, Loop, Jump, Call, Return, Trap, Flags}
use Rattle.pdp_code.specs.Values.{single_value, single_carry, single_overflow, product_of, no_word, too_large, quotient_word, remainder_word, shifted}
use Rattle.pdp_core.specs.Execute.{reg, holds}
use Rattle.pdp_symbolic.specs.Machine.{Machine, regs}

-- what an instruction asks, one thing after another
pub data Act : Type 0 where
  -- nothing more, and the task is then this
  Quiet : Machine → Act
  -- a word or byte of the shared data is read
  Reads : ℕ → (ℕ → Act) → Act
  ReadsByte : ℕ → (ℕ → Act) → Act
  -- a word or byte of the shared data is written, and the task is then this
  Writes : ℕ → ℕ → Machine → Act
  WritesByte : ℕ → ℕ → Machine → Act
  -- a word of the task's own stack is used, by its address
  ReadsOwn : ℕ → Machine → (ℕ → Act) → Act
  WritesOwn : ℕ → ℕ → Machine → Act
  -- a word of its block is used, by its distance from the block's first byte
  ReadsBlock : ℕ → Machine → (ℕ → Act) → Act
  WritesBlock : ℕ → ℕ → Machine → Act
  -- the stack pointer is moved up to an address of the stack
  Cuts : ℕ → Machine → Act
  -- the stack grows to this many words
  Grows : ℕ → Act → Act
  -- by a flag
  Splits : Bool → Act → Act → Act
  -- a service of the monitor, with the task as it then is
  Asks : ℕ → Machine → Act
  -- no template does this, and nothing is said of it
  Lost : Act

-- where a result goes
pub data Target : Type 0 where
  ToReg : Reg → Target
  ToPush : Target
  ToTop : Target
  ToOwn : ℕ → Target
  ToBlock : ℕ → Target
  -- a word that was popped, by its address, which is only read
  ToPopped : ℕ → ℕ → Target
  -- a word of the code, by its address, which is only read
  ToFixed : ℕ → ℕ → Target
  ToShared : ℕ → Target

-- a word put in a register; R4 stays the block
abbrev pub put_reg : Machine → Reg → ℕ → Act
put_reg t R0 x = Quiet (record t { r0 = x })
put_reg t R1 x = Quiet (record t { r1 = x })
put_reg t R2 x = Quiet (record t { r2 = x })
put_reg t R3 x = Quiet (record t { r3 = x })
put_reg t R4 x = Lost
put_reg t R5 x = Quiet (record t { r5 = x })
put_reg t Sp x = Cuts x t
put_reg t Pc x = Lost

abbrev pub past : Machine → Machine
past t = record t { pc = wrap_add t.pc 2 }

abbrev pub popped : Machine → List ℕ → Machine
popped t ws = record t { sp = wrap_add t.sp 2; stack = ws }

abbrev pub pop : Machine → List ℕ → (ℕ → Machine → Act) → Act
pop t [] k = Lost
pop t (w ∷ ws) k = k w (popped t ws)

abbrev pub top : Machine → List ℕ → (ℕ → Act) → Act
top t [] k = Lost
top t (w ∷ ws) k = k w

-- the value of a word operand, and the task past it
abbrev pub source : Operand → Machine → (ℕ → Machine → Act) → Act
source (Register r) t k = k (reg (regs t) r) t
source (Deferred R0) t k = Reads t.r0 (λ x. k x t)
source (Deferred R1) t k = Reads t.r1 (λ x. k x t)
source (Deferred R4) t k = ReadsBlock 0 t (λ x. k x t)
source (Deferred Sp) t k = top t t.stack (λ x. k x t)
source (Increment PSp) t k = pop t t.stack k
source (IncrementDeferred PSp) t k = pop t t.stack (λ a u. Reads a (λ x. k x u))
source (Index R0 x) t k = Reads (wrap_add x t.r0) (λ y. k y (past t))
source (Index R1 x) t k = ReadsOwn (wrap_add x t.r1) t (λ y. k y (past t))
source (Index R4 x) t k = ReadsBlock x t (λ y. k y (past t))
source (Index R5 x) t k = ReadsOwn (wrap_add x t.r5) t (λ y. k y (past t))
source (Index Sp x) t k = ReadsOwn (wrap_add x t.sp) t (λ y. k y (past t))
source (Immediate x) t k = k x (past t)
source (Absolute x) t k = Reads x (λ y. k y (past t))
source o t k = Lost

-- the value of a byte operand; of a word of the stack it is the low byte
abbrev pub byte_source : Operand → Machine → (ℕ → Machine → Act) → Act
byte_source (Register r) t k = k (reg (regs t) r % 256) t
byte_source (Deferred R0) t k = ReadsByte t.r0 (λ x. k x t)
byte_source (Deferred R1) t k = ReadsByte t.r1 (λ x. k x t)
byte_source (Increment PSp) t k = pop t t.stack (λ x u. k (x % 256) u)
byte_source (Absolute x) t k = ReadsByte x (λ y. k y (past t))
byte_source o t k = Lost

-- where a word operand is, and the task past it
abbrev pub aim : Operand → Machine → (Target → Machine → Act) → Act
aim (Register r) t k = k (ToReg r) t
aim (Deferred R0) t k = k (ToShared t.r0) t
aim (Deferred R1) t k = k (ToShared t.r1) t
aim (Deferred R4) t k = k (ToBlock 0) t
aim (Deferred Sp) t k = k ToTop t
aim (Increment PSp) t k = pop t t.stack (λ x u. k (ToPopped t.sp x) u)
aim (IncrementDeferred PSp) t k = pop t t.stack (λ a u. k (ToShared a) u)
aim (Decrement Sp) t k = Grows (1 + length t.stack) (k ToPush (record t { sp = wrap_sub t.sp 2 }))
aim (Index R0 x) t k = k (ToShared (wrap_add x t.r0)) (past t)
aim (Index R1 x) t k = k (ToOwn (wrap_add x t.r1)) (past t)
aim (Index R4 x) t k = k (ToBlock x) (past t)
aim (Index R5 x) t k = k (ToOwn (wrap_add x t.r5)) (past t)
aim (Index Sp x) t k = k (ToOwn (wrap_add x t.sp)) (past t)
aim (IndexDeferred Sp x) t k = ReadsOwn (wrap_add x t.sp) t (λ a. k (ToShared a) (past t))
aim (Immediate x) t k = k (ToFixed t.pc x) (past t)
aim (Absolute x) t k = k (ToShared x) (past t)
aim o t k = Lost

-- the word there
abbrev pub look : Target → Machine → (ℕ → Act) → Act
look (ToReg r) t k = k (reg (regs t) r)
look ToPush t k = Lost
look ToTop t k = top t t.stack k
look (ToOwn a) t k = ReadsOwn a t k
look (ToBlock x) t k = ReadsBlock x t k
look (ToPopped a x) t k = k x
look (ToFixed a x) t k = k x
look (ToShared a) t k = Reads a k

abbrev pub replaced : Machine → List ℕ → ℕ → Act
replaced t [] x = Lost
replaced t (w ∷ ws) x = Quiet (record t { stack = x ∷ ws })

-- a word put there
abbrev pub put : Target → Machine → ℕ → Act
put (ToReg r) t x = put_reg t r x
put ToPush t x = Quiet (record t { stack = x ∷ t.stack })
put ToTop t x = replaced t t.stack x
put (ToOwn a) t x = WritesOwn a x t
put (ToBlock y) t x = WritesBlock y x t
put (ToPopped a y) t x = Lost
put (ToFixed a y) t x = Lost
put (ToShared a) t x = Writes a x t

abbrev pub flagged : Machine → ℕ → Bool → Bool → Machine
flagged t x v c = record t { n = is_negative x; z = x == 0; v = v; c = c }

abbrev pub flagged_byte : Machine → ℕ → Bool → Bool → Machine
flagged_byte t x v c = record t { n = nat_le 128 x; z = x == 0; v = v; c = c }

abbrev pub flagged_difference : Machine → ℕ → ℕ → Machine
flagged_difference t a b =
    let x = wrap_sub a b in
    flagged t x (differ (is_negative a) (is_negative b) && not (differ (is_negative x) (is_negative b))) (nat_lt a b)

abbrev pub flagged_sum : Machine → ℕ → ℕ → Machine
flagged_sum t a b =
    let x = wrap_add a b in
    flagged t x (not (differ (is_negative a) (is_negative b)) && differ (is_negative x) (is_negative b)) (nat_le 65536 (a + b))

-- a source's value x, and a destination, of words
abbrev pub on_two : DoubleOp → ℕ → Target → Machine → Act
on_two Mov x d t = put d (flagged t x false t.c) x
on_two Cmp x d t = look d t (λ y. Quiet (flagged_difference t x y))
on_two Bit x d t = look d t (λ y. Quiet (flagged t (bit_and y x) false t.c))
on_two Bic x d t = look d t (λ y. let w = y - bit_and y x in put d (flagged t w false t.c) w)
on_two Bis x d t = look d t (λ y. let w = bit_or y x in put d (flagged t w false t.c) w)

abbrev pub on_sum : SumOp → ℕ → Target → Machine → Act
on_sum Add x d t = look d t (λ y. put d (flagged_sum t y x) (wrap_add y x))
on_sum Sub x d t = look d t (λ y. put d (flagged_difference t y x) (wrap_sub y x))

-- a byte put into the word on top of the stack
abbrev pub replaced_low : Machine → List ℕ → ℕ → Act
replaced_low t [] x = Lost
replaced_low t (w ∷ ws) x = Quiet (record t { stack = with_low_byte w x ∷ ws })

-- a byte moved: in a register its sign is extended
abbrev pub move_byte : ℕ → Operand → Machine → Act
move_byte x (Register r) t = put_reg (flagged_byte t x false t.c) r (extend_sign x)
move_byte x (Deferred R0) t = WritesByte t.r0 x (flagged_byte t x false t.c)
move_byte x (Deferred R1) t = WritesByte t.r1 x (flagged_byte t x false t.c)
move_byte x (Deferred Sp) t = replaced_low (flagged_byte t x false t.c) t.stack x
move_byte x (IncrementDeferred PSp) t = pop t t.stack (λ a u. WritesByte a x (flagged_byte u x false u.c))
move_byte x (Absolute a) t = WritesByte a x (flagged_byte (past t) x false t.c)
move_byte x o t = Lost

abbrev pub double_bytes : DoubleOp → Operand → Operand → Machine → Act
double_bytes Mov s d t = byte_source s t (λ x u. move_byte x d u)
double_bytes o s d t = Lost

abbrev pub act_double : Size → DoubleOp → Operand → Operand → Machine → Act
act_double Word o s d t = source s t (λ x u. aim d u (λ p v. on_two o x p v))
act_double Byte o s d t = double_bytes o s d t

-- the task after an operation on y
abbrev pub flagged_one : Machine → SingleOp → ℕ → Machine
flagged_one t o y =
    let x = single_value o Word t.c y in
    flagged t x (single_overflow o Word t.c y x) (single_carry o Word t.c y x)

abbrev pub put_one : SingleOp → Target → Machine → ℕ → Act
put_one Tst d t x = Quiet t
put_one o d t x = put d t x

abbrev pub on_one : SingleOp → Target → Machine → Act
on_one Clr d t = put d (record t { n = false; z = true; v = false; c = false }) 0
on_one o d t = look d t (λ y. put_one o d (flagged_one t o y) (single_value o Word t.c y))

abbrev pub act_single : Size → SingleOp → Operand → Machine → Act
act_single Word o d t = aim d t (λ p v. on_one o p v)
act_single Byte o d t = Lost

abbrev pub on_words : WordOp → Target → Machine → Act
on_words Swab d t = look d t (λ y. let x = y % 256 * 256 + y / 256 in put d (flagged_byte t (x % 256) false false) x)
on_words Sxt d t = put d (record t { z = not t.n; v = false }) (if t.n then 65535 else 0)

-- the flags of a product
abbrev pub flagged_product : Machine → ℕ → Machine
flagged_product t y = record t { n = nat_le 2147483648 y; z = y == 0; v = false; c = no_word y }

abbrev pub multiplied : Reg → ℕ → Machine → Act
multiplied R0 x t = let y = product_of t.r0 x in Quiet (record (flagged_product t y) { r0 = y / 65536; r1 = y % 65536 })
multiplied R1 x t = let y = product_of t.r1 x in Quiet (record (flagged_product t y) { r1 = y % 65536 })
multiplied R2 x t = let y = product_of t.r2 x in Quiet (record (flagged_product t y) { r2 = y / 65536; r3 = y % 65536 })
multiplied R3 x t = let y = product_of t.r3 x in Quiet (record (flagged_product t y) { r3 = y % 65536 })
multiplied r x t = Lost

abbrev pub shifted_by : Reg → ℕ → Machine → Act
shifted_by R0 x t = let s = shifted 65536 32768 t.r0 x in Quiet (record (flagged t s.value s.turned s.carry) { r0 = s.value })
shifted_by R1 x t = let s = shifted 65536 32768 t.r1 x in Quiet (record (flagged t s.value s.turned s.carry) { r1 = s.value })
shifted_by r x t = Lost

abbrev pub shifted_pair : Reg → ℕ → Machine → Act
shifted_pair R0 x t =
    let s = shifted 4294967296 2147483648 (t.r0 * 65536 + t.r1) x in
    Quiet (record t { r0 = s.value / 65536; r1 = s.value % 65536; n = nat_le 2147483648 s.value; z = s.value == 0; v = s.turned; c = s.carry })
shifted_pair r x t = Lost

abbrev pub divided_by : Reg → ℕ → Machine → Act
divided_by R0 b t =
    let a = t.r0 * 65536 + t.r1 in
    Splits (b == 0) (Quiet (record t { n = false; z = false; v = true; c = true }))
    (Splits (too_large a b) (Quiet (record t { n = false; z = false; v = true; c = false }))
    (Quiet (record (flagged t (quotient_word a b) false false) { r0 = quotient_word a b; r1 = remainder_word a b })))
divided_by r b t = Lost

-- k is the register's word before the operand was addressed, which XOR takes
abbrev pub on_reg : ℕ → RegisterOp → Reg → Target → Machine → Act
on_reg k Mul r p t = look p t (λ x. multiplied r x t)
on_reg k Div r p t = look p t (λ x. divided_by r x t)
on_reg k Ash r p t = look p t (λ x. shifted_by r x t)
on_reg k Ashc r p t = look p t (λ x. shifted_pair r x t)
on_reg k Xor r p t = look p t (λ x. let y = bit_xor x k in put p (flagged t y false t.c) y)

abbrev pub on_even : Reg → Act → Act
on_even R0 a = a
on_even r a = Lost

abbrev pub act_register : RegisterOp → Reg → Operand → Machine → Act
act_register Mul r s t = aim s t (λ p u. on_reg (reg (regs t) r) Mul r p u)
act_register Div r s t = on_even r (aim s t (λ p u. on_reg (reg (regs t) r) Div r p u))
act_register Ash r s t = aim s t (λ p u. on_reg (reg (regs t) r) Ash r p u)
act_register Ashc r s t = on_even r (aim s t (λ p u. on_reg (reg (regs t) r) Ashc r p u))
act_register Xor r s t = aim s t (λ p u. on_reg (reg (regs t) r) Xor r p u)

-- where a jump leads
abbrev pub jumped : Operand → Machine → (ℕ → Machine → Act) → Act
jumped (Deferred R0) t k = k t.r0 t
jumped (IncrementDeferred PSp) t k = pop t t.stack k
jumped (IndexDeferred R1 x) t k = ReadsOwn (wrap_add x t.r1) t (λ a. k a (past t))
jumped (Absolute a) t k = k a (past t)
jumped o t k = Lost

abbrev pub act_call : Reg → ℕ → Machine → Act
act_call Pc a t = Grows (1 + length t.stack) (Quiet (record t { sp = wrap_sub t.sp 2; stack = t.pc ∷ t.stack; pc = a }))
act_call r a t = Lost

abbrev pub act_return : Reg → Machine → Act
act_return Pc t = pop t t.stack (λ x u. Quiet (record u { pc = x }))
act_return r t = Lost

abbrev pub act_loop : Reg → ℕ → Machine → Act
act_loop R0 n t = let x = wrap_sub t.r0 1 in Splits (x == 0) (Quiet (record t { r0 = x })) (Quiet (record t { r0 = x; pc = wrap_sub t.pc (2 * n) }))
act_loop r n t = Lost

-- past the first word
abbrev pub act_on : Instr → Machine → Act
act_on (Double o z s d) t = act_double z o s d t
act_on (Sum o s d) t = source s t (λ x u. aim d u (λ p v. on_sum o x p v))
act_on (Single o z d) t = act_single z o d t
act_on (OnWord o d) t = aim d t (λ p v. on_words o p v)
act_on (OnRegister o r s) t = act_register o r s t
act_on (Branch c n) t = Splits (holds (regs t) c) (Quiet (record t { pc = wrap_add t.pc (wrap_add (extend_sign n) (extend_sign n)) })) (Quiet t)
act_on (Loop r n) t = act_loop r n t
act_on (Jump d) t = jumped d t (λ a u. Quiet (record u { pc = a }))
act_on (Call r d) t = jumped d t (λ a u. act_call r a u)
act_on (Return r) t = act_return r t
act_on (Trap n) t = Asks n t
act_on (Flags u n z v c) t = Quiet (record t { n = if n then u else t.n; z = if z then u else t.z; v = if v then u else t.v; c = if c then u else t.c })

abbrev pub act : Instr → Machine → Act
act i t = act_on i (past t)
