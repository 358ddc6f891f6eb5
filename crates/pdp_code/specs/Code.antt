-- The words of an instruction.
use Rattle.std.specs.Prelude.{ℕ, ◌+◌, ◌*◌, ◌<◌, Bool, true, false, List, [], ◌∷◌, ◌++◌}
use Rattle.pdp_code.specs.declared.instruction.Reg.{Reg}
use Rattle.pdp_code.specs.declared.instruction.Reg.TheVariants.{R0, R1, R2, R3, R4, R5, Sp, Pc}
use Rattle.pdp_code.specs.declared.instruction.Pointer.{Pointer}
use Rattle.pdp_code.specs.declared.instruction.Pointer.TheVariants.{P0, P1, P2, P3, P4, P5, PSp}
use Rattle.pdp_code.specs.declared.instruction.Operand.{Operand}
use Rattle.pdp_code.specs.declared.instruction.Operand.TheVariants.{Register, Deferred, Increment, IncrementDeferred, Decrement, DecrementDeferred, Index, IndexDeferred, Immediate, Absolute}
use Rattle.pdp_code.specs.declared.instruction.Size.{Size}
use Rattle.pdp_code.specs.declared.instruction.Size.TheVariants.{Word, Byte}
use Rattle.pdp_code.specs.declared.instruction.DoubleOp.{DoubleOp}
use Rattle.pdp_code.specs.declared.instruction.DoubleOp.TheVariants.{Mov, Cmp, Bit, Bic, Bis}
use Rattle.pdp_code.specs.declared.instruction.SumOp.{SumOp}
use Rattle.pdp_code.specs.declared.instruction.SumOp.TheVariants.{Add, Sub}
use Rattle.pdp_code.specs.declared.instruction.SingleOp.{SingleOp}
use Rattle.pdp_code.specs.declared.instruction.SingleOp.TheVariants.{Clr, Com, Inc, Dec, Neg, Adc, Sbc, Tst, Ror, Rol, Asr, Asl}
use Rattle.pdp_code.specs.declared.instruction.WordOp.{WordOp}
use Rattle.pdp_code.specs.declared.instruction.WordOp.TheVariants.{Swab, Sxt}
use Rattle.pdp_code.specs.declared.instruction.RegisterOp.{RegisterOp}
use Rattle.pdp_code.specs.declared.instruction.RegisterOp.TheVariants.{Mul, Div, Ash, Ashc, Xor}
use Rattle.pdp_code.specs.declared.instruction.Condition.{Condition}
use Rattle.pdp_code.specs.declared.instruction.Condition.TheVariants.{Always, NotEqual, Equal, AtLeast, Less, Greater, AtMost, Plus, Minus, Higher, LowerSame, NoOverflow, Overflow, NoCarry, Carry}
use Rattle.pdp_code.specs.declared.instruction.Instr.{Instr}
use Rattle.pdp_code.specs.declared.instruction.Instr.TheVariants.{Double, Sum, Single, OnWord, OnRegister, Branch, Loop, Jump, Call, Return, Trap, Flags}

-- a register's number
abbrev pub reg_code : Reg → ℕ
reg_code R0 = 0
reg_code R1 = 1
reg_code R2 = 2
reg_code R3 = 3
reg_code R4 = 4
reg_code R5 = 5
reg_code Sp = 6
reg_code Pc = 7

abbrev pub pointer_code : Pointer → ℕ
pointer_code P0 = 0
pointer_code P1 = 1
pointer_code P2 = 2
pointer_code P3 = 3
pointer_code P4 = 4
pointer_code P5 = 5
pointer_code PSp = 6

-- the six bits of an operand
abbrev pub operand_code : Operand → ℕ
operand_code (Register r) = reg_code r
operand_code (Deferred r) = 0o10 + reg_code r
operand_code (Increment p) = 0o20 + pointer_code p
operand_code (IncrementDeferred p) = 0o30 + pointer_code p
operand_code (Decrement r) = 0o40 + reg_code r
operand_code (DecrementDeferred r) = 0o50 + reg_code r
operand_code (Index r x) = 0o60 + reg_code r
operand_code (IndexDeferred r x) = 0o70 + reg_code r
operand_code (Immediate x) = 0o27
operand_code (Absolute x) = 0o37

-- the words that follow the instruction for an operand
abbrev pub operand_words : Operand → List ℕ
operand_words (Register r) = []
operand_words (Deferred r) = []
operand_words (Increment p) = []
operand_words (IncrementDeferred p) = []
operand_words (Decrement r) = []
operand_words (DecrementDeferred r) = []
operand_words (Index r x) = x ∷ []
operand_words (IndexDeferred r x) = x ∷ []
operand_words (Immediate x) = x ∷ []
operand_words (Absolute x) = x ∷ []

abbrev pub size_code : Size → ℕ
size_code Word = 0
size_code Byte = 1

-- the low three of the top four bits
abbrev pub double_code : DoubleOp → ℕ
double_code Mov = 0o1
double_code Cmp = 0o2
double_code Bit = 0o3
double_code Bic = 0o4
double_code Bis = 0o5

-- the top four bits
abbrev pub sum_code : SumOp → ℕ
sum_code Add = 0o6
sum_code Sub = 0o16

-- the low nine of the top ten bits
abbrev pub single_code : SingleOp → ℕ
single_code Clr = 0o50
single_code Com = 0o51
single_code Inc = 0o52
single_code Dec = 0o53
single_code Neg = 0o54
single_code Adc = 0o55
single_code Sbc = 0o56
single_code Tst = 0o57
single_code Ror = 0o60
single_code Rol = 0o61
single_code Asr = 0o62
single_code Asl = 0o63

-- the top ten bits
abbrev pub word_code : WordOp → ℕ
word_code Swab = 0o3
word_code Sxt = 0o67

-- the top seven bits
abbrev pub register_code : RegisterOp → ℕ
register_code Mul = 0o70
register_code Div = 0o71
register_code Ash = 0o72
register_code Ashc = 0o73
register_code Xor = 0o74

-- the top eight bits
abbrev pub condition_code : Condition → ℕ
condition_code Always = 0o1
condition_code NotEqual = 0o2
condition_code Equal = 0o3
condition_code AtLeast = 0o4
condition_code Less = 0o5
condition_code Greater = 0o6
condition_code AtMost = 0o7
condition_code Plus = 0o200
condition_code Minus = 0o201
condition_code Higher = 0o202
condition_code LowerSame = 0o203
condition_code NoOverflow = 0o204
condition_code Overflow = 0o205
condition_code NoCarry = 0o206
condition_code Carry = 0o207

abbrev pub bit_code : Bool → ℕ
bit_code true = 1
bit_code false = 0

-- the first word
abbrev pub first_word : Instr → ℕ
first_word (Double o z s d) = (size_code z * 8 + double_code o) * 4096 + (operand_code s * 64 + operand_code d)
first_word (Sum o s d) = sum_code o * 4096 + (operand_code s * 64 + operand_code d)
first_word (Single o z d) = (size_code z * 512 + single_code o) * 64 + operand_code d
first_word (OnWord o d) = word_code o * 64 + operand_code d
first_word (OnRegister o r s) = register_code o * 512 + (reg_code r * 64 + operand_code s)
first_word (Branch c n) = condition_code c * 256 + n
first_word (Loop r n) = 0o77 * 512 + (reg_code r * 64 + n)
first_word (Jump d) = 0o0001 * 64 + operand_code d
first_word (Call r d) = 0o004 * 512 + (reg_code r * 64 + operand_code d)
first_word (Return r) = 0o00020 * 8 + reg_code r
first_word (Trap n) = 0o211 * 256 + n
first_word (Flags u n z v c) = 0o0005 * 32 + (bit_code u * 16 + (bit_code n * 8 + (bit_code z * 4 + (bit_code v * 2 + bit_code c))))

-- the words that follow the first
abbrev pub more_words : Instr → List ℕ
more_words (Double o z s d) = operand_words s ++ operand_words d
more_words (Sum o s d) = operand_words s ++ operand_words d
more_words (Single o z d) = operand_words d
more_words (OnWord o d) = operand_words d
more_words (OnRegister o r s) = operand_words s
more_words (Branch c n) = []
more_words (Loop r n) = []
more_words (Jump d) = operand_words d
more_words (Call r d) = operand_words d
more_words (Return r) = []
more_words (Trap n) = []
more_words (Flags u n z v c) = []

-- all words of an instruction
abbrev pub words_of : Instr → List ℕ
words_of i = first_word i ∷ more_words i

-- whether the distance of a loop fits its six bits, and that of a branch and the number of a trap their eight
abbrev pub IsCodable : Instr → Type 0
IsCodable (Double o z s d) = Unit {0}
IsCodable (Sum o s d) = Unit {0}
IsCodable (Single o z d) = Unit {0}
IsCodable (OnWord o d) = Unit {0}
IsCodable (OnRegister o r s) = Unit {0}
IsCodable (Branch c n) = n < 256
IsCodable (Loop r n) = n < 64
IsCodable (Jump d) = Unit {0}
IsCodable (Call r d) = Unit {0}
IsCodable (Return r) = Unit {0}
IsCodable (Trap n) = n < 256
IsCodable (Flags u n z v c) = Unit {0}
