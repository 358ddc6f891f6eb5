-- The texts of the instructions, as a listing has them.
use Rattle.std.specs.Prelude.{ℕ, ◌+◌, ◌-◌, ◌*◌, ◌/◌, ◌%◌, nat_lt, nat_le, if◌then◌else◌, List, [], ◌∷◌, ◌++◌, codes, decimal}
use Rattle.pdp_code.specs.declared.instruction.Reg.{Reg}
use Rattle.pdp_code.specs.declared.instruction.Reg.TheVariants.{R0, R1, R2, R3, R4, R5, Sp, Pc}
use Rattle.pdp_code.specs.declared.instruction.Pointer.{Pointer}
use Rattle.pdp_code.specs.declared.instruction.Pointer.TheVariants.{P0, P1, P2, P3, P4, P5, PSp}
use Rattle.pdp_code.specs.declared.instruction.Operand.{Operand}
use Rattle.pdp_code.specs.declared.instruction.Operand.TheVariants.{Register, Deferred, Increment, IncrementDeferred, Decrement, DecrementDeferred, Index, IndexDeferred, Immediate, Absolute}
use Rattle.pdp_code.specs.declared.instruction.Size.{Size}
use Rattle.pdp_code.specs.declared.instruction.Size.TheVariants.{Word, Byte}
use Rattle.pdp_code.specs.declared.instruction.DoubleOp.{DoubleOp}
use Rattle.pdp_code.specs.declared.instruction.DoubleOp.TheVariants.{Mov, Cmp, Bit, Bic, Bis}
use Rattle.pdp_code.specs.declared.instruction.SumOp.{SumOp}
use Rattle.pdp_code.specs.declared.instruction.SumOp.TheVariants.{Add, Sub}
use Rattle.pdp_code.specs.declared.instruction.SingleOp.{SingleOp}
use Rattle.pdp_code.specs.declared.instruction.SingleOp.TheVariants.{Clr, Com, Inc, Dec, Neg, Adc, Sbc, Tst, Ror, Rol, Asr, Asl}
use Rattle.pdp_code.specs.declared.instruction.WordOp.{WordOp}
use Rattle.pdp_code.specs.declared.instruction.WordOp.TheVariants.{Swab, Sxt}
use Rattle.pdp_code.specs.declared.instruction.RegisterOp.{RegisterOp}
use Rattle.pdp_code.specs.declared.instruction.RegisterOp.TheVariants.{Mul, Div, Ash, Ashc, Xor}
use Rattle.pdp_code.specs.declared.instruction.Condition.{Condition}
use Rattle.pdp_code.specs.declared.instruction.Condition.TheVariants.{Always, NotEqual, Equal, AtLeast, Less, Greater, AtMost, Plus, Minus, Higher, LowerSame, NoOverflow, Overflow, NoCarry, Carry}
use Rattle.pdp_code.specs.declared.instruction.Instr.{Instr}
use Rattle.pdp_code.specs.declared.instruction.Instr.TheVariants.{Double, Sum, Single, OnWord, OnRegister, Branch, Loop, Jump, Call, Return, Trap, Flags}
use Rattle.pdp_code.specs.Code.{first_word}

-- ---- names

abbrev pub reg_name : Reg → List ℕ
reg_name R0 = codes "R0"
reg_name R1 = codes "R1"
reg_name R2 = codes "R2"
reg_name R3 = codes "R3"
reg_name R4 = codes "R4"
reg_name R5 = codes "R5"
reg_name Sp = codes "SP"
reg_name Pc = codes "PC"

abbrev pub pointer_name : Pointer → List ℕ
pointer_name P0 = codes "R0"
pointer_name P1 = codes "R1"
pointer_name P2 = codes "R2"
pointer_name P3 = codes "R3"
pointer_name P4 = codes "R4"
pointer_name P5 = codes "R5"
pointer_name PSp = codes "SP"

abbrev pub double_name : DoubleOp → List ℕ
double_name Mov = codes "MOV"
double_name Cmp = codes "CMP"
double_name Bit = codes "BIT"
double_name Bic = codes "BIC"
double_name Bis = codes "BIS"

abbrev pub sum_name : SumOp → List ℕ
sum_name Add = codes "ADD"
sum_name Sub = codes "SUB"

abbrev pub single_name : SingleOp → List ℕ
single_name Clr = codes "CLR"
single_name Com = codes "COM"
single_name Inc = codes "INC"
single_name Dec = codes "DEC"
single_name Neg = codes "NEG"
single_name Adc = codes "ADC"
single_name Sbc = codes "SBC"
single_name Tst = codes "TST"
single_name Ror = codes "ROR"
single_name Rol = codes "ROL"
single_name Asr = codes "ASR"
single_name Asl = codes "ASL"

abbrev pub word_name : WordOp → List ℕ
word_name Swab = codes "SWAB"
word_name Sxt = codes "SXT"

abbrev pub register_name : RegisterOp → List ℕ
register_name Mul = codes "MUL"
register_name Div = codes "DIV"
register_name Ash = codes "ASH"
register_name Ashc = codes "ASHC"
register_name Xor = codes "XOR"

abbrev pub condition_name : Condition → List ℕ
condition_name Always = codes "BR"
condition_name NotEqual = codes "BNE"
condition_name Equal = codes "BEQ"
condition_name AtLeast = codes "BGE"
condition_name Less = codes "BLT"
condition_name Greater = codes "BGT"
condition_name AtMost = codes "BLE"
condition_name Plus = codes "BPL"
condition_name Minus = codes "BMI"
condition_name Higher = codes "BHI"
condition_name LowerSame = codes "BLOS"
condition_name NoOverflow = codes "BVC"
condition_name Overflow = codes "BVS"
condition_name NoCarry = codes "BCC"
condition_name Carry = codes "BCS"

-- byte forms have a B at the end
abbrev pub size_mark : Size → List ℕ
size_mark Word = []
size_mark Byte = codes "B"

-- ---- operands

-- an octal digit, the lowest of a number
abbrev pub octal_digit : ℕ → ℕ
octal_digit n = 48 + n % 8

-- the six octal digits of a word
abbrev pub octal : ℕ → List ℕ
octal n = octal_digit (n / 0o100000) ∷ octal_digit (n / 0o10000) ∷ octal_digit (n / 0o1000) ∷ octal_digit (n / 0o100) ∷ octal_digit (n / 0o10) ∷ octal_digit n ∷ []

abbrev pub in_brackets : List ℕ → List ℕ
in_brackets name = codes "(" ++ name ++ codes ")"

abbrev pub operand_text : Operand → List ℕ
operand_text (Register r) = reg_name r
operand_text (Deferred r) = in_brackets (reg_name r)
operand_text (Increment p) = in_brackets (pointer_name p) ++ codes "+"
operand_text (IncrementDeferred p) = codes "@" ++ in_brackets (pointer_name p) ++ codes "+"
operand_text (Decrement r) = codes "-" ++ in_brackets (reg_name r)
operand_text (DecrementDeferred r) = codes "@-" ++ in_brackets (reg_name r)
operand_text (Index r x) = octal x ++ in_brackets (reg_name r)
operand_text (IndexDeferred r x) = codes "@" ++ octal x ++ in_brackets (reg_name r)
operand_text (Immediate x) = codes "#" ++ octal x
operand_text (Absolute x) = codes "@#" ++ octal x

-- a place so many bytes ahead of the instruction, less so many bytes
abbrev pub target_text : ℕ → ℕ → List ℕ
target_text ahead back = if nat_le back ahead then codes ".+" ++ decimal (ahead - back) else codes ".-" ++ decimal (back - ahead)

-- a branch counts words from the next instruction, by a byte in two's complement
abbrev pub branch_text : ℕ → List ℕ
branch_text n = target_text (2 + 2 * n) (if nat_lt n 128 then 0 else 512)

-- SOB counts words back from the next instruction
abbrev pub loop_text : ℕ → List ℕ
loop_text n = target_text 2 (2 * n)

-- ---- instructions

abbrev pub with_one : List ℕ → List ℕ → List ℕ
with_one name a = name ++ codes " " ++ a

abbrev pub with_two : List ℕ → List ℕ → List ℕ → List ℕ
with_two name a b = name ++ codes " " ++ a ++ codes "," ++ b

-- a register and an operand: XOR has the register first, the others last
abbrev pub register_text : RegisterOp → Reg → Operand → List ℕ
register_text Xor r s = with_two (register_name Xor) (reg_name r) (operand_text s)
register_text Mul r s = with_two (register_name Mul) (operand_text s) (reg_name r)
register_text Div r s = with_two (register_name Div) (operand_text s) (reg_name r)
register_text Ash r s = with_two (register_name Ash) (operand_text s) (reg_name r)
register_text Ashc r s = with_two (register_name Ashc) (operand_text s) (reg_name r)

abbrev pub text_of : Instr → List ℕ
text_of (Double o z s d) = with_two (double_name o ++ size_mark z) (operand_text s) (operand_text d)
text_of (Sum o s d) = with_two (sum_name o) (operand_text s) (operand_text d)
text_of (Single o z d) = with_one (single_name o ++ size_mark z) (operand_text d)
text_of (OnWord o d) = with_one (word_name o) (operand_text d)
text_of (OnRegister o r s) = register_text o r s
text_of (Branch c n) = with_one (condition_name c) (branch_text n)
text_of (Loop r n) = with_two (codes "SOB") (reg_name r) (loop_text n)
text_of (Jump d) = with_one (codes "JMP") (operand_text d)
text_of (Call r d) = with_two (codes "JSR") (reg_name r) (operand_text d)
text_of (Return r) = with_one (codes "RTS") (reg_name r)
text_of (Trap n) = with_one (codes "TRAP") (decimal n)
text_of (Flags u n z v c) = with_one (codes "FLAGS") (octal (first_word (Flags u n z v c)))
