-- The codes of instructions, both ways.
use Rattle.std.proofs.Common.{◌≡◌, ℕ, zero, suc, ◌+◌, ◌-◌, ◌*◌, ◌/◌, ◌%◌, ◌<◌, ◌≤◌, Bool, true, false, cond, eqb, refl, sym, ap, ◌∙◌, subst, inl, inr, arith, Option, Some, None}
use Rattle.std.specs.Prelude.{◌==◌, ◌&&◌, ◌⊎◌}
use Rattle.std.proofs.lemmas.Bool.{eqb-true, ne_eqb}
use Rattle.std.proofs.lemmas.Bool.Decides.{nat_tests}
use Rattle.pdp_code.specs.declared.instruction.Reg.{Reg}
use Rattle.pdp_code.specs.declared.instruction.Reg.TheVariants.{R0, R1, R2, R3, R4, R5, Sp, Pc}
use Rattle.pdp_code.specs.declared.instruction.Pointer.{Pointer}
use Rattle.pdp_code.specs.declared.instruction.Pointer.TheVariants.{P0, P1, P2, P3, P4, P5, PSp}
use Rattle.pdp_code.specs.declared.instruction.Operand.{Operand}
use Rattle.pdp_code.specs.declared.instruction.Operand.TheVariants.{Register, Deferred, Increment, IncrementDeferred, Decrement, DecrementDeferred, Index, IndexDeferred, Immediate, Absolute}
use Rattle.pdp_code.specs.declared.instruction.Size.{Size}
use Rattle.pdp_code.specs.declared.instruction.Size.TheVariants.{Word, Byte}
use Rattle.pdp_code.specs.declared.instruction.DoubleOp.{DoubleOp}
use Rattle.pdp_code.specs.declared.instruction.DoubleOp.TheVariants.{Mov, Cmp, Bit, Bic, Bis}
use Rattle.pdp_code.specs.declared.instruction.SumOp.{SumOp}
use Rattle.pdp_code.specs.declared.instruction.SumOp.TheVariants.{Add, Sub}
use Rattle.pdp_code.specs.declared.instruction.SingleOp.{SingleOp}
use Rattle.pdp_code.specs.declared.instruction.SingleOp.TheVariants.{Clr, Com, Inc, Dec, Neg, Adc, Sbc, Tst, Ror, Rol, Asr, Asl}
use Rattle.pdp_code.specs.declared.instruction.WordOp.{WordOp}
use Rattle.pdp_code.specs.declared.instruction.WordOp.TheVariants.{Swab, Sxt}
use Rattle.pdp_code.specs.declared.instruction.RegisterOp.{RegisterOp}
use Rattle.pdp_code.specs.declared.instruction.RegisterOp.TheVariants.{Mul, Div, Ash, Ashc, Xor}
use Rattle.pdp_code.specs.declared.instruction.Condition.{Condition}
use Rattle.pdp_code.specs.declared.instruction.Condition.TheVariants.{Always, NotEqual, Equal, AtLeast, Less, Greater, AtMost, Plus, Minus, Higher, LowerSame, NoOverflow, Overflow, NoCarry, Carry}
use Rattle.pdp_code.specs.declared.instruction.Instr.{Instr}
use Rattle.pdp_code.specs.declared.instruction.Instr.TheVariants.{Double, Sum, Single, OnWord, OnRegister, Branch, Loop, Jump, Call, Return, Trap, Flags}
use Rattle.pdp_code.specs.Code.{reg_code, pointer_code, operand_code, size_code, double_code, sum_code, single_code, word_code, register_code, condition_code, bit_code, first_word, IsCodable}
use Rattle.pdp_code.specs.First.{reg_of, operand_of, size_at, double_of, sum_of, single_of, word_of, register_of, condition_of, or_else, double_first, sum_first, single_first, word_first, register_first, branch_first, other_first, first_of, blank_operand, blank}

-- ---- a test of each number below a bound

abbrev all_below : ℕ → (ℕ → Bool) → Bool
all_below zero p = true
all_below (suc n) p = p n && all_below n p

and_first : (a b : Bool) → (a && b) ≡ true → a ≡ true
and_first true b e = refl
and_first false b e = e

and_second : (a b : Bool) → (a && b) ≡ true → b ≡ true
and_second true b e = e
and_second false b e = cc

all_below_at : (n : ℕ) (p : ℕ → Bool) → all_below n p ≡ true → (k : ℕ) → k < n → p k ≡ true
all_below_at zero p e k h = absurd (omega arith)
all_below_at (suc n) p e k h = elim (eqb k n) as (λ b. eqb k n ≡ b → p k ≡ true) [
  | true ↦ (λ q. subst (λ j. p j ≡ true) (sym (eqb-true k n q)) (and_first (p n) (all_below n p) e))
  | false ↦ (λ q. all_below_at n p (and_second (p n) (all_below n p) e) k (grind (arith, nat_tests, q)))
] refl

-- ---- registers and operands

by_reg : (P : Reg → Type 0) → P R0 → P R1 → P R2 → P R3 → P R4 → P R5 → P Sp → P Pc → (r : Reg) → P r
by_reg P a b c d e f g h R0 = a
by_reg P a b c d e f g h R1 = b
by_reg P a b c d e f g h R2 = c
by_reg P a b c d e f g h R3 = d
by_reg P a b c d e f g h R4 = e
by_reg P a b c d e f g h R5 = f
by_reg P a b c d e f g h Sp = g
by_reg P a b c d e f g h Pc = h

by_pointer : (P : Pointer → Type 0) → P P0 → P P1 → P P2 → P P3 → P P4 → P P5 → P PSp → (r : Pointer) → P r
by_pointer P a b c d e f g P0 = a
by_pointer P a b c d e f g P1 = b
by_pointer P a b c d e f g P2 = c
by_pointer P a b c d e f g P3 = d
by_pointer P a b c d e f g P4 = e
by_pointer P a b c d e f g P5 = f
by_pointer P a b c d e f g PSp = g

pub reg_of-reg_code : (r : Reg) → reg_of (reg_code r) ≡ r
reg_of-reg_code = by_reg (λ r. reg_of (reg_code r) ≡ r) refl refl refl refl refl refl refl refl

pub reg_below : (r : Reg) → reg_code r < 8
reg_below = by_reg (λ r. reg_code r < 8) (omega arith) (omega arith) (omega arith) (omega arith) (omega arith) (omega arith) (omega arith) (omega arith)

pointer_below : (r : Pointer) → pointer_code r < 7
pointer_below = by_pointer (λ r. pointer_code r < 7) (omega arith) (omega arith) (omega arith) (omega arith) (omega arith) (omega arith) (omega arith)

pub operand_of-operand_code : (o : Operand) → operand_of (operand_code o) ≡ blank_operand o
operand_of-operand_code (Register r) = by_reg (λ r. operand_of (operand_code (Register r)) ≡ Register r) refl refl refl refl refl refl refl refl r
operand_of-operand_code (Deferred r) = by_reg (λ r. operand_of (operand_code (Deferred r)) ≡ Deferred r) refl refl refl refl refl refl refl refl r
operand_of-operand_code (Increment p) = by_pointer (λ r. operand_of (operand_code (Increment r)) ≡ Increment r) refl refl refl refl refl refl refl p
operand_of-operand_code (IncrementDeferred p) = by_pointer (λ r. operand_of (operand_code (IncrementDeferred r)) ≡ IncrementDeferred r) refl refl refl refl refl refl refl p
operand_of-operand_code (Decrement r) = by_reg (λ r. operand_of (operand_code (Decrement r)) ≡ Decrement r) refl refl refl refl refl refl refl refl r
operand_of-operand_code (DecrementDeferred r) = by_reg (λ r. operand_of (operand_code (DecrementDeferred r)) ≡ DecrementDeferred r) refl refl refl refl refl refl refl refl r
operand_of-operand_code (Index r x) = by_reg (λ r. operand_of (operand_code (Index r x)) ≡ Index r 0) refl refl refl refl refl refl refl refl r
operand_of-operand_code (IndexDeferred r x) = by_reg (λ r. operand_of (operand_code (IndexDeferred r x)) ≡ IndexDeferred r 0) refl refl refl refl refl refl refl refl r
operand_of-operand_code (Immediate x) = refl
operand_of-operand_code (Absolute x) = refl

pub operand_below : (o : Operand) → operand_code o < 64
operand_below (Register r) = omega (arith, reg_below r)
operand_below (Deferred r) = omega (arith, reg_below r)
operand_below (Increment p) = omega (arith, pointer_below p)
operand_below (IncrementDeferred p) = omega (arith, pointer_below p)
operand_below (Decrement r) = omega (arith, reg_below r)
operand_below (DecrementDeferred r) = omega (arith, reg_below r)
operand_below (Index r x) = omega (arith, reg_below r)
operand_below (IndexDeferred r x) = omega (arith, reg_below r)
operand_below (Immediate x) = omega arith
operand_below (Absolute x) = omega arith

-- the test of all 64 operands
pub operand_code-operand_of : (n : ℕ) → n < 64 → operand_code (operand_of n) ≡ n
operand_code-operand_of n h = eqb-true _ n (all_below_at 64 (λ k. operand_code (operand_of k) == k) refl n h)

pub reg_code-reg_of : (n : ℕ) → n < 8 → reg_code (reg_of n) ≡ n
reg_code-reg_of n h = eqb-true _ n (all_below_at 8 (λ k. reg_code (reg_of k) == k) refl n h)

-- ---- the tables of operations

abbrev agrees : {A : Type 0} → (A → ℕ) → ℕ → Option A → Bool
agrees code n None = true
agrees code n (Some o) = code o == n

agrees_at : {A : Type 0} (code : A → ℕ) (of : ℕ → Option A) (bound n : ℕ) (o : A) → all_below bound (λ k. agrees code k (of k)) ≡ true → n < bound → of n ≡ Some o → code o ≡ n
agrees_at code of bound n o e h q = eqb-true (code o) n (subst (λ v. agrees code n v ≡ true) q (all_below_at bound (λ k. agrees code k (of k)) e n h))

double_inverse : (n : ℕ) (o : DoubleOp) → n < 8 → double_of n ≡ Some o → double_code o ≡ n
double_inverse n o h q = agrees_at double_code double_of 8 n o refl h q

sum_inverse : (n : ℕ) (o : SumOp) → n < 16 → sum_of n ≡ Some o → sum_code o ≡ n
sum_inverse n o h q = agrees_at sum_code sum_of 16 n o refl h q

single_inverse : (n : ℕ) (o : SingleOp) → n < 512 → single_of n ≡ Some o → single_code o ≡ n
single_inverse n o h q = agrees_at single_code single_of 512 n o refl h q

word_inverse : (n : ℕ) (o : WordOp) → n < 1024 → word_of n ≡ Some o → word_code o ≡ n
word_inverse n o h q = agrees_at word_code word_of 1024 n o refl h q

register_inverse : (n : ℕ) (o : RegisterOp) → n < 128 → register_of n ≡ Some o → register_code o ≡ n
register_inverse n o h q = agrees_at register_code register_of 128 n o refl h q

condition_inverse : (n : ℕ) (o : Condition) → n < 256 → condition_of n ≡ Some o → condition_code o ≡ n
condition_inverse n o h q = agrees_at condition_code condition_of 256 n o refl h q

size_code-size_at : (n : ℕ) → n < 2 → size_code (size_at n) ≡ n
size_code-size_at n h = eqb-true _ n (all_below_at 2 (λ k. size_code (size_at k) == k) refl n h)

size_at-size_code : (z : Size) → size_at (size_code z) ≡ z
size_at-size_code Word = refl
size_at-size_code Byte = refl

size_below : (z : Size) → size_code z < 2
size_below Word = omega arith
size_below Byte = omega arith

bit_below : (b : Bool) → bit_code b < 2
bit_below true = omega arith
bit_below false = omega arith

bit_of : (b : Bool) → (bit_code b == 1) ≡ b
bit_of true = refl
bit_of false = refl

bit_back : (n : ℕ) → n < 2 → bit_code (n == 1) ≡ n
bit_back n h = eqb-true _ n (all_below_at 2 (λ k. bit_code (k == 1) == k) refl n h)

-- ---- what no table has

abbrev empty : {A : Type 0} → Option A → Bool
empty None = true
empty (Some o) = false

empty_is : {A : Type 0} (o : Option A) → empty o ≡ true → o ≡ None
empty_is None e = refl
empty_is (Some x) e = cc

none_from : {A : Type 0} (of : ℕ → Option A) (low size n : ℕ) → all_below size (λ k. empty (of (low + k))) ≡ true → low ≤ n → n < low + size → of n ≡ None
none_from of low size n e p q =
    let f : low + (n - low) ≡ n = omega arith in
    empty_is (of n) (subst (λ k. empty (of k) ≡ true) f (all_below_at size (λ k. empty (of (low + k))) e (n - low) (omega arith)))

abbrev after_double : ℕ → Option Instr
after_double w = or_else (sum_first (sum_of (w / 4096)) w) (or_else (single_first (single_of (w / 64 % 512)) w) (or_else (word_first (word_of (w / 64)) w) (or_else (register_first (register_of (w / 512)) w) (or_else (branch_first (condition_of (w / 256)) w) (other_first w)))))

abbrev after_sum : ℕ → Option Instr
after_sum w = or_else (single_first (single_of (w / 64 % 512)) w) (or_else (word_first (word_of (w / 64)) w) (or_else (register_first (register_of (w / 512)) w) (or_else (branch_first (condition_of (w / 256)) w) (other_first w))))

abbrev after_single : ℕ → Option Instr
after_single w = or_else (word_first (word_of (w / 64)) w) (or_else (register_first (register_of (w / 512)) w) (or_else (branch_first (condition_of (w / 256)) w) (other_first w)))

abbrev after_word : ℕ → Option Instr
after_word w = or_else (register_first (register_of (w / 512)) w) (or_else (branch_first (condition_of (w / 256)) w) (other_first w))

abbrev after_register : ℕ → Option Instr
after_register w = or_else (branch_first (condition_of (w / 256)) w) (other_first w)

no_double : (w n : ℕ) → w / 4096 % 8 ≡ n → double_of n ≡ None → first_of w ≡ after_double w
no_double w n e f = ap (λ v. or_else (double_first v w) (after_double w)) (ap double_of e ∙ f)

no_sum : (w n : ℕ) → w / 4096 ≡ n → sum_of n ≡ None → after_double w ≡ after_sum w
no_sum w n e f = ap (λ v. or_else (sum_first v w) (after_sum w)) (ap sum_of e ∙ f)

no_single : (w n : ℕ) → w / 64 % 512 ≡ n → single_of n ≡ None → after_sum w ≡ after_single w
no_single w n e f = ap (λ v. or_else (single_first v w) (after_single w)) (ap single_of e ∙ f)

no_word : (w n : ℕ) → w / 64 ≡ n → word_of n ≡ None → after_single w ≡ after_word w
no_word w n e f = ap (λ v. or_else (word_first v w) (after_word w)) (ap word_of e ∙ f)

no_register : (w n : ℕ) → w / 512 ≡ n → register_of n ≡ None → after_word w ≡ after_register w
no_register w n e f = ap (λ v. or_else (register_first v w) (after_register w)) (ap register_of e ∙ f)

no_branch : (w n : ℕ) → w / 256 ≡ n → condition_of n ≡ None → after_register w ≡ other_first w
no_branch w n e f = ap (λ v. or_else (branch_first v w) (other_first w)) (ap condition_of e ∙ f)

-- a stretch of words, by their top ten bits: the tables that come before those of the registers have none of them
record Free (low size : ℕ) : Type 0 where
  double : double_of (low / 64 % 8) ≡ None
  sum : sum_of (low / 64) ≡ None
  single : all_below size (λ k. empty (single_of (low % 512 + k))) ≡ true
  word : all_below size (λ k. empty (word_of (low + k))) ≡ true

-- a word of such a stretch
free : (w low size : ℕ) → Free low size → low / 64 ≡ w / 4096 → low / 64 % 8 ≡ w / 4096 % 8 → low % 512 ≤ w / 64 % 512 → w / 64 % 512 < low % 512 + size → low ≤ w / 64 → w / 64 < low + size → first_of w ≡ after_word w
free w low size f a b c d e g =
    no_double w (low / 64 % 8) (sym b) f.double ∙ no_sum w (low / 64) (sym a) f.sum
    ∙ no_single w (w / 64 % 512) refl (none_from single_of (low % 512) size (w / 64 % 512) f.single c d)
    ∙ no_word w (w / 64) refl (none_from word_of low size (w / 64) f.word e g)

-- and neither have those of the registers and the branches
no_table : (w low size : ℕ) → Free low size → low / 64 ≡ w / 4096 → low / 64 % 8 ≡ w / 4096 % 8 → low % 512 ≤ w / 64 % 512 → w / 64 % 512 < low % 512 + size → low ≤ w / 64 → w / 64 < low + size → register_of (w / 512) ≡ None → condition_of (w / 256) ≡ None → first_of w ≡ other_first w
no_table w low size f a b c d e g r t = free w low size f a b c d e g ∙ no_register w (w / 512) refl r ∙ no_branch w (w / 256) refl t

double_own : (o : DoubleOp) → (double_of (double_code o) ≡ Some o) × (double_code o < 8)
double_own Mov = (refl, omega arith)
double_own Cmp = (refl, omega arith)
double_own Bit = (refl, omega arith)
double_own Bic = (refl, omega arith)
double_own Bis = (refl, omega arith)

record OwnSum (o : SumOp) : Type 0 where
  double : double_of (sum_code o % 8) ≡ None
  own : sum_of (sum_code o) ≡ Some o

sum_own : (o : SumOp) → OwnSum o
sum_own Add = record { double = refl; own = refl }
sum_own Sub = record { double = refl; own = refl }

record OwnSingle (o : SingleOp) : Type 0 where
  small : single_code o < 64
  own : single_of (single_code o) ≡ Some o

single_own : (o : SingleOp) → OwnSingle o
single_own Clr = record { small = omega arith; own = refl }
single_own Com = record { small = omega arith; own = refl }
single_own Inc = record { small = omega arith; own = refl }
single_own Dec = record { small = omega arith; own = refl }
single_own Neg = record { small = omega arith; own = refl }
single_own Adc = record { small = omega arith; own = refl }
single_own Sbc = record { small = omega arith; own = refl }
single_own Tst = record { small = omega arith; own = refl }
single_own Ror = record { small = omega arith; own = refl }
single_own Rol = record { small = omega arith; own = refl }
single_own Asr = record { small = omega arith; own = refl }
single_own Asl = record { small = omega arith; own = refl }

record OwnWord (o : WordOp) : Type 0 where
  small : word_code o < 64
  single : single_of (word_code o) ≡ None
  own : word_of (word_code o) ≡ Some o

word_own : (o : WordOp) → OwnWord o
word_own Swab = record { small = omega arith; single = refl; own = refl }
word_own Sxt = record { small = omega arith; single = refl; own = refl }

record OwnRegister (o : RegisterOp) : Type 0 where
  low : 56 ≤ register_code o
  high : register_code o < 61
  free : Free (register_code o * 8) 8
  own : register_of (register_code o) ≡ Some o

register_own : (o : RegisterOp) → OwnRegister o
register_own Mul = record { low = omega arith; high = omega arith; free = record { double = refl; sum = refl; single = refl; word = refl }; own = refl }
register_own Div = record { low = omega arith; high = omega arith; free = record { double = refl; sum = refl; single = refl; word = refl }; own = refl }
register_own Ash = record { low = omega arith; high = omega arith; free = record { double = refl; sum = refl; single = refl; word = refl }; own = refl }
register_own Ashc = record { low = omega arith; high = omega arith; free = record { double = refl; sum = refl; single = refl; word = refl }; own = refl }
register_own Xor = record { low = omega arith; high = omega arith; free = record { double = refl; sum = refl; single = refl; word = refl }; own = refl }

record OwnBranch (c : Condition) : Type 0 where
  high : (condition_code c < 8) ⊎ ((128 ≤ condition_code c) × (condition_code c < 136))
  free : Free (condition_code c * 4) 4
  register : register_of (condition_code c / 2) ≡ None
  own : condition_of (condition_code c) ≡ Some c

branch_own : (c : Condition) → OwnBranch c
branch_own Always = record { high = inl (omega arith); free = record { double = refl; sum = refl; single = refl; word = refl }; register = refl; own = refl }
branch_own NotEqual = record { high = inl (omega arith); free = record { double = refl; sum = refl; single = refl; word = refl }; register = refl; own = refl }
branch_own Equal = record { high = inl (omega arith); free = record { double = refl; sum = refl; single = refl; word = refl }; register = refl; own = refl }
branch_own AtLeast = record { high = inl (omega arith); free = record { double = refl; sum = refl; single = refl; word = refl }; register = refl; own = refl }
branch_own Less = record { high = inl (omega arith); free = record { double = refl; sum = refl; single = refl; word = refl }; register = refl; own = refl }
branch_own Greater = record { high = inl (omega arith); free = record { double = refl; sum = refl; single = refl; word = refl }; register = refl; own = refl }
branch_own AtMost = record { high = inl (omega arith); free = record { double = refl; sum = refl; single = refl; word = refl }; register = refl; own = refl }
branch_own Plus = record { high = inr (omega arith, omega arith); free = record { double = refl; sum = refl; single = refl; word = refl }; register = refl; own = refl }
branch_own Minus = record { high = inr (omega arith, omega arith); free = record { double = refl; sum = refl; single = refl; word = refl }; register = refl; own = refl }
branch_own Higher = record { high = inr (omega arith, omega arith); free = record { double = refl; sum = refl; single = refl; word = refl }; register = refl; own = refl }
branch_own LowerSame = record { high = inr (omega arith, omega arith); free = record { double = refl; sum = refl; single = refl; word = refl }; register = refl; own = refl }
branch_own NoOverflow = record { high = inr (omega arith, omega arith); free = record { double = refl; sum = refl; single = refl; word = refl }; register = refl; own = refl }
branch_own Overflow = record { high = inr (omega arith, omega arith); free = record { double = refl; sum = refl; single = refl; word = refl }; register = refl; own = refl }
branch_own NoCarry = record { high = inr (omega arith, omega arith); free = record { double = refl; sum = refl; single = refl; word = refl }; register = refl; own = refl }
branch_own Carry = record { high = inr (omega arith, omega arith); free = record { double = refl; sum = refl; single = refl; word = refl }; register = refl; own = refl }

-- ---- from the instruction to the word and back

free_of : (low size : ℕ) → double_of (low / 64 % 8) ≡ None → sum_of (low / 64) ≡ None → all_below size (λ k. empty (single_of (low % 512 + k))) ≡ true → all_below size (λ k. empty (word_of (low + k))) ≡ true → Free low size
free_of low size a b c d = record { double = a; sum = b; single = c; word = d }

two_operands : (make : Operand → Operand → Instr) (w : ℕ) (s d : Operand) → w / 64 % 64 ≡ operand_code s → w % 64 ≡ operand_code d → Some (make (operand_of (w / 64 % 64)) (operand_of (w % 64))) ≡ Some (make (blank_operand s) (blank_operand d))
two_operands make w s d e f = rw (e, f, operand_of-operand_code s, operand_of-operand_code d) refl

one_operand : (make : Operand → Instr) (w : ℕ) (d : Operand) → w % 64 ≡ operand_code d → Some (make (operand_of (w % 64))) ≡ Some (make (blank_operand d))
one_operand make w d f = rw (f, operand_of-operand_code d) refl

pub first_of-first_word : (i : Instr) → IsCodable i → first_of (first_word i) ≡ Some (blank i)
first_of-first_word (Double o z s d) h =
    let s64 = operand_below s in let d64 = operand_below d in let z2 = size_below z in let own = double_own o in let o8 = own.1 in
    let w = first_word (Double o z s d) in
    let e : w / 4096 % 8 ≡ double_code o = omega arith in
    let k : w / 32768 ≡ size_code z = omega arith in
    ap (λ v. or_else (double_first v w) (after_double w)) (ap double_of e ∙ own.0)
    ∙ ap (λ n. Some (Double o (size_at n) (operand_of (w / 64 % 64)) (operand_of (w % 64)))) k
    ∙ ap (λ v. Some (Double o v (operand_of (w / 64 % 64)) (operand_of (w % 64)))) (size_at-size_code z)
    ∙ two_operands (Double o z) w s d (omega arith) (omega arith)
first_of-first_word (Sum o s d) h =
    let s64 = operand_below s in let d64 = operand_below d in let own = sum_own o in
    let w = first_word (Sum o s d) in
    let e : w / 4096 ≡ sum_code o = omega arith in
    no_double w (sum_code o % 8) (ap (λ n. n % 8) e) own.double
    ∙ ap (λ v. or_else (sum_first v w) (after_sum w)) (ap sum_of e ∙ own.own)
    ∙ two_operands (Sum o) w s d (omega arith) (omega arith)
first_of-first_word (Single o z d) h =
    let d64 = operand_below d in let z2 = size_below z in let own = single_own o in let small = own.small in
    let w = first_word (Single o z d) in
    let e : w / 4096 % 8 ≡ 0 = omega arith in
    let g : w / 64 % 512 ≡ single_code o = omega arith in
    let k : w / 32768 ≡ size_code z = omega arith in
    let n : w / 4096 ≡ size_code z * 8 = omega arith in
    no_double w 0 e refl ∙ no_sum w (size_code z * 8) n (no_sum_size z)
    ∙ ap (λ v. or_else (single_first v w) (after_single w)) (ap single_of g ∙ own.own)
    ∙ ap (λ n. Some (Single o (size_at n) (operand_of (w % 64)))) k
    ∙ ap (λ v. Some (Single o v (operand_of (w % 64)))) (size_at-size_code z)
    ∙ one_operand (Single o z) w d (omega arith)
  where
    no_sum_size : (z : Size) → sum_of (size_code z * 8) ≡ None
    no_sum_size Word = refl
    no_sum_size Byte = refl
first_of-first_word (OnWord o d) h =
    let d64 = operand_below d in let own = word_own o in let small = own.small in
    let w = first_word (OnWord o d) in
    let e : w / 4096 % 8 ≡ 0 = omega arith in
    let n : w / 4096 ≡ 0 = omega arith in
    let g : w / 64 % 512 ≡ word_code o = omega arith in
    let k : w / 64 ≡ word_code o = omega arith in
    no_double w 0 e refl ∙ no_sum w 0 n refl ∙ no_single w (word_code o) g own.single
    ∙ ap (λ v. or_else (word_first v w) (after_word w)) (ap word_of k ∙ own.own)
    ∙ one_operand (OnWord o) w d (omega arith)
first_of-first_word (OnRegister o r s) h =
    let r8 = reg_below r in let s64 = operand_below s in let own = register_own o in let low = own.low in let high = own.high in
    let w = first_word (OnRegister o r s) in
    let g : w / 512 ≡ register_code o = omega arith in
    let a : w / 64 % 8 ≡ reg_code r = omega arith in
    free w (register_code o * 8) 8 own.free (omega arith) (omega arith) (omega arith) (omega arith) (omega arith) (omega arith)
    ∙ ap (λ v. or_else (register_first v w) (after_register w)) (ap register_of g ∙ own.own)
    ∙ ap (λ k. Some (OnRegister o (reg_of k) (operand_of (w % 64)))) a
    ∙ ap (λ v. Some (OnRegister o v (operand_of (w % 64)))) (reg_of-reg_code r)
    ∙ one_operand (OnRegister o r) w s (omega arith)
first_of-first_word (Branch c n) h =
    let own = branch_own c in let high = own.high in
    let w = first_word (Branch c n) in
    let f : w / 512 ≡ condition_code c / 2 = omega arith in
    let g : w / 256 ≡ condition_code c = omega arith in
    let a : w % 256 ≡ n = omega arith in
    free w (condition_code c * 4) 4 own.free (omega arith) (omega arith) (omega arith) (omega arith) (omega arith) (omega arith)
    ∙ no_register w (condition_code c / 2) f own.register
    ∙ ap (λ v. or_else (branch_first v w) (other_first w)) (ap condition_of g ∙ own.own) ∙ ap (λ k. Some (Branch c k)) a
first_of-first_word (Loop r n) h =
    let r8 = reg_below r in
    let w = first_word (Loop r n) in
    let e : w / 512 ≡ 0o77 = omega arith in
    let a : w / 64 % 8 ≡ reg_code r = omega arith in
    let b : w % 64 ≡ n = omega arith in
    no_table w 0o770 8 (free_of 0o770 8 refl refl refl refl) (omega arith) (omega arith) (omega arith) (omega arith) (omega arith) (omega arith) (none_from register_of 63 1 (w / 512) refl (omega arith) (omega arith)) (none_from condition_of 126 2 (w / 256) refl (omega arith) (omega arith))
    ∙ rw (e, a, b, reg_of-reg_code r) refl
first_of-first_word (Jump d) h =
    let d64 = operand_below d in
    let w = first_word (Jump d) in
    let e : w / 512 ≡ 0 = omega arith in
    let f : w / 64 ≡ 1 = omega arith in
    let g : w % 64 ≡ operand_code d = omega arith in
    no_table w 1 1 (free_of 1 1 refl refl refl refl) (omega arith) (omega arith) (omega arith) (omega arith) (omega arith) (omega arith) (none_from register_of 0 1 (w / 512) refl (omega arith) (omega arith)) (none_from condition_of 0 1 (w / 256) refl (omega arith) (omega arith))
    ∙ rw (e, f, g, operand_of-operand_code d) refl
first_of-first_word (Call r d) h =
    let r8 = reg_below r in let d64 = operand_below d in
    let w = first_word (Call r d) in
    let e : w / 512 ≡ 4 = omega arith in
    let a : w / 64 % 8 ≡ reg_code r = omega arith in
    let f : (w / 64 == 1) ≡ false = ne_eqb (w / 64) 1 (omega arith) in
    let g : w % 64 ≡ operand_code d = omega arith in
    no_table w 32 8 (free_of 32 8 refl refl refl refl) (omega arith) (omega arith) (omega arith) (omega arith) (omega arith) (omega arith) (none_from register_of 4 1 (w / 512) refl (omega arith) (omega arith)) (none_from condition_of 8 2 (w / 256) refl (omega arith) (omega arith))
    ∙ rw (e, f, a, g, reg_of-reg_code r, operand_of-operand_code d) refl
first_of-first_word (Return r) h =
    let r8 = reg_below r in
    let w = first_word (Return r) in
    let e : w / 512 ≡ 0 = omega arith in
    let f : w / 64 ≡ 2 = omega arith in
    let g : w / 8 ≡ 16 = omega arith in
    let a : w % 8 ≡ reg_code r = omega arith in
    no_table w 2 1 (free_of 2 1 refl refl refl refl) (omega arith) (omega arith) (omega arith) (omega arith) (omega arith) (omega arith) (none_from register_of 0 1 (w / 512) refl (omega arith) (omega arith)) (none_from condition_of 0 1 (w / 256) refl (omega arith) (omega arith))
    ∙ rw (e, f, g, a, reg_of-reg_code r) refl
first_of-first_word (Trap n) h =
    let w = first_word (Trap n) in
    let e : w / 512 ≡ 68 = omega arith in
    let b : w / 256 ≡ 137 = omega arith in
    let f : (w / 64 == 1) ≡ false = ne_eqb (w / 64) 1 (omega arith) in
    let g : (w / 8 == 16) ≡ false = ne_eqb (w / 8) 16 (omega arith) in
    let a : w % 256 ≡ n = omega arith in
    no_table w 548 4 (free_of 548 4 refl refl refl refl) (omega arith) (omega arith) (omega arith) (omega arith) (omega arith) (omega arith) (none_from register_of 68 1 (w / 512) refl (omega arith) (omega arith)) (none_from condition_of 137 1 (w / 256) refl (omega arith) (omega arith))
    ∙ rw (e, f, g, b, a) refl
first_of-first_word (Flags u n z v c) h =
    let u2 = bit_below u in let n2 = bit_below n in let z2 = bit_below z in let v2 = bit_below v in let c2 = bit_below c in
    let w = first_word (Flags u n z v c) in
    let e : w / 512 ≡ 0 = omega arith in
    let f : w / 64 ≡ 2 = omega arith in
    let g : (w / 8 == 16) ≡ false = ne_eqb (w / 8) 16 (omega arith) in
    let b : w / 256 ≡ 0 = omega arith in
    let k : w / 32 ≡ 5 = omega arith in
    let e1 : w / 16 % 2 ≡ bit_code u = omega arith in
    let e2 : w / 8 % 2 ≡ bit_code n = omega arith in
    let e3 : w / 4 % 2 ≡ bit_code z = omega arith in
    let e4 : w / 2 % 2 ≡ bit_code v = omega arith in
    let e5 : w % 2 ≡ bit_code c = omega arith in
    no_table w 2 1 (free_of 2 1 refl refl refl refl) (omega arith) (omega arith) (omega arith) (omega arith) (omega arith) (omega arith) (none_from register_of 0 1 (w / 512) refl (omega arith) (omega arith)) (none_from condition_of 0 1 (w / 256) refl (omega arith) (omega arith))
    ∙ rw (e, f, g, b, k, e1, e2, e3, e4, e5, bit_of u, bit_of n, bit_of z, bit_of v, bit_of c) refl

-- ---- from the word to the instruction

abbrev Comes : Instr → ℕ → Type 0
Comes i w = IsCodable i × (first_word i ≡ w)

some_same : {A : Type 0} {x y : A} → Some x ≡ Some y → x ≡ y
some_same e = cc

if_cases : {A : Type 0} (b : Bool) (x y : Option A) (i : A) (P : Type 0) → cond b x y ≡ Some i → (b ≡ true → x ≡ Some i → P) → (b ≡ false → y ≡ Some i → P) → P
if_cases true x y i P e f g = f refl e
if_cases false x y i P e f g = g refl e

module _ (w : ℕ) (small : w < 65536) (i : Instr) where
  -- the instruction that was found has this word
  found : (j : Instr) → Some j ≡ Some i → Comes j w → Comes i w
  found j e h = subst (λ k. Comes k w) (some_same e) h

  reg_at : reg_code (reg_of (w / 64 % 8)) ≡ w / 64 % 8
  reg_at = reg_code-reg_of (w / 64 % 8) (omega arith)

  low_at : operand_code (operand_of (w % 64)) ≡ w % 64
  low_at = operand_code-operand_of (w % 64) (omega arith)

  high_at : operand_code (operand_of (w / 64 % 64)) ≡ w / 64 % 64
  high_at = operand_code-operand_of (w / 64 % 64) (omega arith)

  size_at_bit : size_code (size_at (w / 32768)) ≡ w / 32768
  size_at_bit = size_code-size_at (w / 32768) (omega arith)

  from_other : other_first w ≡ Some i → Comes i w
  from_other e =
      if_cases (w / 512 == 0o77) _ _ i _ e (λ t q. found _ q (omega arith, (let h = eqb-true _ _ t in omega (arith, reg_at)))) (λ t1 e1.
      if_cases (w / 64 == 1) _ _ i _ e1 (λ t q. found _ q (tt, (let h = eqb-true _ _ t in omega (arith, low_at)))) (λ t2 e2.
      if_cases (w / 512 == 4) _ _ i _ e2 (λ t q. found _ q (tt, (let h = eqb-true _ _ t in omega (arith, reg_at, low_at)))) (λ t3 e3.
      if_cases (w / 8 == 0o20) _ _ i _ e3 (λ t q. found _ q (tt, (let h = eqb-true _ _ t in omega (arith, reg_code-reg_of (w % 8) (omega arith))))) (λ t4 e4.
      if_cases (w / 256 == 0o211) _ _ i _ e4 (λ t q. found _ q (omega arith, (let h = eqb-true _ _ t in omega arith))) (λ t5 e5.
      if_cases (w / 32 == 5) _ _ i _ e5 (λ t q. found _ q (tt, (let h = eqb-true _ _ t in omega (arith, bit_back (w / 16 % 2) (omega arith), bit_back (w / 8 % 2) (omega arith), bit_back (w / 4 % 2) (omega arith), bit_back (w / 2 % 2) (omega arith), bit_back (w % 2) (omega arith))))) (λ t6 e6. cc))))))

  from_branch : (v : Option Condition) → condition_of (w / 256) ≡ v → or_else (branch_first v w) (other_first w) ≡ Some i → Comes i w
  from_branch None e q = from_other q
  from_branch (Some c) e q = found (Branch c (w % 256)) q (omega arith, (let h = condition_inverse (w / 256) c (omega arith) e in omega arith))

  from_register : (v : Option RegisterOp) → register_of (w / 512) ≡ v → or_else (register_first v w) (after_register w) ≡ Some i → Comes i w
  from_register None e q = from_branch (condition_of (w / 256)) refl q
  from_register (Some o) e q = found (OnRegister o (reg_of (w / 64 % 8)) (operand_of (w % 64))) q (tt, (let h = register_inverse (w / 512) o (omega arith) e in omega (arith, reg_at, low_at)))

  from_word : (v : Option WordOp) → word_of (w / 64) ≡ v → or_else (word_first v w) (after_word w) ≡ Some i → Comes i w
  from_word None e q = from_register (register_of (w / 512)) refl q
  from_word (Some o) e q = found (OnWord o (operand_of (w % 64))) q (tt, (let h = word_inverse (w / 64) o (omega arith) e in omega (arith, low_at)))

  from_single : (v : Option SingleOp) → single_of (w / 64 % 512) ≡ v → or_else (single_first v w) (after_single w) ≡ Some i → Comes i w
  from_single None e q = from_word (word_of (w / 64)) refl q
  from_single (Some o) e q = found (Single o (size_at (w / 32768)) (operand_of (w % 64))) q (tt, (let h = single_inverse (w / 64 % 512) o (omega arith) e in omega (arith, low_at, size_at_bit)))

  from_sum : (v : Option SumOp) → sum_of (w / 4096) ≡ v → or_else (sum_first v w) (after_sum w) ≡ Some i → Comes i w
  from_sum None e q = from_single (single_of (w / 64 % 512)) refl q
  from_sum (Some o) e q = found (Sum o (operand_of (w / 64 % 64)) (operand_of (w % 64))) q (tt, (let h = sum_inverse (w / 4096) o (omega arith) e in omega (arith, high_at, low_at)))

  from_double : (v : Option DoubleOp) → double_of (w / 4096 % 8) ≡ v → or_else (double_first v w) (after_double w) ≡ Some i → Comes i w
  from_double None e q = from_sum (sum_of (w / 4096)) refl q
  from_double (Some o) e q = found (Double o (size_at (w / 32768)) (operand_of (w / 64 % 64)) (operand_of (w % 64))) q (tt, (let h = double_inverse (w / 4096 % 8) o (omega arith) e in omega (arith, high_at, low_at, size_at_bit)))

  pub first_word-first_of : first_of w ≡ Some i → Comes i w
  first_word-first_of e = from_double (double_of (w / 4096 % 8)) refl e
