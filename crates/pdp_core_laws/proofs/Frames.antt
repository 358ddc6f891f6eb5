-- An instruction changes no byte that may not be used.
use Rattle.std.proofs.Common.{◌≡◌, ℕ, ◌+◌, Bool, true, false, ◌&&◌, nat_le, if◌then◌else◌, refl, subst, inl, inr, Option, Some, None}
use Rattle.std.specs.Prelude.{Result, Ok, Err}
use Rattle.std.proofs.lemmas.Bool.Decides.{eqb_tells}
use Rattle.rt_words.specs.Word.{wrap_sub, is_odd}
use Rattle.pdp_code.specs.declared.instruction.Reg.{Reg}
use Rattle.pdp_code.specs.declared.instruction.Reg.TheVariants.{Sp, Pc}
use Rattle.pdp_code.specs.declared.instruction.Size.{Size}
use Rattle.pdp_code.specs.declared.instruction.Size.TheVariants.{Word, Byte}
use Rattle.pdp_code.specs.declared.instruction.DoubleOp.{DoubleOp}
use Rattle.pdp_code.specs.declared.instruction.DoubleOp.TheVariants.{Mov, Cmp, Bit, Bic, Bis}
use Rattle.pdp_code.specs.declared.instruction.SumOp.{SumOp}
use Rattle.pdp_code.specs.declared.instruction.SumOp.TheVariants.{Add, Sub}
use Rattle.pdp_code.specs.declared.instruction.SingleOp.{SingleOp}
use Rattle.pdp_code.specs.declared.instruction.SingleOp.TheVariants.{Clr, Com, Inc, Dec, Neg, Adc, Sbc, Tst, Ror, Rol, Asr, Asl}
use Rattle.pdp_code.specs.declared.instruction.WordOp.{WordOp}
use Rattle.pdp_code.specs.declared.instruction.WordOp.TheVariants.{Swab, Sxt}
use Rattle.pdp_code.specs.declared.instruction.RegisterOp.{RegisterOp}
use Rattle.pdp_code.specs.declared.instruction.RegisterOp.TheVariants.{Mul, Div, Ash, Ashc, Xor}
use Rattle.pdp_code.specs.declared.instruction.Instr.{Instr}
use Rattle.pdp_code.specs.declared.instruction.Instr.TheVariants.{Double, Sum, Single, OnWord, OnRegister, Branch, Loop, Jump, Call, Return, Trap, Flags}
use Rattle.pdp_code.specs.First.{first_of}
use Rattle.pdp_core.specs.declared.cpu.Regs.{Regs}
use Rattle.pdp_core.specs.declared.cpu.Refused.{Refused}
use Rattle.pdp_core.specs.declared.cpu.Refused.TheVariants.{Odd, Access}
use Rattle.pdp_core.specs.declared.cpu.Failure.{Failure}
use Rattle.pdp_core.specs.declared.cpu.Kind.TheVariants.{Reserved}
use Rattle.pdp_core.specs.declared.cpu.Stop.TheVariants.{Trap as Service}
use Rattle.pdp_core.specs.declared.cpu.Place.{Place}
use Rattle.pdp_core.specs.declared.cpu.Place.TheVariants.{InRegister, InMemory, InCode}
use Rattle.pdp_core.specs.World.{World, may, put_word, put_byte, where_ok, word_written, byte_written}
use Rattle.pdp_core.specs.Execute.{Outcome, and_then, of_memory, goes_on, store, move, double, sum, single, single_end, single_read, on_word, on_register, call, return_by, trap, address, operand, load, load_word, target, next_word, perform, perform_first, plan, settle, execute, reg, is_odd_pair}
use Rattle.pdp_core.specs.Execute as core
use Rattle.pdp_core_laws.specs.Laws.{Same, OthersKeepTheirBytes}

put_word_apart : (m : ℕ → ℕ) (b v a : ℕ) → (a ≡ b → ⊥) → (a ≡ b + 1 → ⊥) → put_word m b v a ≡ m a
unfolding put_word
put_word_apart m b v a n1 n2 = elim (eqb_tells a b) [ inl p ↦ absurd (n1 p.1) | inr p ↦ elim (eqb_tells a (b + 1)) [ inl q ↦ absurd (n2 q.1) | inr q ↦ rw (p.0, q.0) refl ] ]

put_byte_apart : (m : ℕ → ℕ) (b v a : ℕ) → (a ≡ b → ⊥) → put_byte m b v a ≡ m a
unfolding put_byte
put_byte_apart m b v a n1 = elim (eqb_tells a b) [ inl p ↦ absurd (n1 p.1) | inr p ↦ rw (p.0) refl ]

module _ (w : World) (a : ℕ) (none : may w.touches a ≡ false) where
  abbrev Fine : Result Outcome Failure → Type 0
  Fine (Ok o) = Same w a o.world
  Fine (Err e) = Unit {0}

  same : Same w a w
  same = record { byte = refl; fetches = refl; touches = refl }

  going : (g : Regs) → Fine (goes_on w g)
  going g = same

  after : {A : Type 0} (r : Result A Failure) (f : A → Result Outcome Failure) → ((x : A) → Fine (f x)) → Fine (and_then r f)
  after (Ok x) f h = h x
  after (Err e) f h = tt

  abbrev Written : Result World Refused → Type 0
  Written (Ok v) = Same w a v
  Written (Err e) = Unit {0}

  not_here : (b : ℕ) → may w.touches b ≡ true → a ≡ b → ⊥
  not_here b h e = let f : may w.touches b ≡ false = subst (λ c. may w.touches c ≡ false) e none in absurd cc

  word_by : (b v : ℕ) (odd p q : Bool) → may w.touches b ≡ p → may w.touches (b + 1) ≡ q → Written (where_ok (if odd then Err (Odd b) else if p && q then Ok tt else Err (Access b)) (record w { bytes = put_word w.bytes b v }))
  word_by b v true p q e f = tt
  word_by b v false true true e f = record { byte = put_word_apart w.bytes b v a (not_here b e) (not_here (b + 1) f); fetches = refl; touches = refl }
  word_by b v false true false e f = tt
  word_by b v false false q e f = tt

  word_fine : (b v : ℕ) → Written (word_written w b v)
  word_fine b v = word_by b v (is_odd b) (may w.touches b) (may w.touches (b + 1)) refl refl

  byte_by : (b v : ℕ) (p : Bool) → may w.touches b ≡ p → Written (where_ok (if p then Ok tt else Err (Access b)) (record w { bytes = put_byte w.bytes b v }))
  byte_by b v true e = record { byte = put_byte_apart w.bytes b v a (not_here b e); fetches = refl; touches = refl }
  byte_by b v false e = tt

  byte_fine : (b v : ℕ) → Written (byte_written w b v)
  byte_fine b v = byte_by b v (may w.touches b) refl

  written : (r : Result World Refused) (g : World → Regs) → Written r → Fine (and_then (of_memory r) (λ w2. goes_on w2 (g w2)))
  written (Ok v) g h = h
  written (Err e) g h = tt

  stores : (z : Size) (g : Regs) (p : Place) (x : ℕ) → Fine (store w z g p x)
  stores Word g (InRegister r) x = same
  stores Byte g (InRegister r) x = same
  stores Word g (InMemory b) x = written (word_written w b x) (λ v. g) (word_fine b x)
  stores Byte g (InMemory b) x = written (byte_written w b x) (λ v. g) (byte_fine b x)
  stores Word g (InCode b y) x = written (word_written w b x) (λ v. g) (word_fine b x)
  stores Byte g (InCode b y) x = written (byte_written w b x) (λ v. g) (byte_fine b x)

  moves : (g : Regs) (z : Size) (x : ℕ) (p : Place) → Fine (move w g z x p)
  moves g Word x p = stores Word g p x
  moves g Byte x (InRegister r) = same
  moves g Byte x (InMemory b) = stores Byte g (InMemory b) x
  moves g Byte x (InCode b y) = stores Byte g (InCode b y) x

  doubles : (g : Regs) (o : DoubleOp) (z : Size) (x : ℕ) (p : Place) → Fine (double w g o z x p)
  doubles g Mov z x p = moves (core.by_value g z x false g.c) z x p
  doubles g Cmp z x p = after (load w z g p) _ (λ y. same)
  doubles g Bit z x p = after (load w z g p) _ (λ y. same)
  doubles g Bic z x p = after (load w z g p) _ (λ y. stores z _ p _)
  doubles g Bis z x p = after (load w z g p) _ (λ y. stores z _ p _)

  sums : (g : Regs) (o : SumOp) (x : ℕ) (p : Place) → Fine (sum w g o x p)
  sums g Add x p = after (load w Word g p) _ (λ y. stores Word _ p _)
  sums g Sub x p = after (load w Word g p) _ (λ y. stores Word _ p _)

  ends : (g : Regs) (o : SingleOp) (z : Size) (x : ℕ) (p : Place) → Fine (single_end w g o z x p)
  ends g Tst z x p = same
  ends g Clr z x p = stores z g p x
  ends g Com z x p = stores z g p x
  ends g Inc z x p = stores z g p x
  ends g Dec z x p = stores z g p x
  ends g Neg z x p = stores z g p x
  ends g Adc z x p = stores z g p x
  ends g Sbc z x p = stores z g p x
  ends g Ror z x p = stores z g p x
  ends g Rol z x p = stores z g p x
  ends g Asr z x p = stores z g p x
  ends g Asl z x p = stores z g p x

  read_first : (g : Regs) (o : SingleOp) (z : Size) (p : Place) → Fine (single_read w g o z p)
  read_first g o z p = after (load w z g p) _ (λ y. ends _ o z _ p)

  singles : (g : Regs) (o : SingleOp) (z : Size) (p : Place) → Fine (single w g o z p)
  singles g Clr z p = stores z _ p 0
  singles g Com z p = read_first g Com z p
  singles g Inc z p = read_first g Inc z p
  singles g Dec z p = read_first g Dec z p
  singles g Neg z p = read_first g Neg z p
  singles g Adc z p = read_first g Adc z p
  singles g Sbc z p = read_first g Sbc z p
  singles g Tst z p = read_first g Tst z p
  singles g Ror z p = read_first g Ror z p
  singles g Rol z p = read_first g Rol z p
  singles g Asr z p = read_first g Asr z p
  singles g Asl z p = read_first g Asl z p

  words : (g : Regs) (o : WordOp) (p : Place) → Fine (on_word w g o p)
  words g Swab p = after (load w Word g p) _ (λ y. stores Word _ p _)
  words g Sxt p = stores Word _ p _

  registers : (g : Regs) (k : ℕ) (o : RegisterOp) (r : Reg) (p : Place) → Fine (on_register w g k o r p)
  registers g k Mul r p = after (load w Word g p) _ (λ y. same)
  registers g k Div r p = after (load w Word g p) _ (λ y. same)
  registers g k Ash r p = after (load w Word g p) _ (λ y. same)
  registers g k Ashc r p = after (load w Word g p) _ (λ y. same)
  registers g k Xor r p = after (load w Word g p) _ (λ y. stores Word _ p _)

  if_odd : (b : Bool) (e : Failure) (r : Result Outcome Failure) → Fine r → Fine (if b then Err e else r)
  if_odd true e r h = tt
  if_odd false e r h = h

  traps : (at n : ℕ) (g : Regs) → Fine (trap at w g n)
  traps at n g = elim (nat_le 1 n && nat_le n 11) as (λ b. Fine (if b then Ok (record { stop = Service n; regs = g; world = w }) else Err (core.failure Reserved at))) [ true ↦ same | false ↦ tt ]

  performs : (at : ℕ) (g : Regs) (i : Instr) → Fine (perform at w g i)
  performs at g (Double o z s d) = after (operand w z g s) _ (λ x. after (address w z x.1 d) _ (λ p. doubles p.1 o z x.0 p.0))
  performs at g (Sum o s d) = after (operand w Word g s) _ (λ x. after (address w Word x.1 d) _ (λ p. sums p.1 o x.0 p.0))
  performs at g (Single o z d) = after (address w z g d) _ (λ p. singles p.1 o z p.0)
  performs at g (OnWord o d) = after (address w Word g d) _ (λ p. words p.1 o p.0)
  performs at g (OnRegister o r s) = if_odd (is_odd_pair o r) _ _ (after (address w Word g s) _ (λ p. registers p.1 (reg g r) o r p.0))
  performs at g (Branch c n) = same
  performs at g (Loop r n) = same
  performs at g (Jump d) = after (address w Word g d) _ (λ p. after (target at p.0) _ (λ b. same))
  performs at g (Call r d) = after (address w Word g d) _ (λ p. after (target at p.0) _ (λ b. written (word_written w (wrap_sub (reg p.1 Sp) 2) (reg p.1 r)) (λ v. _) (word_fine (wrap_sub (reg p.1 Sp) 2) (reg p.1 r))))
  performs at g (Return r) = after (load_word w (reg g Sp)) _ (λ x. same)
  performs at g (Trap n) = traps at n g
  performs at g (Flags u n z v c) = same

  first : (at : ℕ) (g : Regs) (o : Option Instr) → Fine (perform_first at w g o)
  first at g None = tt
  first at g (Some i) = performs at g i

  settled : (g : Regs) (r : Result Outcome Failure) → Fine r → Same w a (settle w g r).world
  settled g (Ok o) h = h
  settled g (Err e) h = same

  pub executed : (g : Regs) → Same w a (execute w g).world
  executed g = settled g (plan w g) (after (next_word w g) _ (λ n. first (reg g Pc) n.1 (first_of n.0)))

pub keeps : OthersKeepTheirBytes
keeps w g a none = executed w a none g
