-- Two memories that have the same bytes wherever a task may fetch or read: an instruction does the same in both.
use Rattle.std.proofs.Common.{◌≡◌, ◌⊎◌, ℕ, ◌+◌, ◌%◌, ◌/◌, Bool, true, false, ◌&&◌, ◌==◌, nat_le, if◌then◌else◌, refl, ap, ◌∙◌, subst, inl, inr, Option, Some, None}
use Rattle.std.specs.Prelude.{Result, Ok, Err}
use Rattle.std.proofs.lemmas.Bool.Decides.{eqb_tells}
use Rattle.rt_words.specs.Word.{wrap_add, wrap_sub, is_odd}
use Rattle.pdp_code.specs.declared.instruction.Reg.{Reg}
use Rattle.pdp_code.specs.declared.instruction.Reg.TheVariants.{Sp, Pc}
use Rattle.pdp_code.specs.declared.instruction.Operand.{Operand}
use Rattle.pdp_code.specs.declared.instruction.Operand.TheVariants.{Register, Deferred, Increment, IncrementDeferred, Decrement, DecrementDeferred, Index, IndexDeferred, Immediate, Absolute}
use Rattle.pdp_code.specs.declared.instruction.Size.{Size}
use Rattle.pdp_code.specs.declared.instruction.Size.TheVariants.{Word, Byte}
use Rattle.pdp_code.specs.declared.instruction.DoubleOp.{DoubleOp}
use Rattle.pdp_code.specs.declared.instruction.DoubleOp.TheVariants.{Mov, Cmp, Bit, Bic, Bis}
use Rattle.pdp_code.specs.declared.instruction.SumOp.{SumOp}
use Rattle.pdp_code.specs.declared.instruction.SumOp.TheVariants.{Add, Sub}
use Rattle.pdp_code.specs.declared.instruction.SingleOp.{SingleOp}
use Rattle.pdp_code.specs.declared.instruction.SingleOp.TheVariants.{Clr, Com, Inc, Dec, Neg, Adc, Sbc, Tst, Ror, Rol, Asr, Asl}
use Rattle.pdp_code.specs.declared.instruction.WordOp.{WordOp}
use Rattle.pdp_code.specs.declared.instruction.WordOp.TheVariants.{Swab, Sxt}
use Rattle.pdp_code.specs.declared.instruction.RegisterOp.{RegisterOp}
use Rattle.pdp_code.specs.declared.instruction.RegisterOp.TheVariants.{Mul, Div, Ash, Ashc, Xor}
use Rattle.pdp_code.specs.declared.instruction.Instr.{Instr}
use Rattle.pdp_code.specs.declared.instruction.Instr.TheVariants.{Double, Sum, Single, OnWord, OnRegister, Branch, Loop, Jump, Call, Return, Trap, Flags}
use Rattle.pdp_code.specs.First.{first_of}
use Rattle.pdp_core.specs.declared.cpu.Regs.{Regs}
use Rattle.pdp_core.specs.declared.cpu.Refused.TheVariants.{Odd, Access}
use Rattle.pdp_core.specs.declared.cpu.Failure.{Failure}
use Rattle.pdp_core.specs.declared.cpu.Kind.TheVariants.{Reserved}
use Rattle.pdp_core.specs.declared.cpu.Stop.TheVariants.{Went, Trap as Service, Fault}
use Rattle.pdp_core.specs.declared.cpu.Stop.{Stop}
use Rattle.pdp_core.specs.declared.cpu.Place.{Place}
use Rattle.pdp_core.specs.declared.cpu.Place.TheVariants.{InRegister, InMemory, InCode}
use Rattle.pdp_core.specs.World.{World, may, word_at, byte_at, put_word, put_byte, where_ok, byte_read, word_written, byte_written}
use Rattle.pdp_core.specs.Execute.{Outcome, and_then, of_memory, goes_on, store, move, double, sum, single, single_end, single_read, on_word, on_register, call, return_by, trap, address, operand, load, load_word, target, next_word, perform, perform_first, plan, settle, execute, reg, is_odd_pair}
use Rattle.pdp_core.specs.Execute as core

-- a byte put into two memories, or a word
put_word_apart : (m : ℕ → ℕ) (b v a : ℕ) → (a ≡ b → ⊥) → (a ≡ b + 1 → ⊥) → put_word m b v a ≡ m a
unfolding put_word
put_word_apart m b v a n1 n2 = elim (eqb_tells a b) [ inl p ↦ absurd (n1 p.1) | inr p ↦ elim (eqb_tells a (b + 1)) [ inl q ↦ absurd (n2 q.1) | inr q ↦ rw (p.0, q.0) refl ] ]

put_byte_apart : (m : ℕ → ℕ) (b v a : ℕ) → (a ≡ b → ⊥) → put_byte m b v a ≡ m a
unfolding put_byte
put_byte_apart m b v a n1 = elim (eqb_tells a b) [ inl p ↦ absurd (n1 p.1) | inr p ↦ rw (p.0) refl ]

put_word_same : (m n : ℕ → ℕ) (b v a : ℕ) → m a ≡ n a → put_word m b v a ≡ put_word n b v a
unfolding put_word
put_word_same m n b v a e = ap (λ (y : ℕ). if a == b then v % 256 else if a == b + 1 then v / 256 else y) e

put_byte_same : (m n : ℕ → ℕ) (b v a : ℕ) → m a ≡ n a → put_byte m b v a ≡ put_byte n b v a
unfolding put_byte
put_byte_same m n b v a e = ap (λ (y : ℕ). if a == b then v else y) e

word_same : (m n : ℕ → ℕ) (a : ℕ) → m a ≡ n a → m (a + 1) ≡ n (a + 1) → word_at m a ≡ word_at n a
unfolding word_at
word_same m n a e f = rw (e, f) refl

-- what an instruction leaves of two memories m and n: the same, wherever the task may write, and all else as it was
pub record Both (f t : ℕ → Bool) (m n : ℕ → ℕ) (x y : Outcome) : Type 0 where
  pub stop : x.stop ≡ y.stop
  pub regs : x.regs ≡ y.regs
  pub first_fetches : x.world.fetches ≡ f
  pub first_touches : x.world.touches ≡ t
  pub second_fetches : y.world.fetches ≡ f
  pub second_touches : y.world.touches ≡ t
  pub used : (a : ℕ) → may t a ≡ true → x.world.bytes a ≡ y.world.bytes a
  pub first_kept : (a : ℕ) → may t a ≡ false → x.world.bytes a ≡ m a
  pub second_kept : (a : ℕ) → may t a ≡ false → y.world.bytes a ≡ n a

module _ (f t : ℕ → Bool) (m n : ℕ → ℕ) (same_code : (a : ℕ) → may f a ≡ true → m a ≡ n a) (same_used : (a : ℕ) → may t a ≡ true → m a ≡ n a) where
  abbrev pub w : World
  w = record { bytes = m; fetches = f; touches = t }

  abbrev pub v : World
  v = record { bytes = n; fetches = f; touches = t }

  -- reads
  word_by : (allowed : ℕ → Bool) → ((a : ℕ) → may allowed a ≡ true → m a ≡ n a) → (a : ℕ) (odd p q : Bool) → may allowed a ≡ p → may allowed (a + 1) ≡ q → where_ok (if odd then Err (Odd a) else if p && q then Ok tt else Err (Access a)) (word_at m a) ≡ where_ok (if odd then Err (Odd a) else if p && q then Ok tt else Err (Access a)) (word_at n a)
  word_by allowed h a true p q e d = refl
  word_by allowed h a false true true e d = ap Ok (word_same m n a (h a e) (h (a + 1) d))
  word_by allowed h a false true false e d = refl
  word_by allowed h a false false q e d = refl

  byte_by : (a : ℕ) (p : Bool) → may t a ≡ p → where_ok (if p then Ok tt else Err (Access a)) (byte_at m a) ≡ where_ok (if p then Ok tt else Err (Access a)) (byte_at n a)
  byte_by a true e = ap (λ (x : ℕ). Ok (x % 256)) (same_used a e)
  byte_by a false e = refl

  fetches : (a : ℕ) → core.fetch w a ≡ core.fetch v a
  fetches a = ap of_memory (word_by f same_code a (is_odd a) (may f a) (may f (a + 1)) refl refl)

  loads_word : (a : ℕ) → load_word w a ≡ load_word v a
  loads_word a = ap of_memory (word_by t same_used a (is_odd a) (may t a) (may t (a + 1)) refl refl)

  loads_byte : (a : ℕ) → of_memory (byte_read w a) ≡ of_memory (byte_read v a)
  loads_byte a = ap of_memory (byte_by a (may t a) refl)

  same_within : {A B : Type 0} (r : Result A Failure) (k l : A → Result B Failure) → ((x : A) → k x ≡ l x) → and_then r k ≡ and_then r l
  same_within (Ok x) k l h = h x
  same_within (Err e) k l h = refl

  bind_same : {A B : Type 0} (r s : Result A Failure) (k l : A → Result B Failure) → r ≡ s → ((x : A) → k x ≡ l x) → and_then r k ≡ and_then s l
  bind_same r s k l e h = same_within r k l h ∙ ap (λ q. and_then q l) e

  next_same : (g : Regs) → next_word w g ≡ next_word v g
  next_same g = ap (λ r. and_then r (λ x. Ok (x, core.past_word g))) (fetches (reg g Pc))

  address_same : (z : Size) (g : Regs) (o : Operand) → address w z g o ≡ address v z g o
  address_same z g (Register r) = refl
  address_same z g (Deferred r) = refl
  address_same z g (Increment p) = refl
  address_same z g (IncrementDeferred p) = bind_same _ _ _ _ (loads_word (reg g (core.pointer_reg p))) (λ x. refl)
  address_same z g (Decrement r) = refl
  address_same z g (DecrementDeferred r) = bind_same _ _ _ _ (loads_word (wrap_sub (reg g r) 2)) (λ x. refl)
  address_same z g (Index r x) = bind_same _ _ _ _ (next_same g) (λ x. refl)
  address_same z g (IndexDeferred r x) = bind_same _ _ _ _ (next_same g) (λ x. bind_same _ _ _ _ (loads_word (wrap_add x.0 (reg x.1 r))) (λ y. refl))
  address_same z g (Immediate x) = bind_same _ _ _ _ (next_same g) (λ x. refl)
  address_same z g (Absolute x) = bind_same _ _ _ _ (next_same g) (λ x. refl)

  load_same : (z : Size) (g : Regs) (p : Place) → load w z g p ≡ load v z g p
  load_same Word g (InRegister r) = refl
  load_same Byte g (InRegister r) = refl
  load_same Word g (InMemory a) = loads_word a
  load_same Byte g (InMemory a) = loads_byte a
  load_same Word g (InCode a x) = refl
  load_same Byte g (InCode a x) = refl

  operand_same : (z : Size) (g : Regs) (o : Operand) → operand w z g o ≡ operand v z g o
  operand_same z g o = bind_same _ _ _ _ (address_same z g o) (λ p. bind_same _ _ _ _ (load_same z p.1 p.0) (λ x. refl))

  -- what is left
  abbrev Alike : Result Outcome Failure → Result Outcome Failure → Type 0
  Alike (Ok x) (Ok y) = Both f t m n x y × (x.stop ≡ Went)
  Alike (Ok x) (Err e) = ⊥
  Alike (Err d) (Ok y) = ⊥
  Alike (Err d) (Err e) = d ≡ e

  unchanged : (c : Stop) (g : Regs) → Both f t m n (record { stop = c; regs = g; world = w }) (record { stop = c; regs = g; world = v })
  unchanged c g = record { stop = refl; regs = refl; first_fetches = refl; first_touches = refl; second_fetches = refl; second_touches = refl; used = same_used; first_kept = λ a h. refl; second_kept = λ a h. refl }

  going : (g : Regs) → Alike (goes_on w g) (goes_on v g)
  going g = (unchanged Went g, refl)

  alike_within : {A : Type 0} (r : Result A Failure) (k l : A → Result Outcome Failure) → ((x : A) → Alike (k x) (l x)) → Alike (and_then r k) (and_then r l)
  alike_within (Ok x) k l h = h x
  alike_within (Err e) k l h = refl

  after : {A : Type 0} (r s : Result A Failure) (k l : A → Result Outcome Failure) → r ≡ s → ((x : A) → Alike (k x) (l x)) → Alike (and_then r k) (and_then s l)
  after r s k l e h = subst (λ q. Alike (and_then r k) (and_then q l)) e (alike_within r k l h)

  not_here : (a b : ℕ) → may t a ≡ false → may t b ≡ true → a ≡ b → ⊥
  not_here a b none h e = let d : may t b ≡ false = subst (λ c. may t c ≡ false) e none in absurd cc

  word_put_by : (g : Regs) (b x : ℕ) (odd p q : Bool) → may t b ≡ p → may t (b + 1) ≡ q → Alike (and_then (of_memory (where_ok (if odd then Err (Odd b) else if p && q then Ok tt else Err (Access b)) (record w { bytes = put_word m b x }))) (λ u. goes_on u g)) (and_then (of_memory (where_ok (if odd then Err (Odd b) else if p && q then Ok tt else Err (Access b)) (record v { bytes = put_word n b x }))) (λ u. goes_on u g))
  word_put_by g b x true p q e d = refl
  word_put_by g b x false true true e d = (
    record {
      stop = refl;
      regs = refl;
      first_fetches = refl;
      first_touches = refl;
      second_fetches = refl;
      second_touches = refl;
      used = λ a h. put_word_same m n b x a (same_used a h);
      first_kept = λ a h. put_word_apart m b x a (not_here a b h e) (not_here a (b + 1) h d);
      second_kept = λ a h. put_word_apart n b x a (not_here a b h e) (not_here a (b + 1) h d);
    },
    refl,
  )
  word_put_by g b x false true false e d = refl
  word_put_by g b x false false q e d = refl

  word_put : (g : Regs) (b x : ℕ) → Alike (and_then (of_memory (word_written w b x)) (λ u. goes_on u g)) (and_then (of_memory (word_written v b x)) (λ u. goes_on u g))
  word_put g b x = word_put_by g b x (is_odd b) (may t b) (may t (b + 1)) refl refl

  byte_put_by : (g : Regs) (b x : ℕ) (p : Bool) → may t b ≡ p → Alike (and_then (of_memory (where_ok (if p then Ok tt else Err (Access b)) (record w { bytes = put_byte m b x }))) (λ u. goes_on u g)) (and_then (of_memory (where_ok (if p then Ok tt else Err (Access b)) (record v { bytes = put_byte n b x }))) (λ u. goes_on u g))
  byte_put_by g b x true e = (
    record {
      stop = refl;
      regs = refl;
      first_fetches = refl;
      first_touches = refl;
      second_fetches = refl;
      second_touches = refl;
      used = λ a h. put_byte_same m n b x a (same_used a h);
      first_kept = λ a h. put_byte_apart m b x a (not_here a b h e);
      second_kept = λ a h. put_byte_apart n b x a (not_here a b h e);
    },
    refl,
  )
  byte_put_by g b x false e = refl

  byte_put : (g : Regs) (b x : ℕ) → Alike (and_then (of_memory (byte_written w b x)) (λ u. goes_on u g)) (and_then (of_memory (byte_written v b x)) (λ u. goes_on u g))
  byte_put g b x = byte_put_by g b x (may t b) refl

  stores : (z : Size) (g : Regs) (p : Place) (x : ℕ) → Alike (store w z g p x) (store v z g p x)
  stores Word g (InRegister r) x = going _
  stores Byte g (InRegister r) x = going _
  stores Word g (InMemory b) x = word_put g b x
  stores Byte g (InMemory b) x = byte_put g b x
  stores Word g (InCode b y) x = word_put g b x
  stores Byte g (InCode b y) x = byte_put g b x

  moves : (g : Regs) (z : Size) (x : ℕ) (p : Place) → Alike (move w g z x p) (move v g z x p)
  moves g Word x p = stores Word g p x
  moves g Byte x (InRegister r) = going _
  moves g Byte x (InMemory b) = stores Byte g (InMemory b) x
  moves g Byte x (InCode b y) = stores Byte g (InCode b y) x

  doubles : (g : Regs) (o : DoubleOp) (z : Size) (x : ℕ) (p : Place) → Alike (double w g o z x p) (double v g o z x p)
  doubles g Mov z x p = moves (core.by_value g z x false g.c) z x p
  doubles g Cmp z x p = after _ _ _ _ (load_same z g p) (λ y. going _)
  doubles g Bit z x p = after _ _ _ _ (load_same z g p) (λ y. going _)
  doubles g Bic z x p = after _ _ _ _ (load_same z g p) (λ y. stores z _ p _)
  doubles g Bis z x p = after _ _ _ _ (load_same z g p) (λ y. stores z _ p _)

  sums : (g : Regs) (o : SumOp) (x : ℕ) (p : Place) → Alike (sum w g o x p) (sum v g o x p)
  sums g Add x p = after _ _ _ _ (load_same Word g p) (λ y. stores Word _ p _)
  sums g Sub x p = after _ _ _ _ (load_same Word g p) (λ y. stores Word _ p _)

  ends : (g : Regs) (o : SingleOp) (z : Size) (x : ℕ) (p : Place) → Alike (single_end w g o z x p) (single_end v g o z x p)
  ends g Tst z x p = going _
  ends g Clr z x p = stores z g p x
  ends g Com z x p = stores z g p x
  ends g Inc z x p = stores z g p x
  ends g Dec z x p = stores z g p x
  ends g Neg z x p = stores z g p x
  ends g Adc z x p = stores z g p x
  ends g Sbc z x p = stores z g p x
  ends g Ror z x p = stores z g p x
  ends g Rol z x p = stores z g p x
  ends g Asr z x p = stores z g p x
  ends g Asl z x p = stores z g p x

  read_first : (g : Regs) (o : SingleOp) (z : Size) (p : Place) → Alike (single_read w g o z p) (single_read v g o z p)
  read_first g o z p = after _ _ _ _ (load_same z g p) (λ y. ends _ o z _ p)

  singles : (g : Regs) (o : SingleOp) (z : Size) (p : Place) → Alike (single w g o z p) (single v g o z p)
  singles g Clr z p = stores z _ p 0
  singles g Com z p = read_first g Com z p
  singles g Inc z p = read_first g Inc z p
  singles g Dec z p = read_first g Dec z p
  singles g Neg z p = read_first g Neg z p
  singles g Adc z p = read_first g Adc z p
  singles g Sbc z p = read_first g Sbc z p
  singles g Tst z p = read_first g Tst z p
  singles g Ror z p = read_first g Ror z p
  singles g Rol z p = read_first g Rol z p
  singles g Asr z p = read_first g Asr z p
  singles g Asl z p = read_first g Asl z p

  words : (g : Regs) (o : WordOp) (p : Place) → Alike (on_word w g o p) (on_word v g o p)
  words g Swab p = after _ _ _ _ (load_same Word g p) (λ y. stores Word _ p _)
  words g Sxt p = stores Word _ p _

  registers : (g : Regs) (k : ℕ) (o : RegisterOp) (r : Reg) (p : Place) → Alike (on_register w g k o r p) (on_register v g k o r p)
  registers g k Mul r p = after _ _ _ _ (load_same Word g p) (λ y. going _)
  registers g k Div r p = after _ _ _ _ (load_same Word g p) (λ y. going _)
  registers g k Ash r p = after _ _ _ _ (load_same Word g p) (λ y. going _)
  registers g k Ashc r p = after _ _ _ _ (load_same Word g p) (λ y. going _)
  registers g k Xor r p = after _ _ _ _ (load_same Word g p) (λ y. stores Word _ p _)

  if_odd : (b : Bool) (e : Failure) (r s : Result Outcome Failure) → Alike r s → Alike (if b then Err e else r) (if b then Err e else s)
  if_odd true e r s h = refl
  if_odd false e r s h = h

  -- how an instruction ends, of which this word begins an instruction
  abbrev Trapped : Regs → Instr → Outcome → Type 0
  Trapped g i x = (k : ℕ) × (i ≡ Trap k) × (x.stop ≡ Service k) × (x.regs ≡ g) × (x.world ≡ w)

  abbrev Ended : Regs → Instr → Result Outcome Failure → Result Outcome Failure → Type 0
  Ended g i (Ok x) (Ok y) = Both f t m n x y × ((x.stop ≡ Went) ⊎ Trapped g i x)
  Ended g i (Ok x) (Err e) = ⊥
  Ended g i (Err d) (Ok y) = ⊥
  Ended g i (Err d) (Err e) = d ≡ e

  went : (g : Regs) (i : Instr) (r s : Result Outcome Failure) → Alike r s → Ended g i r s
  went g i (Ok x) (Ok y) h = (h.0, inl h.1)
  went g i (Ok x) (Err e) h = h
  went g i (Err d) (Ok y) h = h
  went g i (Err d) (Err e) h = h

  traps : (at k : ℕ) (g : Regs) → Ended g (Trap k) (trap at w g k) (trap at v g k)
  traps at k g = traps_by (nat_le 1 k && nat_le k 11)
    where
      traps_by : (b : Bool) → Ended g (Trap k) (if b then Ok (record { stop = Service k; regs = g; world = w }) else Err (core.failure Reserved at)) (if b then Ok (record { stop = Service k; regs = g; world = v }) else Err (core.failure Reserved at))
      traps_by true = (unchanged (Service k) g, inr (k, refl, refl, refl, refl))
      traps_by false = refl

  performs : (at : ℕ) (g : Regs) (i : Instr) → Ended g i (perform at w g i) (perform at v g i)
  performs at g (Double o z s d) = went g _ _ _ (after _ _ _ _ (operand_same z g s) (λ x. after _ _ _ _ (address_same z x.1 d) (λ p. doubles p.1 o z x.0 p.0)))
  performs at g (Sum o s d) = went g _ _ _ (after _ _ _ _ (operand_same Word g s) (λ x. after _ _ _ _ (address_same Word x.1 d) (λ p. sums p.1 o x.0 p.0)))
  performs at g (Single o z d) = went g _ _ _ (after _ _ _ _ (address_same z g d) (λ p. singles p.1 o z p.0))
  performs at g (OnWord o d) = went g _ _ _ (after _ _ _ _ (address_same Word g d) (λ p. words p.1 o p.0))
  performs at g (OnRegister o r s) = went g _ _ _ (if_odd (is_odd_pair o r) _ _ _ (after _ _ _ _ (address_same Word g s) (λ p. registers p.1 (reg g r) o r p.0)))
  performs at g (Branch c k) = (unchanged Went _, inl refl)
  performs at g (Loop r k) = (unchanged Went _, inl refl)
  performs at g (Jump d) = went g _ _ _ (after _ _ _ _ (address_same Word g d) (λ p. alike_within (target at p.0) _ _ (λ b. going _)))
  performs at g (Call r d) = went g _ _ _ (after _ _ _ _ (address_same Word g d) (λ p. alike_within (target at p.0) _ _ (λ b. word_put _ (wrap_sub (reg p.1 Sp) 2) (reg p.1 r))))
  performs at g (Return r) = went g _ _ _ (after _ _ _ _ (loads_word (reg g Sp)) (λ x. going _))
  performs at g (Trap k) = traps at k g
  performs at g (Flags u k z o c) = (unchanged Went _, inl refl)

  -- how an instruction ends: it went, it asked for a service, or it faulted
  abbrev pub Asked : Regs → Outcome → Type 0
  Asked g x = (k : ℕ) × (x.stop ≡ Service k) × (x.regs ≡ core.past_word g) × (x.world ≡ w) × ((word : ℕ) × (core.fetch w (reg g Pc) ≡ Ok word) × (first_of word ≡ Some (Trap k)))

  abbrev pub Faulted : Regs → Outcome → Type 0
  Faulted g x = (d : Failure) × (x.stop ≡ Fault d.kind d.at) × (x.regs ≡ g) × (x.world ≡ w)

  abbrev Planned : Regs → Result Outcome Failure → Result Outcome Failure → Type 0
  Planned g (Ok x) (Ok y) = Both f t m n x y × ((x.stop ≡ Went) ⊎ Asked g x)
  Planned g (Ok x) (Err e) = ⊥
  Planned g (Err d) (Ok y) = ⊥
  Planned g (Err d) (Err e) = d ≡ e

  as_planned : (g : Regs) (word : ℕ) (i : Instr) → core.fetch w (reg g Pc) ≡ Ok word → first_of word ≡ Some i → (r s : Result Outcome Failure) → Ended (core.past_word g) i r s → Planned g r s
  as_planned g word i e d (Ok x) (Ok y) h = (h.0, elim h.1 [ inl q ↦ inl q | inr q ↦ inr (q.0, q.2, q.3, q.4, (word, e, d ∙ ap Some q.1)) ])
  as_planned g word i e d (Ok x) (Err b) h = h
  as_planned g word i e d (Err a) (Ok y) h = h
  as_planned g word i e d (Err a) (Err b) h = h

  first : (g : Regs) (word : ℕ) (o : Option Instr) → core.fetch w (reg g Pc) ≡ Ok word → first_of word ≡ o → Planned g (perform_first (reg g Pc) w (core.past_word g) o) (perform_first (reg g Pc) v (core.past_word g) o)
  first g word None e d = refl
  first g word (Some i) e d = as_planned g word i e d _ _ (performs (reg g Pc) (core.past_word g) i)

  abbrev next_by : Regs → Result ℕ Failure → Result (ℕ × Regs) Failure
  next_by g q = and_then q (λ x. Ok (x, core.past_word g))

  planned : (g : Regs) (q : Result ℕ Failure) → core.fetch w (reg g Pc) ≡ q → Planned g (and_then (next_by g q) (λ k. perform_first (reg g Pc) w k.1 (first_of k.0))) (and_then (next_by g q) (λ k. perform_first (reg g Pc) v k.1 (first_of k.0)))
  planned g (Ok word) e = first g word (first_of word) e refl
  planned g (Err d) e = refl

  plans : (g : Regs) → Planned g (plan w g) (plan v g)
  plans g =
      subst (λ q. Planned g (plan w g) (and_then (next_by g q) (λ k. perform_first (reg g Pc) v k.1 (first_of k.0)))) (fetches (reg g Pc)) (planned g (core.fetch w (reg g Pc)) refl)

  settled : (g : Regs) (r s : Result Outcome Failure) → Planned g r s → Both f t m n (settle w g r) (settle v g s) × ((settle w g r).stop ≡ Went ⊎ Asked g (settle w g r) ⊎ Faulted g (settle w g r))
  settled g (Ok x) (Ok y) h = (h.0, elim h.1 [ inl q ↦ inl q | inr q ↦ inr (inl q) ])
  settled g (Ok x) (Err e) h = absurd h
  settled g (Err d) (Ok y) h = absurd h
  settled g (Err d) (Err e) h = (record { stop = ap (λ (x : Failure). Fault x.kind x.at) h; regs = refl; first_fetches = refl; first_touches = refl; second_fetches = refl; second_touches = refl; used = same_used; first_kept = λ a k. refl; second_kept = λ a k. refl }, inr (inr (d, refl, refl, refl)))

  pub executes_alike : (g : Regs) → Both f t m n (execute w g) (execute v g)
  executes_alike g = (settled g (plan w g) (plan v g) (plans g)).0

  -- how an instruction over the first memory ends
  pub ends_so : (g : Regs) → (execute w g).stop ≡ Went ⊎ Asked g (execute w g) ⊎ Faulted g (execute w g)
  ends_so g = (settled g (plan w g) (plan v g) (plans g)).1
