-- What an act says is what the machine does.
use Rattle.std.proofs.Common.{◌≡◌, ℕ, ◌+◌, ◌-◌, ◌*◌, ◌/◌, ◌%◌, ◌<◌, ◌≤◌, Bool, true, false, List, [], ◌∷◌, ◌++◌, length, refl, sym, ap, ◌∙◌, subst, inl, inr, arith, drop, length-set, length-drop}
use Rattle.std.specs.Prelude.{◌⊎◌, ◌==◌, slice_index, slice_set, bit_and, bit_or, not, nat_le, nat_lt, bit_xor, if◌then◌else◌, Result, Ok}
use Rattle.std.proofs.lemmas.Bool.{lt-ltb, eqb-false, ltb-false, leb-true, leb-false}
use Rattle.std.proofs.lemmas.List.{append-nil}
use Rattle.std.proofs.lemmas.Nat.{or_of_16, xor_of_16, mod_below}
use Rattle.pdp_symbolic.proofs.Shifts.{shifted_below}
use Rattle.std.proofs.lemmas.Bool.Decides.{nat_tests}
use Rattle.rt_words.specs.Word.{wrap_add, wrap_sub, extend_sign, with_low_byte, differ}
use Rattle.pdp_code.specs.declared.instruction.Reg.{Reg}
use Rattle.pdp_code.specs.declared.instruction.Reg.TheVariants.{R0, R1, R2, R3, R4, R5, Sp, Pc}
use Rattle.pdp_code.specs.declared.instruction.Pointer.TheVariants.{P0, P1, P2, P3, P4, P5, PSp}
use Rattle.pdp_code.specs.declared.instruction.Operand.{Operand}
use Rattle.pdp_code.specs.declared.instruction.Operand.TheVariants.{Register, Deferred, Increment, IncrementDeferred, Decrement, DecrementDeferred, Index, IndexDeferred, Immediate, Absolute}
use Rattle.pdp_code.specs.declared.instruction.Size.{Size}
use Rattle.pdp_code.specs.declared.instruction.Size.TheVariants.{Word, Byte}
use Rattle.pdp_code.specs.declared.instruction.DoubleOp.{DoubleOp}
use Rattle.pdp_code.specs.declared.instruction.DoubleOp.TheVariants.{Mov, Cmp, Bit, Bic, Bis}
use Rattle.pdp_code.specs.declared.instruction.SumOp.{SumOp}
use Rattle.pdp_code.specs.declared.instruction.SumOp.TheVariants.{Add, Sub}
use Rattle.pdp_code.specs.declared.instruction.SingleOp.{SingleOp}
use Rattle.pdp_code.specs.declared.instruction.SingleOp.TheVariants.{Clr, Com, Inc, Dec, Neg, Adc, Sbc, Tst, Ror, Rol, Asr, Asl}
use Rattle.pdp_code.specs.declared.instruction.WordOp.{WordOp}
use Rattle.pdp_code.specs.declared.instruction.WordOp.TheVariants.{Swab, Sxt}
use Rattle.pdp_code.specs.declared.instruction.RegisterOp.{RegisterOp}
use Rattle.pdp_code.specs.declared.instruction.RegisterOp.TheVariants.{Mul, Div, Ash, Ashc, Xor}
use Rattle.pdp_code.specs.declared.instruction.Instr.{Instr}
use Rattle.pdp_code.specs.declared.instruction.Instr.TheVariants.{Double, Sum, Single, OnWord, OnRegister, Branch, Loop, Jump, Call, Return, Trap, Flags}
use Rattle.pdp_code.specs.Code.{operand_words, more_words}
use Rattle.pdp_core.specs.declared.cpu.Regs.{Regs}
use Rattle.pdp_core.specs.declared.cpu.Failure.{Failure}
use Rattle.pdp_core.specs.declared.cpu.Stop.TheVariants.{Went}
use Rattle.pdp_core.specs.declared.cpu.Place.{Place}
use Rattle.pdp_core.specs.declared.cpu.Place.TheVariants.{InRegister, InMemory, InCode}
use Rattle.pdp_core.specs.World.{World, word_at, byte_at, put_word, put_byte}
use Rattle.pdp_code.specs.Values.{negative, single_value, magnitude, signed_word, shifted, product_of, too_large, quotient_word, remainder_word}
use Rattle.pdp_core.specs.Execute.{Outcome, and_then, reg, with_reg, fetch, load_word, operand, address, load, store, goes_on, double, sum, single, single_read, single_end, on_word, by_value, by_difference, by_sum, perform, call, return_by, loop, branch, holds, on_register, target, with_product, divided, shift_word, shift_pair, pair}
use Rattle.pdp_core.specs.Protection.{usable}
use Rattle.pdp_symbolic.specs.Machine.{Layout, IsLaid, protection, memory, Machine, Held, held, regs, WordsAt, Holds, Matches, SameData, Stands}
use Rattle.pdp_symbolic.specs.Acts.{Act, Quiet, Reads, WritesByte, Splits, Asks, Target, ToReg, ToPush, ToTop, ToOwn, ToBlock, ToPopped, ToFixed, ToShared, past, popped, pop, top, source, byte_source, aim, look, put, put_reg, replaced, flagged, flagged_difference, flagged_sum, flagged_byte, flagged_one, on_two, on_sum, on_one, on_words, put_one, move_byte, double_bytes, flagged_product, multiplied, shifted_by, shifted_pair, divided_by, replaced_low, on_reg, act_register, act_on, act_call, act_return, act_loop, jumped}
use Rattle.pdp_symbolic.specs.Plans.{IsShared, IsSharedByte, Leaves, Fine}
use Rattle.pdp_symbolic.proofs.Memory.{word_below, word_agrees, stack_agrees, stack_push, stack_set, stack_drop, put_apart, put_byte_apart, low_byte, word_put_byte}
use Rattle.pdp_symbolic.proofs.Reach.{even_is, usable_shared, usable_block, usable_own, fetch_ok, load_ok, load_byte_ok, store_ok, store_byte_ok, word_of}

module _ (l : Layout) (laid : IsLaid l) (m : ℕ → ℕ) where
  -- a word of the code, as a task fetches it
  pub fetch_word : (t : Held) (x : ℕ) (ws : List ℕ) → Holds l t m → Stands l t.pc (x ∷ ws) → fetch (memory l m) t.pc ≡ Ok x
  fetch_word t x ws h s =
      let small : t.pc + 1 < 57344 = omega (arith, s.1, laid.shared, laid.after, laid.behind, laid.order, laid.top) in
      fetch_ok l m t.pc x s.0 s.1 small (word_agrees l.code m t.pc (h.code t.pc (omega (arith, s.1))) (h.code (t.pc + 1) s.1) ∙ s.2)

  with_pc : (t : Held) (p : ℕ) → Holds l t m → p < 65536 → Holds l (record t { pc = p }) m
  with_pc t p h q = record { stack = h.stack; full = h.full; low = h.low; block = h.block; eight = h.eight; code = h.code; r0 = h.r0; r1 = h.r1; r2 = h.r2; r3 = h.r3; r4 = h.r4; r5 = h.r5; pc = q }

  pub past_holds : (t : Held) → Holds l t m → Holds l (record t { pc = wrap_add t.pc 2 }) m
  past_holds t h = with_pc t (wrap_add t.pc 2) h (omega arith)

  sp_even : (t : Held) → Holds l t m → t.sp % 2 ≡ 0
  sp_even t h = let f = h.full in let e = laid.even in omega arith

  -- the words below the stack pointer's top
  popped_holds : (t : Held) (x : ℕ) (ws : List ℕ) → t.stack ≡ x ∷ ws → Holds l t m → Holds l (record t { sp = wrap_add t.sp 2; stack = ws }) m
  popped_holds t x ws e h =
      let f : t.sp + 2 * length (x ∷ ws) ≡ l.high = subst (λ s. t.sp + 2 * length s ≡ l.high) e h.full in
      let s : WordsAt m t.sp (x ∷ ws) = subst (λ s. WordsAt m t.sp s) e h.stack in
      let w : wrap_add t.sp 2 ≡ t.sp + 2 = omega (arith, laid.top) in
      record {
        stack = subst (λ a. WordsAt m a ws) (sym w) s.1;
        full = rw w (omega arith);
        low = rw w (omega (arith, h.low));
        block = h.block;
        eight = h.eight;
        code = h.code;
        r0 = h.r0;
        r1 = h.r1;
        r2 = h.r2;
        r3 = h.r3;
        r4 = h.r4;
        r5 = h.r5;
        pc = h.pc;
      }

  top_word : (t : Held) (x : ℕ) (ws : List ℕ) → t.stack ≡ x ∷ ws → Holds l t m → load_word (memory l m) t.sp ≡ Ok x
  top_word t x ws e h =
      let f : t.sp + 2 * length (x ∷ ws) ≡ l.high = subst (λ s. t.sp + 2 * length s ≡ l.high) e h.full in
      let s : WordsAt m t.sp (x ∷ ws) = subst (λ s. WordsAt m t.sp s) e h.stack in
      let high : t.sp + 1 < l.high = omega (arith, f) in
      load_ok l m t.sp x (sp_even t h) (usable_own l t.sp h.low (omega (arith, high))) (usable_own l (t.sp + 1) (omega (arith, h.low)) high) (omega (arith, high, laid.top)) s.0

  top_byte : (t : Held) (g : Regs) (x : ℕ) (ws : List ℕ) → t.stack ≡ x ∷ ws → Holds l t m → load (memory l m) Byte g (InMemory t.sp) ≡ Ok (x % 256)
  top_byte t g x ws e h =
      let f : t.sp + 2 * length (x ∷ ws) ≡ l.high = subst (λ s. t.sp + 2 * length s ≡ l.high) e h.full in
      let s : WordsAt m t.sp (x ∷ ws) = subst (λ s. WordsAt m t.sp s) e h.stack in
      load_byte_ok l m g t.sp (x % 256) (usable_own l t.sp h.low (omega (arith, f))) (omega (arith, f, laid.top)) (sym (low_byte m t.sp) ∙ ap (λ y. y % 256) s.0)

  own_word : (t : Held) (a k : ℕ) → Holds l t m → a ≡ t.sp + 2 * k → k < length t.stack → load_word (memory l m) a ≡ Ok (slice_index t.stack k)
  own_word t a k h e inside =
      let even : a % 2 ≡ 0 = omega (arith, e, sp_even t h) in
      let low : l.low ≤ a = omega (arith, e, h.low) in
      let high : a + 1 < l.high = omega (arith, e, inside, h.full) in
      load_ok l m a (slice_index t.stack k) even (usable_own l a low (omega (arith, high))) (usable_own l (a + 1) (omega (arith, low)) high) (omega (arith, high, laid.top)) (subst (λ b. word_at m b ≡ slice_index t.stack k) (sym e) (word_of m t.sp t.stack k h.stack inside))

  -- where a word of the block lies
  in_block : (x k : ℕ) → x ≡ 2 * k → k < 8 → wrap_add x l.block ≡ l.block + 2 * k
  in_block x k e inside = omega (arith, e, inside, laid.behind, laid.order, laid.top)

  block_usable : (a k : ℕ) → a ≡ l.block + 2 * k → k < 8 → (usable (protection l) a ≡ true) × (usable (protection l) (a + 1) ≡ true) × (a + 1 < 57344) × (a % 2 ≡ 0)
  block_usable a k e inside = (
    usable_block l a (omega (arith, e)) (omega (arith, e, inside)),
    usable_block l (a + 1) (omega (arith, e)) (omega (arith, e, inside)),
    omega (arith, e, inside, laid.behind, laid.order, laid.top),
    omega (arith, e, laid.even_block),
  )

  block_word : (t : Held) (x k : ℕ) → Holds l t m → x ≡ 2 * k → k < 8 → load_word (memory l m) (wrap_add x l.block) ≡ Ok (slice_index t.block k)
  block_word t x k h e inside =
      let at = in_block x k e inside in
      let may = block_usable (wrap_add x l.block) k at inside in
      load_ok l m (wrap_add x l.block) (slice_index t.block k) may.3 may.0 may.1 may.2 (subst (λ b. word_at m b ≡ slice_index t.block k) (sym at) (word_of m l.block t.block k h.block (omega (arith, inside, h.eight))))

  shared_word : (a : ℕ) → IsShared l a → load_word (memory l m) a ≡ Ok (word_at m a)
  shared_word a s =
      let top : a + 1 < 57344 = omega (arith, s.below, laid.after, laid.behind, laid.order, laid.top) in
      load_ok l m a (word_at m a) s.even (usable_shared l a s.above (omega (arith, s.below))) (usable_shared l (a + 1) (omega (arith, s.above)) s.below) top refl

  word_from : (a x : ℕ) → word_at m a ≡ x → x < 65536
  word_from a x e = subst (λ y. y < 65536) e (word_below m a)

  reg_below : (t : Machine) (r : Reg) → Matches l t m → reg (regs t) r < 65536
  reg_below t R0 h = h.r0
  reg_below t R1 h = h.r1
  reg_below t R2 h = h.r2
  reg_below t R3 h = h.r3
  reg_below t R4 h = omega (arith, h.r4, laid.behind, laid.order, laid.top)
  reg_below t R5 h = h.r5
  reg_below t Sp h = omega (arith, h.full, laid.top)
  reg_below t Pc h = h.pc

  module _ (K : ℕ × Regs → Result Outcome Failure) (k : ℕ → Machine → Act) where
    -- an operand that has this value leaves this task
    from_operand : (r : Result (ℕ × Regs) Failure) (x : ℕ) (u : Machine) → r ≡ Ok (x, regs u) → Fine l m (K (x, regs u)) (k x u) → Fine l m (and_then r K) (k x u)
    from_operand r x u e f = subst (λ v. Fine l m (and_then v K) (k x u)) (sym e) f

    abbrev Goal : Operand → Machine → Act → Type 0
    Goal o t a = Fine l m (and_then (operand (memory l m) Word (regs t) o) K) a

    abbrev Go : List ℕ → Type 0
    Go rest = (x : ℕ) (u : Machine) → x < 65536 → Stands l u.pc rest → Matches l u m → Fine l m (K (x, regs u)) (k x u)

    pop_sound : (t : Machine) (ws rest : List ℕ) → t.stack ≡ ws → Matches l t m → Stands l t.pc rest → Go rest → Goal (Increment PSp) t (pop t ws k)
    pop_sound t [] rest e h s go = tt
    pop_sound t (x ∷ ws) rest e h s go =
        let f : load_word (memory l m) t.sp ≡ Ok x = top_word (held t) x ws e h in
        let i : WordsAt m t.sp (x ∷ ws) = subst (λ s. WordsAt m t.sp s) e h.stack in
        let o : operand (memory l m) Word (regs t) (Increment PSp) ≡ Ok (x, regs (popped t ws)) = rw f refl in
        from_operand _ x (popped t ws) o (go x (popped t ws) (word_from t.sp x i.0) s (popped_holds (held t) x ws e h))

    top_sound : (t : Machine) (ws rest : List ℕ) → t.stack ≡ ws → Matches l t m → Stands l t.pc rest → Go rest → Goal (Deferred Sp) t (top t ws (λ x. k x t))
    top_sound t [] rest e h s go = tt
    top_sound t (x ∷ ws) rest e h s go =
        let f : load_word (memory l m) t.sp ≡ Ok x = top_word (held t) x ws e h in
        let i : WordsAt m t.sp (x ∷ ws) = subst (λ s. WordsAt m t.sp s) e h.stack in
        let o : operand (memory l m) Word (regs t) (Deferred Sp) ≡ Ok (x, regs t) = rw f refl in
        from_operand _ x t o (go x t (word_from t.sp x i.0) s h)

    shared_sound : (o : Operand) (t u : Machine) (a : ℕ) → operand (memory l m) Word (regs t) o ≡ and_then (load_word (memory l m) a) (λ x. Ok (x, regs u)) → IsShared l a → Fine l m (K (word_at m a, regs u)) (k (word_at m a) u) → Goal o t (k (word_at m a) u)
    shared_sound o t u a e s go = from_operand _ (word_at m a) u (e ∙ ap (λ r. and_then r (λ x. Ok (x, regs u))) (shared_word a s)) go

    own_sound : (o : Operand) (t u : Machine) (a i : ℕ) → operand (memory l m) Word (regs t) o ≡ and_then (load_word (memory l m) a) (λ x. Ok (x, regs u)) → Matches l t m → a ≡ t.sp + 2 * i → i < length t.stack → Fine l m (K (slice_index t.stack i, regs u)) (k (slice_index t.stack i) u) → Goal o t (k (slice_index t.stack i) u)
    own_sound o t u a i e h at inside go = from_operand _ (slice_index t.stack i) u (e ∙ ap (λ r. and_then r (λ x. Ok (x, regs u))) (own_word (held t) a i h at inside)) go

    own_below : (t : Machine) (i : ℕ) → Matches l t m → i < length t.stack → slice_index t.stack i < 65536
    own_below t i h inside = word_from (t.sp + 2 * i) (slice_index t.stack i) (word_of m t.sp t.stack i h.stack inside)

    -- a word of the block
    block_sound : (o : Operand) (t u : Machine) (x i : ℕ) → operand (memory l m) Word (regs t) o ≡ and_then (load_word (memory l m) (wrap_add x l.block)) (λ y. Ok (y, regs u)) → Matches l t m → x ≡ 2 * i → i < 8 → Fine l m (K (slice_index t.block i, regs u)) (k (slice_index t.block i) u) → Goal o t (k (slice_index t.block i) u)
    block_sound o t u x i e h at inside go = from_operand _ (slice_index t.block i) u (e ∙ ap (λ r. and_then r (λ y. Ok (y, regs u))) (block_word (held t) x i h at inside)) go

    block_below : (t : Machine) (i : ℕ) → Matches l t m → i < 8 → slice_index t.block i < 65536
    block_below t i h inside = word_from (l.block + 2 * i) (slice_index t.block i) (word_of m l.block t.block i h.block (omega (arith, inside, h.eight)))

    -- a word at the address on top of the stack
    through_sound : (t : Machine) (ws rest : List ℕ) → t.stack ≡ ws → Matches l t m → Stands l t.pc rest → Go rest → Goal (IncrementDeferred PSp) t (pop t ws (λ a u. Reads a (λ x. k x u)))
    through_sound t [] rest e h s go = tt
    through_sound t (a ∷ ws) rest e h s go = λ is.
        let f : load_word (memory l m) t.sp ≡ Ok a = top_word (held t) a ws e h in
        shared_sound (IncrementDeferred PSp) t (popped t ws) a (rw f refl) is (go (word_at m a) (popped t ws) (word_below m a) s (popped_holds (held t) a ws e h))

    source_sound : (o : Operand) (t : Machine) (rest : List ℕ) → Matches l t m → Stands l t.pc (operand_words o ++ rest) → Go rest → Goal o t (source o t k)
    source_sound (Register r) t rest h s go = go (reg (regs t) r) t (reg_below t r h) s h
    source_sound (Deferred R0) t rest h s go = λ a. shared_sound (Deferred R0) t t t.r0 refl a (go _ t (word_below m t.r0) s h)
    source_sound (Deferred R1) t rest h s go = λ a. shared_sound (Deferred R1) t t t.r1 refl a (go _ t (word_below m t.r1) s h)
    source_sound (Deferred R2) t rest h s go = tt
    source_sound (Deferred R3) t rest h s go = tt
    source_sound (Deferred R4) t rest h s go = λ i at inside.
        let e : t.r4 ≡ wrap_add 0 l.block = omega (arith, h.r4, laid.behind, laid.order, laid.top) in
        block_sound (Deferred R4) t t 0 i (ap (λ a. and_then (load_word (memory l m) a) (λ y. Ok (y, regs t))) e) h at inside (go _ t (block_below t i h inside) s h)
    source_sound (Deferred R5) t rest h s go = tt
    source_sound (Deferred Sp) t rest h s go = top_sound t t.stack rest refl h s go
    source_sound (Deferred Pc) t rest h s go = tt
    source_sound (Increment P0) t rest h s go = tt
    source_sound (Increment P1) t rest h s go = tt
    source_sound (Increment P2) t rest h s go = tt
    source_sound (Increment P3) t rest h s go = tt
    source_sound (Increment P4) t rest h s go = tt
    source_sound (Increment P5) t rest h s go = tt
    source_sound (Increment PSp) t rest h s go = pop_sound t t.stack rest refl h s go
    source_sound (IncrementDeferred P0) t rest h s go = tt
    source_sound (IncrementDeferred P1) t rest h s go = tt
    source_sound (IncrementDeferred P2) t rest h s go = tt
    source_sound (IncrementDeferred P3) t rest h s go = tt
    source_sound (IncrementDeferred P4) t rest h s go = tt
    source_sound (IncrementDeferred P5) t rest h s go = tt
    source_sound (IncrementDeferred PSp) t rest h s go = through_sound t t.stack rest refl h s go
    source_sound (Decrement r) t rest h s go = tt
    source_sound (DecrementDeferred r) t rest h s go = tt
    source_sound (Index R0 x) t rest h s go = λ a.
        let f : fetch (memory l m) t.pc ≡ Ok x = fetch_word (held t) x rest h s in
        shared_sound (Index R0 x) t (past t) (wrap_add x t.r0) (rw f refl) a (go _ (past t) (word_below m (wrap_add x t.r0)) s.3 (past_holds (held t) h))
    source_sound (Index R1 x) t rest h s go = λ i at inside.
        let f : fetch (memory l m) t.pc ≡ Ok x = fetch_word (held t) x rest h s in
        own_sound (Index R1 x) t (past t) (wrap_add x t.r1) i (rw f refl) h at inside (go _ (past t) (own_below t i h inside) s.3 (past_holds (held t) h))
    source_sound (Index R2 x) t rest h s go = tt
    source_sound (Index R3 x) t rest h s go = tt
    source_sound (Index R4 x) t rest h s go = λ i at inside.
        let f : fetch (memory l m) t.pc ≡ Ok x = fetch_word (held t) x rest h s in
        let e : operand (memory l m) Word (regs t) (Index R4 x) ≡ and_then (load_word (memory l m) (wrap_add x t.r4)) (λ y. Ok (y, regs (past t))) = rw f refl in
        block_sound (Index R4 x) t (past t) x i (e ∙ ap (λ b. and_then (load_word (memory l m) (wrap_add x b)) (λ y. Ok (y, regs (past t)))) h.r4) h at inside (go _ (past t) (block_below t i h inside) s.3 (past_holds (held t) h))
    source_sound (Index R5 x) t rest h s go = λ i at inside.
        let f : fetch (memory l m) t.pc ≡ Ok x = fetch_word (held t) x rest h s in
        own_sound (Index R5 x) t (past t) (wrap_add x t.r5) i (rw f refl) h at inside (go _ (past t) (own_below t i h inside) s.3 (past_holds (held t) h))
    source_sound (Index Sp x) t rest h s go = λ i at inside.
        let f : fetch (memory l m) t.pc ≡ Ok x = fetch_word (held t) x rest h s in
        own_sound (Index Sp x) t (past t) (wrap_add x t.sp) i (rw f refl) h at inside (go _ (past t) (own_below t i h inside) s.3 (past_holds (held t) h))
    source_sound (Index Pc x) t rest h s go = tt
    source_sound (IndexDeferred r x) t rest h s go = tt
    source_sound (Immediate x) t rest h s go =
        let f : fetch (memory l m) t.pc ≡ Ok x = fetch_word (held t) x rest h s in
        from_operand (operand (memory l m) Word (regs t) (Immediate x)) x (past t) (rw f refl) (go x (past t) (subst (λ y. y < 65536) s.2 (word_below l.code t.pc)) s.3 (past_holds (held t) h))
    source_sound (Absolute x) t rest h s go = λ a.
        let f : fetch (memory l m) t.pc ≡ Ok x = fetch_word (held t) x rest h s in
        shared_sound (Absolute x) t (past t) x (rw f refl) a (go _ (past t) (word_below m x) s.3 (past_holds (held t) h))

  -- ---- bytes

  byte_may : (a : ℕ) → IsSharedByte l a → usable (protection l) a ≡ true
  byte_may a s = usable_shared l a s.above s.below

  byte_top : (a : ℕ) → IsSharedByte l a → a < 57344
  byte_top a s = omega (arith, s.below, laid.after, laid.behind, laid.order, laid.top)

  shared_byte : (g : Regs) (a : ℕ) → IsSharedByte l a → load (memory l m) Byte g (InMemory a) ≡ Ok (byte_at m a)
  shared_byte g a s = load_byte_ok l m g a (byte_at m a) (byte_may a s) (byte_top a s) refl

  module _ (K : ℕ × Regs → Result Outcome Failure) (k : ℕ → Machine → Act) where
    abbrev ByteGoal : Operand → Machine → Act → Type 0
    ByteGoal o t a = Fine l m (and_then (operand (memory l m) Byte (regs t) o) K) a

    abbrev ByteGo : List ℕ → Type 0
    ByteGo rest = (x : ℕ) (u : Machine) → x < 256 → Stands l u.pc rest → Matches l u m → Fine l m (K (x, regs u)) (k x u)

    shared_byte_sound : (o : Operand) (t u : Machine) (a : ℕ) → operand (memory l m) Byte (regs t) o ≡ Ok (byte_at m a, regs u) → Fine l m (K (byte_at m a, regs u)) (k (byte_at m a) u) → ByteGoal o t (k (byte_at m a) u)
    shared_byte_sound o t u a e go = from_operand K k _ (byte_at m a) u e go

    pop_byte_sound : (t : Machine) (ws rest : List ℕ) → t.stack ≡ ws → Matches l t m → Stands l t.pc rest → ByteGo rest → ByteGoal (Increment PSp) t (pop t ws (λ x u. k (x % 256) u))
    pop_byte_sound t [] rest e h s go = tt
    pop_byte_sound t (x ∷ ws) rest e h s go =
        let f : load (memory l m) Byte (regs (popped t ws)) (InMemory t.sp) ≡ Ok (x % 256) = top_byte (held t) (regs (popped t ws)) x ws e h in
        let o : operand (memory l m) Byte (regs t) (Increment PSp) ≡ Ok (x % 256, regs (popped t ws)) = ap (λ r. and_then r (λ y. Ok (y, regs (popped t ws)))) f in
        from_operand K k _ (x % 256) (popped t ws) o (go (x % 256) (popped t ws) (omega arith) s (popped_holds (held t) x ws e h))

    byte_source_sound : (o : Operand) (t : Machine) (rest : List ℕ) → Matches l t m → Stands l t.pc (operand_words o ++ rest) → ByteGo rest → ByteGoal o t (byte_source o t k)
    byte_source_sound (Register r) t rest h s go = go (reg (regs t) r % 256) t (omega arith) s h
    byte_source_sound (Deferred R0) t rest h s go = λ a. shared_byte_sound (Deferred R0) t t t.r0 (ap (λ r. and_then r (λ y. Ok (y, regs t))) (shared_byte (regs t) t.r0 a)) (go _ t (omega arith) s h)
    byte_source_sound (Deferred R1) t rest h s go = λ a. shared_byte_sound (Deferred R1) t t t.r1 (ap (λ r. and_then r (λ y. Ok (y, regs t))) (shared_byte (regs t) t.r1 a)) (go _ t (omega arith) s h)
    byte_source_sound (Deferred R2) t rest h s go = tt
    byte_source_sound (Deferred R3) t rest h s go = tt
    byte_source_sound (Deferred R4) t rest h s go = tt
    byte_source_sound (Deferred R5) t rest h s go = tt
    byte_source_sound (Deferred Sp) t rest h s go = tt
    byte_source_sound (Deferred Pc) t rest h s go = tt
    byte_source_sound (Increment P0) t rest h s go = tt
    byte_source_sound (Increment P1) t rest h s go = tt
    byte_source_sound (Increment P2) t rest h s go = tt
    byte_source_sound (Increment P3) t rest h s go = tt
    byte_source_sound (Increment P4) t rest h s go = tt
    byte_source_sound (Increment P5) t rest h s go = tt
    byte_source_sound (Increment PSp) t rest h s go = pop_byte_sound t t.stack rest refl h s go
    byte_source_sound (IncrementDeferred p) t rest h s go = tt
    byte_source_sound (Decrement r) t rest h s go = tt
    byte_source_sound (DecrementDeferred r) t rest h s go = tt
    byte_source_sound (Index r x) t rest h s go = tt
    byte_source_sound (IndexDeferred r x) t rest h s go = tt
    byte_source_sound (Immediate x) t rest h s go = tt
    byte_source_sound (Absolute x) t rest h s go = λ a.
        let f : fetch (memory l m) t.pc ≡ Ok x = fetch_word (held t) x rest h s in
        let e : operand (memory l m) Byte (regs t) (Absolute x) ≡ and_then (load (memory l m) Byte (regs (past t)) (InMemory x)) (λ y. Ok (y, regs (past t))) = rw f refl in
        shared_byte_sound (Absolute x) t (past t) x (e ∙ ap (λ r. and_then r (λ y. Ok (y, regs (past t)))) (shared_byte (regs (past t)) x a)) (go _ (past t) (omega arith) s.3 (past_holds (held t) h))

  -- ---- destinations

  -- a task whose stack pointer is lowered for a word to come
  record Ready (t : Held) : Type 0 where
    stack : WordsAt m (t.sp + 2) t.stack
    full : t.sp + 2 + 2 * length t.stack ≡ l.high
    low : l.low ≤ t.sp
    block : WordsAt m l.block t.block
    eight : length t.block ≡ 8
    code : (a : ℕ) → a < l.code_end → m a ≡ l.code a
    r0 : t.r0 < 65536
    r1 : t.r1 < 65536
    r2 : t.r2 < 65536
    r3 : t.r3 < 65536
    r4 : t.r4 ≡ l.block
    r5 : t.r5 < 65536
    pc : t.pc < 65536

  abbrev place_of : Target → ℕ → Place
  place_of (ToReg r) sp = InRegister r
  place_of ToPush sp = InMemory sp
  place_of ToTop sp = InMemory sp
  place_of (ToOwn a) sp = InMemory a
  place_of (ToBlock x) sp = InMemory (wrap_add x l.block)
  place_of (ToPopped a x) sp = InMemory a
  place_of (ToFixed a x) sp = InCode a x
  place_of (ToShared a) sp = InMemory a

  abbrev Aims : Target → Held → Type 0
  Aims (ToReg r) t = Holds l t m
  Aims ToPush t = Ready t
  Aims ToTop t = Holds l t m
  Aims (ToOwn a) t = Holds l t m
  Aims (ToBlock x) t = Holds l t m
  Aims (ToPopped a x) t = Holds l t m × (load_word (memory l m) a ≡ Ok x) × (x < 65536)
  Aims (ToFixed a x) t = Holds l t m × (x < 65536)
  Aims (ToShared a) t = Holds l t m

  ready : (t : Held) → Holds l t m → l.low + 2 * (1 + length t.stack) ≤ l.high → Ready (record t { sp = wrap_sub t.sp 2 })
  ready t h room =
      let low : 2 ≤ t.sp = omega (arith, h.full) in
      let top : t.sp < 65536 = omega (arith, h.full, laid.top) in
      let w : wrap_sub t.sp 2 ≡ t.sp - 2 = omega arith in
      let e : t.sp - 2 + 2 ≡ t.sp = omega arith in
      record {
        stack = rw (w, e) h.stack;
        full = rw (w, e) h.full;
        low = rw w (omega (arith, h.full));
        block = h.block;
        eight = h.eight;
        code = h.code;
        r0 = h.r0;
        r1 = h.r1;
        r2 = h.r2;
        r3 = h.r3;
        r4 = h.r4;
        r5 = h.r5;
        pc = h.pc;
      }

  module _ (K : Place × Regs → Result Outcome Failure) (k : Target → Machine → Act) where
    abbrev AimGoal : Operand → Machine → Act → Type 0
    AimGoal o t a = Fine l m (and_then (address (memory l m) Word (regs t) o) K) a

    abbrev AimGo : List ℕ → Type 0
    AimGo rest = (d : Target) (u : Machine) → Stands l u.pc rest → Aims d (held u) → Fine l m (K (place_of d u.sp, regs u)) (k d u)

    from_address : (r : Result (Place × Regs) Failure) (d : Target) (u : Machine) → r ≡ Ok (place_of d u.sp, regs u) → Fine l m (K (place_of d u.sp, regs u)) (k d u) → Fine l m (and_then r K) (k d u)
    from_address r d u e f = subst (λ v. Fine l m (and_then v K) (k d u)) (sym e) f

    aim_pop : (t : Machine) (ws rest : List ℕ) → t.stack ≡ ws → Matches l t m → Stands l t.pc rest → AimGo rest → AimGoal (Increment PSp) t (pop t ws (λ x u. k (ToPopped t.sp x) u))
    aim_pop t [] rest e h s go = tt
    aim_pop t (x ∷ ws) rest e h s go =
        let i : WordsAt m t.sp (x ∷ ws) = subst (λ s. WordsAt m t.sp s) e h.stack in
        go (ToPopped t.sp x) (popped t ws) s (popped_holds (held t) x ws e h, top_word (held t) x ws e h, word_from t.sp x i.0)

    aim_through : (t : Machine) (ws rest : List ℕ) → t.stack ≡ ws → Matches l t m → Stands l t.pc rest → AimGo rest → AimGoal (IncrementDeferred PSp) t (pop t ws (λ a u. k (ToShared a) u))
    aim_through t [] rest e h s go = tt
    aim_through t (a ∷ ws) rest e h s go =
        let f : load_word (memory l m) t.sp ≡ Ok a = top_word (held t) a ws e h in
        from_address (address (memory l m) Word (regs t) (IncrementDeferred PSp)) (ToShared a) (popped t ws) (rw f refl) (go (ToShared a) (popped t ws) s (popped_holds (held t) a ws e h))

    aim_own : (o : Operand) (t : Machine) (a i : ℕ) (rest : List ℕ) → address (memory l m) Word (regs t) o ≡ and_then (load_word (memory l m) a) (λ b. Ok (InMemory b, regs (past t))) → Matches l t m → Stands l (past t).pc rest → a ≡ t.sp + 2 * i → i < length t.stack → AimGo rest → AimGoal o t (k (ToShared (slice_index t.stack i)) (past t))
    aim_own o t a i rest e h s at inside go =
        let b = slice_index t.stack i in
        from_address (address (memory l m) Word (regs t) o) (ToShared b) (past t) (e ∙ ap (λ r. and_then r (λ b. Ok (InMemory b, regs (past t)))) (own_word (held t) a i h at inside)) (go (ToShared b) (past t) s (past_holds (held t) h))

    aim_sound : (o : Operand) (t : Machine) (rest : List ℕ) → Matches l t m → Stands l t.pc (operand_words o ++ rest) → AimGo rest → AimGoal o t (aim o t k)
    aim_sound (Register r) t rest h s go = go (ToReg r) t s h
    aim_sound (Deferred R0) t rest h s go = go (ToShared t.r0) t s h
    aim_sound (Deferred R1) t rest h s go = go (ToShared t.r1) t s h
    aim_sound (Deferred R2) t rest h s go = tt
    aim_sound (Deferred R3) t rest h s go = tt
    aim_sound (Deferred R4) t rest h s go =
        let e : t.r4 ≡ wrap_add 0 l.block = omega (arith, h.r4, laid.behind, laid.order, laid.top) in
        from_address (address (memory l m) Word (regs t) (Deferred R4)) (ToBlock 0) t (ap (λ a. Ok (InMemory a, regs t)) e) (go (ToBlock 0) t s h)
    aim_sound (Deferred R5) t rest h s go = tt
    aim_sound (Deferred Sp) t rest h s go = go ToTop t s h
    aim_sound (Deferred Pc) t rest h s go = tt
    aim_sound (Increment P0) t rest h s go = tt
    aim_sound (Increment P1) t rest h s go = tt
    aim_sound (Increment P2) t rest h s go = tt
    aim_sound (Increment P3) t rest h s go = tt
    aim_sound (Increment P4) t rest h s go = tt
    aim_sound (Increment P5) t rest h s go = tt
    aim_sound (Increment PSp) t rest h s go = aim_pop t t.stack rest refl h s go
    aim_sound (IncrementDeferred P0) t rest h s go = tt
    aim_sound (IncrementDeferred P1) t rest h s go = tt
    aim_sound (IncrementDeferred P2) t rest h s go = tt
    aim_sound (IncrementDeferred P3) t rest h s go = tt
    aim_sound (IncrementDeferred P4) t rest h s go = tt
    aim_sound (IncrementDeferred P5) t rest h s go = tt
    aim_sound (IncrementDeferred PSp) t rest h s go = aim_through t t.stack rest refl h s go
    aim_sound (Decrement R0) t rest h s go = tt
    aim_sound (Decrement R1) t rest h s go = tt
    aim_sound (Decrement R2) t rest h s go = tt
    aim_sound (Decrement R3) t rest h s go = tt
    aim_sound (Decrement R4) t rest h s go = tt
    aim_sound (Decrement R5) t rest h s go = tt
    aim_sound (Decrement Sp) t rest h s go = λ room. go ToPush (record t { sp = wrap_sub t.sp 2 }) s (ready (held t) h room)
    aim_sound (Decrement Pc) t rest h s go = tt
    aim_sound (DecrementDeferred r) t rest h s go = tt
    aim_sound (Index R0 x) t rest h s go =
        let f : fetch (memory l m) t.pc ≡ Ok x = fetch_word (held t) x rest h s in
        from_address (address (memory l m) Word (regs t) (Index R0 x)) (ToShared (wrap_add x t.r0)) (past t) (rw f refl) (go (ToShared (wrap_add x t.r0)) (past t) s.3 (past_holds (held t) h))
    aim_sound (Index R1 x) t rest h s go =
        let f : fetch (memory l m) t.pc ≡ Ok x = fetch_word (held t) x rest h s in
        from_address (address (memory l m) Word (regs t) (Index R1 x)) (ToOwn (wrap_add x t.r1)) (past t) (rw f refl) (go (ToOwn (wrap_add x t.r1)) (past t) s.3 (past_holds (held t) h))
    aim_sound (Index R2 x) t rest h s go = tt
    aim_sound (Index R3 x) t rest h s go = tt
    aim_sound (Index R4 x) t rest h s go =
        let f : fetch (memory l m) t.pc ≡ Ok x = fetch_word (held t) x rest h s in
        let e : address (memory l m) Word (regs t) (Index R4 x) ≡ Ok (InMemory (wrap_add x t.r4), regs (past t)) = rw f refl in
        from_address (address (memory l m) Word (regs t) (Index R4 x)) (ToBlock x) (past t) (e ∙ ap (λ b. Ok (InMemory (wrap_add x b), regs (past t))) h.r4) (go (ToBlock x) (past t) s.3 (past_holds (held t) h))
    aim_sound (Index R5 x) t rest h s go =
        let f : fetch (memory l m) t.pc ≡ Ok x = fetch_word (held t) x rest h s in
        from_address (address (memory l m) Word (regs t) (Index R5 x)) (ToOwn (wrap_add x t.r5)) (past t) (rw f refl) (go (ToOwn (wrap_add x t.r5)) (past t) s.3 (past_holds (held t) h))
    aim_sound (Index Sp x) t rest h s go =
        let f : fetch (memory l m) t.pc ≡ Ok x = fetch_word (held t) x rest h s in
        from_address (address (memory l m) Word (regs t) (Index Sp x)) (ToOwn (wrap_add x t.sp)) (past t) (rw f refl) (go (ToOwn (wrap_add x t.sp)) (past t) s.3 (past_holds (held t) h))
    aim_sound (Index Pc x) t rest h s go = tt
    aim_sound (IndexDeferred R0 x) t rest h s go = tt
    aim_sound (IndexDeferred R1 x) t rest h s go = tt
    aim_sound (IndexDeferred R2 x) t rest h s go = tt
    aim_sound (IndexDeferred R3 x) t rest h s go = tt
    aim_sound (IndexDeferred R4 x) t rest h s go = tt
    aim_sound (IndexDeferred R5 x) t rest h s go = tt
    aim_sound (IndexDeferred Sp x) t rest h s go = λ i at inside.
        let f : fetch (memory l m) t.pc ≡ Ok x = fetch_word (held t) x rest h s in
        aim_own (IndexDeferred Sp x) t (wrap_add x t.sp) i rest (rw f refl) h s.3 at inside go
    aim_sound (IndexDeferred Pc x) t rest h s go = tt
    aim_sound (Immediate x) t rest h s go =
        let f : fetch (memory l m) t.pc ≡ Ok x = fetch_word (held t) x rest h s in
        from_address (address (memory l m) Word (regs t) (Immediate x)) (ToFixed t.pc x) (past t) (rw f refl) (go (ToFixed t.pc x) (past t) s.3 (past_holds (held t) h, subst (λ y. y < 65536) s.2 (word_below l.code t.pc)))
    aim_sound (Absolute x) t rest h s go =
        let f : fetch (memory l m) t.pc ≡ Ok x = fetch_word (held t) x rest h s in
        from_address (address (memory l m) Word (regs t) (Absolute x)) (ToShared x) (past t) (rw f refl) (go (ToShared x) (past t) s.3 (past_holds (held t) h))

  -- a memory that differs in what is not the task's leaves it as it is
  kept_holds : (t : Held) (m' : ℕ → ℕ) → Holds l t m → ((a : ℕ) → a < l.code_end → m' a ≡ m a) → ((a : ℕ) → l.block ≤ a → m' a ≡ m a) → Holds l t m'
  kept_holds t m' h code own = record {
    stack = stack_agrees m m' t.sp t.stack (λ x p q. own x (omega (arith, p, h.low, laid.behind))) h.stack;
    full = h.full;
    low = h.low;
    block = stack_agrees m m' l.block t.block (λ x p q. own x p) h.block;
    eight = h.eight;
    code = λ a p. code a p ∙ h.code a p;
    r0 = h.r0;
    r1 = h.r1;
    r2 = h.r2;
    r3 = h.r3;
    r4 = h.r4;
    r5 = h.r5;
    pc = h.pc;
  }

  write_ok : (a x : ℕ) (g : Regs) → a % 2 ≡ 0 → l.low ≤ a → a + 1 < l.high → store (memory l m) Word g (InMemory a) x ≡ Ok (record { stop = Went; regs = g; world = memory l (put_word m a x) })
  write_ok a x g even low high = store_ok l m g a x even (usable_own l a low (omega (arith, high))) (usable_own l (a + 1) (omega (arith, low)) high) (omega (arith, high, laid.top))

  -- a write into the block or the brick leaves the shared data, the code
  own_same : (a x : ℕ) → l.block ≤ a → SameData l m (put_word m a x)
  own_same a x h b p q = put_apart m a x b (inl (omega (arith, q, h, laid.after)))

  own_code : (a x : ℕ) → l.block ≤ a → ((b : ℕ) → b < l.code_end → m b ≡ l.code b) → (b : ℕ) → b < l.code_end → put_word m a x b ≡ l.code b
  own_code a x h code b p = put_apart m a x b (inl (omega (arith, p, h, laid.after, laid.shared))) ∙ code b p

  -- and one into the brick the block
  block_kept : (a x : ℕ) (ws : List ℕ) → l.low ≤ a → length ws ≡ 8 → WordsAt m l.block ws → WordsAt (put_word m a x) l.block ws
  block_kept a x ws h eight s = stack_agrees m (put_word m a x) l.block ws (λ b p q. put_apart m a x b (inl (omega (arith, q, eight, h, laid.behind)))) s

  behind : (a : ℕ) → l.low ≤ a → l.block ≤ a
  behind a h = omega (arith, h, laid.behind)

  put_reg_sound : (t : Machine) (r : Reg) (x : ℕ) → x < 65536 → Matches l t m → Fine l m (store (memory l m) Word (regs t) (InRegister r) x) (put_reg t r x)
  put_reg_sound t R0 x b h = record { after = m; does = refl; matches = record { stack = h.stack; full = h.full; low = h.low; block = h.block; eight = h.eight; code = h.code; r0 = b; r1 = h.r1; r2 = h.r2; r3 = h.r3; r4 = h.r4; r5 = h.r5; pc = h.pc }; same = λ a p q. refl }
  put_reg_sound t R1 x b h = record { after = m; does = refl; matches = record { stack = h.stack; full = h.full; low = h.low; block = h.block; eight = h.eight; code = h.code; r0 = h.r0; r1 = b; r2 = h.r2; r3 = h.r3; r4 = h.r4; r5 = h.r5; pc = h.pc }; same = λ a p q. refl }
  put_reg_sound t R2 x b h = record { after = m; does = refl; matches = record { stack = h.stack; full = h.full; low = h.low; block = h.block; eight = h.eight; code = h.code; r0 = h.r0; r1 = h.r1; r2 = b; r3 = h.r3; r4 = h.r4; r5 = h.r5; pc = h.pc }; same = λ a p q. refl }
  put_reg_sound t R3 x b h = record { after = m; does = refl; matches = record { stack = h.stack; full = h.full; low = h.low; block = h.block; eight = h.eight; code = h.code; r0 = h.r0; r1 = h.r1; r2 = h.r2; r3 = b; r4 = h.r4; r5 = h.r5; pc = h.pc }; same = λ a p q. refl }
  put_reg_sound t R4 x b h = tt
  put_reg_sound t R5 x b h = record { after = m; does = refl; matches = record { stack = h.stack; full = h.full; low = h.low; block = h.block; eight = h.eight; code = h.code; r0 = h.r0; r1 = h.r1; r2 = h.r2; r3 = h.r3; r4 = h.r4; r5 = b; pc = h.pc }; same = λ a p q. refl }
  put_reg_sound t Sp x b h = λ k at inside. record {
    after = m;
    does = refl;
    matches = record {
      stack = subst (λ b. WordsAt m b (drop k t.stack)) (sym at) (stack_drop m t.sp k t.stack inside h.stack);
      full = simp length-drop (omega (arith, h.full));
      low = omega (arith, h.low);
      block = h.block;
      eight = h.eight;
      code = h.code;
      r0 = h.r0;
      r1 = h.r1;
      r2 = h.r2;
      r3 = h.r3;
      r4 = h.r4;
      r5 = h.r5;
      pc = h.pc;
    };
    same = λ a p q. refl;
  }
  put_reg_sound t Pc x b h = tt

  replaced_sound : (t : Machine) (ws : List ℕ) (x : ℕ) → t.stack ≡ ws → x < 65536 → Matches l t m → Fine l m (store (memory l m) Word (regs t) (InMemory t.sp) x) (replaced t ws x)
  replaced_sound t [] x e b h = tt
  replaced_sound t (w ∷ ws) x e b h =
      let f : t.sp + 2 * length (w ∷ ws) ≡ l.high = subst (λ s. t.sp + 2 * length s ≡ l.high) e h.full in
      let s : WordsAt m t.sp (w ∷ ws) = subst (λ s. WordsAt m t.sp s) e h.stack in
      record {
        after = put_word m t.sp x;
        does = write_ok t.sp x (regs t) (sp_even (held t) h) h.low (omega (arith, f));
        matches = record { stack = stack_push m t.sp x ws b s.1; full = f; low = h.low; block = block_kept t.sp x t.block h.low h.eight h.block; eight = h.eight; code = own_code t.sp x (behind t.sp h.low) h.code; r0 = h.r0; r1 = h.r1; r2 = h.r2; r3 = h.r3; r4 = h.r4; r5 = h.r5; pc = h.pc };
        same = own_same t.sp x (behind t.sp h.low);
      }

  put_block : (t : Machine) (y x k : ℕ) → x < 65536 → Matches l t m → y ≡ 2 * k → k < 8 → Leaves l m (store (memory l m) Word (regs t) (InMemory (wrap_add y l.block)) x) (record t { block = slice_set t.block k x })
  put_block t y x k b h e inside =
      let at = in_block y k e inside in
      let may = block_usable (wrap_add y l.block) k at inside in
      let here : l.block ≤ wrap_add y l.block = omega (arith, at) in
      record {
        after = put_word m (wrap_add y l.block) x;
        does = store_ok l m (regs t) (wrap_add y l.block) x may.3 may.0 may.1 may.2;
        matches = record {
          stack = stack_agrees m (put_word m (wrap_add y l.block) x) t.sp t.stack (λ c p q. put_apart m (wrap_add y l.block) x c (inr (omega (arith, p, at, inside, h.low, laid.behind)))) h.stack;
          full = h.full;
          low = h.low;
          block = subst (λ c. WordsAt (put_word m c x) l.block (slice_set t.block k x)) (sym at) (stack_set m l.block x t.block k b (omega (arith, inside, h.eight)) h.block);
          eight = rw (length-set) h.eight;
          code = own_code (wrap_add y l.block) x here h.code;
          r0 = h.r0;
          r1 = h.r1;
          r2 = h.r2;
          r3 = h.r3;
          r4 = h.r4;
          r5 = h.r5;
          pc = h.pc;
        };
        same = own_same (wrap_add y l.block) x here;
      }

  put_sound : (d : Target) (t : Machine) (x : ℕ) → x < 65536 → Aims d (held t) → Fine l m (store (memory l m) Word (regs t) (place_of d t.sp) x) (put d t x)
  put_sound (ToReg r) t x b h = put_reg_sound t r x b h
  put_sound ToPush t x b h =
      let even : t.sp % 2 ≡ 0 = omega (arith, h.full, laid.even) in
      record {
        after = put_word m t.sp x;
        does = write_ok t.sp x (regs t) even h.low (omega (arith, h.full));
        matches = record { stack = stack_push m t.sp x t.stack b h.stack; full = omega (arith, h.full); low = h.low; block = block_kept t.sp x t.block h.low h.eight h.block; eight = h.eight; code = own_code t.sp x (behind t.sp h.low) h.code; r0 = h.r0; r1 = h.r1; r2 = h.r2; r3 = h.r3; r4 = h.r4; r5 = h.r5; pc = h.pc };
        same = own_same t.sp x (behind t.sp h.low);
      }
  put_sound ToTop t x b h = replaced_sound t t.stack x refl b h
  put_sound (ToOwn a) t x b h = λ i at inside.
      let low : l.low ≤ a = omega (arith, at, h.low) in
      record {
        after = put_word m a x;
        does = write_ok a x (regs t) (omega (arith, at, sp_even (held t) h)) low (omega (arith, at, inside, h.full));
        matches = record {
          stack = subst (λ b. WordsAt (put_word m b x) t.sp (slice_set t.stack i x)) (sym at) (stack_set m t.sp x t.stack i b inside h.stack);
          full = rw (length-set) h.full;
          low = h.low;
          block = block_kept a x t.block low h.eight h.block;
          eight = h.eight;
          code = own_code a x (behind a low) h.code;
          r0 = h.r0;
          r1 = h.r1;
          r2 = h.r2;
          r3 = h.r3;
          r4 = h.r4;
          r5 = h.r5;
          pc = h.pc;
        };
        same = own_same a x (behind a low);
      }
  put_sound (ToBlock y) t x b h = λ k at inside. put_block t y x k b h at inside
  put_sound (ToPopped a y) t x b h = tt
  put_sound (ToFixed a y) t x b h = tt
  put_sound (ToShared a) t x b h = λ s.
      let top : a + 1 < 57344 = omega (arith, s.below, laid.after, laid.behind, laid.order, laid.top) in
      record {
        after = put_word m a x;
        does = store_ok l m (regs t) a x s.even (usable_shared l a s.above (omega (arith, s.below))) (usable_shared l (a + 1) (omega (arith, s.above)) s.below) top;
        matches = kept_holds (held t) (put_word m a x) h (λ c p. put_apart m a x c (inl (omega (arith, p, s.above)))) (λ c p. put_apart m a x c (inr (omega (arith, p, s.below, laid.after))));
        wrote = λ c p q. refl;
      }

  module _ (K : ℕ → Result Outcome Failure) (k : ℕ → Act) where
    from_load : (r : Result ℕ Failure) (x : ℕ) → r ≡ Ok x → Fine l m (K x) (k x) → Fine l m (and_then r K) (k x)
    from_load r x e f = subst (λ v. Fine l m (and_then v K) (k x)) (sym e) f

    look_top : (t : Machine) (ws : List ℕ) → t.stack ≡ ws → Matches l t m → ((x : ℕ) → x < 65536 → Matches l t m → Fine l m (K x) (k x)) → Fine l m (and_then (load (memory l m) Word (regs t) (InMemory t.sp)) K) (top t ws k)
    look_top t [] e h go = tt
    look_top t (x ∷ ws) e h go =
        let i : WordsAt m t.sp (x ∷ ws) = subst (λ s. WordsAt m t.sp s) e h.stack in
        from_load _ x (top_word (held t) x ws e h) (go x (word_from t.sp x i.0) h)

    look_sound : (d : Target) (t : Machine) → Aims d (held t) → ((x : ℕ) → x < 65536 → Matches l t m → Fine l m (K x) (k x)) → Fine l m (and_then (load (memory l m) Word (regs t) (place_of d t.sp)) K) (look d t k)
    look_sound (ToReg r) t h go = go (reg (regs t) r) (reg_below t r h) h
    look_sound ToPush t h go = tt
    look_sound ToTop t h go = look_top t t.stack refl h go
    look_sound (ToOwn a) t h go = λ i at inside. from_load _ (slice_index t.stack i) (own_word (held t) a i h at inside) (go _ (word_from (t.sp + 2 * i) _ (word_of m t.sp t.stack i h.stack inside)) h)
    look_sound (ToBlock x) t h go = λ i at inside. from_load _ (slice_index t.block i) (block_word (held t) x i h at inside) (go _ (word_from (l.block + 2 * i) _ (word_of m l.block t.block i h.block (omega (arith, inside, h.eight)))) h)
    look_sound (ToPopped a x) t h go = from_load _ x h.1 (go x h.2 h.0)
    look_sound (ToFixed a x) t h go = go x h.1 h.0
    look_sound (ToShared a) t h go = λ s. from_load _ (word_at m a) (shared_word a s) (go _ (word_below m a) h)

  -- ---- instructions

  quiet : (t : Machine) → Matches l t m → Leaves l m (goes_on (memory l m) (regs t)) t
  quiet t h = record { after = m; does = refl; matches = h; same = λ a p q. refl }

  extended_below : (x : ℕ) → x < 256 → extend_sign x < 65536
  extended_below x h = grind (arith, nat_tests)

  on_two_sound : (o : DoubleOp) (x : ℕ) (d : Target) (t : Machine) → x < 65536 → Aims d (held t) → Fine l m (double (memory l m) (regs t) o Word x (place_of d t.sp)) (on_two o x d t)
  on_two_sound Mov x d t b h = put_sound d (flagged t x false t.c) x b h
  on_two_sound Cmp x d t b h = look_sound (λ y. goes_on (memory l m) (by_difference (regs t) Word x y)) (λ y. Quiet (flagged_difference t x y)) d t h (λ y c i. quiet (flagged_difference t x y) i)
  on_two_sound Bit x d t b h = look_sound (λ y. goes_on (memory l m) (by_value (regs t) Word (bit_and y x) false t.c)) (λ y. Quiet (flagged t (bit_and y x) false t.c)) d t h (λ y c i. quiet (flagged t (bit_and y x) false t.c) i)
  on_two_sound Bic x d t b h = look_sound (λ y. store (memory l m) Word (by_value (regs t) Word (y - bit_and y x) false t.c) (place_of d t.sp) (y - bit_and y x)) (λ y. put d (flagged t (y - bit_and y x) false t.c) (y - bit_and y x)) d t h (λ y c i. put_sound d (flagged t (y - bit_and y x) false t.c) (y - bit_and y x) (omega arith) h)
  on_two_sound Bis x d t b h = look_sound (λ y. store (memory l m) Word (by_value (regs t) Word (bit_or y x) false t.c) (place_of d t.sp) (bit_or y x)) (λ y. put d (flagged t (bit_or y x) false t.c) (bit_or y x)) d t h (λ y c i. put_sound d (flagged t (bit_or y x) false t.c) (bit_or y x) (or_of_16 y x c b) h)

  on_sum_sound : (o : SumOp) (x : ℕ) (d : Target) (t : Machine) → x < 65536 → Aims d (held t) → Fine l m (sum (memory l m) (regs t) o x (place_of d t.sp)) (on_sum o x d t)
  on_sum_sound Add x d t b h = look_sound (λ y. store (memory l m) Word (by_sum (regs t) y x) (place_of d t.sp) (wrap_add y x)) (λ y. put d (flagged_sum t y x) (wrap_add y x)) d t h (λ y c i. put_sound d (flagged_sum t y x) (wrap_add y x) (omega arith) h)
  on_sum_sound Sub x d t b h = look_sound (λ y. store (memory l m) Word (by_difference (regs t) Word y x) (place_of d t.sp) (wrap_sub y x)) (λ y. put d (flagged_difference t y x) (wrap_sub y x)) d t h (λ y c i. put_sound d (flagged_difference t y x) (wrap_sub y x) (omega arith) h)

  half_below : (b : Bool) (y : ℕ) → y < 65536 → y / 2 + (if b then 32768 else 0) < 65536
  half_below true y h = omega arith
  half_below false y h = omega arith

  single_below : (o : SingleOp) (c : Bool) (y : ℕ) → y < 65536 → single_value o Word c y < 65536
  single_below Clr c y h = omega arith
  single_below Com c y h = omega arith
  single_below Inc c y h = omega arith
  single_below Dec c y h = omega arith
  single_below Neg c y h = omega arith
  single_below Adc c y h = omega arith
  single_below Sbc c y h = omega arith
  single_below Tst c y h = h
  single_below Ror c y h = half_below c y h
  single_below Rol c y h = omega arith
  single_below Asr c y h = half_below (negative Word y) y h
  single_below Asl c y h = omega arith

  -- an operation that reads its operand, and then may write it
  read_sound : (o : SingleOp) (d : Target) (t : Machine) → Aims d (held t) → ((y : ℕ) → y < 65536 → Matches l t m → Fine l m (single_end (memory l m) (regs (flagged_one t o y)) o Word (single_value o Word t.c y) (place_of d t.sp)) (put_one o d (flagged_one t o y) (single_value o Word t.c y))) → Fine l m (single_read (memory l m) (regs t) o Word (place_of d t.sp)) (look d t (λ y. put_one o d (flagged_one t o y) (single_value o Word t.c y)))
  read_sound o d t h go = look_sound (λ y. single_end (memory l m) (regs (flagged_one t o y)) o Word (single_value o Word t.c y) (place_of d t.sp)) (λ y. put_one o d (flagged_one t o y) (single_value o Word t.c y)) d t h go

  written_one : (o : SingleOp) (d : Target) (t : Machine) (y : ℕ) → y < 65536 → Aims d (held t) → Fine l m (store (memory l m) Word (regs (flagged_one t o y)) (place_of d t.sp) (single_value o Word t.c y)) (put d (flagged_one t o y) (single_value o Word t.c y))
  written_one o d t y b h = put_sound d (flagged_one t o y) (single_value o Word t.c y) (single_below o t.c y b) h

  on_one_sound : (o : SingleOp) (d : Target) (t : Machine) → Aims d (held t) → Fine l m (single (memory l m) (regs t) o Word (place_of d t.sp)) (on_one o d t)
  on_one_sound Clr d t h = put_sound d (record t { n = false; z = true; v = false; c = false }) 0 (omega arith) h
  on_one_sound Com d t h = read_sound Com d t h (λ y b i. written_one Com d t y b h)
  on_one_sound Inc d t h = read_sound Inc d t h (λ y b i. written_one Inc d t y b h)
  on_one_sound Dec d t h = read_sound Dec d t h (λ y b i. written_one Dec d t y b h)
  on_one_sound Neg d t h = read_sound Neg d t h (λ y b i. written_one Neg d t y b h)
  on_one_sound Adc d t h = read_sound Adc d t h (λ y b i. written_one Adc d t y b h)
  on_one_sound Sbc d t h = read_sound Sbc d t h (λ y b i. written_one Sbc d t y b h)
  on_one_sound Tst d t h = read_sound Tst d t h (λ y b i. quiet (flagged_one t Tst y) i)
  on_one_sound Ror d t h = read_sound Ror d t h (λ y b i. written_one Ror d t y b h)
  on_one_sound Rol d t h = read_sound Rol d t h (λ y b i. written_one Rol d t y b h)
  on_one_sound Asr d t h = read_sound Asr d t h (λ y b i. written_one Asr d t y b h)
  on_one_sound Asl d t h = read_sound Asl d t h (λ y b i. written_one Asl d t y b h)

  sign_below : (b : Bool) → (if b then 65535 else 0) < 65536
  sign_below true = omega arith
  sign_below false = omega arith

  on_words_sound : (o : WordOp) (d : Target) (t : Machine) → Aims d (held t) → Fine l m (on_word (memory l m) (regs t) o (place_of d t.sp)) (on_words o d t)
  on_words_sound Swab d t h = look_sound (λ y. store (memory l m) Word (by_value (regs t) Byte ((y % 256 * 256 + y / 256) % 256) false false) (place_of d t.sp) (y % 256 * 256 + y / 256)) (λ y. put d (flagged_byte t ((y % 256 * 256 + y / 256) % 256) false false) (y % 256 * 256 + y / 256)) d t h (λ y c i. put_sound d (flagged_byte t ((y % 256 * 256 + y / 256) % 256) false false) (y % 256 * 256 + y / 256) (omega arith) h)
  on_words_sound Sxt d t h = put_sound d (record t { z = not t.n; v = false }) (if t.n then 65535 else 0) (sign_below t.n) h

  with_two : (t : Machine) (a b : ℕ) → a < 65536 → b < 65536 → Matches l t m → Matches l (record t { r0 = a; r1 = b }) m
  with_two t a b p q h = record { stack = h.stack; full = h.full; low = h.low; block = h.block; eight = h.eight; code = h.code; r0 = p; r1 = q; r2 = h.r2; r3 = h.r3; r4 = h.r4; r5 = h.r5; pc = h.pc }

  with_next_two : (t : Machine) (a b : ℕ) → a < 65536 → b < 65536 → Matches l t m → Matches l (record t { r2 = a; r3 = b }) m
  with_next_two t a b p q h = record { stack = h.stack; full = h.full; low = h.low; block = h.block; eight = h.eight; code = h.code; r0 = h.r0; r1 = h.r1; r2 = p; r3 = q; r4 = h.r4; r5 = h.r5; pc = h.pc }

  multiplied_sound : (r : Reg) (x : ℕ) (t : Machine) → Matches l t m → Fine l m (goes_on (memory l m) (with_product (regs t) r (product_of (reg (regs t) r) x))) (multiplied r x t)
  multiplied_sound R0 x t h = let y = product_of t.r0 x in quiet (record (flagged_product t y) { r0 = y / 65536; r1 = y % 65536 }) (with_two (flagged_product t y) (y / 65536) (y % 65536) (omega arith) (omega arith) h)
  multiplied_sound R1 x t h = let y = product_of t.r1 x in quiet (record (flagged_product t y) { r1 = y % 65536 }) (with_two (flagged_product t y) t.r0 (y % 65536) h.r0 (omega arith) h)
  multiplied_sound R2 x t h = let y = product_of t.r2 x in quiet (record (flagged_product t y) { r2 = y / 65536; r3 = y % 65536 }) (with_next_two (flagged_product t y) (y / 65536) (y % 65536) (omega arith) (omega arith) h)
  multiplied_sound R3 x t h = let y = product_of t.r3 x in quiet (record (flagged_product t y) { r3 = y % 65536 }) (with_next_two (flagged_product t y) t.r2 (y % 65536) h.r2 (omega arith) h)
  multiplied_sound R4 x t h = tt
  multiplied_sound R5 x t h = tt
  multiplied_sound Sp x t h = tt
  multiplied_sound Pc x t h = tt

  shifted_sound : (r : Reg) (x : ℕ) (t : Machine) → Matches l t m → Fine l m (goes_on (memory l m) (shift_word (regs t) r (shifted 65536 32768 (reg (regs t) r) x))) (shifted_by r x t)
  shifted_sound R0 x t h = let s = shifted 65536 32768 t.r0 x in quiet (record (flagged t s.value s.turned s.carry) { r0 = s.value }) (with_two t s.value t.r1 (shifted_below 65536 32768 t.r0 x (omega arith) (omega arith) h.r0) h.r1 h)
  shifted_sound R1 x t h = let s = shifted 65536 32768 t.r1 x in quiet (record (flagged t s.value s.turned s.carry) { r1 = s.value }) (with_two t t.r0 s.value h.r0 (shifted_below 65536 32768 t.r1 x (omega arith) (omega arith) h.r1) h)
  shifted_sound R2 x t h = tt
  shifted_sound R3 x t h = tt
  shifted_sound R4 x t h = tt
  shifted_sound R5 x t h = tt
  shifted_sound Sp x t h = tt
  shifted_sound Pc x t h = tt

  signed_below : (b : Bool) (x : ℕ) → x < 65536 → signed_word b x < 65536
  signed_below true x h = omega arith
  signed_below false x h = h

  distance_below : (b : Bool) (x : ℕ) → x < 65536 → b ≡ nat_le 32768 x → (if b then 65536 - x else x) ≤ 32768
  distance_below true x h e = omega (arith, leb-true 32768 x (sym e))
  distance_below false x h e = omega (arith, leb-false 32768 x (sym e))

  distance_some : (b : Bool) (x : ℕ) → x < 65536 → 0 < x → 0 < (if b then 65536 - x else x)
  distance_some true x h p = omega arith
  distance_some false x h p = p

  fitting_below : (b : Bool) (q : ℕ) → nat_lt (if b then 32768 else 32767) q ≡ false → q < 65536
  fitting_below true q e = omega (arith, ltb-false 32768 q e)
  fitting_below false q e = omega (arith, ltb-false 32767 q e)

  rest_below : (a b : ℕ) → b ≤ 32768 → 0 < b → a % b < 65536
  rest_below a b p q = omega (arith, mod_below a b q)

  quotient_below : (a b : ℕ) → too_large a b ≡ false → quotient_word a b < 65536
  quotient_below a b e =
      let turned = differ (nat_le 2147483648 a) (nat_le 32768 b) in
      let q = magnitude 4294967296 2147483648 a / magnitude 65536 32768 b in
      signed_below turned q (fitting_below turned q e)

  remainder_below : (a b : ℕ) → b < 65536 → 0 < b → remainder_word a b < 65536
  remainder_below a b small some =
      signed_below (nat_le 2147483648 a) (magnitude 4294967296 2147483648 a % magnitude 65536 32768 b)
      (rest_below (magnitude 4294967296 2147483648 a) (magnitude 65536 32768 b) (distance_below (nat_le 32768 b) b small refl) (distance_some (nat_le 32768 b) b small some))

  divided_sound : (r : Reg) (b : ℕ) (t : Machine) → b < 65536 → Matches l t m → Fine l m (goes_on (memory l m) (divided (regs t) r b)) (divided_by r b t)
  divided_sound R0 b t small h =
      let a = t.r0 * 65536 + t.r1 in
      let zero_case : Machine = record t { n = false; z = false; v = true; c = true } in
      let large_case : Machine = record t { n = false; z = false; v = true; c = false } in
      let done_case : Machine = record (flagged t (quotient_word a b) false false) { r0 = quotient_word a b; r1 = remainder_word a b } in (
        (λ e. rw e (quiet zero_case h)),
        (λ e. let some : 0 < b = omega (arith, eqb-false b 0 e) in (
          (λ f. rw (e, f) (quiet large_case h)),
          (λ f. rw (e, f) (quiet done_case (with_two t (quotient_word a b) (remainder_word a b) (quotient_below a b f) (remainder_below a b small some) h))),
        )),
      )
  divided_sound R1 b t small h = tt
  divided_sound R2 b t small h = tt
  divided_sound R3 b t small h = tt
  divided_sound R4 b t small h = tt
  divided_sound R5 b t small h = tt
  divided_sound Sp b t small h = tt
  divided_sound Pc b t small h = tt

  pair_sound : (r : Reg) (x : ℕ) (t : Machine) → Matches l t m → Fine l m (goes_on (memory l m) (shift_pair (regs t) r (shifted 4294967296 2147483648 (pair (regs t) r) x))) (shifted_pair r x t)
  pair_sound R0 x t h =
      let s = shifted 4294967296 2147483648 (t.r0 * 65536 + t.r1) x in
      let small : s.value < 4294967296 = shifted_below 4294967296 2147483648 (t.r0 * 65536 + t.r1) x (omega arith) (omega arith) (omega (arith, h.r0, h.r1)) in
      quiet (record t { r0 = s.value / 65536; r1 = s.value % 65536; n = nat_le 2147483648 s.value; z = s.value == 0; v = s.turned; c = s.carry }) (with_two t (s.value / 65536) (s.value % 65536) (omega (arith, small)) (omega arith) h)
  pair_sound R1 x t h = tt
  pair_sound R2 x t h = tt
  pair_sound R3 x t h = tt
  pair_sound R4 x t h = tt
  pair_sound R5 x t h = tt
  pair_sound Sp x t h = tt
  pair_sound Pc x t h = tt

  on_reg_sound : (k : ℕ) (o : RegisterOp) (r : Reg) (d : Target) (t : Machine) → k < 65536 → Aims d (held t) → Fine l m (on_register (memory l m) (regs t) k o r (place_of d t.sp)) (on_reg k o r d t)
  on_reg_sound k Mul r d t small h = look_sound (λ x. goes_on (memory l m) (with_product (regs t) r (product_of (reg (regs t) r) x))) (λ x. multiplied r x t) d t h (λ x b i. multiplied_sound r x t i)
  on_reg_sound k Div r d t small h = look_sound (λ x. goes_on (memory l m) (divided (regs t) r x)) (λ x. divided_by r x t) d t h (λ x b i. divided_sound r x t b i)
  on_reg_sound k Ash r d t small h = look_sound (λ x. goes_on (memory l m) (shift_word (regs t) r (shifted 65536 32768 (reg (regs t) r) x))) (λ x. shifted_by r x t) d t h (λ x b i. shifted_sound r x t i)
  on_reg_sound k Ashc r d t small h = look_sound (λ x. goes_on (memory l m) (shift_pair (regs t) r (shifted 4294967296 2147483648 (pair (regs t) r) x))) (λ x. shifted_pair r x t) d t h (λ x b i. pair_sound r x t i)
  on_reg_sound k Xor r d t small h = look_sound (λ x. store (memory l m) Word (by_value (regs t) Word (bit_xor x k) false t.c) (place_of d t.sp) (bit_xor x k)) (λ x. put d (flagged t (bit_xor x k) false t.c) (bit_xor x k)) d t h (λ x b i. put_sound d (flagged t (bit_xor x k) false t.c) (bit_xor x k) (xor_of_16 x k b small) h)

  stands_end : (a : ℕ) (ws : List ℕ) → Stands l a ws → Stands l a (ws ++ [])
  stands_end a ws s = subst (λ v. Stands l a v) (sym (append-nil ws)) s

  -- a source and a destination, of words
  module _ (D : World → Regs → ℕ → Place → Result Outcome Failure) (f : ℕ → Target → Machine → Act) where
    two_words : (s d : Operand) (t : Machine) → ((x : ℕ) (p : Target) (v : Machine) → x < 65536 → Aims p (held v) → Fine l m (D (memory l m) (regs v) x (place_of p v.sp)) (f x p v)) → Matches l t m → Stands l t.pc (operand_words s ++ operand_words d) →
        Fine l m (and_then (operand (memory l m) Word (regs t) s) (λ x. and_then (address (memory l m) Word x.1 d) (λ p. D (memory l m) p.1 x.0 p.0))) (source s t (λ x u. aim d u (λ p v. f x p v)))
    two_words s d t sound h st = source_sound _ (λ x u. aim d u (λ p v. f x p v)) s t (operand_words d) h st
        (λ x u b st2 h2. aim_sound (λ p. D (memory l m) p.1 x p.0) (λ p v. f x p v) d u [] h2 (stands_end u.pc (operand_words d) st2)
        (λ p v st3 a. sound x p v b a))

  shared_byte_written : (u : Machine) (a x : ℕ) → Matches l u m → Fine l m (store (memory l m) Byte (regs u) (InMemory a) x) (WritesByte a x u)
  shared_byte_written u a x h = λ s. record {
    after = put_byte m a x;
    does = store_byte_ok l m (regs u) a x (byte_may a s) (byte_top a s);
    matches = kept_holds (held u) (put_byte m a x) h (λ c p. put_byte_apart m a x c (inl (omega (arith, p, s.above)))) (λ c p. put_byte_apart m a x c (inr (omega (arith, p, s.below, laid.after))));
    wrote = λ c p q. refl;
  }

  -- a byte put into the word on top of the stack
  byte_replaced : (u : Machine) (ws : List ℕ) (x : ℕ) → u.stack ≡ ws → x < 256 → Matches l u m → Fine l m (store (memory l m) Byte (regs u) (InMemory u.sp) x) (replaced_low u ws x)
  byte_replaced u [] x e b h = tt
  byte_replaced u (w ∷ ws) x e b h =
      let f : u.sp + 2 * length (w ∷ ws) ≡ l.high = subst (λ s. u.sp + 2 * length s ≡ l.high) e h.full in
      let s : WordsAt m u.sp (w ∷ ws) = subst (λ s. WordsAt m u.sp s) e h.stack in
      let apart : (c : ℕ) → (c < u.sp) ⊎ (u.sp + 1 ≤ c) → put_byte m u.sp x c ≡ m c = λ c far. put_byte_apart m u.sp x c far in
      record {
        after = put_byte m u.sp x;
        does = store_byte_ok l m (regs u) u.sp x (usable_own l u.sp h.low (omega (arith, f))) (omega (arith, f, laid.top));
        matches = record {
          stack = (word_put_byte m u.sp x b ∙ ap (λ y. with_low_byte y x) s.0, stack_agrees m (put_byte m u.sp x) (u.sp + 2) ws (λ c p q. apart c (inr (omega (arith, p)))) s.1);
          full = f;
          low = h.low;
          block = stack_agrees m (put_byte m u.sp x) l.block u.block (λ c p q. apart c (inl (omega (arith, q, h.eight, h.low, laid.behind)))) h.block;
          eight = h.eight;
          code = λ c p. apart c (inl (omega (arith, p, h.low, laid.behind, laid.after, laid.shared))) ∙ h.code c p;
          r0 = h.r0;
          r1 = h.r1;
          r2 = h.r2;
          r3 = h.r3;
          r4 = h.r4;
          r5 = h.r5;
          pc = h.pc;
        };
        same = λ c p q. apart c (inl (omega (arith, q, h.low, laid.behind, laid.after)));
      }

  abbrev ByteMoved : ℕ → Operand → Machine → Act → Type 0
  ByteMoved x d u a = Fine l m (and_then (address (memory l m) Byte (regs u) d) (λ p. double (memory l m) p.1 Mov Byte x p.0)) a

  move_through : (x : ℕ) (u : Machine) (ws : List ℕ) → u.stack ≡ ws → Matches l u m → ByteMoved x (IncrementDeferred PSp) u (pop u ws (λ a v. WritesByte a x (flagged_byte v x false v.c)))
  move_through x u [] e h = tt
  move_through x u (a ∷ ws) e h =
      let f : load_word (memory l m) u.sp ≡ Ok a = top_word (held u) a ws e h in
      let v : Machine = flagged_byte (popped u ws) x false u.c in
      let o : and_then (address (memory l m) Byte (regs u) (IncrementDeferred PSp)) (λ p. double (memory l m) p.1 Mov Byte x p.0) ≡ store (memory l m) Byte (regs v) (InMemory a) x = rw f refl in
      subst (λ r. Fine l m r (WritesByte a x v)) (sym o) (shared_byte_written v a x (popped_holds (held u) a ws e h))

  move_byte_sound : (x : ℕ) (u : Machine) (d : Operand) → x < 256 → Matches l u m → Stands l u.pc (operand_words d) → ByteMoved x d u (move_byte x d u)
  move_byte_sound x u (Register r) b h s = put_reg_sound (flagged_byte u x false u.c) r (extend_sign x) (extended_below x b) h
  move_byte_sound x u (Deferred R0) b h s = shared_byte_written (flagged_byte u x false u.c) u.r0 x h
  move_byte_sound x u (Deferred R1) b h s = shared_byte_written (flagged_byte u x false u.c) u.r1 x h
  move_byte_sound x u (Deferred R2) b h s = tt
  move_byte_sound x u (Deferred R3) b h s = tt
  move_byte_sound x u (Deferred R4) b h s = tt
  move_byte_sound x u (Deferred R5) b h s = tt
  move_byte_sound x u (Deferred Sp) b h s = byte_replaced (flagged_byte u x false u.c) u.stack x refl b h
  move_byte_sound x u (Deferred Pc) b h s = tt
  move_byte_sound x u (Increment r) b h s = tt
  move_byte_sound x u (IncrementDeferred P0) b h s = tt
  move_byte_sound x u (IncrementDeferred P1) b h s = tt
  move_byte_sound x u (IncrementDeferred P2) b h s = tt
  move_byte_sound x u (IncrementDeferred P3) b h s = tt
  move_byte_sound x u (IncrementDeferred P4) b h s = tt
  move_byte_sound x u (IncrementDeferred P5) b h s = tt
  move_byte_sound x u (IncrementDeferred PSp) b h s = move_through x u u.stack refl h
  move_byte_sound x u (Decrement r) b h s = tt
  move_byte_sound x u (DecrementDeferred r) b h s = tt
  move_byte_sound x u (Index r y) b h s = tt
  move_byte_sound x u (IndexDeferred r y) b h s = tt
  move_byte_sound x u (Immediate y) b h s = tt
  move_byte_sound x u (Absolute a) b h s =
      let f : fetch (memory l m) u.pc ≡ Ok a = fetch_word (held u) a [] h s in
      let e : and_then (address (memory l m) Byte (regs u) (Absolute a)) (λ p. double (memory l m) p.1 Mov Byte x p.0) ≡ store (memory l m) Byte (regs (flagged_byte (past u) x false u.c)) (InMemory a) x = rw f refl in
      subst (λ v. Fine l m v (WritesByte a x (flagged_byte (past u) x false u.c))) (sym e) (shared_byte_written (flagged_byte (past u) x false u.c) a x (past_holds (held u) h))

  bytes_sound : (o : DoubleOp) (s d : Operand) (t : Machine) → Matches l t m → Stands l t.pc (operand_words s ++ operand_words d) →
      Fine l m (and_then (operand (memory l m) Byte (regs t) s) (λ x. and_then (address (memory l m) Byte x.1 d) (λ p. double (memory l m) p.1 o Byte x.0 p.0))) (double_bytes o s d t)
  bytes_sound Mov s d t h st = byte_source_sound _ (λ x u. move_byte x d u) s t (operand_words d) h st (λ x u b st2 h2. move_byte_sound x u d b h2 st2)
  bytes_sound Cmp s d t h st = tt
  bytes_sound Bit s d t h st = tt
  bytes_sound Bic s d t h st = tt
  bytes_sound Bis s d t h st = tt

  double_sound : (o : DoubleOp) (z : Size) (s d : Operand) (t : Machine) (at : ℕ) → Matches l t m → Stands l t.pc (operand_words s ++ operand_words d) → Fine l m (perform at (memory l m) (regs t) (Double o z s d)) (act_on (Double o z s d) t)
  double_sound o Word s d t at h st = two_words (λ w g x p. double w g o Word x p) (λ x p v. on_two o x p v) s d t (λ x p v b a. on_two_sound o x p v b a) h st
  double_sound o Byte s d t at h st = bytes_sound o s d t h st

  single_sound : (o : SingleOp) (z : Size) (d : Operand) (t : Machine) (at : ℕ) → Matches l t m → Stands l t.pc (operand_words d) → Fine l m (perform at (memory l m) (regs t) (Single o z d)) (act_on (Single o z d) t)
  single_sound o Word d t at h st = aim_sound (λ p. single (memory l m) p.1 o Word p.0) (λ p v. on_one o p v) d t [] h (stands_end t.pc (operand_words d) st) (λ p v st2 a. on_one_sound o p v a)
  single_sound o Byte d t at h st = tt

  branch_sound : (t : Machine) (b : Bool) (n : ℕ) → Matches l t m → Fine l m (goes_on (memory l m) (branch (regs t) b n)) (Splits b (Quiet (record t { pc = wrap_add t.pc (wrap_add (extend_sign n) (extend_sign n)) })) (Quiet t))
  branch_sound t b n h = (λ e. rw e (quiet (record t { pc = wrap_add t.pc (wrap_add (extend_sign n) (extend_sign n)) }) (with_pc (held t) _ h (omega arith))), λ e. rw e (quiet t h))

  -- what a jump to an address does
  module _ (K : ℕ × Regs → Result Outcome Failure) (k : ℕ → Machine → Act) where
    abbrev JumpGo : Type 0
    JumpGo = (a : ℕ) (u : Machine) → a < 65536 → Matches l u m → Fine l m (K (a, regs u)) (k a u)

    abbrev JumpGoal : Operand → Machine → ℕ → Act → Type 0
    JumpGoal d t at a = Fine l m (and_then (address (memory l m) Word (regs t) d) (λ p. and_then (target at p.0) (λ a. K (a, p.1)))) a

    jump_popped : (t : Machine) (at : ℕ) (ws : List ℕ) → t.stack ≡ ws → Matches l t m → JumpGo → JumpGoal (IncrementDeferred PSp) t at (pop t ws k)
    jump_popped t at [] e h go = tt
    jump_popped t at (a ∷ ws) e h go =
        let f : load_word (memory l m) t.sp ≡ Ok a = top_word (held t) a ws e h in
        let i : WordsAt m t.sp (a ∷ ws) = subst (λ s. WordsAt m t.sp s) e h.stack in
        let o : and_then (address (memory l m) Word (regs t) (IncrementDeferred PSp)) (λ p. and_then (target at p.0) (λ a. K (a, p.1))) ≡ K (a, regs (popped t ws)) = rw f refl in
        subst (λ v. Fine l m v (k a (popped t ws))) (sym o) (go a (popped t ws) (word_from t.sp a i.0) (popped_holds (held t) a ws e h))

    jump_own : (t : Machine) (at x i : ℕ) → Matches l t m → Stands l t.pc (x ∷ []) → wrap_add x t.r1 ≡ t.sp + 2 * i → i < length t.stack → JumpGo → JumpGoal (IndexDeferred R1 x) t at (k (slice_index t.stack i) (past t))
    jump_own t at x i h s e inside go =
        let f : fetch (memory l m) t.pc ≡ Ok x = fetch_word (held t) x [] h s in
        let g : load_word (memory l m) (wrap_add x t.r1) ≡ Ok (slice_index t.stack i) = own_word (held t) (wrap_add x t.r1) i h e inside in
        let o : and_then (address (memory l m) Word (regs t) (IndexDeferred R1 x)) (λ p. and_then (target at p.0) (λ a. K (a, p.1))) ≡ K (slice_index t.stack i, regs (past t)) = rw (f, g) refl in
        subst (λ v. Fine l m v (k (slice_index t.stack i) (past t))) (sym o) (go (slice_index t.stack i) (past t) (word_from (t.sp + 2 * i) (slice_index t.stack i) (word_of m t.sp t.stack i h.stack inside)) (past_holds (held t) h))

    jumped_sound : (d : Operand) (t : Machine) (at : ℕ) → Matches l t m → Stands l t.pc (operand_words d) → JumpGo → JumpGoal d t at (jumped d t k)
    jumped_sound (Register r) t at h s go = tt
    jumped_sound (Deferred R0) t at h s go = go t.r0 t h.r0 h
    jumped_sound (Deferred R1) t at h s go = tt
    jumped_sound (Deferred R2) t at h s go = tt
    jumped_sound (Deferred R3) t at h s go = tt
    jumped_sound (Deferred R4) t at h s go = tt
    jumped_sound (Deferred R5) t at h s go = tt
    jumped_sound (Deferred Sp) t at h s go = tt
    jumped_sound (Deferred Pc) t at h s go = tt
    jumped_sound (Increment r) t at h s go = tt
    jumped_sound (IncrementDeferred P0) t at h s go = tt
    jumped_sound (IncrementDeferred P1) t at h s go = tt
    jumped_sound (IncrementDeferred P2) t at h s go = tt
    jumped_sound (IncrementDeferred P3) t at h s go = tt
    jumped_sound (IncrementDeferred P4) t at h s go = tt
    jumped_sound (IncrementDeferred P5) t at h s go = tt
    jumped_sound (IncrementDeferred PSp) t at h s go = jump_popped t at t.stack refl h go
    jumped_sound (Decrement r) t at h s go = tt
    jumped_sound (DecrementDeferred r) t at h s go = tt
    jumped_sound (Index r y) t at h s go = tt
    jumped_sound (IndexDeferred R0 y) t at h s go = tt
    jumped_sound (IndexDeferred R1 y) t at h s go = λ i e inside. jump_own t at y i h s e inside go
    jumped_sound (IndexDeferred R2 y) t at h s go = tt
    jumped_sound (IndexDeferred R3 y) t at h s go = tt
    jumped_sound (IndexDeferred R4 y) t at h s go = tt
    jumped_sound (IndexDeferred R5 y) t at h s go = tt
    jumped_sound (IndexDeferred Sp y) t at h s go = tt
    jumped_sound (IndexDeferred Pc y) t at h s go = tt
    jumped_sound (Immediate y) t at h s go = tt
    jumped_sound (Absolute a) t at h s go =
        let f : fetch (memory l m) t.pc ≡ Ok a = fetch_word (held t) a [] h s in
        let e : and_then (address (memory l m) Word (regs t) (Absolute a)) (λ p. and_then (target at p.0) (λ a. K (a, p.1))) ≡ K (a, regs (past t)) = rw f refl in
        subst (λ v. Fine l m v (k a (past t))) (sym e) (go a (past t) (subst (λ y. y < 65536) s.2 (word_below l.code t.pc)) (past_holds (held t) h))

  call_sound : (r : Reg) (a : ℕ) (t : Machine) → a < 65536 → Matches l t m → Fine l m (call (memory l m) (regs t) r a) (act_call r a t)
  call_sound R0 a t b h = tt
  call_sound R1 a t b h = tt
  call_sound R2 a t b h = tt
  call_sound R3 a t b h = tt
  call_sound R4 a t b h = tt
  call_sound R5 a t b h = tt
  call_sound Sp a t b h = tt
  call_sound Pc a t b h = λ room.
      let y = ready (held t) h room in
      let sp = wrap_sub t.sp 2 in
      let even : sp % 2 ≡ 0 = omega (arith, y.full, laid.even) in
      let high : sp + 1 < l.high = omega (arith, y.full) in
      let may = usable_own l sp y.low (omega (arith, high)) in
      let also = usable_own l (sp + 1) (omega (arith, y.low)) high in
      let first : nat_lt sp 57344 ≡ true = lt-ltb sp 57344 (omega (arith, high, laid.top)) in
      let second : nat_lt (sp + 1) 57344 ≡ true = lt-ltb (sp + 1) 57344 (omega (arith, high, laid.top)) in
      record {
        after = put_word m sp t.pc;
        does = rw (even_is sp even, first, second, may, also) refl;
        matches = record { stack = stack_push m sp t.pc t.stack h.pc y.stack; full = omega (arith, y.full); low = y.low; block = block_kept sp t.pc t.block y.low h.eight h.block; eight = h.eight; code = own_code sp t.pc (behind sp y.low) h.code; r0 = h.r0; r1 = h.r1; r2 = h.r2; r3 = h.r3; r4 = h.r4; r5 = h.r5; pc = b };
        same = own_same sp t.pc (behind sp y.low);
      }

  return_sound : (r : Reg) (t : Machine) → Matches l t m → Fine l m (return_by (memory l m) (regs t) r) (act_return r t)
  return_sound R0 t h = tt
  return_sound R1 t h = tt
  return_sound R2 t h = tt
  return_sound R3 t h = tt
  return_sound R4 t h = tt
  return_sound R5 t h = tt
  return_sound Sp t h = tt
  return_sound Pc t h = on_stack t.stack refl
    where
      on_stack : (ws : List ℕ) → t.stack ≡ ws → Fine l m (return_by (memory l m) (regs t) Pc) (pop t ws (λ x u. Quiet (record u { pc = x })))
      on_stack [] e = tt
      on_stack (x ∷ ws) e =
          let f : load_word (memory l m) t.sp ≡ Ok x = top_word (held t) x ws e h in
          let i : WordsAt m t.sp (x ∷ ws) = subst (λ s. WordsAt m t.sp s) e h.stack in
          let g : return_by (memory l m) (regs t) Pc ≡ goes_on (memory l m) (regs (record (popped t ws) { pc = x })) = rw f refl in
          subst (λ v. Leaves l m v (record (popped t ws) { pc = x })) (sym g) (quiet (record (popped t ws) { pc = x }) (with_pc _ x (popped_holds (held t) x ws e h) (word_from t.sp x i.0)))

  loop_sound : (r : Reg) (n : ℕ) (t : Machine) → Matches l t m → Fine l m (goes_on (memory l m) (loop (regs t) r n)) (act_loop r n t)
  loop_sound R0 n t h =
      let x = wrap_sub t.r0 1 in
      let h2 : Matches l (record t { r0 = x }) m = record { stack = h.stack; full = h.full; low = h.low; block = h.block; eight = h.eight; code = h.code; r0 = omega arith; r1 = h.r1; r2 = h.r2; r3 = h.r3; r4 = h.r4; r5 = h.r5; pc = h.pc } in
      (λ e. rw e (quiet (record t { r0 = x }) h2), λ e. rw e (quiet (record t { r0 = x; pc = wrap_sub t.pc (2 * n) }) (with_pc (held (record t { r0 = x })) _ h2 (omega arith))))
  loop_sound R1 n t h = tt
  loop_sound R2 n t h = tt
  loop_sound R3 n t h = tt
  loop_sound R4 n t h = tt
  loop_sound R5 n t h = tt
  loop_sound Sp n t h = tt
  loop_sound Pc n t h = tt

  trap_sound : (n : ℕ) (t : Machine) (at : ℕ) → Matches l t m → Fine l m (perform at (memory l m) (regs t) (Trap n)) (Asks n t)
  trap_sound n t at h = λ e. (rw e refl, h)

  aimed_register : (o : RegisterOp) (r : Reg) (s : Operand) (t : Machine) → Matches l t m → Stands l t.pc (operand_words s) → Fine l m (and_then (address (memory l m) Word (regs t) s) (λ p. on_register (memory l m) p.1 (reg (regs t) r) o r p.0)) (aim s t (λ p u. on_reg (reg (regs t) r) o r p u))
  aimed_register o r s t h st = aim_sound (λ p. on_register (memory l m) p.1 (reg (regs t) r) o r p.0) (λ p u. on_reg (reg (regs t) r) o r p u) s t [] h (stands_end t.pc (operand_words s) st) (λ p v st2 a. on_reg_sound (reg (regs t) r) o r p v (reg_below t r h) a)

  register_sound : (o : RegisterOp) (r : Reg) (s : Operand) (t : Machine) (at : ℕ) → Matches l t m → Stands l t.pc (operand_words s) → Fine l m (perform at (memory l m) (regs t) (OnRegister o r s)) (act_register o r s t)
  register_sound Mul r s t at h st = aimed_register Mul r s t h st
  register_sound Div R0 s t at h st = aimed_register Div R0 s t h st
  register_sound Div R1 s t at h st = tt
  register_sound Div R2 s t at h st = tt
  register_sound Div R3 s t at h st = tt
  register_sound Div R4 s t at h st = tt
  register_sound Div R5 s t at h st = tt
  register_sound Div Sp s t at h st = tt
  register_sound Div Pc s t at h st = tt
  register_sound Ash r s t at h st = aimed_register Ash r s t h st
  register_sound Ashc R0 s t at h st = aimed_register Ashc R0 s t h st
  register_sound Ashc R1 s t at h st = tt
  register_sound Ashc R2 s t at h st = tt
  register_sound Ashc R3 s t at h st = tt
  register_sound Ashc R4 s t at h st = tt
  register_sound Ashc R5 s t at h st = tt
  register_sound Ashc Sp s t at h st = tt
  register_sound Ashc Pc s t at h st = tt
  register_sound Xor r s t at h st = aimed_register Xor r s t h st

  pub act_sound : (i : Instr) (t : Machine) (at : ℕ) → Matches l t m → Stands l t.pc (more_words i) → Fine l m (perform at (memory l m) (regs t) i) (act_on i t)
  act_sound (Double o z s d) t at h st = double_sound o z s d t at h st
  act_sound (Sum o s d) t at h st = two_words (λ w g x p. sum w g o x p) (λ x p v. on_sum o x p v) s d t (λ x p v b a. on_sum_sound o x p v b a) h st
  act_sound (Single o z d) t at h st = single_sound o z d t at h st
  act_sound (OnWord o d) t at h st = aim_sound (λ p. on_word (memory l m) p.1 o p.0) (λ p v. on_words o p v) d t [] h (stands_end t.pc (operand_words d) st) (λ p v st2 a. on_words_sound o p v a)
  act_sound (OnRegister o r s) t at h st = register_sound o r s t at h st
  act_sound (Branch c n) t at h st = branch_sound t (holds (regs t) c) n h
  act_sound (Loop r n) t at h st = loop_sound r n t h
  act_sound (Jump d) t at h st = jumped_sound (λ x. goes_on (memory l m) (with_reg x.1 Pc x.0)) (λ a u. Quiet (record u { pc = a })) d t at h st (λ a u b i. quiet (record u { pc = a }) (with_pc (held u) a i b))
  act_sound (Call r d) t at h st = jumped_sound (λ x. call (memory l m) x.1 r x.0) (λ a u. act_call r a u) d t at h st (λ a u b i. call_sound r a u b i)
  act_sound (Return r) t at h st = return_sound r t h
  act_sound (Trap n) t at h st = trap_sound n t at h
  act_sound (Flags u n z v c) t at h st = quiet (record t { n = if n then u else t.n; z = if z then u else t.z; v = if v then u else t.v; c = if c then u else t.c }) h
