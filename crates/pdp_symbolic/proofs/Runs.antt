-- What an act says is what the machine does, and so is a plan.
use Rattle.std.proofs.Common.{◌≡◌, ℕ, true, false, List, [], ◌∷◌, length, refl, sym, ap, ◌∙◌, subst, arith}
use Rattle.std.specs.Prelude.{Result, Ok, slice_index, slice_set, drop}
use Rattle.pdp_code.specs.declared.instruction.Operand.{Operand}
use Rattle.pdp_code.specs.declared.instruction.Operand.TheVariants.{Register, Deferred, Increment, IncrementDeferred, Decrement, DecrementDeferred, Index, IndexDeferred, Immediate, Absolute}
use Rattle.pdp_code.specs.declared.instruction.Size.{Size}
use Rattle.pdp_code.specs.declared.instruction.Size.TheVariants.{Word}
use Rattle.pdp_code.specs.declared.instruction.Instr.{Instr}
use Rattle.pdp_code.specs.declared.instruction.Instr.TheVariants.{Double, Sum, Single, OnWord, OnRegister, Branch, Loop, Jump, Call, Return, Trap, Flags}
use Rattle.pdp_code.specs.Code.{first_word, more_words, words_of, IsCodable}
use Rattle.pdp_code.specs.First.{first_of, blank, blank_operand}
use Rattle.pdp_code.proofs.Table.{first_of-first_word}
use Rattle.pdp_core.specs.declared.cpu.Regs.{Regs}
use Rattle.pdp_core.specs.declared.cpu.Failure.{Failure}
use Rattle.pdp_core.specs.World.{World, word_at, byte_at}
use Rattle.pdp_core.specs.Execute.{Outcome, fetch, address, perform, perform_first, plan, settle, execute}
use Rattle.pdp_symbolic.specs.Machine.{Layout, IsLaid, Machine, held, regs, memory, Matches, Stands}
use Rattle.pdp_symbolic.specs.Acts.{Act, Quiet, Reads, ReadsByte, Writes, WritesByte, ReadsOwn, WritesOwn, ReadsBlock, WritesBlock, Cuts, Grows, Splits, Asks, Lost, past, act}
use Rattle.pdp_symbolic.specs.Plans.{Read, ReadByte, Wrote, WroteByte, Fine, After, Asked, End, Plans, Next, Goes}
use Rattle.pdp_symbolic.proofs.Memory.{word_below}
use Rattle.pdp_symbolic.proofs.Sound.{fetch_word, past_holds, act_sound}

-- the words that follow do not matter to an instruction, which fetches them
address_blank : (w : World) (s : Size) (g : Regs) (o : Operand) → address w s g (blank_operand o) ≡ address w s g o
address_blank w s g (Register r) = refl
address_blank w s g (Deferred r) = refl
address_blank w s g (Increment r) = refl
address_blank w s g (IncrementDeferred r) = refl
address_blank w s g (Decrement r) = refl
address_blank w s g (DecrementDeferred r) = refl
address_blank w s g (Index r x) = refl
address_blank w s g (IndexDeferred r x) = refl
address_blank w s g (Immediate x) = refl
address_blank w s g (Absolute x) = refl

perform_blank : (at : ℕ) (w : World) (g : Regs) (i : Instr) → perform at w g (blank i) ≡ perform at w g i
perform_blank at w g (Double o z s d) = simp address_blank refl
perform_blank at w g (Sum o s d) = simp address_blank refl
perform_blank at w g (Single o z d) = rw (address_blank w _ g d) refl
perform_blank at w g (OnWord o d) = rw (address_blank w _ g d) refl
perform_blank at w g (OnRegister o r s) = rw (address_blank w Word g s) refl
perform_blank at w g (Branch c n) = refl
perform_blank at w g (Loop r n) = refl
perform_blank at w g (Jump d) = rw (address_blank w _ g d) refl
perform_blank at w g (Call r d) = rw (address_blank w _ g d) refl
perform_blank at w g (Return r) = refl
perform_blank at w g (Trap n) = refl
perform_blank at w g (Flags u n z v c) = refl

module _ (l : Layout) (laid : IsLaid l) (m : ℕ → ℕ) where
  pub plan_sound : (i : Instr) (t : Machine) → IsCodable i → Matches l t m → Stands l t.pc (words_of i) → Fine l m (plan (memory l m) (regs t)) (act i t)
  plan_sound i t c h s =
      let f : fetch (memory l m) t.pc ≡ Ok (first_word i) = fetch_word l laid m (held t) (first_word i) (more_words i) h s in
      let g : plan (memory l m) (regs t) ≡ perform_first t.pc (memory l m) (regs (past t)) (first_of (first_word i)) = rw f refl in
      let e : plan (memory l m) (regs t) ≡ perform t.pc (memory l m) (regs (past t)) i =
      g ∙ ap (perform_first t.pc (memory l m) (regs (past t))) (first_of-first_word i c) ∙ perform_blank t.pc (memory l m) (regs (past t)) i in
      subst (λ o. Fine l m o (act i t)) (sym e) (act_sound l laid m i (past t) t.pc (past_holds l laid m (held t) h) s.3)

  -- what a plan says comes
  pub next : (o : Result Outcome Failure) (t : Machine) (a : Act) (k : After) → Fine l m o a → Asked l a k → Next l m (settle (memory l m) (regs t) o) k
  next o t (Quiet u) k f q = record { after = f.after; accesses = []; task = u; does = ap (settle (memory l m) (regs t)) f.does; matches = f.matches; shows = f.same; then = q }
  next o t (Reads a g) k f q =
      let n = next o t (g (word_at m a)) (λ e u. k (Read a (word_at m a) ∷ e) u) (f q.0) (q.1 (word_at m a) (word_below m a)) in
      record { after = n.after; accesses = Read a (word_at m a) ∷ n.accesses; task = n.task; does = n.does; matches = n.matches; shows = (q.0, refl, n.shows); then = n.then }
  next o t (ReadsByte a g) k f q =
      let n = next o t (g (byte_at m a)) (λ e u. k (ReadByte a (byte_at m a) ∷ e) u) (f q.0) (q.1 (byte_at m a) (omega arith)) in
      record { after = n.after; accesses = ReadByte a (byte_at m a) ∷ n.accesses; task = n.task; does = n.does; matches = n.matches; shows = (q.0, refl, n.shows); then = n.then }
  next o t (Writes a x u) k f q =
      let n = f q.0 in
      record { after = n.after; accesses = Wrote a x ∷ []; task = u; does = ap (settle (memory l m) (regs t)) n.does; matches = n.matches; shows = (q.0, n.wrote); then = q.1 }
  next o t (WritesByte a x u) k f q =
      let n = f q.0 in
      record { after = n.after; accesses = WroteByte a x ∷ []; task = u; does = ap (settle (memory l m) (regs t)) n.does; matches = n.matches; shows = (q.0, n.wrote); then = q.1 }
  next o t (ReadsOwn a u g) k f q = next o t (g (slice_index u.stack q.0)) k (f q.0 q.1 q.2) q.3
  next o t (WritesOwn a x u) k f q =
      let n = f q.0 q.1 q.2 in
      record { after = n.after; accesses = []; task = record u { stack = slice_set u.stack q.0 x }; does = ap (settle (memory l m) (regs t)) n.does; matches = n.matches; shows = n.same; then = q.3 }
  next o t (ReadsBlock x u g) k f q = next o t (g (slice_index u.block q.0)) k (f q.0 q.1 q.2) q.3
  next o t (WritesBlock x y u) k f q =
      let n = f q.0 q.1 q.2 in
      record { after = n.after; accesses = []; task = record u { block = slice_set u.block q.0 y }; does = ap (settle (memory l m) (regs t)) n.does; matches = n.matches; shows = n.same; then = q.3 }
  next o t (Cuts x u) k f q =
      let n = f q.0 q.1 q.2 in
      record { after = n.after; accesses = []; task = record u { sp = x; stack = drop q.0 u.stack }; does = ap (settle (memory l m) (regs t)) n.does; matches = n.matches; shows = n.same; then = q.3 }
  next o t (Grows n a) k f q = next o t a k (f q.0) q.1
  next o t (Splits b x y) k f q = elim b as (λ v. b ≡ v → Next l m (settle (memory l m) (regs t) o) k) [ true ↦ (λ e. next o t x k (f.0 e) (q.0 e)) | false ↦ (λ e. next o t y k (f.1 e) (q.1 e)) ] refl
  next o t (Asks n u) k f q = absurd q
  next o t Lost k f q = absurd q

-- one instruction whose act is possible
pub one : (l : Layout) → IsLaid l → (m : ℕ → ℕ) (i : Instr) (t : Machine) (k : After) → IsCodable i → Matches l t m → Stands l t.pc (words_of i) → Asked l (act i t) k → Next l m (execute (memory l m) (regs t)) k
one l laid m i t k c h s q = next l laid m (plan (memory l m) (regs t)) t (act i t) k (plan_sound l laid m i t c h s) q

-- a plan is what the machine does
pub goes : (l : Layout) → IsLaid l → (is : List Instr) (q : End) (t : Machine) → Plans l is q t → Goes l (length is) q t
goes l laid [] q t p = p
goes l laid (i ∷ is) q t p = λ m h.
    let n = one l laid m i t (λ e u. Plans l is (λ es v. q (e ∷ es) v) u) p.0 h p.1 p.2 in
    record { after = n.after; accesses = n.accesses; task = n.task; does = n.does; matches = n.matches; shows = n.shows; then = goes l laid is (λ es v. q (n.accesses ∷ es) v) n.task n.then }
