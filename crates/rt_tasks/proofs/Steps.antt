-- An instruction over the parts of one task is the same over the whole memory.
use Rattle.std.proofs.Common.{◌≡◌, ℕ, ◌+◌, ◌-◌, ◌*◌, ◌/◌, ◌%◌, ◌<◌, ◌≤◌, Bool, true, false, ◌&&◌, ◌==◌, nat_lt, nat_le, List, length, suc, get_or, refl, sym, ap, ◌∙◌, subst, inl, inr, arith, lt-ltb, le-ltb, ltb-true, leb-true}
use Rattle.std.specs.Prelude.{slice_index}
use Rattle.std.proofs.Math.Path.{fun_ext}
use Rattle.std.proofs.lemmas.Bool.Decides.{leb_tells, nat_tests}
use Rattle.std.proofs.lemmas.Grind.{same_number_lists}
use Rattle.std.proofs.lemmas.List.{get_or_past}
use Rattle.pdp_core.specs.declared.cpu.Regs.{Regs}
use Rattle.pdp_core.specs.declared.cpu.Stop.{Stop}
use Rattle.pdp_core.specs.declared.memory.Protection.{Protection}
use Rattle.pdp_core.specs.World.{may}
use Rattle.pdp_core.specs.Protection.{within, fetchable, usable, protected}
use Rattle.pdp_core.specs.Execute.{Outcome, execute}
use Rattle.rt_tasks.specs.Parts.{LieInOrder, EndAt}
use Rattle.rt_tasks.specs.Whole.{code_byte, memory_of}
use Rattle.rt_tasks.specs.Ledger.{ledger}
use Rattle.rt_tasks.proofs.Places.{at_code, at_data, at_own, elsewhere, same_byte, data_usable, own_usable}
use Rattle.rt_tasks.proofs.Alike.{Both, executes_alike}

-- ---- tests

and_left : (x y : Bool) → (x && y) ≡ true → x ≡ true
and_left true y h = refl
and_left false y h = absurd cc

pub and_right : (x y : Bool) → (x && y) ≡ true → y ≡ true
and_right true y h = h
and_right false y h = absurd cc

and_false : (x : Bool) → (x && false) ≡ false
and_false true = refl
and_false false = refl

pub below : (low end a : ℕ) → a < low → within low end a ≡ false
below low end a h = let e : nat_le low a ≡ false = grind (arith, nat_tests) in rw e refl

pub above : (low end a : ℕ) → end ≤ a → within low end a ≡ false
above low end a h = rw (le-ltb a end h) (and_false (nat_le low a))

pub inside : (low end a : ℕ) → within low end a ≡ true → (low ≤ a) × (a < end)
inside low end a h = (leb-true low a (and_left (nat_le low a) (nat_lt a end) h), ltb-true a end (and_right (nat_le low a) (nat_lt a end) h))

true_or_false : (b : Bool) → b ≡ true → b ≡ false → ⊥
true_or_false b e f = absurd cc

-- ---- what may not be used

-- the code isn't used, and nothing behind the data but the block and the brick
unused_code : (own : List ℕ) (p : Protection) (a : ℕ) → LieInOrder own p → a < p.code_end → usable p a ≡ false
unused_code own p a o h =
    rw (below p.code_end p.data_end a h, below p.block (p.block + 16) a (omega (arith, o.code, o.block)), below p.brick p.brick_end a (omega (arith, o.code, o.block, o.brick))) refl

unused_else : (own : List ℕ) (p : Protection) (a : ℕ) → LieInOrder own p → p.data_end ≤ a → within p.block p.brick_end a ≡ false → usable p a ≡ false
unused_else own p a o h n =
    elim (leb_tells p.block a) [
      | inl q ↦ elim (leb_tells p.brick_end a) [
        | inl r ↦ rw (above p.code_end p.data_end a h, above p.block (p.block + 16) a (omega (arith, o.brick, o.brick_end, r.1)), above p.brick p.brick_end a r.1) refl
        | inr r ↦ absurd (true_or_false (within p.block p.brick_end a) (rw (q.0, lt-ltb a p.brick_end r.1) refl) n)
      ]
      | inr q ↦ rw (above p.code_end p.data_end a h, below p.block (p.block + 16) a q.1, below p.brick p.brick_end a (omega (arith, o.brick, q.1))) refl
    ]

-- ---- the bytes of others

module _ (code bytes own : List ℕ) (p : Protection) (o : LieInOrder own p) (others others2 : ℕ → ℕ) where
  same_fetched : (a : ℕ) → may (fetchable p) a ≡ true → memory_of code bytes own p others a ≡ memory_of code bytes own p others2 a
  same_fetched a h =
      let k : a < p.code_end = ltb-true a p.code_end (and_right (nat_lt a 57344) (nat_lt a p.code_end) h) in
      at_code code bytes own p others a k ∙ sym (at_code code bytes own p others2 a k)

  same_behind : (a : ℕ) (b : Bool) → within p.block p.brick_end a ≡ b → p.data_end ≤ a → may (usable p) a ≡ true → memory_of code bytes own p others a ≡ memory_of code bytes own p others2 a
  same_behind a true e k h =
      let i = inside p.block p.brick_end a e in
      let c : p.code_end ≤ a = omega (arith, o.code, k) in
      at_own code bytes own p others a c k i.0 i.1 ∙ sym (at_own code bytes own p others2 a c k i.0 i.1)
  same_behind a false e k h = absurd (true_or_false (usable p a) (and_right (nat_lt a 57344) (usable p a) h) (unused_else own p a o k e))

  same_used : (a : ℕ) → may (usable p) a ≡ true → memory_of code bytes own p others a ≡ memory_of code bytes own p others2 a
  same_used a h =
      elim (leb_tells p.data_end a) [
        | inl q ↦ same_behind a (within p.block p.brick_end a) refl q.1 h
        | inr q ↦ elim (leb_tells p.code_end a) [
          | inl r ↦ at_data code bytes own p others a r.1 q.1 ∙ sym (at_data code bytes own p others2 a r.1 q.1)
          | inr r ↦ at_code code bytes own p others a r.1 ∙ sym (at_code code bytes own p others2 a r.1)
        ]
      ]

-- what an instruction leaves, by its parts
outcome_same : (y : Outcome) (c : Stop) (h : Regs) (b : ℕ → ℕ) (f t : ℕ → Bool) → y.stop ≡ c → y.regs ≡ h → y.world.bytes ≡ b → y.world.fetches ≡ f → y.world.touches ≡ t → y ≡ record { stop = c; regs = h; world = record { bytes = b; fetches = f; touches = t } }
outcome_same y c h b f t e1 e2 e3 e4 e5 = rw (sym e1, sym e2, sym e3, sym e4, sym e5) refl

-- ---- one instruction, where the parts lie at the same places before and after it

module _ (code bytes own marks : List ℕ) (p : Protection) (e : EndAt code bytes p) (o : LieInOrder own p) (code2 bytes2 own2 marks2 : List ℕ) (e2 : EndAt code2 bytes2 p) (o2 : LieInOrder own2 p) (g g2 : Regs) (stop : Stop) (done : execute (protected p (memory_of code bytes own p (ledger marks own p))) g ≡ record { stop = stop; regs = g2; world = protected p (memory_of code2 bytes2 own2 p (ledger marks2 own2 p)) }) where
  alone : Both (fetchable p) (usable p) (memory_of code bytes own p (ledger marks own p)) (memory_of code bytes own p (ledger marks own p)) (execute (protected p (memory_of code bytes own p (ledger marks own p))) g) (execute (protected p (memory_of code bytes own p (ledger marks own p))) g)
  alone = executes_alike (fetchable p) (usable p) (memory_of code bytes own p (ledger marks own p)) (memory_of code bytes own p (ledger marks own p)) (λ a h. refl) (λ a h. refl) g

  kept : (a : ℕ) → may (usable p) a ≡ false → memory_of code2 bytes2 own2 p (ledger marks2 own2 p) a ≡ memory_of code bytes own p (ledger marks own p) a
  kept a h = sym (ap (λ (x : Outcome). x.world.bytes a) done) ∙ alone.first_kept a h

  low_end : p.code_end ≤ 57344
  low_end = omega (arith, o.code, o.block, o.all_own)

  unusable : (a : ℕ) → usable p a ≡ false → may (usable p) a ≡ false
  unusable a h = rw h (and_false (nat_lt a 57344))

  code_kept : (a : ℕ) → a < p.code_end → code_byte code2 a ≡ code_byte code a
  code_kept a h =
      sym (at_code code2 bytes2 own2 p (ledger marks2 own2 p) a h) ∙ kept a (unusable a (unused_code own p a o h)) ∙ at_code code bytes own p (ledger marks own p) a h

  same_code_length : length code2 ≡ length code
  same_code_length = omega (arith, e.0, e2.0)

  pub same_data_length : length bytes2 ≡ length bytes
  same_data_length = omega (arith, e.0, e2.0, e.1, e2.1)

  pub same_own_length : length own2 ≡ length own
  same_own_length = omega (arith, o.all_own, o2.all_own)

  low_bytes : (k : ℕ) → k < length code → slice_index code2 k % 256 ≡ slice_index code k % 256
  low_bytes k h =
      let even : ((2 * k) % 2 == 0) ≡ true = grind (arith, nat_tests) in
      let half : (2 * k) / 2 ≡ k = omega arith in
      let s = code_kept (2 * k) (omega (arith, e.0)) in
      rw (even, half) at s

  high_bytes : (k : ℕ) → k < length code → slice_index code2 k / 256 ≡ slice_index code k / 256
  high_bytes k h =
      let odd : ((2 * k + 1) % 2 == 0) ≡ false = grind (arith, nat_tests) in
      let half : (2 * k + 1) / 2 ≡ k = omega arith in
      let s = code_kept (2 * k + 1) (omega (arith, e.0)) in
      rw (odd, half) at s

  pub same_code : code2 ≡ code
  same_code = same_number_lists code2 code same_code_length (λ k h. omega (arith, low_bytes k (omega (arith, same_code_length)), high_bytes k (omega (arith, same_code_length))))

  module _ (others : ℕ → ℕ) where
    both : Both (fetchable p) (usable p) (memory_of code bytes own p (ledger marks own p)) (memory_of code bytes own p others) (execute (protected p (memory_of code bytes own p (ledger marks own p))) g) (execute (protected p (memory_of code bytes own p others)) g)
    both = executes_alike (fetchable p) (usable p) (memory_of code bytes own p (ledger marks own p)) (memory_of code bytes own p others) (same_fetched code bytes own p o (ledger marks own p) others) (same_used code bytes own p o (ledger marks own p) others) g

    -- at an address that the task may not use
    other_byte : (a : ℕ) → may (usable p) a ≡ false → memory_of code bytes own p others a ≡ memory_of code2 bytes2 own2 p others a
    other_byte a h =
        subst (λ (c : List ℕ). memory_of code bytes own p others a ≡ memory_of c bytes2 own2 p others a) (sym same_code)
        (same_byte code bytes own bytes2 own2 p others others a
        (λ l u. absurd (true_or_false (may (usable p) a) (rw (lt-ltb a 57344 (omega (arith, o.block, o.all_own, u)), data_usable p a l u) refl) h))
        (λ l u. elim (leb_tells 57344 a) [
          | inl q ↦ get_or_past own (a - p.block) 0 (omega (arith, o.all_own, q.1)) ∙ sym (get_or_past own2 (a - p.block) 0 (omega (arith, o2.all_own, q.1)))
          | inr q ↦ absurd (true_or_false (may (usable p) a) (rw (lt-ltb a 57344 q.1, own_usable own p a o l u) refl) h)
        ])
        refl)

    byte_by : (a : ℕ) (b : Bool) → may (usable p) a ≡ b → (execute (protected p (memory_of code bytes own p others)) g).world.bytes a ≡ memory_of code2 bytes2 own2 p others a
    byte_by a true h = sym (both.used a h) ∙ ap (λ (x : Outcome). x.world.bytes a) done ∙ same_used code2 bytes2 own2 p o2 (ledger marks2 own2 p) others a h
    byte_by a false h = both.second_kept a h ∙ other_byte a h

    pub stepped : execute (protected p (memory_of code bytes own p others)) g ≡ record { stop = stop; regs = g2; world = protected p (memory_of code2 bytes2 own2 p others) }
    stepped =
        outcome_same (execute (protected p (memory_of code bytes own p others)) g) stop g2 (memory_of code2 bytes2 own2 p others) (fetchable p) (usable p)
        (sym both.stop ∙ ap (λ (x : Outcome). x.stop) done)
        (sym both.regs ∙ ap (λ (x : Outcome). x.regs) done)
        (fun_ext (λ a. byte_by a (may (usable p) a) refl))
        both.second_fetches
        both.second_touches

-- ---- the ledger

-- at an address behind the memory
behind : (code bytes own : List ℕ) (p : Protection) (o : LieInOrder own p) (others : ℕ → ℕ) (a : ℕ) → 65536 ≤ a → memory_of code bytes own p others a ≡ others a
behind code bytes own p o others a h =
    elsewhere code bytes own p others a (omega (arith, o.code, o.block, o.all_own)) (omega (arith, o.block, o.all_own)) (above p.block p.brick_end a (omega (arith, o.low)))

same_places_by : (p q : Protection) → p.code_end ≡ q.code_end → p.data_end ≡ q.data_end → p.block ≡ q.block → p.brick ≡ q.brick → p.brick_end ≡ q.brick_end → p ≡ q
same_places_by p q e1 e2 e3 e4 e5 =
    let r : p ≡ record { code_end = q.code_end; data_end = q.data_end; block = q.block; brick = q.brick; brick_end = q.brick_end } = rw (sym e1, sym e2, sym e3, sym e4, sym e5) refl in r

module _ (code bytes own marks : List ℕ) (p : Protection) (o : LieInOrder own p) (code2 bytes2 own2 marks2 : List ℕ) (p2 : Protection) (o2 : LieInOrder own2 p2) (g g2 : Regs) (stop : Stop) (done : execute (protected p (memory_of code bytes own p (ledger marks own p))) g ≡ record { stop = stop; regs = g2; world = protected p2 (memory_of code2 bytes2 own2 p2 (ledger marks2 own2 p2)) }) where
  told : (a : ℕ) → 65536 ≤ a → ledger marks2 own2 p2 a ≡ ledger marks own p a
  told a h =
      let m = memory_of code bytes own p (ledger marks own p) in
      let kept : memory_of code2 bytes2 own2 p2 (ledger marks2 own2 p2) a ≡ m a = sym (ap (λ (x : Outcome). x.world.bytes a) done) ∙ (executes_alike (fetchable p) (usable p) m m (λ b k. refl) (λ b k. refl) g).first_kept a (rw (le-ltb a 57344 (omega arith)) refl) in
      sym (behind code2 bytes2 own2 p2 o2 (ledger marks2 own2 p2) a h) ∙ kept ∙ behind code bytes own p o (ledger marks own p) a h

  pub same_places : p2 ≡ p
  same_places = same_places_by p2 p (told 65536 (omega arith)) (told 65537 (omega arith)) (told 65538 (omega arith)) (told 65539 (omega arith)) (told 65540 (omega arith))

  -- the marks stand behind the six numbers
  pub same_marks : length marks2 ≡ length marks → marks2 ≡ marks
  same_marks h = same_number_lists marks2 marks h (λ k l. mark k)
    where
      mark : (k : ℕ) → get_or marks2 k 0 ≡ get_or marks k 0
      mark k =
          let at : (65542 + k) - 65536 ≡ suc (suc (suc (suc (suc (suc k))))) = omega arith in
          let t = told (65542 + k) (omega arith) in
          rw at at t
