-- What one instruction leaves of the parts of a task.
use Rattle.std.proofs.Common.{◌≡◌, ◌⊎◌, ℕ, ◌+◌, ◌/◌, ◌%◌, ◌<◌, ◌≤◌, Bool, true, false, ◌&&◌, ◌==◌, nat_lt, if◌then◌else◌, List, length, get_or, Option, Some, None, refl, sym, ap, ◌∙◌, subst, inl, inr, arith, le-leb, ltb-true}
use Rattle.std.specs.Prelude.{slice_index, slice_get, Ok, Err}
use Rattle.std.proofs.lemmas.Bool.Decides.{eqb_tells, nat_tests}
use Rattle.std.proofs.lemmas.Grind.{same_number_lists}
use Rattle.std.proofs.lemmas.Option.{slice_get_cases, slice_get-get_or, get_or_from_slice_get}
use Rattle.rt_words.specs.Word.{is_odd}
use Rattle.pdp_code.specs.declared.instruction.Reg.TheVariants.{Pc}
use Rattle.pdp_code.specs.declared.instruction.Instr.{Instr}
use Rattle.pdp_code.specs.declared.instruction.Instr.TheVariants.{Trap}
use Rattle.pdp_code.specs.First.{first_of}
use Rattle.pdp_core.specs.declared.cpu.Regs.{Regs}
use Rattle.pdp_core.specs.declared.cpu.Stop.{Stop}
use Rattle.pdp_core.specs.declared.cpu.Stop.TheVariants.{Went, Trap as Service, Fault}
use Rattle.pdp_core.specs.declared.cpu.Refused.TheVariants.{Odd, Access}
use Rattle.pdp_core.specs.declared.memory.Protection.{Protection}
use Rattle.pdp_core.specs.World.{World, may, word_at, where_ok}
use Rattle.pdp_core.specs.Protection.{fetchable, usable, protected}
use Rattle.pdp_core.specs.Execute.{Outcome, execute, of_memory, past_word, reg}
use Rattle.pdp_core.specs.Execute as core
use Rattle.rt_tasks.specs.Parts.{Sharing, LieInOrder, EndAt}
use Rattle.rt_tasks.specs.Whole.{memory_of}
use Rattle.rt_tasks.specs.Ledger.{ledger}
use Rattle.rt_tasks.specs.Traps.{trap_number, trap_at}
use Rattle.rt_tasks.specs.Steps.{Steps, KeepsAtFault, AsksByTrap, AnswersTrap}
use Rattle.rt_tasks.proofs.Places.{at_code, at_data, at_own}
use Rattle.rt_tasks.proofs.Accesses.{code_word, word_fetched}
use Rattle.rt_tasks.proofs.Alike.{Asked, Faulted, ends_so}
use Rattle.rt_tasks.proofs.Steps.{same_data_length, same_own_length, same_code, stepped, same_places, same_marks, and_right}

abbrev sharing : List ℕ → List ℕ → List ℕ → List ℕ → Protection → Sharing
sharing code marks bytes own p = record { code = code; marks = marks; bytes = bytes; own = own; places = p }

-- a TRAP of a service is answered by its number
trap_stops : (w : World) (g : Regs) (word n : ℕ) → core.fetch w (reg g Pc) ≡ Ok word → first_of word ≡ Some (Trap n) → 1 ≤ n → n ≤ 11 → (execute w g).stop ≡ Service n
trap_stops w g word n e f h k = rw (e, f, le-leb 1 n h, le-leb n 11 k) refl

-- the word that was fetched
fetch_by : (m : ℕ → ℕ) (f : ℕ → Bool) (a word : ℕ) (odd x y : Bool) → is_odd a ≡ odd → may f a ≡ x → may f (a + 1) ≡ y → of_memory (where_ok (if odd then Err (Odd a) else if x && y then Ok tt else Err (Access a)) (word_at m a)) ≡ Ok word → (is_odd a ≡ false) × (may f (a + 1) ≡ true) × (word_at m a ≡ word)
fetch_by m f a word true x y d e h q = absurd cc
fetch_by m f a word false true true d e h q = (d, h, cc)
fetch_by m f a word false true false d e h q = absurd cc
fetch_by m f a word false false y d e h q = absurd cc

module _ (code bytes own marks : List ℕ) (p : Protection) (words : (k : ℕ) → slice_index code k < 65536) (e : EndAt code bytes p) (o : LieInOrder own p) where
  abbrev M : ℕ → ℕ
  M = memory_of code bytes own p (ledger marks own p)

  abbrev W : World
  W = protected p M

  -- where a TRAP was fetched it stands in the code
  trap_stands : (a word n : ℕ) → core.fetch W a ≡ Ok word → first_of word ≡ Some (Trap n) → trap_at code a ≡ Some n
  trap_stands a word n h f =
      let q = fetch_by M (fetchable p) a word (is_odd a) (may (fetchable p) a) (may (fetchable p) (a + 1)) refl refl refl h in
      let odd : a % 2 ≡ 1 → ⊥ = λ r. elim (eqb_tells (a % 2) 1) [ inl s ↦ absurd cc | inr s ↦ s.1 r ] in
      let even : (a % 2 == 0) ≡ true = grind (arith, nat_tests) in
      let second : a + 1 < p.code_end = ltb-true (a + 1) p.code_end (and_right (nat_lt (a + 1) 57344) (nat_lt (a + 1) p.code_end) q.1) in
      let place : a / 2 < length code = omega (arith, e.0, second) in
      let here : word_at M a ≡ get_or code (a / 2) 0 = code_word code M a (get_or code (a / 2) 0) odd (at_code code bytes own p (ledger marks own p) a (omega (arith, second))) (at_code code bytes own p (ledger marks own p) (a + 1) second) refl (words (a / 2)) in
      let same : get_or code (a / 2) 0 ≡ word = sym here ∙ q.2 in
      rw (even, slice_get-get_or code (a / 2) 0 place, same, f) refl

  trap_reads : (a : ℕ) (w n : ℕ) → a % 2 ≡ 0 → slice_get code (a / 2) ≡ Some w → a / 2 < length code → core.fetch W a ≡ Ok w
  trap_reads a w n even h place =
      let x : w ≡ get_or code (a / 2) w = sym (get_or_from_slice_get code (a / 2) w w h) in
      let low : w < 65536 = subst (λ (y : ℕ). y < 65536) (get_or_from_slice_get code (a / 2) w 0 h) (words (a / 2)) in
      sym (ap of_memory (word_fetched code bytes own marks p e o a (a / 2) w (λ r. absurd (omega arith)) refl place x low))

  -- the TRAP that stands in the code is fetched
  trap_found : (a n : ℕ) → trap_at code a ≡ Some n → (w : ℕ) × (core.fetch W a ≡ Ok w) × (first_of w ≡ Some (Trap n))
  trap_found a n h =
      elim (eqb_tells (a % 2) 0) [
        | inl q ↦ elim (slice_get_cases code (a / 2)).1 [
          | inl r ↦
              let named : trap_number (first_of r.0) ≡ Some n = let k = h in rw (q.0, r.2) at k in
              (r.0, trap_reads a r.0 n q.1 r.2 r.1, trap_is (first_of r.0) named)
          | inr r ↦ let k = h in let none : None ≡ Some n = rw (q.0, r.1) at k in absurd cc
        ]
        | inr q ↦ let k = h in let none : None ≡ Some n = rw (q.0) at k in absurd cc
      ]
    where
      trap_is : (i : Option Instr) → trap_number i ≡ Some n → i ≡ Some (Trap n)
      trap_is None d = absurd cc
      trap_is (Some (Trap k)) d = cc
      trap_is (Some i) d = absurd cc

  module _ (code2 bytes2 own2 marks2 : List ℕ) (marks_same : marks2 ≡ marks) (e2 : EndAt code2 bytes2 p) (o2 : LieInOrder own2 p) (g g2 : Regs) (stop : Stop) (done : execute (protected p (memory_of code bytes own p (ledger marks own p))) g ≡ record { stop = stop; regs = g2; world = protected p (memory_of code2 bytes2 own2 p (ledger marks2 own2 p)) }) where
    data_length : length bytes2 ≡ length bytes
    data_length = same_data_length code bytes own marks p e o code2 bytes2 own2 marks2 e2 o2 g g2 stop done

    own_length : length own2 ≡ length own
    own_length = same_own_length code bytes own marks p e o code2 bytes2 own2 marks2 e2 o2 g g2 stop done

    code_same : code2 ≡ code
    code_same = same_code code bytes own marks p e o code2 bytes2 own2 marks2 e2 o2 g g2 stop done

    steps : Steps g (sharing code marks bytes own p) stop g2 (sharing code2 marks2 bytes2 own2 p)
    steps = record {
      executed = λ others. stepped code bytes own marks p e o code2 bytes2 own2 marks2 e2 o2 g g2 stop done others;
      code = code_same;
      marks = marks_same;
      places = refl;
      bytes = data_length;
      own = own_length;
    }

    stops : (execute W g).stop ≡ stop
    stops = ap (λ (x : Outcome). x.stop) done

    goes : (execute W g).regs ≡ g2
    goes = ap (λ (x : Outcome). x.regs) done

    -- where the memory is the same its parts are
    same_parts : (execute W g).world ≡ W → sharing code2 marks2 bytes2 own2 p ≡ sharing code marks bytes own p
    same_parts h =
        let same : (a : ℕ) → memory_of code2 bytes2 own2 p (ledger marks2 own2 p) a ≡ memory_of code bytes own p (ledger marks own p) a = λ a. sym (ap (λ (x : Outcome). x.world.bytes a) done) ∙ ap (λ (x : World). x.bytes a) h in
        let data_same : bytes2 ≡ bytes = same_number_lists bytes2 bytes data_length (λ k l. data_byte code2 bytes2 own2 (ledger marks2 own2 p) k (omega (arith, data_length, l)) ∙ same (p.code_end + k) ∙ sym (data_byte code bytes own (ledger marks own p) k (omega (arith, data_length, l)))) in
        let own_same : own2 ≡ own = same_number_lists own2 own own_length (λ k l. own_byte code2 bytes2 own2 (ledger marks2 own2 p) k (omega (arith, own_length, l)) ∙ same (p.block + k) ∙ sym (own_byte code bytes own (ledger marks own p) k (omega (arith, own_length, l)))) in
        rw (code_same, data_same, own_same, marks_same) refl
      where
        data_byte : (c b w : List ℕ) (others : ℕ → ℕ) (k : ℕ) → k < length bytes → get_or b k 0 ≡ memory_of c b w p others (p.code_end + k)
        data_byte c b w others k l = ap (slice_index b) (omega arith) ∙ sym (at_data c b w p others (p.code_end + k) (omega arith) (omega (arith, e.0, e.1)))

        own_byte : (c b w : List ℕ) (others : ℕ → ℕ) (k : ℕ) → k < length own → get_or w k 0 ≡ memory_of c b w p others (p.block + k)
        own_byte c b w others k l = ap (slice_index w) (omega arith) ∙ sym (at_own c b w p others (p.block + k) (omega (arith, o.code, o.block)) (omega (arith, o.block)) (omega arith) (omega (arith, o.all_own)))

    ends : (execute W g).stop ≡ Went ⊎ Asked (fetchable p) (usable p) M M (λ a h. refl) (λ a h. refl) g (execute W g) ⊎ Faulted (fetchable p) (usable p) M M (λ a h. refl) (λ a h. refl) g (execute W g)
    ends = ends_so (fetchable p) (usable p) M M (λ a h. refl) (λ a h. refl) g

    faults : KeepsAtFault g (sharing code marks bytes own p) stop g2 (sharing code2 marks2 bytes2 own2 p)
    faults kind at h =
        elim ends [
          | inl q ↦ absurd (let i : Went ≡ Fault kind at = sym q ∙ stops ∙ h in cc)
          | inr (inl q) ↦ absurd (let i : Service q.0 ≡ Fault kind at = sym q.1 ∙ stops ∙ h in cc)
          | inr (inr q) ↦ (sym goes ∙ q.2, same_parts q.3)
        ]

    asks : AsksByTrap g (sharing code marks bytes own p) stop g2 (sharing code2 marks2 bytes2 own2 p)
    asks n h =
        elim ends [
          | inl q ↦ absurd (let i : Went ≡ Service n = sym q ∙ stops ∙ h in cc)
          | inr (inl q) ↦
              let i : Service q.0 ≡ Service n = sym q.1 ∙ stops ∙ h in
              let k : q.0 ≡ n = cc in
              (trap_stands (reg g Pc) q.4.0 n q.4.1 (q.4.2 ∙ ap (λ (x : ℕ). Some (Trap x)) k), sym goes ∙ q.2, same_parts q.3)
          | inr (inr q) ↦ absurd (let i : Fault (q.0).kind (q.0).at ≡ Service n = sym q.1 ∙ stops ∙ h in cc)
        ]

    answers : AnswersTrap g (sharing code marks bytes own p) stop
    answers n h low high =
        let t = trap_found (reg g Pc) n h in
        sym stops ∙ trap_stops W g t.0 n t.1 t.2 low high

  -- ---- the whole of it

  abbrev All : Regs → Stop → Regs → List ℕ → List ℕ → List ℕ → List ℕ → Protection → Type 0
  All g stop g2 code2 marks2 bytes2 own2 q = Steps g (sharing code marks bytes own p) stop g2 (sharing code2 marks2 bytes2 own2 q) × KeepsAtFault g (sharing code marks bytes own p) stop g2 (sharing code2 marks2 bytes2 own2 q) × AsksByTrap g (sharing code marks bytes own p) stop g2 (sharing code2 marks2 bytes2 own2 q) × AnswersTrap g (sharing code marks bytes own p) stop

  pub one_step : (code2 bytes2 own2 marks2 : List ℕ) (p2 : Protection) (e2 : EndAt code2 bytes2 p2) (o2 : LieInOrder own2 p2) (m : length marks ≡ length code) (m2 : length marks2 ≡ length code2) (g g2 : Regs) (stop : Stop) (done : execute (protected p (memory_of code bytes own p (ledger marks own p))) g ≡ record { stop = stop; regs = g2; world = protected p2 (memory_of code2 bytes2 own2 p2 (ledger marks2 own2 p2)) }) → All g stop g2 code2 marks2 bytes2 own2 p2
  one_step code2 bytes2 own2 marks2 p2 e2 o2 m m2 g g2 stop done =
      let places : p2 ≡ p = same_places code bytes own marks p o code2 bytes2 own2 marks2 p2 o2 g g2 stop done in
      let end : p2.code_end ≡ p.code_end = ap (λ (q : Protection). q.code_end) places in
      let same : marks2 ≡ marks = same_marks code bytes own marks p o code2 bytes2 own2 marks2 p2 o2 g g2 stop done (omega (arith, m, m2, e.0, e2.0, end)) in
      subst (λ (q : Protection). EndAt code2 bytes2 q → LieInOrder own2 q → execute (protected p (memory_of code bytes own p (ledger marks own p))) g ≡ record { stop = stop; regs = g2; world = protected q (memory_of code2 bytes2 own2 q (ledger marks2 own2 q)) } → All g stop g2 code2 marks2 bytes2 own2 q)
      (sym places)
      (λ e3 o3 d. (steps code2 bytes2 own2 marks2 same e3 o3 g g2 stop d, faults code2 bytes2 own2 marks2 same e3 o3 g g2 stop d, asks code2 bytes2 own2 marks2 same e3 o3 g g2 stop d, answers code2 bytes2 own2 marks2 same e3 o3 g g2 stop d))
      e2 o2 done
