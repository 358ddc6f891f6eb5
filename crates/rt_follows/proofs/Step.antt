-- One instruction of a task that follows: what it asks, and what then holds of the task.
use Rattle.std.proofs.Common.{◌≡◌, ℕ, suc, ◌+◌, ◌%◌, ◌<◌, ◌≤◌, true, List, [], refl, sym, ap, ◌∙◌, subst, arith}
use Rattle.rt_modes.specs.declared.mode.Mode.{Mode, out-Mode}
use Rattle.rt_modes.specs.declared.mode.Mode.TheOpen.{Mode-F}
use Rattle.rt_tree_nodes.specs.declared.store.Datum.{Datum}
use Rattle.rt_tree_nodes.specs.Typing.{is_value}
use Rattle.rt_work_state.specs.Stores.{Store}
use Rattle.rt_work_state.specs.declared.request.Request.{Request}
use Rattle.rt_work_state.specs.declared.request.Request.TheVariants.{Nothing}
use Rattle.rt_rules.specs.declared.service.Outcome as rules
use Rattle.rt_meaning.specs.Step.{Act, Doing, Task, task_step, request}
use Rattle.rt_meaning_laws.specs.Makes.{Makes}
use Rattle.rt_meaning_laws.specs.Slots.{IsByte}
use Rattle.pdp_code.specs.declared.instruction.Instr.{Instr}
use Rattle.pdp_code.specs.Code.{words_of, IsCodable}
use Rattle.pdp_core.specs.Execute.{execute, Outcome}
use Rattle.pdp_symbolic.specs.Machine.{IsLaid, Machine, regs, Matches, Stands}
use Rattle.pdp_symbolic.specs.Acts.{act}
use Rattle.pdp_symbolic.specs.Plans.{Access, After, Asked, Shows, done}
use Rattle.pdp_symbolic.proofs.Memory.{word_agrees, stack_agrees}
use Rattle.pdp_symbolic.proofs.Runs as symbolic
use Rattle.rt_follows.specs.Whole.{Whole, Home, meaning, Lies, OwnLies, Lays, Sits}
use Rattle.rt_follows.specs.Held.{layout, memory, Holds}
use Rattle.rt_follows.specs.Follows.{Kept, Stays, Agreed, Follows, quiet_after, answered}
use Rattle.rt_follows.specs.Runs.{Tracks}

-- ---- the store

-- the shared data are as they were
abbrev pub SameShared : Whole → (ℕ → ℕ) → (ℕ → ℕ) → Type 0
SameShared w m m' = (a : ℕ) → w.code_end ≤ a → a < w.data_end → m' a ≡ m a

no_record : (v : Mode) → is_value (out-Mode v) ≡ true → (r : ℕ) → out-Mode v ≡ Mode-F.Record r → ⊥
no_record v h r e = let f : is_value (Mode-F.Record r) ≡ true = subst (λ (z : Mode-F Mode). is_value z ≡ true) e h in absurd cc

no_array_byte : (v e : Mode) (n : ℕ) → out-Mode v ≡ Mode-F.Array n e → IsByte v → ⊥
no_array_byte v e n a b = absurd cc

no_array_record : (v e : Mode) (n : ℕ) → out-Mode v ≡ Mode-F.Array n e → (r : ℕ) → out-Mode v ≡ Mode-F.Record r → ⊥
no_array_record v e n a r b = absurd cc

-- a store still lies where the shared data are as they were
pub lies_same : (w : Whole) (lays : Lays w) (S : Store) (m m' : ℕ → ℕ) → SameShared w m m' → Lies w S m → Lies w S m'
lies_same w lays S m m' same lies = record {
  words = λ {l} {u} {v} at is wide.
      let s = lays.words at wide (no_record v is) in
      word_agrees m m' (w.address l) (same (w.address l) s.above (omega (arith, s.below))) (same (w.address l + 1) (omega (arith, s.above)) s.below) ∙ lies.words at is wide;
  bytes = λ {l} {u} {v} at is.
      let s = lays.bytes at is in
      ap (λ b. b % 256) (same (w.address l) s.above s.below) ∙ lies.bytes at is;
  lengths = λ {l} {u} {v} {e} {n} at is.
      let s = lays.words at (no_array_byte v e n is) (no_array_record v e n is) in
      word_agrees m m' (w.address l) (same (w.address l) s.above (omega (arith, s.below))) (same (w.address l + 1) (omega (arith, s.above)) s.below) ∙ lies.lengths at is;
}

-- ---- a task in another memory

pub laid : (w : Whole) (h : Home) → Lays w → Sits w h → IsLaid (layout w h)
laid w h lays sits = record { shared = lays.order; after = sits.after; even_block = sits.even_block; behind = sits.behind; order = sits.order; even = sits.even; top = sits.top }

pub holds_kept : (w : Whole) (h : Home) (u : Machine) (own : List Datum) (m m0 : ℕ → ℕ) → Holds w h u own m → Kept w h m m0 → Holds w h u own m0
holds_kept w h u own m m0 is kept =
    let t = is.task in
    record {
      task = record {
        stack = stack_agrees m m0 u.sp u.stack (λ x p q. kept.brick x (omega (arith, p, t.low)) (omega (arith, q, t.full))) t.stack;
        full = t.full;
        low = t.low;
        block = stack_agrees m m0 h.block u.block (λ x p q. kept.block x p (omega (arith, q, t.eight))) t.block;
        eight = t.eight;
        code = kept.code;
        r0 = t.r0;
        r1 = t.r1;
        r2 = t.r2;
        r3 = t.r3;
        r4 = t.r4;
        r5 = t.r5;
        pc = t.pc;
      };
      own_data = is.own_data;
    }

pub stays : (w : Whole) (h : Home) (q : ℕ) (u : Machine) (a : Act) (cs : List Act) (own : List Datum) (m : ℕ → ℕ) → q ≤ w.bound → Holds w h u own m → Stays w h q (regs u) m (Doing a cs own)
stays w h q u a cs own m few is =
    let t = is.task in
    record { above = t.low; below = omega (arith, t.full); own = record { words = u.block; at = t.block; eight = t.eight; lies = is.own_data }; quiet = few }

-- ---- one instruction

-- what comes of an instruction with this outcome and mark, for k instructions more
abbrev pub Comes : Whole → Home → ℕ → ℕ → Task → Store → rules.Outcome → ℕ → Outcome → Type 0
Comes w h k q t S o n x =
    Makes (meaning w) n t S o (λ asked t' S'. Agreed w h x o asked t' S' (Follows w h k (quiet_after n q) (answered x.stop o x.regs) x.world.bytes t'))

module _ (w : Whole) (lays : Lays w) (h : Home) (sits : Sits w h) (i : Instr) (u : Machine) (a : Act) (cs : List Act) (own : List Datum) (k q : ℕ) (codable : IsCodable i) (code : Stands (layout w h) u.pc (words_of i)) where
  -- an instruction that is no TRAP, by what its act comes to and what the source's steps make
  pub one : (n : ℕ) (K : After) → w.marks u.pc ≡ n → q ≤ w.bound → ((m : ℕ → ℕ) → Holds w h u own m → Asked (layout w h) (act i u) K)
      → ((S : Store) (m0 m' : ℕ → ℕ) (o : rules.Outcome) (e : List Access) (v : Machine) → Lies w S m0 → Shows (layout w h) m0 m' e → Matches (layout w h) v m' → OwnLies w own u.block → K e v → Comes w h k q (Doing a cs own) S o n (done (layout w h) v m'))
      → Tracks w h (suc k) q u a cs own
  one n K mark few asked makes m is = (
    stays w h q u a cs own m few is,
    λ alive fits S m0 typed kept lies o may.
        let is0 = holds_kept w h u own m m0 is kept in
        let x = symbolic.one (layout w h) (laid w h lays sits) m0 i u K codable is0.task code (asked m is) in
        subst (λ j. Comes w h k q (Doing a cs own) S o j (execute (memory w h m0) (regs u))) (sym mark)
        (subst (λ y. Comes w h k q (Doing a cs own) S o n y) (sym x.does) (makes S m0 x.after o x.accesses x.task lies x.shows x.matches is.own_data x.then)),
  )

  -- nothing shared is used, the block stays, and the task goes on so
  abbrev pub GoesOnQuietly : After
  GoesOnQuietly e v = (e ≡ []) × (v.block ≡ u.block) × Tracks w h k (suc q) v a cs own

  -- an unmarked instruction
  pub quietly : w.marks u.pc ≡ 0 → q + 1 ≤ w.bound → ((m : ℕ → ℕ) → Holds w h u own m → Asked (layout w h) (act i u) GoesOnQuietly) → Tracks w h (suc k) q u a cs own
  quietly mark few asked = one 0 GoesOnQuietly mark (omega (arith, few)) asked
      (λ S m0 m' o e v lies shows matches own_lies p.
      let same : SameShared w m0 m' = subst (λ (d : List Access). Shows (layout w h) m0 m' d) p.0 shows in
      let own_data : OwnLies w own v.block = subst (λ b. OwnLies w own b) (sym p.1) own_lies in
      record { fine = tt; asks = refl; goes_on = λ f. tt; world = refl; lies = lies_same w lays S m0 m' same lies; next = p.2 m' (record { task = matches; own_data = own_data }) })

  module _ (b : Act) (ds : List Act) where
    abbrev pub GoesOnVisibly : After
    GoesOnVisibly e v = (e ≡ []) × (v.block ≡ u.block) × Tracks w h k 0 v b ds own

    -- a visible step that uses no store, as a call, a return and a jump
    pub visibly : w.marks u.pc ≡ 1 → q ≤ w.bound → ((S : Store) (o : rules.Outcome) → (task_step (meaning w) (Doing a cs own) S o).task ≡ Doing b ds own) → ((S : Store) (o : rules.Outcome) → (task_step (meaning w) (Doing a cs own) S o).store ≡ S)
        → request (meaning w) (Doing a cs own) ≡ Nothing → ((m : ℕ → ℕ) → Holds w h u own m → Asked (layout w h) (act i u) GoesOnVisibly) → Tracks w h (suc k) q u a cs own
    visibly mark few task store asks asked = one 1 GoesOnVisibly mark few asked
        (λ S m0 m' o e v lies shows matches own_lies p.
        let same : SameShared w m0 m' = subst (λ (d : List Access). Shows (layout w h) m0 m' d) p.0 shows in
        let own_data : OwnLies w own v.block = subst (λ b. OwnLies w own b) (sym p.1) own_lies in
        let Q : Request → Task → Store → Type 0 = λ r t' S'. Agreed w h (done (layout w h) v m') o r t' S' (Follows w h k 0 (regs v) m' t') in
        subst (λ r. Q r (task_step (meaning w) (Doing a cs own) S o).task (task_step (meaning w) (Doing a cs own) S o).store) (sym asks)
        (subst (λ t. Q Nothing t (task_step (meaning w) (Doing a cs own) S o).store) (sym (task S o))
        (subst (λ R. Q Nothing (Doing b ds own) R) (sym (store S o))
        (record { fine = tt; asks = refl; goes_on = λ f. tt; world = refl; lies = lies_same w lays S m0 m' same lies; next = p.2 m' (record { task = matches; own_data = own_data }) }))))
