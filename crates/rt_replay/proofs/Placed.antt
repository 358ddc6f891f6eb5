-- The placements of a run's ticks never fall and aren't above its steps, of which there are two for each instruction at most.
use Rattle.std.proofs.Common.{◌≡◌, ℕ, zero, suc, ◌+◌, ◌-◌, ◌*◌, ◌/◌, ◌%◌, ◌≤◌, Bool, true, false, ◌&&◌, eqb, leb, if◌then◌else◌, List, [], ◌∷◌, ◌++◌, get_or, Option, Some, None, refl, subst, arith}
use Rattle.std.specs.Prelude.{slice_get}
use Rattle.std.specs.List.{AllByRecursion}
use Rattle.std.proofs.lemmas.Bool.{leb-true, le-leb}
use Rattle.pdp_code.specs.declared.instruction.Reg.TheVariants.{Pc}
use Rattle.pdp_core.specs.declared.cpu.Regs.{Regs}
use Rattle.pdp_core.specs.declared.cpu.Stop.{Stop}
use Rattle.pdp_core.specs.declared.cpu.Stop.TheVariants.{Went, Trap, Fault}
use Rattle.pdp_core.specs.Execute.{Outcome, execute, reg}
use Rattle.pdp_core.specs.Protection.{protected}
use Rattle.rt_image.specs.declared.image.ImageParts.{ImageParts}
use Rattle.rt_image.specs.Memory.{mark_at}
use Rattle.rt_image.specs.Ranges.{IsMark}
use Rattle.rt_rules.specs.declared.task.TaskRow.{TaskRow}
use Rattle.rt_rules.specs.Roster.{Roster, IsTask}
use Rattle.rt_rules.specs.Rules.{running, is_ready, first_from, number_of}
use Rattle.rt_rules.proofs.Firsts.{Finds, finds}
use Rattle.rt_tasks.specs.Start.{places_of}
use Rattle.rt_run.specs.Boundaries.{State, Reached, At, Over, Why, AllEnded, Stalled, Faulted, instructions, is_due, ticked, steps, settle, judge_by, all_ended, boundary_at, made_by, landed_by, instruction, go_by, onward, start, boundary}
use Rattle.rt_run.specs.Services.{Served, serve, asked_by}
use Rattle.rt_meaning.specs.Runs.{rise_from}
use Rattle.rt_system.proofs.Tests.{none_some, some_inj, and_parts, and_both}

-- ---- numbers that never fall

rise_wider : (least n m : ℕ) (ps : List ℕ) → n ≤ m → rise_from least n ps ≡ true → rise_from least m ps ≡ true
rise_wider least n m [] h r = refl
rise_wider least n m (p ∷ ps) h r =
    let a = and_parts (leb least p) (leb p n && rise_from p n ps) r in
    let b = and_parts (leb p n) (rise_from p n ps) a.1 in
    let within : p ≤ m = omega (arith, h, leb-true p n b.0) in
    and_both (leb least p) (leb p m && rise_from p m ps) a.0 (and_both (leb p m) (rise_from p m ps) (le-leb p m within) (rise_wider p n m ps h b.1))

rise_last : (least n : ℕ) (ps : List ℕ) → least ≤ n → rise_from least n ps ≡ true → rise_from least n (ps ++ n ∷ []) ≡ true
rise_last least n [] h r = and_both (leb least n) (leb n n && true) (le-leb least n h) (and_both (leb n n) true (le-leb n n (omega arith)) refl)
rise_last least n (p ∷ ps) h r =
    let a = and_parts (leb least p) (leb p n && rise_from p n ps) r in
    let b = and_parts (leb p n) (rise_from p n ps) a.1 in
    and_both (leb least p) (leb p n && rise_from p n (ps ++ n ∷ [])) a.0 (and_both (leb p n) (rise_from p n (ps ++ n ∷ [])) b.0 (rise_last p n ps (leb-true p n b.0) b.1))

-- ---- the state of a run

pub record IsPlaced (s : State) : Type 0 where
  pub low : steps s ≤ 2 * instructions s
  pub placed : rise_from 0 (steps s) s.placements ≡ true

-- the running task is one of the tasks
task_found : (r : Roster) (best : Option (ℕ × TaskRow)) → Finds is_ready 1 r.tasks best → (i : ℕ) → number_of best ≡ Some i → IsTask r i
task_found r None f i e = none_some e
task_found r (Some (j, t)) f i e = subst (λ (k : ℕ). IsTask r k) (some_inj e) (omega (arith, f.number), omega (arith, f.number, f.within))

running_is_task : (r : Roster) (i : ℕ) → running r ≡ Some i → IsTask r i
running_is_task r i e = task_found r (first_from is_ready 1 r.tasks) (finds is_ready 1 r.tasks) i e

-- a fault is one of a task
abbrev pub IsOfTask : Why → State → Type 0
IsOfTask (Faulted i kind at) s = IsTask s.rules i
IsOfTask why s = Unit {0}

abbrev pub EndsWell : Reached → Type 0
EndsWell (At s) = IsPlaced s
EndsWell (Over why s) = IsPlaced s × IsOfTask why s

mark_low : (marks : List ℕ) (k : ℕ) → AllByRecursion IsMark marks → get_or marks k 0 ≤ 2
mark_low [] k h = omega arith
mark_low (m ∷ ms) zero h = h.0
mark_low (m ∷ ms) (suc k) h = mark_low ms k h.1

module _ (image : ImageParts) (marks : AllByRecursion IsMark image.marks) where
  low_by : (a : ℕ) (b : Bool) → (if b then get_or image.marks (a / 2) 0 else 0) ≤ 2
  low_by a true = mark_low image.marks (a / 2) marks
  low_by a false = omega arith

  low_mark : (a : ℕ) → mark_at image a ≤ 2
  low_mark a = low_by a (eqb (a % 2) 0)

  tick_placed : (gs : List ℕ) (s : State) → IsPlaced s → IsPlaced (ticked s gs)
  tick_placed gs s p = record { low = p.low; placed = rise_last 0 (steps s) s.placements (omega arith) p.placed }

  settle_placed : (gs : List ℕ) (s : State) → IsPlaced s → IsPlaced (settle gs s)
  settle_placed [] s p = p
  settle_placed (g ∷ gs) s p = by (is_due g s.rules s.since) (settle_placed gs (ticked s gs) (tick_placed gs s p))
    where
      by : (b : Bool) → IsPlaced (settle gs (ticked s gs)) → IsPlaced (if b then settle gs (ticked s gs) else s)
      by true h = h
      by false h = p

  over : (b : Bool) (s : State) → IsPlaced s → EndsWell (Over (if b then AllEnded else Stalled) s)
  over true s p = (p, tt)
  over false s p = (p, tt)

  judged : (s : State) (o : Option ℕ) → IsPlaced s → EndsWell (judge_by s o)
  judged s None p = over (all_ended s.rules.tasks) s p
  judged s (Some i) p = p

  at_boundary : (s : State) → IsPlaced s → EndsWell (boundary_at s)
  at_boundary s p = let t = settle s.gaps s in judged t (running t.rules) (settle_placed s.gaps s p)

  made_placed : (s : State) (i mark : ℕ) (x : Outcome) (v : Served) → mark ≤ 2 → IsPlaced s → IsPlaced (made_by s i mark x v)
  made_placed s i mark x v h p = record {
    low = omega (arith, h, p.low);
    placed = rise_wider 0 (steps s) (steps s + mark) s.placements (omega arith) p.placed;
  }

  landed : (all : List ℕ) (s : State) (i mark : ℕ) (x : Outcome) (stop : Stop) → mark ≤ 2 → IsTask s.rules i → IsPlaced s → EndsWell (landed_by all s i mark x stop)
  landed all s i mark x (Fault kind at) h t p = (p, t)
  landed all s i mark x Went h t p =
      let v = serve s.rules s.taken (slice_get all s.taken) i (asked_by Went x.regs) in
      at_boundary (made_by s i mark x v) (made_placed s i mark x v h p)
  landed all s i mark x (Trap n) h t p =
      let v = serve s.rules s.taken (slice_get all s.taken) i (asked_by (Trap n) x.regs) in
      at_boundary (made_by s i mark x v) (made_placed s i mark x v h p)

  carried : (all : List ℕ) (s : State) (i : ℕ) (o : Option Regs) → IsTask s.rules i → IsPlaced s → EndsWell (instruction image all s i o)
  carried all s i None t p = (p, tt)
  carried all s i (Some g) t p =
      let x = execute (protected (places_of image (i - 1)) s.memory) g in
      landed all s i (mark_at image (reg g Pc)) x x.stop (low_mark (reg g Pc)) t p

  gone : (all : List ℕ) (s : State) (o : Option ℕ) → running s.rules ≡ o → IsPlaced s → EndsWell (go_by image all s o)
  gone all s None e p = (p, tt)
  gone all s (Some i) e p = carried all s i (slice_get s.regs (i - 1)) (running_is_task s.rules i e) p

  went_on : (all : List ℕ) (r : Reached) → EndsWell r → EndsWell (onward image all r)
  went_on all (At s) p = gone all s (running s.rules) refl p
  went_on all (Over why s) p = p

  pub ends_well : (gaps all : List ℕ) (k : ℕ) → EndsWell (boundary image gaps all k)
  ends_well gaps all zero = at_boundary (start image gaps) (record { low = omega arith; placed = refl })
  ends_well gaps all (suc k) = went_on all (boundary image gaps all k) (ends_well gaps all k)
