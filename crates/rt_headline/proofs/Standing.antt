-- Where the states of a run stand: at a boundary some task is ready; where the run is over, all have ended, or none is ready and no tick is left.
use Rattle.std.proofs.Common.{◌≡◌, ℕ, zero, suc, ◌+◌, ◌-◌, ◌<◌, ◌≤◌, Bool, true, false, if◌then◌else◌, ◌&&◌, ◌||◌, nat_le, List, [], ◌∷◌, length, Option, Some, None, refl, sym, ap, ◌∙◌, subst, arith, length-set}
use Rattle.std.specs.Prelude.{slice_get}
use Rattle.pdp_code.specs.declared.instruction.Reg.TheVariants.{Pc}
use Rattle.pdp_core.specs.declared.cpu.Regs.{Regs}
use Rattle.pdp_core.specs.declared.cpu.Stop.{Stop}
use Rattle.pdp_core.specs.declared.cpu.Stop.TheVariants.{Went, Trap, Fault}
use Rattle.pdp_core.specs.Execute.{Outcome, execute, reg}
use Rattle.pdp_core.specs.Protection.{protected}
use Rattle.rt_image.specs.declared.image.ImageParts.{ImageParts}
use Rattle.rt_image.specs.declared.image.ImageTask.{ImageTask}
use Rattle.rt_image.specs.Memory.{mark_at}
use Rattle.rt_rules.specs.declared.task.State.{State as Condition}
use Rattle.rt_rules.specs.declared.task.State.TheVariants.{Ready, Delayed, Event, Facility, Ended, Failed}
use Rattle.rt_rules.specs.declared.task.TaskRow.{TaskRow}
use Rattle.rt_rules.specs.Roster.{Roster, has_ended}
use Rattle.rt_rules.specs.Rules.{better_if, is_before, first_from, number_of, is_ready, running}
use Rattle.rt_tasks.specs.Start.{places_of}
use Rattle.rt_run.specs.Boundaries.{State, AllEnded, Stalled, Faulted, Reached, At, Over, state_of, all_ended, is_due, ticked, settle, judge_by, boundary_at, made_by, landed_by, instruction, go_by, onward, all_regs, start, boundary}
use Rattle.rt_run.specs.Services.{serve, asked_by}
use Rattle.rt_run.specs.Laws.{BoundariesAreCounted}

-- ---- rows

-- where all have ended none is ready
not_ready : (c : Condition) → has_ended c ≡ true → is_ready c ≡ false
not_ready Ready h = absurd cc
not_ready (Delayed n) h = refl
not_ready (Event n) h = refl
not_ready (Facility n) h = refl
not_ready Ended h = refl
not_ready (Failed n) h = refl

and_left : (x y : Bool) → (x && y) ≡ true → x ≡ true
and_left true y h = refl
and_left false y h = absurd cc

and_right : (x y : Bool) → (x && y) ≡ true → y ≡ true
and_right true y h = h
and_right false y h = absurd cc

none_ready : (ts : List TaskRow) (i : ℕ) → all_ended ts ≡ true → first_from is_ready i ts ≡ None
none_ready [] i h = refl
none_ready (t ∷ ts) i h = rw (not_ready t.state (and_left (has_ended t.state) (all_ended ts) h)) (none_ready ts (i + 1) (and_right (has_ended t.state) (all_ended ts) h))

pub runs_on : (r : Roster) (i : ℕ) → running r ≡ Some i → all_ended r.tasks ≡ false
runs_on r i h = by (all_ended r.tasks) refl
  where
    by : (b : Bool) → all_ended r.tasks ≡ b → all_ended r.tasks ≡ false
    by true e = let n = ap number_of (none_ready r.tasks 1 e) in let no : None ≡ Some i = sym n ∙ h in absurd cc
    by false e = e

-- the number that is found is that of one of the rows
Lies : ℕ → ℕ → Option (ℕ × TaskRow) → Type 0
Lies i n None = Unit {0}
Lies i n (Some (j, t)) = (i ≤ j) × (j < i + n)

found_lies : (kind : Condition → Bool) (i : ℕ) (ts : List TaskRow) → Lies i (length ts) (first_from kind i ts)
unfolding Lies
found_lies kind i [] = tt
found_lies kind i (t ∷ ts) = by (kind t.state) (first_from kind (i + 1) ts) (found_lies kind (i + 1) ts)
  where
    pick : (b : Bool) (j : ℕ) (u : TaskRow) → (i + 1 ≤ j) × (j < i + 1 + length ts) → Lies i (suc (length ts)) (if b then Some (i, t) else Some (j, u))
    pick true j u h = (omega arith, omega arith)
    pick false j u h = let low = h.0 in let high = h.1 in (omega arith, omega arith)

    by : (b : Bool) (o : Option (ℕ × TaskRow)) → Lies (i + 1) (length ts) o → Lies i (suc (length ts)) (better_if b i t o)
    by true None h = (omega arith, omega arith)
    by true (Some (j, u)) h = pick (is_before t u) j u h
    by false None h = tt
    by false (Some (j, u)) h = let low = h.0 in let high = h.1 in (omega arith, omega arith)

pub is_there : (r : Roster) (i : ℕ) → running r ≡ Some i → (1 ≤ i) × (i ≤ length r.tasks)
unfolding Lies
is_there r i h = by (first_from is_ready 1 r.tasks) (found_lies is_ready 1 r.tasks) h
  where
    by : (o : Option (ℕ × TaskRow)) → Lies 1 (length r.tasks) o → number_of o ≡ Some i → (1 ≤ i) × (i ≤ length r.tasks)
    by None l e = absurd cc
    by (Some (j, t)) l e = let same : j ≡ i = cc in let low = l.0 in let high = l.1 in (omega (arith, same), omega (arith, same))

-- ---- ticks

-- where no task is ready and not all have ended, each tick was taken
dry : (gs : List ℕ) (s : State) → s.gaps ≡ gs → running (settle gs s).rules ≡ None → all_ended (settle gs s).rules.tasks ≡ false → (settle gs s).gaps ≡ []
dry [] s e = λ idle alive. e
dry (g ∷ gs) s e = by (is_due g s.rules s.since) refl (dry gs (ticked s gs) refl)
  where
    due : all_ended s.rules.tasks ≡ false → running s.rules ≡ None → is_due g s.rules s.since ≡ true
    due alive idle = rw (alive, idle) (or_true (nat_le g s.since))
      where
        or_true : (b : Bool) → (b || true) ≡ true
        or_true true = refl
        or_true false = refl

    by : (b : Bool) → is_due g s.rules s.since ≡ b → (running (settle gs (ticked s gs)).rules ≡ None → all_ended (settle gs (ticked s gs)).rules.tasks ≡ false → (settle gs (ticked s gs)).gaps ≡ []) → running (if b then settle gs (ticked s gs) else s).rules ≡ None → all_ended (if b then settle gs (ticked s gs) else s).rules.tasks ≡ false → (if b then settle gs (ticked s gs) else s).gaps ≡ []
    by true d on idle alive = on idle alive
    by false d on idle alive = let t = due alive idle in absurd cc

settled_regs : (gs : List ℕ) (s : State) → (settle gs s).regs ≡ s.regs
settled_regs [] s = refl
settled_regs (g ∷ gs) s = by (is_due g s.rules s.since) (settled_regs gs (ticked s gs))
  where
    by : (b : Bool) → (settle gs (ticked s gs)).regs ≡ s.regs → (if b then settle gs (ticked s gs) else s).regs ≡ s.regs
    by true on = on
    by false on = refl

-- ---- runs

abbrev pub Stands : Reached → Type 0
Stands (At s) = (i : ℕ) × (running s.rules ≡ Some i)
Stands (Over AllEnded s) = all_ended s.rules.tasks ≡ true
Stands (Over Stalled s) = (all_ended s.rules.tasks ≡ false) × (running s.rules ≡ None) × (s.gaps ≡ [])
Stands (Over (Faulted i kind at) s) = Unit {0}

pub record Sane (image : ImageParts) (r : Reached) : Type 0 where
  pub regs : length (state_of r).regs ≡ length image.tasks
  pub stands : Stands r

module _ (image : ImageParts) where
  judged : (s : State) (o : Option ℕ) → running s.rules ≡ o → length s.regs ≡ length image.tasks → (running s.rules ≡ None → all_ended s.rules.tasks ≡ false → s.gaps ≡ []) → Sane image (judge_by s o)
  judged s (Some i) e len dry = record { regs = len; stands = (i, e) }
  judged s None e len dry = by (all_ended s.rules.tasks) refl
    where
      by : (b : Bool) → all_ended s.rules.tasks ≡ b → Sane image (Over (if b then AllEnded else Stalled) s)
      by true a = record { regs = len; stands = a }
      by false a = record { regs = len; stands = (a, e, dry e a) }

  at_boundary : (s : State) → length s.regs ≡ length image.tasks → Sane image (boundary_at s)
  at_boundary s len = judged (settle s.gaps s) (running (settle s.gaps s).rules) refl (ap (λ (gs : List Regs). length gs) (settled_regs s.gaps s) ∙ len) (dry s.gaps s refl)

  landed : (input : List ℕ) (s : State) (i mark : ℕ) (x : Outcome) (stop : Stop) → length s.regs ≡ length image.tasks → Sane image (landed_by input s i mark x stop)
  landed input s i mark x (Fault kind at) len = record { regs = len; stands = tt }
  landed input s i mark x Went len = at_boundary (made_by s i mark x (serve s.rules s.taken (slice_get input s.taken) i (asked_by Went x.regs))) (length-set s.regs (i - 1) _ ∙ len)
  landed input s i mark x (Trap n) len = at_boundary (made_by s i mark x (serve s.rules s.taken (slice_get input s.taken) i (asked_by (Trap n) x.regs))) (length-set s.regs (i - 1) _ ∙ len)

  carried : (input : List ℕ) (s : State) (i : ℕ) (o : Option Regs) → ((g : Regs) × (o ≡ Some g)) → length s.regs ≡ length image.tasks → Sane image (instruction image input s i o)
  carried input s i None there len = let no : None ≡ Some there.0 = there.1 in absurd cc
  carried input s i (Some g) there len = let x = execute (protected (places_of image (i - 1)) s.memory) g in landed input s i (mark_at image (reg g Pc)) x x.stop len

  get_some : {A : Type 0} (xs : List A) (k : ℕ) → k < length xs → (x : A) × (slice_get xs k ≡ Some x)
  get_some [] k h = absurd (omega arith)
  get_some (x ∷ xs) zero h = (x, refl)
  get_some (x ∷ xs) (suc k) h = get_some xs k (omega (arith, h))

  went_on : (input : List ℕ) (r : Reached) → Sane image r → length (state_of r).rules.tasks ≡ length image.tasks → Sane image (onward image input r)
  went_on input (Over why s) h count = h
  went_on input (At s) h count =
      let i = h.stands.0 in
      let e = h.stands.1 in
      let there = is_there s.rules i e in
      let len = h.regs in
      let low = there.0 in
      let high = there.1 in
      let less : i - 1 < length s.regs = omega (arith, low, high, len, count) in
      subst (λ (o : Option ℕ). Sane image (go_by image input s o)) (sym e) (carried input s i (slice_get s.regs (i - 1)) (get_some s.regs (i - 1) less) len)

  length-regs : (n : ℕ) (us : List ImageTask) → length (all_regs image n us) ≡ length us
  length-regs n [] = refl
  length-regs n (t ∷ us) = ap suc (length-regs (n + 1) us)

  pub sane : BoundariesAreCounted → (gaps input : List ℕ) (k : ℕ) → Sane image (boundary image gaps input k)
  sane counted gaps input zero = at_boundary (start image gaps) (length-regs 0 image.tasks)
  sane counted gaps input (suc k) = went_on input (boundary image gaps input k) (sane counted gaps input k) (counted image gaps input k).tasks
