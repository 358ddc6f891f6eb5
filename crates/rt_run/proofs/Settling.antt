-- Ticks that are taken one after another.
use Rattle.std.proofs.Common.{◌≡◌, ℕ, suc, ◌+◌, ◌-◌, ◌*◌, ◌<◌, ◌≤◌, Bool, true, false, if◌then◌else◌, ◌&&◌, ◌||◌, nat_le, List, [], ◌∷◌, ◌++◌, length, drop, Option, Some, None, refl, sym, ap, ◌∙◌, subst, inl, inr, arith, length-set, le-leb, lt-ltb, le-ltb}
use Rattle.std.specs.Prelude.{slice_get}
use Rattle.std.proofs.lemmas.Bool.Decides.{leb_tells, nat_tests}
use Rattle.rt_rules.specs.declared.task.State.{State as Condition}
use Rattle.rt_rules.specs.declared.task.State.TheVariants.{Ready, Delayed, Event, Facility, Ended, Failed}
use Rattle.rt_rules.specs.declared.task.TaskRow.{TaskRow}
use Rattle.rt_rules.specs.Roster.{Roster, has_ended, InRanges}
use Rattle.rt_rules.specs.Rules.{first_from, number_of, is_ready, running, tick, arrives_if, counted_rows, stamp_after}
use Rattle.rt_rules.specs.Laws.{TickRaises}
use Rattle.rt_run.specs.Ticking.{Ticking, room_before}
use Rattle.rt_run.specs.Boundaries.{State, steps, all_ended, is_due, settle, ticked, with_ticks}

-- the ticks taken so far lead to the same
pub record IsOnTheWay (count tasks : ℕ) (r : Roster) (t : Ticking) (r2 : Roster) (t2 : Ticking) : Type 0 where
  pub same : (s : State) → steps s ≡ count → settle t.gaps (with_ticks s r t) ≡ settle t2.gaps (with_ticks s r2 t2)
  pub every : tasks ≡ length r2.tasks
  pub stamp : r2.stamp + 33 * length t2.gaps ≤ r.stamp + 33 * length t.gaps
  pub clock : r2.clock + length t2.gaps ≤ r.clock + length t.gaps
  pub since : t2.since ≤ t.since

-- where all have ended none is ready
not_ready : (c : Condition) → has_ended c ≡ true → is_ready c ≡ false
not_ready Ready h = absurd cc
not_ready (Delayed n) h = refl
not_ready (Event n) h = refl
not_ready (Facility n) h = refl
not_ready Ended h = refl
not_ready (Failed n) h = refl

and_left : (x y : Bool) → (x && y) ≡ true → x ≡ true
and_left true y h = refl
and_left false y h = absurd cc

and_right : (x y : Bool) → (x && y) ≡ true → y ≡ true
and_right true y h = h
and_right false y h = absurd cc

none_ready : (ts : List TaskRow) (i : ℕ) → all_ended ts ≡ true → first_from is_ready i ts ≡ None
none_ready [] i h = refl
none_ready (t ∷ ts) i h = rw (not_ready t.state (and_left (has_ended t.state) (all_ended ts) h)) (none_ready ts (i + 1) (and_right (has_ended t.state) (all_ended ts) h))

pub runs_on : (r : Roster) (i : ℕ) → running r ≡ Some i → all_ended r.tasks ≡ false
runs_on r i h = by (all_ended r.tasks) refl
  where
    by : (b : Bool) → all_ended r.tasks ≡ b → all_ended r.tasks ≡ false
    by true e = let n = ap number_of (none_ready r.tasks 1 e) in let no : None ≡ Some i = sym n ∙ h in absurd cc
    by false e = e

-- the ticks of a way
pub way_begins : (count tasks : ℕ) (r : Roster) (t : Ticking) → tasks ≡ length r.tasks → IsOnTheWay count tasks r t r t
way_begins count tasks r t a = record { same = λ s h. refl; every = a; stamp = omega arith; clock = omega arith; since = omega arith }

-- whether a tick is due while a task runs
or_false : (x : Bool) → x ≡ (x || false)
or_false true = refl
or_false false = refl

pub due_while_running : (r : Roster) (i gap since : ℕ) → Some i ≡ running r → nat_le gap since ≡ is_due gap r since
due_while_running r i gap since h = rw (runs_on r i (sym h), sym h) (or_false (nat_le gap since))

-- where none is due, or none is left, the way is at its end
pub not_due : (count : ℕ) (r : Roster) (t : Ticking) (gap : ℕ) (s : State) → Some gap ≡ slice_get t.gaps 0 → is_due gap r t.since ≡ false → settle t.gaps (with_ticks s r t) ≡ with_ticks s r t
not_due count r t gap s h e = by t.gaps refl
  where
    by : (gs : List ℕ) → t.gaps ≡ gs → settle t.gaps (with_ticks s r t) ≡ with_ticks s r t
    by [] q = let k = h in let no : Some gap ≡ None = rw q at k in absurd cc
    by (g ∷ gs) q = let k = h in let same : Some gap ≡ Some g = rw q at k in let f : is_due g r t.since ≡ false = (let one : gap ≡ g = cc in subst (λ (x : ℕ). is_due x r t.since ≡ false) one e) in rw q (settled_not g gs f)
      where
        settled_not : (g : ℕ) (gs : List ℕ) → is_due g r t.since ≡ false → settle (g ∷ gs) (with_ticks s r (record { gaps = g ∷ gs; since = t.since; placements = t.placements })) ≡ with_ticks s r (record { gaps = g ∷ gs; since = t.since; placements = t.placements })
        settled_not g gs f = rw f refl

pub none_of : (o x : Option ℕ) → ((n : ℕ) → o ≡ Some n → ⊥) → o ≡ x → None ≡ x
none_of None x h e = e
none_of (Some n) x h e = absurd (h n refl)

pub none_left : (r : Roster) (t : Ticking) (s : State) → None ≡ slice_get t.gaps 0 → settle t.gaps (with_ticks s r t) ≡ with_ticks s r t
none_left r t s h = by t.gaps refl
  where
    by : (gs : List ℕ) → t.gaps ≡ gs → settle t.gaps (with_ticks s r t) ≡ with_ticks s r t
    by [] q = rw q refl
    by (g ∷ gs) q = let k = h in let no : None ≡ Some g = rw q at k in absurd cc

-- one tick
abbrev pub after_tick : ℕ → Ticking → Ticking
after_tick count t = record { gaps = drop 1 t.gaps; since = 0; placements = t.placements ++ count ∷ [] }

one_tick : (count : ℕ) (r : Roster) (t : Ticking) (gap : ℕ) (s : State) → Some gap ≡ slice_get t.gaps 0 → is_due gap r t.since ≡ true → steps s ≡ count → settle t.gaps (with_ticks s r t) ≡ settle (drop 1 t.gaps) (with_ticks s (tick r) (after_tick count t))
one_tick count r t gap s h e c = by t.gaps refl
  where
    by : (gs : List ℕ) → t.gaps ≡ gs → settle t.gaps (with_ticks s r t) ≡ settle (drop 1 t.gaps) (with_ticks s (tick r) (after_tick count t))
    by [] q = let k = h in let no : Some gap ≡ None = rw q at k in absurd cc
    by (g ∷ gs) q =
        let k = h in
        let same : Some gap ≡ Some g = rw q at k in
        let f : is_due g r t.since ≡ true = (let one : gap ≡ g = cc in subst (λ (x : ℕ). is_due x r t.since ≡ true) one e) in
        rw q (settled g gs f)
      where
        settled : (g : ℕ) (gs : List ℕ) → is_due g r t.since ≡ true → settle (g ∷ gs) (with_ticks s r (record { gaps = g ∷ gs; since = t.since; placements = t.placements })) ≡ settle gs (with_ticks s (tick r) (record { gaps = gs; since = 0; placements = t.placements ++ count ∷ [] }))
        settled g gs f = rw (f, c) refl

-- a tick keeps the number of tasks
length-counted : (stamp : ℕ) (ts : List TaskRow) → length (counted_rows stamp ts) ≡ length ts
length-counted stamp [] = refl
length-counted stamp (t ∷ ts) = ap suc (length-counted (stamp_after stamp t) ts)

length-arrives : (r : Roster) (o : Option ℕ) → length (arrives_if r o).tasks ≡ length r.tasks
length-arrives r None = refl
length-arrives r (Some i) = simp length-set

pub length-tick : (r : Roster) → length (tick r).tasks ≡ length r.tasks
length-tick r = length-counted _ _ ∙ length-arrives (record r { clock = r.clock + 1 }) (running r)

some_left : (gs : List ℕ) (gap : ℕ) → Some gap ≡ slice_get gs 0 → length gs ≡ length (drop 1 gs) + 1
some_left [] gap h = absurd (let no : Some gap ≡ None = h in cc)
some_left (g ∷ gs) gap h = omega arith

pub way_goes_on : TickRaises → (count tasks : ℕ) (r0 : Roster) (t0 : Ticking) (r : Roster) (t : Ticking) (gap : ℕ) → IsOnTheWay count tasks r0 t0 r t → Some gap ≡ slice_get t.gaps 0 → is_due gap r t.since ≡ true → InRanges r → IsOnTheWay count tasks r0 t0 (tick r) (after_tick count t)
way_goes_on raises count tasks r0 t0 r t gap way h e ranges =
    let up = raises r ranges in
    let left = some_left t.gaps gap h in
    record {
      same = λ s c. way.same s c ∙ one_tick count r t gap s h e c;
      every = way.every ∙ sym (length-tick r);
      stamp = omega (arith, up.1, left, way.stamp);
      clock = omega (arith, up.0, left, way.clock);
      since = omega arith;
    }

-- settling what is settled changes nothing
pub settle_again : (gs : List ℕ) (s : State) → s.gaps ≡ gs → settle (settle gs s).gaps (settle gs s) ≡ settle gs s
settle_again [] s h = rw h refl
settle_again (g ∷ gs) s h = by (is_due g s.rules s.since) refl (settle_again gs (ticked s gs) refl)
  where
    by : (b : Bool) → is_due g s.rules s.since ≡ b → settle (settle gs (ticked s gs)).gaps (settle gs (ticked s gs)) ≡ settle gs (ticked s gs) → settle (settle (g ∷ gs) s).gaps (settle (g ∷ gs) s) ≡ settle (g ∷ gs) s
    by true e ih = rw (e) ih
    by false e ih = rw (e, h, e) refl

-- a state with the rules and ticks that it has
pub same_ticks : (s : State) (r : Roster) (t : Ticking) → s.rules ≡ r → s.gaps ≡ t.gaps → s.since ≡ t.since → s.placements ≡ t.placements → s ≡ with_ticks s r t
same_ticks s r t a b c d = rw (sym a, sym b, sym c, sym d) refl

-- ---- between two ticks

gap_over : (gap since : ℕ) → since < gap → nat_le gap since ≡ false
gap_over gap since h = grind (arith, nat_tests)

-- where a task runs and the next gap isn't over, no tick is due
pub unticked : (s : State) (i : ℕ) → running s.rules ≡ Some i → ((gap : ℕ) → slice_get s.gaps 0 ≡ Some gap → s.since < gap) → settle s.gaps s ≡ s
unticked s i runs early = by s.gaps refl
  where
    by : (gs : List ℕ) → s.gaps ≡ gs → settle gs s ≡ s
    by [] e = refl
    by (g ∷ gs) e =
        let later : s.since < g = early g (ap (λ (xs : List ℕ). slice_get xs 0) e) in
        let not_due : is_due g s.rules s.since ≡ false = sym (due_while_running s.rules i g s.since (sym runs)) ∙ gap_over g s.since later in
        rw not_due refl

fewer_gaps : (gs : List ℕ) (s : State) → s.gaps ≡ gs → length (settle gs s).gaps ≤ length gs
fewer_gaps [] s h = omega (arith, ap (λ (xs : List ℕ). length xs) h)
fewer_gaps (g ∷ gs) s h = by (is_due g s.rules s.since) (fewer_gaps gs (ticked s gs) refl)
  where
    by : (b : Bool) → length (settle gs (ticked s gs)).gaps ≤ length gs → length (if b then settle gs (ticked s gs) else s).gaps ≤ suc (length gs)
    by true k = omega arith
    by false k = omega (arith, ap (λ (xs : List ℕ). length xs) h)

-- and the other way
pub gap_left : (s : State) (i gap : ℕ) → running s.rules ≡ Some i → settle s.gaps s ≡ s → slice_get s.gaps 0 ≡ Some gap → s.since < gap
gap_left s i gap runs settled next = by s.gaps refl next
  where
    not_over : (g : ℕ) (gs : List ℕ) → s.gaps ≡ g ∷ gs → g ≤ s.since → ⊥
    not_over g gs e over =
        let due : is_due g s.rules s.since ≡ true = sym (due_while_running s.rules i g s.since (sym runs)) ∙ le-leb g s.since over in
        let taken : settle (g ∷ gs) s ≡ settle gs (ticked s gs) = rw due refl in
        let went : settle s.gaps s ≡ settle gs (ticked s gs) = ap (λ (xs : List ℕ). settle xs s) e ∙ taken in
        let same : length (settle gs (ticked s gs)).gaps ≡ length s.gaps = ap (λ (t : State). length t.gaps) (sym went ∙ settled) in
        let all : length s.gaps ≡ suc (length gs) = ap (λ (xs : List ℕ). length xs) e in
        omega (arith, fewer_gaps gs (ticked s gs) refl, same, all)

    by : (gs : List ℕ) → s.gaps ≡ gs → slice_get gs 0 ≡ Some gap → s.since < gap
    by [] e n = absurd (let no : None ≡ Some gap = n in cc)
    by (g ∷ gs) e n =
        let same : g ≡ gap = cc in
        elim (leb_tells g s.since) [
          | inl q ↦ absurd (not_over g gs e q.1)
          | inr q ↦ omega (arith, q.1, same)
        ]

-- the room up to the next tick
module _ (most gap since : ℕ) where
  room_by_least : since < gap → (A : ℕ → Type 0) → A (gap - since) → (most ≤ gap - since → A most) → A (room_before most (Some gap) since)
  room_by_least h A left whole =
      rw (gap_over gap since h) (elim (leb_tells most (gap - since)) [
        | inl q ↦ rw (le-ltb (gap - since) most q.1) (whole q.1)
        | inr q ↦ rw (lt-ltb (gap - since) most q.1) left
      ])

pub room_is_early : (most gap since : ℕ) → since < gap → since + room_before most (Some gap) since ≤ gap
room_is_early most gap since h = room_by_least most gap since h (λ (n : ℕ). since + n ≤ gap) (omega arith) (λ q. omega arith)

room_is_some : (most : ℕ) (next : Option ℕ) (since : ℕ) → 0 < most → (0 < room_before most next since) × (room_before most next since ≤ most)
room_is_some most None since h = (h, omega arith)
room_is_some most (Some gap) since h =
    elim (leb_tells gap since) [
      | inl q ↦ rw (le-leb gap since q.1) (omega arith, omega arith)
      | inr q ↦ by (omega arith)
    ]
  where
    by : since < gap → (0 < room_before most (Some gap) since) × (room_before most (Some gap) since ≤ most)
    by later = rw (gap_over gap since later) (elim (leb_tells most (gap - since)) [
      | inl r ↦ rw (le-ltb (gap - since) most r.1) (h, omega arith)
      | inr r ↦ rw (lt-ltb (gap - since) most r.1) (omega arith, omega arith)
    ])

pub room_within : (room most : ℕ) (next : Option ℕ) (since : ℕ) → room ≡ room_before most next since → 0 < most → (0 < room) × (room ≤ most)
room_within room most next since e h = let q = room_is_some most next since h in (subst (λ (n : ℕ). 0 < n) (sym e) q.0, subst (λ (n : ℕ). n ≤ most) (sym e) q.1)
