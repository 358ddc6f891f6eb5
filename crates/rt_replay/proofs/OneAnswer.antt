-- A replay has one answer at most.
use Rattle.std.proofs.Common.{◌≡◌, ℕ, zero, suc, ◌-◌, ◌<◌, ◌≤◌, List, [], ◌∷◌, take, Option, Some, None, refl, sym, ap, subst, ◌∙◌, arith}
use Rattle.std.specs.Prelude.{slice_get}
use Rattle.rt_rules.specs.Rules.{running}
use Rattle.rt_resolve.specs.World.{World}
use Rattle.rt_meaning.specs.Run.{State, step_by}
use Rattle.rt_meaning.specs.Runs.{Reached, reached_by, then_step, then_ticks, ticks_after, after, are_placements}
use Rattle.rt_system.proofs.Tests.{none_some, some_inj}
use Rattle.rt_system.proofs.TickLineReads.{gap_by}
use Rattle.rt_replay.specs.declared.report.Report.{Report}
use Rattle.rt_replay.specs.declared.report.ReportedTask.{ReportedTask}
use Rattle.rt_replay.specs.Replays.{Answer, Same, NoStep, OtherTask, replayed, tasks_in, IsFirstOther, IsAnswer}
use Rattle.rt_replay.specs.Laws.{HaveOneAnswer}
use Rattle.rt_replay.proofs.ReportReads.{same_by}

-- a run that is there has come to a task that is ready, before its last step
pub record WasReady (w : World) (begin : State) (placements input : List ℕ) (n : ℕ) : Type 0 where
  pub state : Reached
  pub there : after w begin placements input n ≡ Some state
  pub ready : running state.state.rules ≡ None → ⊥

some_none : {A B : Type 0} {a : A} → Some a ≡ None → B
some_none e = absurd cc

omega_same : (n s : ℕ) → s < suc n → (s < n → ⊥) → s ≡ n
omega_same n s lt go = omega (arith, lt, go)

module _ (w : World) (begin : State) (placements input : List ℕ) where
  no_step : (output : List ℕ) (k : ℕ) (s : State) (next o : Option ℕ) (x : Reached) → then_ticks k (reached_by output (step_by w s o next)) ≡ Some x → o ≡ None → ⊥
  no_step output k s next None x e h = none_some e
  no_step output k s next (Some i) x e h = some_none h

  ready_by : (n k : ℕ) (o : Option Reached) (x : Reached) → after w begin placements input n ≡ o → then_ticks k (then_step w input o) ≡ Some x → WasReady w begin placements input n
  ready_by n k None x e h = none_some h
  ready_by n k (Some r) x e h = record {
    state = r;
    there = e;
    ready = λ none. no_step r.output k r.state (slice_get input r.state.taken) (running r.state.rules) x h none;
  }

  was_ready : (n : ℕ) (x : Reached) → after w begin placements input (suc n) ≡ Some x → WasReady w begin placements input n
  was_ready n x e = ready_by n (ticks_after placements (suc n)) (after w begin placements input n) x refl e

  same_place : (s n : ℕ) (y : Reached) → s ≡ n → after w begin placements input s ≡ Some y → running y.state.rules ≡ None → WasReady w begin placements input n → ⊥
  same_place s n y e h none r =
      let same : y ≡ r.state = some_inj (sym h ∙ ap (λ (m : ℕ). after w begin placements input m) e ∙ r.there) in
      r.ready (subst (λ (x : Reached). running x.state.rules ≡ None) same none)

  -- where no task is ready after s steps, the run isn't there after more
  stops : (n s : ℕ) (x y : Reached) → s < n → after w begin placements input n ≡ Some x → after w begin placements input s ≡ Some y → running y.state.rules ≡ None → ⊥
  stops zero s x y lt h k none = absurd (omega (arith, lt))
  stops (suc n) s x y lt h k none =
      let r = was_ready n x h in
      same_place s n y (omega_same n s lt (λ less. stops n s r.state y less r.there k none)) k none r

-- ---- the first task that differs

at_front : (n i : ℕ) (ts us : List ReportedTask) → i < n → take n ts ≡ take n us → slice_get ts i ≡ slice_get us i
at_front zero i ts us lt e = absurd (omega (arith, lt))
at_front (suc n) i [] [] lt e = refl
at_front (suc n) i [] (u ∷ us) lt e = absurd cc
at_front (suc n) i (t ∷ ts) [] lt e = absurd cc
at_front (suc n) zero (t ∷ ts) (u ∷ us) lt e = let h : t ≡ u = cc in ap (λ (x : ReportedTask). Some x) h
at_front (suc n) (suc i) (t ∷ ts) (u ∷ us) lt e = let h : take n ts ≡ take n us = cc in at_front n i ts us (omega (arith, lt)) h

not_before : (ts us : List ReportedTask) (k m : ℕ) → IsFirstOther ts us k → IsFirstOther ts us m → k < m → ⊥
not_before ts us k m a b lt =
    let some : 1 ≤ k = a.some in
    a.other (at_front (m - 1) (k - 1) ts us (omega (arith, lt, some)) b.before)

one_other : (ts us vs : List ReportedTask) (k m : ℕ) → ts ≡ us → IsFirstOther ts vs k → IsFirstOther us vs m → k ≡ m
one_other ts us vs k m e a b =
    let c = subst (λ (l : List ReportedTask). IsFirstOther l vs m) (sym e) b in
    same_by k m (not_before ts vs k m a c) (not_before ts vs m k c a)

none_other : (ts us vs : List ReportedTask) (k : ℕ) → ts ≡ us → ts ≡ vs → IsFirstOther us vs k → ⊥
none_other ts us vs k e same a = a.other (ap (λ (l : List ReportedTask). slice_get l (k - 1)) (sym e ∙ same))

-- ---- the answer

module _ (w : World) (begin : State) (names : List (List ℕ)) (r : Report) (input : List ℕ) where
  there : (x : Reached) → replayed w begin r input ≡ Some x → after w begin r.placements input r.steps ≡ Some x
  there x e = (gap_by (are_placements r.placements r.steps) (after w begin r.placements input r.steps) x e).1

  same_tasks : (x y : Reached) → replayed w begin r input ≡ Some x → replayed w begin r input ≡ Some y → tasks_in names x ≡ tasks_in names y
  same_tasks x y e f = ap (tasks_in names) (some_inj (sym e ∙ f))

  not_there : (s : ℕ) (x y : Reached) → replayed w begin r input ≡ Some x → s < r.steps → after w begin r.placements input s ≡ Some y → running y.state.rules ≡ None → ⊥
  not_there s x y e lt h none = stops w begin r.placements input r.steps s x y lt (there x e) h none

  pub one : (a b : Answer) → IsAnswer w begin names r input a → IsAnswer w begin names r input b → a ≡ b
  one Same Same h k = refl
  one Same (NoStep s) h k = absurd (not_there s h.0 k.0 h.1 k.1 k.2 k.3)
  one Same (OtherTask m) h k = absurd (none_other (tasks_in names h.0) (tasks_in names k.0) r.tasks m (same_tasks h.0 k.0 h.1 k.1) h.2 k.2)
  one (NoStep s) Same h k = absurd (not_there s k.0 h.0 k.1 h.1 h.2 h.3)
  one (NoStep s) (NoStep t) h k =
      ap (λ (n : ℕ). NoStep n) (same_by s t
      (λ lt. stops w begin r.placements input t s k.0 h.0 lt k.2 h.2 h.3)
      (λ lt. stops w begin r.placements input s t h.0 k.0 lt h.2 k.2 k.3))
  one (NoStep s) (OtherTask m) h k = absurd (not_there s k.0 h.0 k.1 h.1 h.2 h.3)
  one (OtherTask m) Same h k = absurd (none_other (tasks_in names k.0) (tasks_in names h.0) r.tasks m (same_tasks k.0 h.0 k.1 h.1) k.2 h.2)
  one (OtherTask m) (NoStep s) h k = absurd (not_there s h.0 k.0 h.1 k.1 k.2 k.3)
  one (OtherTask m) (OtherTask n) h k =
      ap (λ (x : ℕ). OtherTask x) (one_other (tasks_in names h.0) (tasks_in names k.0) r.tasks m n (same_tasks h.0 k.0 h.1 k.1) h.2 k.2)

pub one_answer : HaveOneAnswer
one_answer w begin names r input a b h k = one w begin names r input a b h k
