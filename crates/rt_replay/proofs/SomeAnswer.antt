-- A replay has an answer.
use Rattle.std.proofs.Common.{◌≡◌, ◌≢◌, ℕ, zero, suc, ◌-◌, ◌<◌, ◌≤◌, ◌⊎◌, inl, inr, Bool, true, false, cond, eqb, List, [], ◌∷◌, ◌++◌, take, Option, Some, None, refl, sym, ap, ◌∙◌, arith}
use Rattle.std.specs.Prelude.{slice_get}
use Rattle.std.specs.Str.{bytes_eq}
use Rattle.std.proofs.lemmas.Bool.{eqb-true}
use Rattle.std.proofs.lemmas.Bool.Decides.{nat_tests}
use Rattle.rt_rules.specs.declared.task.State.{State as Condition}
use Rattle.rt_rules.specs.declared.task.State.TheVariants as state
use Rattle.rt_rules.specs.Rules.{running}
use Rattle.rt_resolve.specs.World.{World}
use Rattle.rt_meaning.specs.Run.{State, step_by, stepped}
use Rattle.rt_meaning.specs.Runs.{Reached, bytes_of, reached_by, then_step, ticks, then_ticks, ticks_after, after}
use Rattle.rt_system.proofs.Tests.{none_some, some_inj, true_false}
use Rattle.rt_system.proofs.Words.{same_means, same_is}
use Rattle.rt_replay.specs.declared.report.ReportedTask.{ReportedTask}
use Rattle.rt_replay.specs.Reading.{task_of}
use Rattle.rt_replay.specs.Replays.{Same, NoStep, OtherTask, replayed, tasks_in, IsFirstOther}
use Rattle.rt_replay.specs.Laws.{HaveSomeAnswer}

-- ---- the same condition, task or tasks, or others

abbrev Decided : {A : Type 0} → A → A → Type 0
Decided x y = (x ≡ y) ⊎ (x ≢ y)

other_number : (n m : ℕ) → eqb n m ≡ false → n ≡ m → ⊥
other_number n m h e = grind (arith, nat_tests)

by_number : (f : ℕ → Condition) (n m : ℕ) → (f n ≡ f m → n ≡ m) → (b : Bool) → eqb n m ≡ b → Decided (f n) (f m)
by_number f n m back true h = inl (ap f (eqb-true n m h))
by_number f n m back false h = inr (λ e. other_number n m h (back e))

decide_state : (s t : Condition) → Decided s t
decide_state state.Ready state.Ready = inl refl
decide_state state.Ready (state.Delayed m) = inr (λ e. absurd cc)
decide_state state.Ready (state.Event m) = inr (λ e. absurd cc)
decide_state state.Ready (state.Facility m) = inr (λ e. absurd cc)
decide_state state.Ready state.Ended = inr (λ e. absurd cc)
decide_state state.Ready (state.Failed m) = inr (λ e. absurd cc)
decide_state (state.Delayed n) state.Ready = inr (λ e. absurd cc)
decide_state (state.Delayed n) (state.Delayed m) = by_number (λ k. state.Delayed k) n m (λ e. cc) (eqb n m) refl
decide_state (state.Delayed n) (state.Event m) = inr (λ e. absurd cc)
decide_state (state.Delayed n) (state.Facility m) = inr (λ e. absurd cc)
decide_state (state.Delayed n) state.Ended = inr (λ e. absurd cc)
decide_state (state.Delayed n) (state.Failed m) = inr (λ e. absurd cc)
decide_state (state.Event n) state.Ready = inr (λ e. absurd cc)
decide_state (state.Event n) (state.Delayed m) = inr (λ e. absurd cc)
decide_state (state.Event n) (state.Event m) = by_number (λ k. state.Event k) n m (λ e. cc) (eqb n m) refl
decide_state (state.Event n) (state.Facility m) = inr (λ e. absurd cc)
decide_state (state.Event n) state.Ended = inr (λ e. absurd cc)
decide_state (state.Event n) (state.Failed m) = inr (λ e. absurd cc)
decide_state (state.Facility n) state.Ready = inr (λ e. absurd cc)
decide_state (state.Facility n) (state.Delayed m) = inr (λ e. absurd cc)
decide_state (state.Facility n) (state.Event m) = inr (λ e. absurd cc)
decide_state (state.Facility n) (state.Facility m) = by_number (λ k. state.Facility k) n m (λ e. cc) (eqb n m) refl
decide_state (state.Facility n) state.Ended = inr (λ e. absurd cc)
decide_state (state.Facility n) (state.Failed m) = inr (λ e. absurd cc)
decide_state state.Ended state.Ready = inr (λ e. absurd cc)
decide_state state.Ended (state.Delayed m) = inr (λ e. absurd cc)
decide_state state.Ended (state.Event m) = inr (λ e. absurd cc)
decide_state state.Ended (state.Facility m) = inr (λ e. absurd cc)
decide_state state.Ended state.Ended = inl refl
decide_state state.Ended (state.Failed m) = inr (λ e. absurd cc)
decide_state (state.Failed n) state.Ready = inr (λ e. absurd cc)
decide_state (state.Failed n) (state.Delayed m) = inr (λ e. absurd cc)
decide_state (state.Failed n) (state.Event m) = inr (λ e. absurd cc)
decide_state (state.Failed n) (state.Facility m) = inr (λ e. absurd cc)
decide_state (state.Failed n) state.Ended = inr (λ e. absurd cc)
decide_state (state.Failed n) (state.Failed m) = by_number (λ k. state.Failed k) n m (λ e. cc) (eqb n m) refl

by_name : (t u : ReportedTask) → Decided t.state u.state → (b : Bool) → bytes_eq t.name u.name ≡ b → Decided t u
by_name t u (inl e) true h = inl (ap (λ (n : List ℕ). task_of n t.state) (same_means t.name u.name h) ∙ ap (λ (s : Condition). task_of u.name s) e)
by_name t u (inr no_same) true h = inr (λ e. no_same (ap (λ (x : ReportedTask). x.state) e))
by_name t u d false h = inr (λ e. true_false (bytes_eq t.name u.name) (same_is t.name u.name (ap (λ (x : ReportedTask). x.name) e)) h)

decide_task : (t u : ReportedTask) → Decided t u
decide_task t u = by_name t u (decide_state t.state u.state) (bytes_eq t.name u.name) refl

abbrev FirstOther : List ReportedTask → List ReportedTask → Type 0
FirstOther ts us = (ts ≡ us) ⊎ ((k : ℕ) × IsFirstOther ts us k)

further : (t u : ReportedTask) (ts us : List ReportedTask) (k : ℕ) → t ≡ u → IsFirstOther ts us k → IsFirstOther (t ∷ ts) (u ∷ us) (suc k)
further t u ts us k e f =
    let some : 1 ≤ k = f.some in
    let back : suc k - 1 ≡ suc (k - 1) = omega (arith, some) in
    record {
      some = omega arith;
      before = rw back (ap (λ (l : List ReportedTask). t ∷ l) f.before ∙ ap (λ (x : ReportedTask). x ∷ take (k - 1) us) e);
      other = λ h. f.other (rw back at h);
    }

here : (t u : ReportedTask) (ts us : List ReportedTask) → t ≢ u → IsFirstOther (t ∷ ts) (u ∷ us) 1
here t u ts us ne = record { some = omega arith; before = refl; other = λ e. ne (some_inj e) }

first_other : (ts us : List ReportedTask) → FirstOther ts us
first_other [] [] = inl refl
first_other [] (u ∷ us) = inr (1, record { some = omega arith; before = refl; other = λ e. none_some e })
first_other (t ∷ ts) [] = inr (1, record { some = omega arith; before = refl; other = λ e. none_some (sym e) })
first_other (t ∷ ts) (u ∷ us) =
    elim (decide_task t u) [
      | inl e ↦ elim (first_other ts us) [
        | inl h ↦ inl (ap (λ (l : List ReportedTask). t ∷ l) h ∙ ap (λ (x : ReportedTask). x ∷ us) e)
        | inr f ↦ inr (suc f.0, further t u ts us f.0 e f.1)
      ]
      | inr ne ↦ inr (1, here t u ts us ne)
    ]

-- ---- the run

-- after these steps no task is ready
pub record StopsAt (w : World) (begin : State) (placements input : List ℕ) (n : ℕ) : Type 0 where
  pub steps : ℕ
  pub fewer : steps < n
  pub state : Reached
  pub there : after w begin placements input steps ≡ Some state
  pub none : running state.state.rules ≡ None

module _ (w : World) (begin : State) (placements input : List ℕ) where
  abbrev Comes : ℕ → Type 0
  Comes n = ((x : Reached) × (after w begin placements input n ≡ Some x)) ⊎ StopsAt w begin placements input n

  abbrev one_more : ℕ → List ℕ → State → ℕ → Option ℕ → Reached
  one_more k output s i next = record { state = ticks k (stepped w s i next).state; output = output ++ bytes_of (stepped w s i next).byte }

  step_there : (n : ℕ) (x : Reached) (o : Option ℕ) → after w begin placements input n ≡ Some x → running x.state.rules ≡ o → Comes (suc n)
  step_there n x None e h = inr (record { steps = n; fewer = omega arith; state = x; there = e; none = h })
  step_there n x (Some i) e h =
      let k = ticks_after placements (suc n) in
      let next = slice_get input x.state.taken in
      inl (
        one_more k x.output x.state i next,
        ap (λ (o : Option Reached). then_ticks k (then_step w input o)) e
            ∙ ap (λ (o : Option ℕ). then_ticks k (reached_by x.output (step_by w x.state o next))) h,
      )

  comes : (n : ℕ) → Comes n
  comes zero = inl (record { state = ticks (ticks_after placements 0) begin; output = [] }, refl)
  comes (suc n) =
      elim (comes n) [
        | inl x ↦ step_there n x.0 (running x.0.state.rules) x.1 refl
        | inr s ↦ inr (record { steps = s.steps; fewer = omega (arith, s.fewer); state = s.state; there = s.there; none = s.none })
      ]

-- ---- the answer

pub some_answer : HaveSomeAnswer
some_answer w begin names r input ranges =
    elim (comes w begin r.placements input r.steps) [
      | inl x ↦
          let there : replayed w begin r input ≡ Some x.0 = ap (λ (b : Bool). cond b (after w begin r.placements input r.steps) None) ranges.placed ∙ x.1 in
          elim (first_other (tasks_in names x.0) r.tasks) [
            | inl same ↦ (Same, (x.0, there, same))
            | inr f ↦ (OtherTask f.0, (x.0, there, f.1))
          ]
      | inr s ↦ (NoStep s.steps, (s.state, s.fewer, s.there, s.none))
    ]
