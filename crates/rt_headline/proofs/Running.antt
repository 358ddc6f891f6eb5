-- The status of a run is that of the source's state.
use Rattle.std.proofs.Common.{◌≡◌, ℕ, ◌+◌, ◌-◌, ◌≤◌, Bool, true, false, if◌then◌else◌, List, [], length, Some, None, refl, sym, ap, ◌∙◌, subst, arith}
use Rattle.std.specs.Prelude.{slice_get}
use Rattle.pdp_code.specs.declared.instruction.Reg.TheVariants.{Sp}
use Rattle.pdp_core.specs.Execute.{reg}
use Rattle.rt_image.specs.declared.image.ImageParts.{ImageParts}
use Rattle.rt_image.specs.Memory.{brick_at, brick_end}
use Rattle.rt_rules.specs.Roster.{Roster}
use Rattle.rt_rules.specs.Rules.{running}
use Rattle.rt_run.specs.declared.machine.End.{End}
use Rattle.rt_run.specs.declared.machine.End.TheVariants.{Ended, Limit, Stalled, Fault, ReadFault, WriteFault}
use Rattle.rt_run.specs.Boundaries.{State, Reached, At, Over, AllEnded, Faulted, Stalled as IsStalled, state_of, all_ended, instructions, boundary}
use Rattle.rt_run.specs.Laws.{IsCounted, BoundariesAreCounted}
use Rattle.rt_run.specs.Runs.{IsEnd}
use Rattle.rt_report.specs.Reports.{any_failed, run_status}
use Rattle.rt_meaning.specs.Run as source
use Rattle.rt_meaning.specs.declared.begin.SourceTask.{SourceTask}
use Rattle.rt_follows.specs.Whole.{Whole}
use Rattle.rt_faithful.specs.Faithful.{Meets, HasNoFault, IsFaithfulAt}
use Rattle.rt_headline.specs.Meaning.{status_by, status_of, StacksLie}
use Rattle.rt_headline.proofs.Standing.{Sane, sane, runs_on}

-- ---- the status

ended_by : (r : Roster) (left : ℕ) → all_ended r.tasks ≡ true → (if any_failed r.tasks then 1 else 0) ≡ status_by r left
ended_by r left a = rw a refl

dry_by : (r : Roster) (left : ℕ) → all_ended r.tasks ≡ false → running r ≡ None → left ≡ 0 → 3 ≡ status_by r left
dry_by r left a e z = subst (λ (n : ℕ). 3 ≡ status_by r n) (sym z) (rw (a, e) refl)

alive_by : (r : Roster) (left i : ℕ) → running r ≡ Some i → 2 ≡ status_by r left
alive_by r left i e = let a = runs_on r i e in rw (a, e) refl

module _ (counted : BoundariesAreCounted) (image : ImageParts) (gaps input : List ℕ) (limit : ℕ) where
  stands_at : (r : Reached) → boundary image gaps input limit ≡ r → Sane image r
  stands_at r e = subst (λ (x : Reached). Sane image x) e (sane image counted gaps input limit)

  ticks_at : (r : Reached) → boundary image gaps input limit ≡ r → IsCounted image gaps (state_of r)
  ticks_at r e = subst (λ (x : Reached). IsCounted image gaps (state_of x)) e (counted image gaps input limit)

  none_left : (s : State) → IsCounted image gaps s → s.gaps ≡ [] → length gaps - length s.placements ≡ 0
  none_left s c e = let n : length s.gaps ≡ 0 = ap (λ (xs : List ℕ). length xs) e in let t = c.ticks in omega (arith, n, t)

  pub by_rules : (end : End) (s : State) → HasNoFault end → IsEnd image gaps input limit end s → (r : Roster) → s.rules ≡ r → (src : source.State) → src.rules ≡ r → run_status end r.tasks ≡ status_of end src (length gaps - length s.placements)
  by_rules Ended s h e r a src b =
      let st : all_ended s.rules.tasks ≡ true = (stands_at (Over AllEnded s) e).stands in
      let here : all_ended src.rules.tasks ≡ true = ap (λ (x : Roster). all_ended x.tasks) (b ∙ sym a) ∙ st in
      subst (λ (x : Roster). run_status Ended x.tasks ≡ status_by src.rules (length gaps - length s.placements)) b (ended_by src.rules (length gaps - length s.placements) here)
  by_rules Stalled s h e r a src b =
      let st = (stands_at (Over IsStalled s) e).stands in
      let same : src.rules ≡ s.rules = b ∙ sym a in
      dry_by src.rules (length gaps - length s.placements) (ap (λ (x : Roster). all_ended x.tasks) same ∙ st.0) (ap running same ∙ st.1) (none_left s (ticks_at (Over IsStalled s) e) st.2)
  by_rules Limit s h e r a src b =
      let st = (stands_at (At s) e.0).stands in
      alive_by src.rules (length gaps - length s.placements) st.0 (ap running (b ∙ sym a) ∙ st.1)
  by_rules (Fault i kind at) s h e r a src b = absurd h
  by_rules ReadFault s h e r a src b = refl
  by_rules WriteFault s h e r a src b = refl

-- 2 comes at the limit alone
zero_or_one : (b : Bool) → ◌≡◌ {A = ℕ} (if b then 1 else 0) 2 → ⊥
zero_or_one true e = omega (arith, e)
zero_or_one false e = omega (arith, e)

pub at_limit : (image : ImageParts) (gaps input : List ℕ) (limit : ℕ) (end : End) (s : State) → HasNoFault end → IsEnd image gaps input limit end s → (r : Roster) → run_status end r.tasks ≡ 2 → instructions s ≡ limit
at_limit image gaps input limit Ended s h e r two = absurd (zero_or_one (any_failed r.tasks) two)
at_limit image gaps input limit Stalled s h e r two = absurd (omega (arith, two))
at_limit image gaps input limit Limit s h e r two = e.1
at_limit image gaps input limit (Fault i kind at) s h e r two = absurd h
at_limit image gaps input limit ReadFault s h e r two = absurd (omega (arith, two))
at_limit image gaps input limit WriteFault s h e r two = absurd (omega (arith, two))

-- ---- the stacks

module _ (w : Whole) (image : ImageParts) (ts : List SourceTask) (input : List ℕ) where
  lie : (s : State) → IsFaithfulAt w image ts input s → StacksLie image s
  lie s f n g e =
      let back : n + 1 - 1 ≡ n = omega arith in
      let h = f.stacks (n + 1) g (omega arith) (subst (λ (k : ℕ). slice_get s.regs k ≡ Some g) (sym back) e) in
      subst (λ (k : ℕ). (brick_at image k ≤ reg g Sp) × (reg g Sp ≤ brick_end image k)) back h

  pub stacks_lie : (r : Reached) → Meets w image ts input r → StacksLie image (state_of r)
  stacks_lie (At s) m = lie s m
  stacks_lie (Over AllEnded s) m = lie s m
  stacks_lie (Over IsStalled s) m = lie s m
  stacks_lie (Over (Faulted i kind at) s) m = absurd m
