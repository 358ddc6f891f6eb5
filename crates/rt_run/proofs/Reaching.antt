-- From boundary to boundary.
use Rattle.std.proofs.Common.{◌≡◌, ℕ, zero, suc, ◌+◌, ◌-◌, ◌≤◌, ◌<◌, Bool, true, false, if◌then◌else◌, List, [], ◌∷◌, length, Some, None, refl, sym, ap, ◌∙◌, subst, arith}
use Rattle.pdp_core.specs.declared.cpu.Kind.{Kind}
use Rattle.rt_image.specs.declared.image.ImageParts.{ImageParts}
use Rattle.rt_rules.specs.Rules.{running}
use Rattle.rt_run.specs.declared.machine.End.TheVariants.{Ended, Stalled}
use Rattle.rt_run.specs.Boundaries.{State, Reached, At, Over, Why, AllEnded, Stalled as IsStalled, Faulted, Made, is_due, ticked, settle, all_ended, judge_by, boundary_at, boundary, onward, go_by, instructions}
use Rattle.rt_run.specs.Runs.{IsAtBoundary, IsSettled, IsEnd}
use Rattle.rt_run.proofs.Settling.{settle_again}

-- what ticks keep
pub record SameConsole (s t : State) : Type 0 where
  pub made : t.made ≡ s.made
  pub taken : t.taken ≡ s.taken
  pub output : t.output ≡ s.output

pub settle_keeps : (gs : List ℕ) (s : State) → SameConsole s (settle gs s)
settle_keeps [] s = record { made = refl; taken = refl; output = refl }
settle_keeps (g ∷ gs) s = by (is_due g s.rules s.since) (settle_keeps gs (ticked s gs))
  where
    by : (b : Bool) → SameConsole (ticked s gs) (settle gs (ticked s gs)) → SameConsole s (if b then settle gs (ticked s gs) else s)
    by true h = record { made = h.made; taken = h.taken; output = h.output }
    by false h = record { made = refl; taken = refl; output = refl }

settled_at : (s : State) → IsSettled s → boundary_at s ≡ judge_by s (running s.rules)
settled_at s h = ap (λ (t : State). judge_by t (running t.rules)) h

module _ (image : ImageParts) (gaps all : List ℕ) where
  abbrev B : ℕ → Reached
  B k = boundary image gaps all k

  -- a run that is over stays over
  over_at : (w : Why) (s : State) (k n j : ℕ) → B k ≡ Over w s → j ≡ k + n → B j ≡ Over w s
  over_at w s k zero j h e = let same : k ≡ j = omega arith in subst (λ (x : ℕ). B x ≡ Over w s) same h
  over_at w s k (suc n) zero h e = absurd (omega arith)
  over_at w s k (suc n) (suc j) h e = ap (onward image all) (over_at w s k n j h (omega arith))

  over_by : (w : Why) (s : State) (k limit : ℕ) → k ≤ limit → B k ≡ Over w s → B limit ≡ Over w s
  over_by w s k limit h e = over_at w s k (limit - k) limit e (omega arith)

  -- at a boundary where no tick is due
  nobody : (s : State) → IsAtBoundary image gaps all s → IsSettled s → running s.rules ≡ None → B (instructions s) ≡ Over (if all_ended s.rules.tasks then AllEnded else IsStalled) s
  nobody s at h none = sym at ∙ settled_at s h ∙ ap (judge_by s) none

  pub somebody : (s : State) (i : ℕ) → IsAtBoundary image gaps all s → IsSettled s → running s.rules ≡ Some i → B (instructions s) ≡ At s
  somebody s i at h runs = sym at ∙ settled_at s h ∙ ap (judge_by s) runs

  pub on_from : (s : State) (i : ℕ) → B (instructions s) ≡ At s → running s.rules ≡ Some i → B (suc (instructions s)) ≡ go_by image all s (Some i)
  on_from s i at runs = ap (onward image all) at ∙ ap (go_by image all s) runs

  -- an instruction later
  pub one_later : (s n : State) (i : ℕ) → IsAtBoundary image gaps all s → IsSettled s → running s.rules ≡ Some i → go_by image all s (Some i) ≡ boundary_at n → instructions n ≡ instructions s + 1 → IsAtBoundary image gaps all n
  one_later s n i at settled runs goes count = sym goes ∙ sym (on_from s i (somebody s i at settled runs) runs) ∙ ap B (let c : suc (instructions s) ≡ instructions n = omega (arith, count) in c)

  -- after ticks the boundary is the same
  pub after_ticks : (s : State) → IsAtBoundary image gaps all s → IsAtBoundary image gaps all (settle s.gaps s)
  after_ticks s at =
      let t = settle s.gaps s in
      let again : settle t.gaps t ≡ t = settle_again s.gaps s refl in
      settled_at t again ∙ at ∙ ap B (ap (λ (ms : List Made). length ms) (sym (settle_keeps s.gaps s).made))

  -- a fault
  pub fault_over : (s : State) (i limit : ℕ) (kind : Kind) (at : ℕ) → IsSettled s → IsAtBoundary image gaps all s → running s.rules ≡ Some i → instructions s < limit → go_by image all s (Some i) ≡ Over (Faulted i kind at) s → B limit ≡ Over (Faulted i kind at) s
  fault_over s i limit kind at settled here runs few goes = over_by (Faulted i kind at) s (suc (instructions s)) limit (omega arith) (on_from s i (somebody s i here settled runs) runs ∙ goes)

  pub nobody_ends : (s : State) (limit : ℕ) (ended : Bool) → IsSettled s → IsAtBoundary image gaps all s → running s.rules ≡ None → instructions s ≤ limit → all_ended s.rules.tasks ≡ ended → IsEnd image gaps all limit (if ended then Ended else Stalled) s
  nobody_ends s limit true settled at none few e = over_by AllEnded s (instructions s) limit few (nobody s at settled none ∙ ap (λ (b : Bool). Over (if b then AllEnded else IsStalled) s) e)
  nobody_ends s limit false settled at none few e = over_by IsStalled s (instructions s) limit few (nobody s at settled none ∙ ap (λ (b : Bool). Over (if b then AllEnded else IsStalled) s) e)
