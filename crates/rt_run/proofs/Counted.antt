-- How many tasks and ticks the states of a run have.
use Rattle.std.proofs.Common.{◌≡◌, ℕ, zero, suc, ◌-◌, Bool, true, false, if◌then◌else◌, List, [], ◌∷◌, length, map, Option, Some, None, refl, ap, ◌∙◌, arith, length-append}
use Rattle.std.specs.Prelude.{slice_get}
use Rattle.pdp_code.specs.declared.instruction.Reg.TheVariants.{Pc}
use Rattle.pdp_core.specs.declared.cpu.Regs.{Regs}
use Rattle.pdp_core.specs.declared.cpu.Stop.{Stop}
use Rattle.pdp_core.specs.declared.cpu.Stop.TheVariants.{Went, Trap, Fault}
use Rattle.pdp_core.specs.Execute.{Outcome, execute, reg}
use Rattle.pdp_core.specs.Protection.{protected}
use Rattle.rt_image.specs.declared.image.ImageParts.{ImageParts}
use Rattle.rt_image.specs.Memory.{mark_at}
use Rattle.rt_rules.specs.Roster.{Roster}
use Rattle.rt_rules.specs.Rules.{running}
use Rattle.rt_tasks.specs.Start.{places_of}
use Rattle.rt_run.specs.declared.service.Request.{Request}
use Rattle.rt_run.specs.declared.service.Request.TheVariants.{Nothing, Reads, Puts, Calls}
use Rattle.rt_run.specs.Boundaries.{State, Reached, At, Over, state_of, is_due, ticked, steps, settle, judge_by, boundary_at, made_by, landed_by, instruction, go_by, onward, priority_of, start, boundary}
use Rattle.rt_run.specs.Services.{serve, asked_by}
use Rattle.rt_run.specs.Laws.{IsCounted, BoundariesAreCounted}
use Rattle.rt_run.proofs.Serving.{Kept, kept_service}
use Rattle.rt_run.proofs.Settling.{length-tick}
use Rattle.rt_run.proofs.Starting.{length-rows, length-priorities}

kept_request : (r : Roster) (taken : ℕ) (next : Option ℕ) (i : ℕ) (q : Request) → Kept r (serve r taken next i q).rules
kept_request r taken next i Nothing = refl
kept_request r taken None i Reads = refl
kept_request r taken (Some b) i Reads = refl
kept_request r taken next i (Puts b) = refl
kept_request r taken next i (Calls svc) = kept_service r i svc

module _ (image : ImageParts) (gaps : List ℕ) where
  abbrev C : State → Type 0
  C s = IsCounted image gaps s

  tick_counted : (g : ℕ) (gs : List ℕ) (s : State) → s.gaps ≡ g ∷ gs → C s → C (ticked s gs)
  tick_counted g gs s e c = record {
    tasks = length-tick s.rules ∙ c.tasks;
    ticks = omega (arith, length-append s.placements (steps s ∷ []), ap (λ (xs : List ℕ). length xs) e, c.ticks);
  }

  settle_counted : (gs : List ℕ) (s : State) → s.gaps ≡ gs → C s → C (settle gs s)
  settle_counted [] s e c = c
  settle_counted (g ∷ gs) s e c = by (is_due g s.rules s.since) (settle_counted gs (ticked s gs) refl (tick_counted g gs s e c))
    where
      by : (b : Bool) → C (settle gs (ticked s gs)) → C (if b then settle gs (ticked s gs) else s)
      by true h = h
      by false h = c

  judged : (s : State) (o : Option ℕ) → C s → C (state_of (judge_by s o))
  judged s None c = c
  judged s (Some i) c = c

  at_boundary : (s : State) → C s → C (state_of (boundary_at s))
  at_boundary s c = judged (settle s.gaps s) (running (settle s.gaps s).rules) (settle_counted s.gaps s refl c)

  landed : (all : List ℕ) (s : State) (i mark : ℕ) (x : Outcome) (stop : Stop) → C s → C (state_of (landed_by all s i mark x stop))
  landed all s i mark x (Fault kind at) c = c
  landed all s i mark x Went c = at_boundary (made_by s i mark x (serve s.rules s.taken (slice_get all s.taken) i (asked_by Went x.regs))) (record { tasks = kept_request s.rules s.taken (slice_get all s.taken) i (asked_by Went x.regs) ∙ c.tasks; ticks = c.ticks })
  landed all s i mark x (Trap n) c = at_boundary (made_by s i mark x (serve s.rules s.taken (slice_get all s.taken) i (asked_by (Trap n) x.regs))) (record { tasks = kept_request s.rules s.taken (slice_get all s.taken) i (asked_by (Trap n) x.regs) ∙ c.tasks; ticks = c.ticks })

  carried : (all : List ℕ) (s : State) (i : ℕ) (o : Option Regs) → C s → C (state_of (instruction image all s i o))
  carried all s i None c = c
  carried all s i (Some g) c =
      let x = execute (protected (places_of image (i - 1)) s.memory) g in
      landed all s i (mark_at image (reg g Pc)) x x.stop c

  gone : (all : List ℕ) (s : State) (o : Option ℕ) → C s → C (state_of (go_by image all s o))
  gone all s None c = c
  gone all s (Some i) c = carried all s i (slice_get s.regs (i - 1)) c

  went_on : (all : List ℕ) (r : Reached) → C (state_of r) → C (state_of (onward image all r))
  went_on all (At s) c = gone all s (running s.rules) c
  went_on all (Over why s) c = c

  started : C (start image gaps)
  started = record { tasks = length-rows 0 (map priority_of image.tasks) ∙ length-priorities image.tasks; ticks = omega arith }

  all_counted : (all : List ℕ) (k : ℕ) → C (state_of (boundary image gaps all k))
  all_counted all zero = at_boundary (start image gaps) started
  all_counted all (suc k) = went_on all (boundary image gaps all k) (all_counted all k)

pub counted : BoundariesAreCounted
counted image gaps all k = all_counted image gaps all k
