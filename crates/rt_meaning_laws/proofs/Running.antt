-- Each step and each tick of a run leaves a state that fits.
use Rattle.std.proofs.Common.{◌≡◌, ℕ, zero, suc, ◌-◌, ◌<◌, ◌≤◌, ◌==◌, Bool, true, false, if◌then◌else◌, List, [], ◌∷◌, Option, Some, None, length, slice_get, slice_set, refl, subst, arith}
use Rattle.rt_rules.specs.declared.service.Outcome.TheVariants.{Error}
use Rattle.rt_rules.specs.declared.service.Svc.{Svc}
use Rattle.rt_rules.specs.declared.service.Svc.TheVariants as svc
use Rattle.rt_rules.specs.Laws as rule_laws
use Rattle.rt_rules.specs.Roster.{Roster, InRanges, flag_of, owner_of}
use Rattle.rt_rules.specs.Rules as rules
use Rattle.rt_rules.proofs.Ranges.{ranges-happens}
use Rattle.rt_rules.proofs.Walks.{running_is_ready}
use Rattle.rt_tree.specs.Stored.{System, HoldsInside, HoldsWritten}
use Rattle.rt_work_state.specs.declared.request.Request.{Request}
use Rattle.rt_work_state.specs.declared.request.Request.TheVariants.{Nothing, Takes, Puts, Rules}
use Rattle.rt_resolve.specs.World.{World}
use Rattle.rt_meaning.specs.Run.{State, take, serve, task_in, task_at, stepped, step_by, tick}
use Rattle.rt_meaning.specs.Step.{Task, request}
use Rattle.rt_meaning_laws.specs.Tasks.{WorldFits, TaskFits}
use Rattle.rt_meaning.specs.Answers.{MayCome}
use Rattle.rt_meaning_laws.specs.Runs.{AllFit, NoneLacks, StateFits, IsInput, Happening, a_tick, a_step, state_after, happens, after, MayHappen}
use Rattle.rt_meaning_laws.proofs.Stores.{own_typed}
use Rattle.rt_meaning_laws.proofs.Steps.{steps_keep, never_lacks}
use Rattle.rt_meaning_laws.specs.Laws.{RunsKeep}

-- ---- what comes of a service

-- what comes where a test decides
either_comes : (c : Bool) (a b : rules.Served) (v : Svc) → MayCome (Rules v) a.1 → MayCome (Rules v) b.1 → let x : rules.Served = if c then a else b in MayCome (Rules v) x.1
either_comes true a b v h k = h
either_comes false a b v h k = k

rules_come : (r : Roster) (i : ℕ) (v : Svc) → i < 65536 → MayCome (Rules v) (rules.serve r i v).1
rules_come r i (svc.Delay n) h = either_comes (rules.is_delay n) _ _ (svc.Delay n) tt tt
rules_come r i (svc.Wait n) h = either_comes (rules.is_number n) (rules.wait r i n) _ (svc.Wait n) (either_comes (flag_of r n) _ _ (svc.Wait n) tt tt) (omega arith, omega arith)
rules_come r i (svc.Signal n) h = either_comes (rules.is_number n) (rules.signal r n) _ (svc.Signal n) tt (omega arith, omega arith)
rules_come r i (svc.Secure n) h =
    either_comes (rules.is_number n) (rules.secure r i n) _ (svc.Secure n) (either_comes (owner_of r n == i) (r, Error 4) _ (svc.Secure n) (omega arith, omega arith) (either_comes (owner_of r n == 0) _ _ (svc.Secure n) tt tt)) (omega arith, omega arith)
rules_come r i (svc.Release n) h = either_comes (rules.is_number n) (rules.release r i n) _ (svc.Release n) (either_comes (owner_of r n == i) _ _ (svc.Release n) tt (omega arith, omega arith)) (omega arith, omega arith)
rules_come r i svc.Clock h = omega arith
rules_come r i svc.TaskNo h = h
rules_come r i (svc.Gel n) h = tt
rules_come r i svc.End h = tt

taken_comes : (r : Roster) (n : ℕ) (input : Option ℕ) → IsInput input → MayCome Takes (take r n input).outcome
taken_comes r n None h = omega arith
taken_comes r n (Some b) h = h

pub comes : (r : Roster) (n i : ℕ) (input : Option ℕ) (q : Request) → i < 65536 → IsInput input → MayCome q (serve r n i input q).outcome
comes r n i input Nothing h k = tt
comes r n i input Takes h k = taken_comes r n input k
comes r n i input (Puts b) h k = tt
comes r n i input (Rules v) h k = rules_come r i v h

taken_ranges : (r : Roster) (n : ℕ) (input : Option ℕ) → InRanges r → InRanges (take r n input).rules
taken_ranges r n None h = h
taken_ranges r n (Some b) h = h

ranges_after : (r : Roster) (n i : ℕ) (input : Option ℕ) (q : Request) → rules.running r ≡ Some i → InRanges r → InRanges (serve r n i input q).rules
ranges_after r n i input Nothing e h = h
ranges_after r n i input Takes e h = taken_ranges r n input h
ranges_after r n i input (Puts b) e h = h
ranges_after r n i input (Rules v) e h = subst (λ (o : Option ℕ). InRanges (rule_laws.called o r v)) e (ranges-happens r (rule_laws.a_call v) h)

-- ---- the tasks

module _ (holds_inside : HoldsInside) (holds_written : HoldsWritten) (ps : System) (w : World) where
  pub one_fits : (ts : List Task) (k : ℕ) → AllFit ps w ts → TaskFits ps w (task_in (slice_get ts k))
  one_fits [] k h = own_typed ps
  one_fits (t ∷ ts) zero h = h.0
  one_fits (t ∷ ts) (suc k) h = one_fits ts k h.1

  set_fits : (ts : List Task) (k : ℕ) (t : Task) → AllFit ps w ts → TaskFits ps w t → AllFit ps w (slice_set ts k t)
  set_fits [] k t h g = tt
  set_fits (u ∷ ts) zero t h g = (g, h.1)
  set_fits (u ∷ ts) (suc k) t h g = (h.0, set_fits ts k t h.1 g)

  none_lacks : (ts : List Task) → WorldFits ps w → AllFit ps w ts → NoneLacks w ts
  none_lacks [] wf h = tt
  none_lacks (t ∷ ts) wf h = (never_lacks ps w wf t h.0, none_lacks ts wf h.1)

  step_fits : (s : State) (input : Option ℕ) (i : ℕ) → rules.running s.rules ≡ Some i → WorldFits ps w → StateFits ps w s → IsInput input → StateFits ps w (stepped w s i input).state
  step_fits s input i e wf h k =
      let ready = running_is_ready s.rules i h.rules e in
      let low : i < 65536 = few i (length s.rules.tasks) ready.0.1 h.rules.few in
      let t : Task = task_at s.tasks i in
      let kept = steps_keep holds_inside holds_written ps w t s.store (serve s.rules s.taken i input (request w t)).outcome wf h.typed (one_fits s.tasks (i - 1) h.tasks) (comes s.rules s.taken i input (request w t) low k) in
      record {
        typed = kept.1;
        tasks = set_fits s.tasks (i - 1) _ h.tasks kept.2;
        rules = ranges_after s.rules s.taken i input (request w t) e h.rules;
      }
    where
      few : (i n : ℕ) → i ≤ n → n ≤ 32 → i < 65536
      few i n a b = omega arith

  stepped_fits : (s : State) (input : Option ℕ) (o : Option ℕ) → rules.running s.rules ≡ o → WorldFits ps w → StateFits ps w s → IsInput input → StateFits ps w (state_after s (step_by w s o input))
  stepped_fits s input None e wf h k = h
  stepped_fits s input (Some i) e wf h k = step_fits s input i e wf h k

  tick_fits : (s : State) → StateFits ps w s → StateFits ps w (tick s)
  tick_fits s h = record { typed = h.typed; tasks = h.tasks; rules = ranges-happens s.rules rule_laws.a_tick h.rules }

  all_fit : (hs : List Happening) (s : State) → WorldFits ps w → StateFits ps w s → MayHappen hs → StateFits ps w (after w s hs)
  all_fit [] s wf h k = h
  all_fit (a_tick ∷ hs) s wf h k = all_fit hs (tick s) wf (tick_fits s h) k
  all_fit (a_step input ∷ hs) s wf h k = all_fit hs (happens w s (a_step input)) wf (stepped_fits s input (rules.running s.rules) refl wf h k.0) k.1

pub runs_keep : HoldsInside → HoldsWritten → RunsKeep
runs_keep holds_inside holds_written ps w s hs wf h k =
    let fits : StateFits ps w (after w s hs) = all_fit holds_inside holds_written ps w hs s wf h k in
    (fits, none_lacks holds_inside holds_written ps w (after w s hs).tasks wf fits.tasks)
