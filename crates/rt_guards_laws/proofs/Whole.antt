-- Whole runs, whatever ticks and steps come.
use Rattle.std.proofs.Common.{◌≡◌, ◌≢◌, ◌⊎◌, inl, inr, ℕ, zero, suc, ◌-◌, ◌<◌, ◌≤◌, List, [], ◌∷◌, map, Option, Some, None, slice_get, slice_set, length, refl, sym, ap, ◌∙◌, subst, arith}
use Rattle.std.specs.List.{Contains}
use Rattle.rt_tree_nodes.specs.declared.store.Proc.{Proc}
use Rattle.rt_rules.specs.declared.service.Svc.TheVariants.{Secure}
use Rattle.rt_rules.specs.Laws as rule_laws
use Rattle.rt_rules.specs.Laws.{CanStart}
use Rattle.rt_rules.specs.Roster.{Roster, owner_of, IsTask, IsNumber, InRanges}
use Rattle.rt_rules.specs.Rules as rules
use Rattle.rt_rules.specs.Rules.{running}
use Rattle.rt_rules.proofs.Ranges.{ranges-happens, start_in_ranges}
use Rattle.rt_rules.proofs.Rows.{by_cases}
use Rattle.rt_rules.proofs.Starts.{length-rows_from}
use Rattle.rt_rules.proofs.Waiters.{waiters_always_wait}
use Rattle.rt_rules.proofs.Walks.{running_is_ready}
use Rattle.rt_tree.specs.Stored.{System}
use Rattle.rt_work_state.specs.declared.request.Request.{Request}
use Rattle.rt_work_state.specs.declared.request.Request.TheVariants.{Nothing, Takes, Puts, Rules}
use Rattle.rt_resolve.specs.World.{World}
use Rattle.rt_resolve.specs.Systems.{world}
use Rattle.rt_meaning.specs.Run.{State, serve, task_of, task_in, task_at, stepped, step_by, tick, start}
use Rattle.rt_meaning.specs.Step.{Task, request}
use Rattle.rt_meaning_laws.specs.Runs.{Happening, a_tick, a_step, state_after, happens, after}
use Rattle.rt_guarded.specs.Families.{Family}
use Rattle.rt_guards_laws.specs.Owning.{Keeps, WaitersOwnLower}
use Rattle.rt_guards_laws.specs.Invariant.{TaskStands, SameHas}
use Rattle.rt_guards_laws.specs.Whole.{AllStand, OwnStepStands, OwnStepsStand, AskInOrder, StartsAllStand, RunsStand, RunsHaveNoRing}
use Rattle.rt_guards_laws.proofs.Owning.{keeps_same, ticks_keep, length_tick, length_serve, services_keep_others, ticks_keep_lower, services_keep_lower}
use Rattle.rt_guards_laws.proofs.Rings.{rings_are_refused}
use Rattle.rt_guards_laws.proofs.Invariant.{stands_by_same}
use Rattle.rt_guards_laws.proofs.Keeping.{starts_stand, starts_wait_for_nothing}

-- ---- the tasks of a state

get_other : (ts : List Task) (a b : ℕ) (t : Task) → a ≢ b → slice_get (slice_set ts a t) b ≡ slice_get ts b
get_other [] a b t apart = refl
get_other (u ∷ ts) zero zero t apart = absurd (apart refl)
get_other (u ∷ ts) zero (suc b) t apart = refl
get_other (u ∷ ts) (suc a) zero t apart = refl
get_other (u ∷ ts) (suc a) (suc b) t apart = get_other ts a b t (λ e. apart (ap (λ (n : ℕ). suc n) e))

places_apart : (i j : ℕ) → 1 ≤ i → 1 ≤ j → j ≢ i → i - 1 ≢ j - 1
places_apart i j a b apart e = apart (omega (arith, e))

-- another task stays as it was
other_task : (ts : List Task) (i j : ℕ) (t : Task) → 1 ≤ i → 1 ≤ j → j ≢ i → task_at (slice_set ts (i - 1) t) j ≡ task_at ts j
other_task ts i j t a b apart = ap task_in (get_other ts (i - 1) (j - 1) t (places_apart i j a b apart))

-- ---- the rules of a state

-- a tick, a service or nothing leads from one roster to another
abbrev Leads : Roster → Roster → Type 0
Leads r q = (q ≡ r) ⊎ ((h : rule_laws.Happening) × (q ≡ rule_laws.happens r h))

served_leads : (r : Roster) (n i : ℕ) (input : Option ℕ) (q : Request) → running r ≡ Some i → Leads r (serve r n i input q).rules
served_leads r n i input Nothing e = inl refl
served_leads r n i None Takes e = inl refl
served_leads r n i (Some b) Takes e = inl refl
served_leads r n i input (Puts b) e = inl refl
served_leads r n i input (Rules v) e = inr (rule_laws.a_call v, sym (ap (λ (o : Option ℕ). rule_laws.called o r v) e))

happened_leads : (w : World) (s : State) (h : Happening) → Leads s.rules (happens w s h).rules
happened_leads w s a_tick = inr (rule_laws.a_tick, refl)
happened_leads w s (a_step input) = by_running (running s.rules) refl
  where
    by_running : (o : Option ℕ) → running s.rules ≡ o → Leads s.rules (state_after s (step_by w s o input)).rules
    by_running None e = inl refl
    by_running (Some i) e = served_leads s.rules s.taken i input (request w (task_at s.tasks i)) e

leads_in_ranges : (r q : Roster) → Leads r q → InRanges r → InRanges q
leads_in_ranges r q (inl e) g = subst InRanges (sym e) g
leads_in_ranges r q (inr h) g = subst InRanges (sym h.1) (ranges-happens r h.0 g)

rules_lead : (w : World) (hs : List Happening) (s : State) → (ks : List rule_laws.Happening) × ((after w s hs).rules ≡ rule_laws.after s.rules ks)
rules_lead w [] s = ([], refl)
rules_lead w (h ∷ hs) s =
    let rest = rules_lead w hs (happens w s h) in
    elim (happened_leads w s h) [
      | inl e ↦ (rest.0, rest.1 ∙ ap (λ (r : Roster). rule_laws.after r rest.0) e)
      | inr k ↦ (k.0 ∷ rest.0, rest.1 ∙ ap (λ (r : Roster). rule_laws.after r rest.0) k.1)
    ]

-- ---- each task stands

served_others : (r : Roster) (n i j : ℕ) (input : Option ℕ) (q : Request) → InRanges r → running r ≡ Some i → IsTask r j → i ≢ j → Keeps r (serve r n i input q).rules j
served_others r n i j input Nothing g runs there apart = keeps_same r j
served_others r n i j None Takes g runs there apart = keeps_same r j
served_others r n i j (Some b) Takes g runs there apart = keeps_same r j
served_others r n i j input (Puts b) g runs there apart = keeps_same r j
served_others r n i j input (Rules v) g runs there apart = services_keep_others r i j v g runs there apart

served_length : (r : Roster) (n i : ℕ) (input : Option ℕ) (q : Request) → InRanges r → length (serve r n i input q).rules.tasks ≡ length r.tasks
served_length r n i input Nothing g = refl
served_length r n i None Takes g = refl
served_length r n i (Some b) Takes g = refl
served_length r n i input (Puts b) g = refl
served_length r n i input (Rules v) g = length_serve r i v g

still_task : (r q : Roster) (i : ℕ) → length q.tasks ≡ length r.tasks → IsTask q i → IsTask r i
still_task r q i e there = (there.0, omega (arith, there.1, e))

same_has : (r q : Roster) (i : ℕ) → Keeps r q i → SameHas r q i
same_has r q i kept = λ n l. (kept.0 n l, kept.1 n l)

runs_from : (r : Roster) (i : ℕ) → InRanges r → running r ≡ Some i → 1 ≤ i
runs_from r i g runs = (running_is_ready r i g runs).0.0

module _ (ps : System) (rs : List Proc) (H M : Family) where
  ticked : (s : State) → InRanges s.rules → AllStand ps rs H M s → AllStand ps rs H M (tick s)
  ticked s g all k i there =
      let here = still_task s.rules (rules.tick s.rules) i (length_tick s.rules g) there in
      stands_by_same ps rs H M k s.rules (rules.tick s.rules) i (task_at s.tasks i) (same_has s.rules (rules.tick s.rules) i (ticks_keep s.rules i g here)) (all k i here)

  module _ (s : State) (input : Option ℕ) (i : ℕ) (g : InRanges s.rules) (runs : running s.rules ≡ Some i) where
    moves : OwnStepStands ps rs H M s input → AllStand ps rs H M s → AllStand ps rs H M (stepped (world ps) s i input).state
    moves own all k j there =
        let q = request (world ps) (task_at s.tasks i) in
        let now : Roster = (serve s.rules s.taken i input q).rules in
        let here = still_task s.rules now j (served_length s.rules s.taken i input q g) there in
        by_cases j i
        (λ e.
        subst (λ (x : ℕ). TaskStands ps rs H M k now x (task_at (stepped (world ps) s i input).state.tasks x)) (sym e)
        (own k i runs (all (suc k) i (subst (λ (x : ℕ). IsTask s.rules x) e here))))
        (λ d.
        subst (λ (t : Task). TaskStands ps rs H M k now j t) (sym (other_task s.tasks i j _ (runs_from s.rules i g runs) here.0 d))
        (stands_by_same ps rs H M k s.rules now j (task_at s.tasks j) (same_has s.rules now j (served_others s.rules s.taken i j input q g runs here (λ e. d (sym e)))) (all k j here)))

  happened : (s : State) (h : Happening) (hs : List Happening) → InRanges s.rules → OwnStepsStand ps rs H M s (h ∷ hs) → AllStand ps rs H M s → AllStand ps rs H M (happens (world ps) s h)
  happened s a_tick hs g own all = ticked s g all
  happened s (a_step input) hs g own all = by_running (running s.rules) refl
    where
      by_running : (o : Option ℕ) → running s.rules ≡ o → AllStand ps rs H M (state_after s (step_by (world ps) s o input))
      by_running None e = all
      by_running (Some i) e = moves s input i g e own.0 all

  rest_stand : (s : State) (h : Happening) (hs : List Happening) → OwnStepsStand ps rs H M s (h ∷ hs) → OwnStepsStand ps rs H M (happens (world ps) s h) hs
  rest_stand s a_tick hs own = own
  rest_stand s (a_step input) hs own = own.1

  stand : (hs : List Happening) (s : State) → InRanges s.rules → OwnStepsStand ps rs H M s hs → AllStand ps rs H M s → AllStand ps rs H M (after (world ps) s hs)
  stand [] s g own all = all
  stand (h ∷ hs) s g own all =
      stand hs (happens (world ps) s h) (leads_in_ranges s.rules (happens (world ps) s h).rules (happened_leads (world ps) s h) g) (rest_stand s h hs own) (happened s h hs g own all)

pub runs_stand : RunsStand
runs_stand ps rs H M s hs g own all = stand ps rs H M hs s g own all

-- ---- the start

-- the task that has this root
root_at : (rs : List Proc) (k : ℕ) → k < length rs → (f : Proc) × Contains rs f × (task_in (slice_get (map task_of rs) k) ≡ task_of f)
root_at [] k lt = absurd (omega arith)
root_at (f ∷ rs) zero lt = (f, (0, omega arith, refl), refl)
root_at (f ∷ rs) (suc k) lt =
    let more = root_at rs k (omega arith) in
    (more.0, (suc more.1.0, omega (arith, more.1.1), more.1.2), more.2)

pub starts_all_stand : StartsAllStand
starts_all_stand ps rs H M S priorities same k i there =
    let count = length-rows_from 0 priorities in
    let root = root_at rs (i - 1) (omega (arith, there.0, there.1, same, count)) in
    subst (λ (t : Task). TaskStands ps rs H M k (rules.start priorities) i t) (sym root.2) (starts_stand ps rs H M k priorities i root.0 there root.1)

-- ---- no ring

served_lower : (r : Roster) (n i : ℕ) (input : Option ℕ) (q : Request) → InRanges r → running r ≡ Some i → ((a m : ℕ) → q ≡ Rules (Secure a) → IsNumber m → owner_of r m ≡ i → m < a) → WaitersOwnLower r → WaitersOwnLower (serve r n i input q).rules
served_lower r n i input Nothing g runs below low = low
served_lower r n i None Takes g runs below low = low
served_lower r n i (Some b) Takes g runs below low = low
served_lower r n i input (Puts b) g runs below low = low
served_lower r n i input (Rules v) g runs below low = services_keep_lower r i v g runs low (λ a m e. below a m (ap (λ x. Rules x) e))

module _ (ps : System) where
  stays_lower : (s : State) (h : Happening) (hs : List Happening) → InRanges s.rules → AskInOrder ps s (h ∷ hs) → WaitersOwnLower s.rules → WaitersOwnLower (happens (world ps) s h).rules
  stays_lower s a_tick hs g asks low = ticks_keep_lower s.rules g low
  stays_lower s (a_step input) hs g asks low = by_running (running s.rules) refl
    where
      by_running : (o : Option ℕ) → running s.rules ≡ o → WaitersOwnLower (state_after s (step_by (world ps) s o input)).rules
      by_running None e = low
      by_running (Some i) e = served_lower s.rules s.taken i input (request (world ps) (task_at s.tasks i)) g e (λ a m x. asks.0 i a m e x) low

  rest_ask : (s : State) (h : Happening) (hs : List Happening) → AskInOrder ps s (h ∷ hs) → AskInOrder ps (happens (world ps) s h) hs
  rest_ask s a_tick hs asks = asks
  rest_ask s (a_step input) hs asks = asks.1

  lower : (hs : List Happening) (s : State) → InRanges s.rules → AskInOrder ps s hs → WaitersOwnLower s.rules → WaitersOwnLower (after (world ps) s hs).rules
  lower [] s g asks low = low
  lower (h ∷ hs) s g asks low =
      lower hs (happens (world ps) s h) (leads_in_ranges s.rules (happens (world ps) s h).rules (happened_leads (world ps) s h) g) (rest_ask s h hs asks) (stays_lower s h hs g asks low)

pub runs_have_no_ring : RunsHaveNoRing
runs_have_no_ring ps rs S priorities hs can asks =
    let s : State = start S rs priorities in
    let low = lower ps hs s (start_in_ranges priorities can) asks (λ i n m there waits l own. absurd (starts_wait_for_nothing priorities i n there waits)) in
    let ks = rules_lead (world ps) hs s in
    let wait = subst rule_laws.WaitersWait (sym ks.1) (waiters_always_wait priorities ks.0 can) in
    (low, rings_are_refused (after (world ps) s hs).rules wait low)
