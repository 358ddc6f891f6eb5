-- In every state of a run each task ends as its row says, and its outermost activation is its root's.
use Rattle.std.proofs.Common.{◌≡◌, ◌≢◌, ◌⊎◌, inl, inr, ℕ, zero, suc, ◌-◌, ◌+◌, false, List, [], ◌∷◌, Option, Some, None, slice_get, slice_set, refl, sym, ap, ◌∙◌, subst}
use Rattle.rt_tree_nodes.specs.declared.store.Datum.{Datum}
use Rattle.rt_tree_nodes.specs.declared.store.Datum.TheVariants.{Word, Reference, Row, Procedure, Label, Truth}
use Rattle.rt_tree_nodes.specs.declared.store.Proc.{Proc}
use Rattle.rt_rules.specs.declared.service.Outcome.{Outcome}
use Rattle.rt_rules.specs.declared.service.Outcome.TheVariants.{Go, Waits, Error, Ends}
use Rattle.rt_rules.specs.declared.service.Svc.{Svc}
use Rattle.rt_rules.specs.declared.service.Svc.TheVariants as svc
use Rattle.rt_rules.specs.declared.task.State.{State as Condition}
use Rattle.rt_rules.specs.declared.task.State.TheVariants as condition
use Rattle.rt_rules.specs.declared.task.TaskRow.{TaskRow}
use Rattle.rt_rules.specs.Roster.{Roster, has_ended, row}
use Rattle.rt_rules.specs.Rules as rules
use Rattle.rt_tree.specs.Opened.{FullModesOpen}
use Rattle.rt_tree.specs.Stored.{System, HoldsInside, HoldsWritten}
use Rattle.rt_work_state.specs.declared.request.Request.{Request}
use Rattle.rt_work_state.specs.declared.request.Request.TheVariants.{Nothing, Takes, Puts, Rules}
use Rattle.rt_work_state.specs.Stores.{Store}
use Rattle.rt_work_state.specs.Items.{Env, Item, Begin, Serve, Next, Reads, Writes, Calls, Returns, Jumps, Leaps, Asks, Recovers, Errors, Lacks}
use Rattle.rt_work.specs.Task.{next, serve_then}
use Rattle.rt_resolve.specs.World.{World}
use Rattle.rt_resolve.specs.Systems.{world}
use Rattle.rt_meaning.specs.declared.begin.SourceTask.{SourceTask}
use Rattle.rt_meaning.specs.Roots.{roots, priorities}
use Rattle.rt_meaning.specs.Run.{State, take, by_rules, serve, moved, task_in, task_at, stepped_by, stepped, step_by, tasks_of, tick}
use Rattle.rt_meaning.specs.Step.{Act, Task, Over, Failed, Doing, with_todo, returned, on_values, ended_by, served, asked, act, next_of}
use Rattle.rt_meaning.specs.Whole.{beginning}
use Rattle.rt_meaning_laws.specs.Ends.{EndsAs, EndAsRows, IsFirst, outermost, IsRooted, AllRooted, Agree, EndsAgree, RunnersGoOn}
use Rattle.rt_meaning_laws.specs.Runs.{StateFits, Happening, a_tick, a_step, state_after, happens, after, MayHappen}
use Rattle.rt_meaning_laws.specs.Systems.{SystemFits}
use Rattle.rt_meaning_laws.specs.Tasks.{WorldFits, NeverLacks}
use Rattle.rt_meaning_laws.proofs.Enduring.{Endures, AllEndure, Alive, still_alive, GoesOn, EndsNone, runner_alive, runner_there, tick_endures, gifts_endure, service_endures}
use Rattle.rt_meaning_laws.proofs.Beginnings.{starts_fit_all}
use Rattle.rt_meaning_laws.proofs.Entering.{world_fits}
use Rattle.rt_meaning_laws.proofs.Running.{one_fits, runs_keep}
use Rattle.rt_meaning_laws.proofs.Steps.{never_lacks}
use Rattle.rt_meaning_laws.proofs.Whole.{modules_make_systems}

-- ---- lists

as_endures : (t : Task) (s u : Condition) → EndsAs t s → Endures s u → EndsAs t u
as_endures t s u h (inr e) = subst (λ (x : Condition). EndsAs t x) e h
as_endures (Doing a cs own) s u h (inl g) = g.1
as_endures (Over own) s u h (inl g) = let no : has_ended condition.Ended ≡ false = sym (ap has_ended h) ∙ g.0 in absurd cc
as_endures (Failed n own) s u h (inl g) = let no : has_ended (condition.Failed n) ≡ false = sym (ap has_ended h) ∙ g.0 in absurd cc

all_as : (ts : List Task) (xs ys : List TaskRow) → EndAsRows ts xs → AllEndure xs ys → EndAsRows ts ys
all_as [] [] [] h g = tt
all_as [] [] (y ∷ ys) h g = absurd g
all_as [] (x ∷ xs) ys h g = absurd h
all_as (t ∷ ts) [] ys h g = absurd h
all_as (t ∷ ts) (x ∷ xs) [] h g = absurd g
all_as (t ∷ ts) (x ∷ xs) (y ∷ ys) h g = (as_endures t x.state y.state h.0 g.0, all_as ts xs ys h.1 g.1)

-- one task goes on as its row says
set_as : (ts : List Task) (xs : List TaskRow) (k : ℕ) (t : Task) → EndAsRows ts xs → ((x : TaskRow) → slice_get xs k ≡ Some x → EndsAs t x.state) → EndAsRows (slice_set ts k t) xs
set_as [] [] k t h g = tt
set_as [] (x ∷ xs) k t h g = absurd h
set_as (u ∷ ts) [] k t h g = absurd h
set_as (u ∷ ts) (x ∷ xs) zero t h g = (g x refl, h.1)
set_as (u ∷ ts) (x ∷ xs) (suc k) t h g = (h.0, set_as ts xs k t h.1 g)

-- one task and its row
set_both : (ts : List Task) (xs : List TaskRow) (k : ℕ) (t : Task) (y : TaskRow) → EndAsRows ts xs → EndsAs t y.state → EndAsRows (slice_set ts k t) (slice_set xs k y)
set_both [] [] k t y h g = tt
set_both [] (x ∷ xs) k t y h g = absurd h
set_both (u ∷ ts) [] k t y h g = absurd h
set_both (u ∷ ts) (x ∷ xs) zero t y h g = (g, h.1)
set_both (u ∷ ts) (x ∷ xs) (suc k) t y h g = (h.0, set_both ts xs k t y h.1 g)

set_rooted : (fs : List Proc) (ts : List Task) (k : ℕ) (t : Task) → AllRooted fs ts → ((f : Proc) → slice_get fs k ≡ Some f → IsRooted f t) → AllRooted fs (slice_set ts k t)
set_rooted [] [] k t h g = tt
set_rooted [] (u ∷ ts) k t h g = absurd h
set_rooted (f ∷ fs) [] k t h g = absurd h
set_rooted (f ∷ fs) (u ∷ ts) zero t h g = (g f refl, h.1)
set_rooted (f ∷ fs) (u ∷ ts) (suc k) t h g = (h.0, set_rooted fs ts k t h.1 g)

-- the task of a root
one_rooted : (fs : List Proc) (ts : List Task) (k : ℕ) (f : Proc) → AllRooted fs ts → slice_get fs k ≡ Some f → IsRooted f (task_in (slice_get ts k))
one_rooted [] ts k f h e = absurd cc
one_rooted (g ∷ fs) [] k f h e = absurd h
one_rooted (g ∷ fs) (t ∷ ts) zero f h e = let same : g ≡ f = cc in subst (λ (x : Proc). IsRooted x t) same h.0
one_rooted (g ∷ fs) (t ∷ ts) (suc k) f h e = one_rooted fs ts k f h.1 e

-- ---- the outermost activation

-- what its next step may be: the call of the root, or the service that ends the task
pub data FirstSteps (f : Proc) : Next → Type 0 where
  calls : {vs ls : List Datum} → FirstSteps f (Calls f [] (Serve 11 ∷ []) vs ls)
  ends : FirstSteps f (Asks (Rules svc.End) [])

serves_end : (f : Proc) (vs : List Datum) → serve_then 11 [] vs ≢ Lacks → FirstSteps f (serve_then 11 [] vs)
serves_end f [] ne = ends
serves_end f (Word n ∷ vs) ne = ends
serves_end f (Reference l ∷ vs) ne = absurd (ne refl)
serves_end f (Row l n ∷ vs) ne = absurd (ne refl)
serves_end f (Procedure g ∷ vs) ne = absurd (ne refl)
serves_end f (Label a n ∷ vs) ne = absurd (ne refl)
serves_end f (Truth b ∷ vs) ne = absurd (ne refl)

first_steps : (e : Env) (f : Proc) (a : Act) → IsFirst f a → next e a.todo a.values a.locals ≢ Lacks → FirstSteps f (next e a.todo a.values a.locals)
first_steps e f a h ne = by_todo a.todo h.todo ne
  where
    by_todo : (todo : List Item) → (todo ≡ Begin f ∷ Serve 11 ∷ []) ⊎ (todo ≡ Serve 11 ∷ []) → next e todo a.values a.locals ≢ Lacks → FirstSteps f (next e todo a.values a.locals)
    by_todo todo (inl is) ne = subst (λ (x : List Item). FirstSteps f (next e x a.values a.locals)) (sym is) calls
    by_todo todo (inr is) ne = subst (λ (x : List Item). FirstSteps f (next e x a.values a.locals)) (sym is) (serves_end f a.values (subst (λ (x : List Item). next e x a.values a.locals ≢ Lacks) is ne))

-- ---- a step

-- the task and its row where the rules end it
ended_as : (r : Roster) (i : ℕ) (c : Condition) (ts : List Task) (t : Task) → EndAsRows ts r.tasks → EndsAs t c → EndAsRows (slice_set ts (i - 1) t) (rules.ends r i c).0.tasks
ended_as r i c ts t h e =
    let q : Roster = rules.gives_from i 1 32 r in
    let y : TaskRow = record { state = c; priority = (row q i).priority; stamp = (row q i).stamp } in
    set_both ts q.tasks (i - 1) t y (all_as ts r.tasks q.tasks h (gifts_endure i 1 32 r)) e

module _ (w : World) (a : Act) (cs : List Act) (own : List Datum) (S : Store) (r : Roster) (n i : ℕ) (input : Option ℕ) (ts : List Task) (alive : Alive r.tasks (i - 1)) (h : EndAsRows ts r.tasks) where
  -- as the row of the task says, where it goes on
  goes_on : (b : Act) (callers : List Act) (kept : List Datum) → EndAsRows (slice_set ts (i - 1) (Doing b callers kept)) r.tasks
  goes_on b callers kept = set_as ts r.tasks (i - 1) (Doing b callers kept) h alive

  abbrev After_service : Request → List Item → Type 0
  After_service q todo = EndAsRows (slice_set ts (i - 1) (served q (serve r n i input q).outcome todo a cs own)) (serve r n i input q).rules.tasks

  -- after a service that ends none
  endured : (v : Svc) (todo : List Item) (p : rules.Served) → GoesOn p.1 → AllEndure r.tasks p.0.tasks → EndAsRows (slice_set ts (i - 1) (served (Rules v) (by_rules n p).outcome todo a cs own)) (by_rules n p).rules.tasks
  endured v todo (q, o) g e = by_outcome o g
    where
      rows : EndAsRows ts q.tasks
      rows = all_as ts r.tasks q.tasks h e

      by_outcome : (o : Outcome) → GoesOn o → EndAsRows (slice_set ts (i - 1) (served (Rules v) o todo a cs own)) q.tasks
      by_outcome (Go k) g = set_as ts q.tasks (i - 1) _ rows (still_alive r.tasks q.tasks (i - 1) e alive)
      by_outcome Waits g = set_as ts q.tasks (i - 1) _ rows (still_alive r.tasks q.tasks (i - 1) e alive)
      by_outcome (Error k) g = set_as ts q.tasks (i - 1) _ rows (still_alive r.tasks q.tasks (i - 1) e alive)
      by_outcome Ends g = absurd g

  of_rules : (v : Svc) (todo : List Item) → EndsNone v → After_service (Rules v) todo
  of_rules v todo none = let e = service_endures r i v alive none in endured v todo (rules.serve r i v) e.0 e.1

  taken_as : (todo : List Item) (o : Option ℕ) → EndAsRows (slice_set ts (i - 1) (served Takes (take r n o).outcome todo a cs own)) (take r n o).rules.tasks
  taken_as todo None = goes_on _ _ _
  taken_as todo (Some b) = goes_on _ _ _

  asked_as : (q : Request) (todo : List Item) → After_service q todo
  asked_as Nothing todo = goes_on _ _ _
  asked_as Takes todo = taken_as todo input
  asked_as (Puts b) todo = goes_on _ _ _
  asked_as (Rules (svc.Gel k)) todo = ended_as r i (condition.Failed k) ts (Failed k own) h refl
  asked_as (Rules svc.End) todo = ended_as r i condition.Ended ts (Over own) h refl
  asked_as (Rules v) todo = of_rules v todo tt

  abbrev pub After_step : Next → Type 0
  After_step x = EndAsRows (slice_set ts (i - 1) (act w x a cs own S (serve r n i input (asked x)).outcome).task) (serve r n i input (asked x)).rules.tasks

  back_as : (v : Option Datum) (callers : List Act) → callers ≢ [] → EndAsRows (slice_set ts (i - 1) (returned v callers own)) r.tasks
  back_as v [] ne = absurd (ne refl)
  back_as v (c ∷ callers) ne = goes_on _ _ _

  pub step_as : (x : Next) → x ≢ Lacks → ((v : Option Datum) → x ≡ Returns v → cs ≢ []) → After_step x
  step_as (Reads p todo vs ls) ne back = goes_on _ _ _
  step_as (Writes p v todo vs ls) ne back = goes_on _ _ _
  step_as (Calls f args todo vs ls) ne back = goes_on _ _ _
  step_as (Returns v) ne back = back_as v cs (back v refl)
  step_as (Jumps todo vs ls) ne back = goes_on _ _ _
  step_as (Leaps l ls) ne back = goes_on _ _ _
  step_as (Asks q todo) ne back = asked_as q todo
  step_as (Recovers l todo vs ls) ne back = goes_on _ _ _
  step_as (Errors k) ne back = ended_as r i (condition.Failed k) ts (Failed k own) h refl
  step_as Lacks ne back = absurd (ne refl)

-- ---- roots

first_with : (f : Proc) (c : Act) (vs ls : List Datum) → IsFirst f c → IsFirst f (with_todo c c.todo vs ls)
first_with f c vs ls h = record { proc = h.proc; todo = h.todo }

-- a caller goes on as it was to
rooted_back : (f : Proc) (c : Act) (callers : List Act) (vs ls : List Datum) → IsFirst f (outermost c callers) → IsFirst f (outermost (with_todo c c.todo vs ls) callers)
rooted_back f c [] vs ls h = first_with f c vs ls h
rooted_back f c (d ∷ callers) vs ls h = h

rooted_end : (f : Proc) (q : Request) (own : List Datum) → IsRooted f (ended_by q own)
rooted_end f (Rules (svc.Gel k)) own = tt
rooted_end f _ own = tt

-- a task with a caller
rooted_inside : (w : World) (f : Proc) (x : Next) (a c : Act) (cs : List Act) (own : List Datum) (S : Store) (o : Outcome) → IsFirst f (outermost c cs) → IsRooted f (act w x a (c ∷ cs) own S o).task
rooted_inside w f (Reads p todo vs ls) a c cs own S o h = h
rooted_inside w f (Writes p v todo vs ls) a c cs own S o h = h
rooted_inside w f (Calls g args todo vs ls) a c cs own S o h = h
rooted_inside w f (Returns v) a c cs own S o h = rooted_back f c cs (on_values v c.values) c.locals h
rooted_inside w f (Jumps todo vs ls) a c cs own S o h = h
rooted_inside w f (Leaps l ls) a c cs own S o h = h
rooted_inside w f (Asks q todo) a c cs own S o h = by_outcome o
  where
    by_outcome : (o : Outcome) → IsRooted f (served q o todo a (c ∷ cs) own)
    by_outcome (Go k) = h
    by_outcome Waits = h
    by_outcome (Error k) = h
    by_outcome Ends = rooted_end f q own
rooted_inside w f (Recovers l todo vs ls) a c cs own S o h = h
rooted_inside w f (Errors k) a c cs own S o h = tt
rooted_inside w f Lacks a c cs own S o h = tt

-- a task without one
rooted_outside : (w : World) (f : Proc) (x : Next) (a : Act) (own : List Datum) (S : Store) (r : Roster) (n i : ℕ) (input : Option ℕ) → a.proc ≡ f → FirstSteps f x → IsRooted f (act w x a [] own S (serve r n i input (asked x)).outcome).task
rooted_outside w f _ a own S r n i input e calls = record { proc = e; todo = inr refl }
rooted_outside w f _ a own S r n i input e ends = tt

-- ---- the step of a task

-- a row and its task
one_as : (ts : List Task) (xs : List TaskRow) (k : ℕ) (x : TaskRow) → EndAsRows ts xs → slice_get xs k ≡ Some x → EndsAs (task_in (slice_get ts k)) x.state
one_as [] [] k x h e = absurd cc
one_as [] (y ∷ ys) k x h e = absurd h
one_as (t ∷ ts) [] k x h e = absurd h
one_as (t ∷ ts) (y ∷ ys) zero x h e = let same : y ≡ x = cc in subst (λ (z : TaskRow). EndsAs t z.state) same h.0
one_as (t ∷ ts) (y ∷ ys) (suc k) x h e = one_as ts ys k x h.1 e

-- the root of a task that goes on
root_there : (fs : List Proc) (ts : List Task) (k : ℕ) (a : Act) (cs : List Act) (own : List Datum) → AllRooted fs ts → task_in (slice_get ts k) ≡ Doing a cs own → (f : Proc) × (slice_get fs k ≡ Some f)
root_there [] [] k a cs own h e = absurd cc
root_there [] (t ∷ ts) k a cs own h e = absurd h
root_there (f ∷ fs) [] k a cs own h e = absurd h
root_there (f ∷ fs) (t ∷ ts) zero a cs own h e = (f, refl)
root_there (f ∷ fs) (t ∷ ts) (suc k) a cs own h e = root_there fs ts k a cs own h.1 e

module _ (w : World) (fs : List Proc) (s : State) (i : ℕ) (input : Option ℕ) (runs : rules.running s.rules ≡ Some i) (h : Agree fs s) where
  abbrev Agrees : Task → Type 0
  Agrees t = Agree fs (stepped_by s.tasks i (moved w t s.store s.rules s.taken i input)).state

  alive : Alive s.rules.tasks (i - 1)
  alive = runner_alive s.rules i runs

  -- a task that has ended stays as it is
  ended_agrees : (t : Task) → task_at s.tasks i ≡ t → EndAsRows (slice_set s.tasks (i - 1) t) s.rules.tasks × AllRooted fs (slice_set s.tasks (i - 1) t)
  ended_agrees t e = (
    set_as s.tasks s.rules.tasks (i - 1) t h.ends (λ x g. subst (λ (u : Task). EndsAs u x.state) e (one_as s.tasks s.rules.tasks (i - 1) x h.ends g)),
    set_rooted fs s.tasks (i - 1) t h.rooted (λ f g. subst (λ (u : Task). IsRooted f u) e (one_rooted fs s.tasks (i - 1) f h.rooted g)),
  )

  doing_agrees : (a : Act) (cs : List Act) (own : List Datum) → task_at s.tasks i ≡ Doing a cs own → next_of w a ≢ Lacks → Agrees (Doing a cs own)
  doing_agrees a cs own e ne = record {
    ends = step_as w a cs own s.store s.rules s.taken i input s.tasks alive h.ends (next_of w a) ne (λ v g. never_back v g);
    rooted = set_rooted fs s.tasks (i - 1) _ h.rooted (λ f g. by_callers f cs (subst (λ (u : Task). IsRooted f u) e (one_rooted fs s.tasks (i - 1) f h.rooted g)));
  }
    where
      by_callers : (f : Proc) (callers : List Act) → IsRooted f (Doing a callers own) → IsRooted f (act w (next_of w a) a callers own s.store (serve s.rules s.taken i input (asked (next_of w a))).outcome).task
      by_callers f [] g = rooted_outside w f (next_of w a) a own s.store s.rules s.taken i input g.proc (first_steps (w.env a.proc.module) f a g ne)
      by_callers f (c ∷ callers) g = rooted_inside w f (next_of w a) a c callers own s.store (serve s.rules s.taken i input (asked (next_of w a))).outcome g

      no_return : (f : Proc) (x : Next) (v : Option Datum) → FirstSteps f x → x ≡ Returns v → ⊥
      no_return f _ v calls g = cc
      no_return f _ v ends g = cc

      never_back : (v : Option Datum) → next_of w a ≡ Returns v → cs ≢ []
      never_back v g none =
          let f = root_there fs s.tasks (i - 1) a cs own h.rooted e in
          let first : IsRooted f.0 (Doing a cs own) = subst (λ (u : Task). IsRooted f.0 u) e (one_rooted fs s.tasks (i - 1) f.0 h.rooted f.1) in
          let alone : IsFirst f.0 a = subst (λ (callers : List Act). IsFirst f.0 (outermost a callers)) none first in
          no_return f.0 (next_of w a) v (first_steps (w.env a.proc.module) f.0 a alone ne) g

  step_agrees : (t : Task) → task_at s.tasks i ≡ t → NeverLacks w t → Agrees t
  step_agrees (Over own) e ne = let r = ended_agrees (Over own) e in record { ends = r.0; rooted = r.1 }
  step_agrees (Failed n own) e ne = let r = ended_agrees (Failed n own) e in record { ends = r.0; rooted = r.1 }
  step_agrees (Doing a cs own) e ne = doing_agrees a cs own e ne

  pub stepped_agrees : NeverLacks w (task_at s.tasks i) → Agree fs (stepped w s i input).state
  stepped_agrees ne = step_agrees (task_at s.tasks i) refl ne

-- ---- runs

tick_agrees : (fs : List Proc) (s : State) → Agree fs s → Agree fs (tick s)
tick_agrees fs s h = record { ends = all_as s.tasks s.rules.tasks (rules.tick s.rules).tasks h.ends (tick_endures s.rules); rooted = h.rooted }

module _ (holds_inside : HoldsInside) (holds_written : HoldsWritten) (ps : System) (w : World) (wf : WorldFits ps w) (fs : List Proc) where
  stepped_by_one : (s : State) (input : Option ℕ) (o : Option ℕ) → rules.running s.rules ≡ o → StateFits ps w s → Agree fs s → Agree fs (state_after s (step_by w s o input))
  stepped_by_one s input None e fits h = h
  stepped_by_one s input (Some i) e fits h = stepped_agrees w fs s i input e h (never_lacks ps w wf (task_at s.tasks i) (one_fits holds_inside holds_written ps w s.tasks (i - 1) fits.tasks))

  one_agrees : (s : State) (x : Happening) → StateFits ps w s → Agree fs s → Agree fs (happens w s x)
  one_agrees s a_tick fits h = tick_agrees fs s h
  one_agrees s (a_step input) fits h = stepped_by_one s input (rules.running s.rules) refl fits h

  pub all_agree : (hs : List Happening) (s : State) → MayHappen hs → StateFits ps w s → Agree fs s → Agree fs (after w s hs)
  all_agree [] s may fits h = h
  all_agree (a_tick ∷ hs) s may fits h = all_agree hs (happens w s a_tick) may (runs_keep holds_inside holds_written ps w s (a_tick ∷ []) wf fits tt).0 (one_agrees s a_tick fits h)
  all_agree (a_step input ∷ hs) s may fits h =
      all_agree hs (happens w s (a_step input)) may.1 (runs_keep holds_inside holds_written ps w s (a_step input ∷ []) wf fits (may.0, tt)).0 (one_agrees s (a_step input) fits h)

-- ---- the start

begins_as : (ts : List SourceTask) (k : ℕ) → EndAsRows (tasks_of (roots ts)) (rules.rows_from k (priorities ts))
begins_as [] k = tt
begins_as (t ∷ ts) k = (refl, begins_as ts (k + 1))

begins_rooted : (ts : List SourceTask) → AllRooted (roots ts) (tasks_of (roots ts))
begins_rooted [] = tt
begins_rooted (t ∷ ts) = (record { proc = refl; todo = inl refl }, begins_rooted ts)

pub ends_agree : HoldsInside → HoldsWritten → FullModesOpen → EndsAgree
ends_agree holds_inside holds_written open_them ps ts hs f tasks may =
    let fits : SystemFits ps = modules_make_systems open_them ps f in
    all_agree holds_inside holds_written ps (world ps) (world_fits ps fits) (roots ts) hs (beginning ps ts) may (starts_fit_all ps ts fits f.numbers tasks) (record { ends = begins_as ts 0; rooted = begins_rooted ts })

-- a task that runs goes on
doing_there : (rows : List TaskRow) (k : ℕ) (t : Task) → Alive rows k → ((x : TaskRow) → slice_get rows k ≡ Some x → EndsAs t x.state) → ((x : TaskRow) → slice_get rows k ≡ Some x → ⊥) ⊎ ((a : Act) × (callers : List Act) × (own : List Datum) × (t ≡ Doing a callers own))
doing_there rows k (Doing a cs own) alive here = inr (a, cs, own, refl)
doing_there rows k (Over own) alive here = inl (λ x e. let no : has_ended condition.Ended ≡ false = sym (ap has_ended (here x e)) ∙ alive x e in absurd cc)
doing_there rows k (Failed m own) alive here = inl (λ x e. let no : has_ended (condition.Failed m) ≡ false = sym (ap has_ended (here x e)) ∙ alive x e in absurd cc)

pub runners_go_on : HoldsInside → HoldsWritten → FullModesOpen → RunnersGoOn
runners_go_on holds_inside holds_written open_them ps ts hs i f tasks may runs =
    let s : State = after (world ps) (beginning ps ts) hs in
    let h : Agree (roots ts) s = ends_agree holds_inside holds_written open_them ps ts hs f tasks may in
    let x = runner_there s.rules i runs in
    elim (doing_there s.rules.tasks (i - 1) (task_at s.tasks i) (runner_alive s.rules i runs) (λ y e. one_as s.tasks s.rules.tasks (i - 1) y h.ends e)) [
      | inl none ↦ absurd (none x.0 x.1)
      | inr d ↦ d
    ]
