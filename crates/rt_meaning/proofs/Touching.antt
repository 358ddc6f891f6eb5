-- Each visible step touches what it is said to touch: at most one location, of the store or of the task's own data.
use Rattle.std.proofs.Common.{◌≡◌, List, [], ◌∷◌, Option, refl, ap}
use Rattle.rt_tree_nodes.specs.declared.store.Datum.{Datum}
use Rattle.rt_rules.specs.declared.service.Outcome.{Outcome}
use Rattle.rt_rules.specs.declared.service.Outcome.TheVariants.{Go, Waits, Error, Ends}
use Rattle.rt_rules.specs.declared.service.Svc.TheVariants as svc
use Rattle.rt_work_state.specs.declared.request.Request.{Request}
use Rattle.rt_work_state.specs.declared.request.Request.TheVariants.{Rules}
use Rattle.rt_work_state.specs.Stores.{Store}
use Rattle.rt_work_state.specs.Items.{Item, Next, Reads, Writes, Calls, Returns, Jumps, Leaps, Asks, Recovers, Errors, Lacks}
use Rattle.rt_resolve.specs.World.{World}
use Rattle.rt_meaning.specs.Step.{Act, Over, Failed, Doing, After, own_of, with_todo, entered, returned, served, act, next_of}
use Rattle.rt_meaning.specs.Laws.{with_own, SameBeside, Touches, StepsTouchOne}

-- ---- a return, and a service

returned_own : (v : Option Datum) (cs : List Act) (own : List Datum) → own_of (returned v cs own) ≡ own
returned_own v [] own = refl
returned_own v (c ∷ cs) own = refl

returned_same : (v : Option Datum) (cs : List Act) (own other : List Datum) → with_own [] (returned v cs own) ≡ with_own [] (returned v cs other)
returned_same v [] own other = refl
returned_same v (c ∷ cs) own other = refl

ends_own : (r : Request) (todo : List Item) (a : Act) (cs : List Act) (own : List Datum) → own_of (served r Ends todo a cs own) ≡ own
ends_own (Rules (svc.Gel n)) todo a cs own = refl
ends_own _ todo a cs own = refl

served_own : (r : Request) (o : Outcome) (todo : List Item) (a : Act) (cs : List Act) (own : List Datum) → own_of (served r o todo a cs own) ≡ own
served_own r (Go n) todo a cs own = refl
served_own r Waits todo a cs own = refl
served_own r (Error n) todo a cs own = refl
served_own r Ends todo a cs own = ends_own r todo a cs own

ends_same : (r : Request) (todo : List Item) (a : Act) (cs : List Act) (own other : List Datum) → with_own [] (served r Ends todo a cs own) ≡ with_own [] (served r Ends todo a cs other)
ends_same (Rules (svc.Gel n)) todo a cs own other = refl
ends_same _ todo a cs own other = refl

served_same : (r : Request) (o : Outcome) (todo : List Item) (a : Act) (cs : List Act) (own other : List Datum) → with_own [] (served r o todo a cs own) ≡ with_own [] (served r o todo a cs other)
served_same r (Go n) todo a cs own other = refl
served_same r Waits todo a cs own other = refl
served_same r (Error n) todo a cs own other = refl
served_same r Ends todo a cs own other = ends_same r todo a cs own other

-- ---- a step

same : {m k : After} → with_own [] m.task ≡ with_own [] k.task → m.step ≡ k.step → m.touched ≡ k.touched → SameBeside m k
same t s h = record { task = t; step = s; touched = h }

act_touches : (w : World) (x : Next) (a : Act) (cs : List Act) (own : List Datum) (S : Store) (o : Outcome) → Touches (act w x a cs own S o).touched (λ R other. act w x a cs other R o)
act_touches w (Reads q todo vs ls) a cs own S o = (λ R other. (refl, refl), λ R Q other more e h. same (ap (λ (d : Datum). Doing (with_todo a todo (d ∷ vs) ls) cs []) h) refl refl)
act_touches w (Writes q v todo vs ls) a cs own S o = (v, λ R other. (refl, refl), λ R Q other more e. same refl refl refl)
act_touches w (Calls f args todo vs ls) a cs own S o =
    (λ R other. (refl, refl), λ R Q other more e. same (ap (λ (d : Datum). Doing (entered (w.code f) f args d) (with_todo a todo vs ls ∷ cs) []) e) refl refl)
act_touches w (Returns v) a cs own S o = (λ R other. (refl, returned_own v cs other), λ R Q other more e. same (returned_same v cs other more) refl refl)
act_touches w (Jumps todo vs ls) a cs own S o = (λ R other. (refl, refl), λ R Q other more e. same refl refl refl)
act_touches w (Leaps l ls) a cs own S o = (λ R other. (refl, refl), λ R Q other more e. same refl refl refl)
act_touches w (Asks r todo) a cs own S o = (λ R other. (refl, served_own r o todo a cs other), λ R Q other more e. same (served_same r o todo a cs other more) refl refl)
act_touches w (Recovers l todo vs ls) a cs own S o = (λ R other. (refl, refl), λ R Q other more e. same refl refl refl)
act_touches w (Errors n) a cs own S o = (λ R other. (refl, refl), λ R Q other more e. same refl refl refl)
act_touches w Lacks a cs own S o = (λ R other. (refl, refl), λ R Q other more e. same refl refl refl)

pub steps_touch_one : StepsTouchOne
steps_touch_one w (Over own) S o = (λ R other. (refl, refl), λ R Q other more e. same refl refl refl)
steps_touch_one w (Failed n own) S o = (λ R other. (refl, refl), λ R Q other more e. same refl refl refl)
steps_touch_one w (Doing a cs own) S o = act_touches w (next_of w a) a cs own S o
