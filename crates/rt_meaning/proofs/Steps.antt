-- Each visible step looks at the store at one location and leaves it, or changes it at one and doesn't look at it.
use Rattle.std.proofs.Common.{◌≡◌, ◌≢◌, List, ◌∷◌, None, refl, ap, inl, inr}
use Rattle.rt_tree_nodes.specs.declared.store.Datum.{Datum}
use Rattle.rt_tree_nodes.specs.declared.step.Step.{Step}
use Rattle.rt_tree_nodes.specs.declared.step.Step.TheVariants as step
use Rattle.rt_rules.specs.declared.service.Outcome.{Outcome}
use Rattle.rt_work_state.specs.Stores.{Store, erp}
use Rattle.rt_work_state.specs.Items.{Next, Reads, Writes, Calls, Returns, Jumps, Leaps, Asks, Recovers, Errors, Lacks}
use Rattle.rt_resolve.specs.World.{World}
use Rattle.rt_meaning.specs.Step.{Act, Task, Over, Failed, Doing, with_todo, act, next_of, request}
use Rattle.rt_meaning.specs.Run.{Served, moved_by, serve}
use Rattle.rt_meaning.specs.Laws.{AnswersServe, OneAccess, StepsAccessOne}

act_answers : (w : World) (x : Next) (a : Act) (cs : List Act) (own : List Datum) (S : Store) (o p : Outcome) → (act w x a cs own S o).step ≢ step.Service → act w x a cs own S o ≡ act w x a cs own S p
act_answers w (Reads q todo vs ls) a cs own S o p ne = refl
act_answers w (Writes q v todo vs ls) a cs own S o p ne = refl
act_answers w (Calls f args todo vs ls) a cs own S o p ne = refl
act_answers w (Returns v) a cs own S o p ne = refl
act_answers w (Jumps todo vs ls) a cs own S o p ne = refl
act_answers w (Leaps l ls) a cs own S o p ne = refl
act_answers w (Asks r todo) a cs own S o p ne = absurd (ne refl)
act_answers w (Recovers l todo vs ls) a cs own S o p ne = refl
act_answers w (Errors n) a cs own S o p ne = refl
act_answers w Lacks a cs own S o p ne = refl

pub answers_serve : AnswersServe
answers_serve w (Over own) S o p ne = refl
answers_serve w (Failed n own) S o p ne = refl
answers_serve w (Doing a cs own) S o p ne = act_answers w (next_of w a) a cs own S o p ne

-- ---- one access

-- what makes the same task of every store, and leaves the store
looks_nowhere : (s : Served) (own : List Datum) (t : Task) (k : Step) → OneAccess (λ S. moved_by s (record { task = t; store = S; step = k; touched = None })) own
looks_nowhere s own t k = (erp, inl (record { stays = λ S. refl; alike = λ S R e. record { rules = refl; taken = refl; task = refl; step = refl; byte = refl } }))

act_accesses : (w : World) (x : Next) (a : Act) (cs : List Act) (own : List Datum) (s : Served) → OneAccess (λ S. moved_by s (act w x a cs own S s.outcome)) own
act_accesses w (Reads q todo vs ls) a cs own s =
    (q, inl (record { stays = λ S. refl; alike = λ S R e. record { rules = refl; taken = refl; task = ap (λ (d : Datum). Doing (with_todo a todo (d ∷ vs) ls) cs own) e; step = refl; byte = refl } }))
act_accesses w (Writes q v todo vs ls) a cs own s =
    (q, inr (v, record { written = λ S. refl; kind = λ S. refl; alike = λ S R. record { rules = refl; taken = refl; task = refl; step = refl; byte = refl } }))
act_accesses w (Calls f args todo vs ls) a cs own s = looks_nowhere s own _ _
act_accesses w (Returns v) a cs own s = looks_nowhere s own _ _
act_accesses w (Jumps todo vs ls) a cs own s = looks_nowhere s own _ _
act_accesses w (Leaps l ls) a cs own s = looks_nowhere s own _ _
act_accesses w (Asks r todo) a cs own s = looks_nowhere s own _ _
act_accesses w (Recovers l todo vs ls) a cs own s = looks_nowhere s own _ _
act_accesses w (Errors n) a cs own s = looks_nowhere s own _ _
act_accesses w Lacks a cs own s = looks_nowhere s own _ _

pub steps_access_one : StepsAccessOne
steps_access_one w (Over own) r taken i input = looks_nowhere (serve r taken i input (request w (Over own))) own _ _
steps_access_one w (Failed n own) r taken i input = looks_nowhere (serve r taken i input (request w (Failed n own))) own _ _
steps_access_one w (Doing a cs own) r taken i input =
    act_accesses w (next_of w a) a cs own (serve r taken i input (request w (Doing a cs own)))
