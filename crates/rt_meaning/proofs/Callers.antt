-- A return to the caller.
use Rattle.std.proofs.Common.{◌≡◌, List, [], ◌∷◌, Option, Some, None, slice_get, refl, ◌∙◌}
use Rattle.rt_tree_nodes.specs.declared.store.Datum.{Datum}
use Rattle.rt_meaning.specs.declared.system.Act.{Act as ActNode}
use Rattle.rt_meaning.specs.declared.system.Task.{Task as TaskNode}
use Rattle.rt_work_state.specs.Nodes.{items}
use Rattle.rt_meaning.specs.Step.{Over, Doing, with_todo, on_values, returned}
use Rattle.rt_meaning.specs.States.{act, acts, doing, task}

pub returned_none : (v : Option Datum) (callers : List ActNode) (own : List Datum) → None ≡ slice_get callers 0 → Over own ≡ returned v (acts callers) own
returned_none v [] own e = refl
returned_none v (a ∷ rest) own e = absurd (cc e)

pub returned_back : (v : Option Datum) (callers : List ActNode) (a : ActNode) (own values : List Datum) (t : TaskNode) → Some a ≡ slice_get callers 0 → values ≡ on_values v a.scene.values → t.ended ≡ None → ((b : ActNode) (rest : List ActNode) → callers ≡ b ∷ rest → doing t ≡ Doing (with_todo (act b) (items b.scene.todo) values b.scene.locals) (acts rest) own) → task t ≡ returned v (acts callers) own
returned_back v [] a own values t e ve te back = absurd (cc e)
returned_back v (b ∷ rest) a own values t e ve te back =
    let same : a ≡ b = cc in rw te (back b rest refl ∙ rw (ve, same) refl)
