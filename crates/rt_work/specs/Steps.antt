-- What one thing to be done leaves, in terms of what the code holds of an activation.
use Rattle.std.specs.Prelude.{◌≡◌, ◌+◌, ◌<◌, List, ◌∷◌, Option, Some, None}
use Rattle.rt_tree_nodes.specs.declared.store.Datum.{Datum}
use Rattle.rt_tree_nodes.specs.Tree.{Stmt}
use Rattle.rt_work_state.specs.declared.scene.Item.{Item as ItemNode}
use Rattle.rt_work_state.specs.declared.scene.Next.{Next as NextNode}
use Rattle.rt_work_state.specs.declared.scene.Env.{Env as EnvNode}
use Rattle.rt_work_state.specs.declared.scene.Scene.{Scene}
use Rattle.rt_work_state.specs.Items.{Item, Next}
use Rattle.rt_work_state.specs.Nodes.{env, items, made}
use Rattle.rt_work.specs.Task as task
use Rattle.rt_work.specs.Task.{next}
use Rattle.rt_work.specs.Weights.{weight_s, weight_of, weights}

-- the same after one thing, which may leave more to do
abbrev pub onward : EnvNode → Option NextNode → List ItemNode → List Datum → List Datum → Next
onward e None todo vs ls = next (env e) (items todo) vs ls
onward e (Some a) todo vs ls = made a (items todo) vs ls

-- From scene a one thing was done, which left scene b, and was the next visible step where o tells it.
abbrev pub Does : EnvNode → Item → Scene → Scene → Option NextNode → Type 0
Does e i a b o = next (env e) (i ∷ items a.todo) a.values a.locals ≡ onward e o b.todo b.values b.locals

-- Where it was no visible step, less is left to be done.
abbrev pub Lightens : Item → Scene → Scene → Option NextNode → Type 0
Lightens i a b o = o ≡ None → weights (items b.todo) < weight_of i + weights (items a.todo)

-- From scene a the invisible work up to the next visible step o left scene b.
abbrev pub Advances : EnvNode → Scene → Scene → NextNode → Type 0
Advances e a b o = next (env e) (items a.todo) a.values a.locals ≡ made o (items b.todo) b.values b.locals

-- what was taken off the values, and what is left of them
abbrev pub taken_off : {A : Type 0} → Option A → List Datum → Option (A × List Datum)
taken_off None vs = None
taken_off (Some a) vs = Some (a, vs)

-- what a statement does, where what comes after it is already there
abbrev pub Begins : EnvNode → Stmt → Scene → Scene → Option NextNode → Type 0
Begins e a from to o =
    task.first_s (env e) a (items from.todo) (λ us ks. next (env e) (items from.todo) us ks) from.values from.locals ≡ onward e o to.todo to.values to.locals

abbrev pub BeginsLight : Stmt → Scene → Scene → Option NextNode → Type 0
BeginsLight a from to o = o ≡ None → weights (items to.todo) < weight_s a + weights (items from.todo) + 1
