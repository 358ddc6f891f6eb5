-- The stacks of an accepted system.
use Rattle.std.specs.Prelude.{◌≡◌, ℕ, List, length, Some, slice_get}
use Rattle.rt_tree_nodes.specs.declared.store.Proc.{Proc}
use Rattle.rt_object.specs.declared.object.Content.TheVariants as content
use Rattle.rt_object.specs.declared.object.ObjectParts.{ObjectParts}
use Rattle.rt_system.specs.declared.parts.Task.{Task}
use Rattle.rt_graph.specs.Tasks.{IsFirstEntry, AreRoots}
use Rattle.rt_link.specs.Verdict.{stack_bricks}

-- each task has the first stack brick of its name
pub record AreStacks (objects : List ObjectParts) (tasks : List Task) (stacks : List Proc) : Type 0 where
  pub one_each : length stacks ≡ length tasks
  pub each : (i : ℕ) (t : Task) → slice_get tasks i ≡ Some t → (f : Proc) × (words : ℕ) × (slice_get stacks i ≡ Some f) × IsFirstEntry objects t.stack f (content.Stack words)

-- where the tasks have roots, each has its stack brick
abbrev pub EachHasAStack : Type 0
EachHasAStack = (objects : List ObjectParts) (tasks : List Task) (roots : List Proc) → AreRoots objects tasks roots → AreStacks objects tasks (stack_bricks objects tasks)
