-- What the lines of tasks tell.
use Rattle.std.specs.Prelude.{◌≡◌, ℕ, List, Option, Some, slice_get}
use Rattle.rt_tree_nodes.specs.declared.store.Proc.{Proc}
use Rattle.rt_object.specs.declared.object.ObjectParts.{ObjectParts}
use Rattle.rt_match.specs.declared.bindings.Bound.{Bound}
use Rattle.rt_system.specs.declared.parts.Task.{Task}
use Rattle.rt_graph.specs.Needs.{counted, HasNeed}
use Rattle.rt_graph.specs.Scans.{told_need}
use Rattle.rt_graph.specs.Tasks.{IsRootNamed, IsStackNamed, AreFound}
use Rattle.rt_report.specs.Stacks.{task_line, task_text}

-- the line of a task has the need of its root, as far as 32 bits count, and the words of its stack
pub record IsTold (objects : List ObjectParts) (of : List (List Bound)) (need : Proc → Option ℕ) (t : Task) : Type 0 where
  pub root : Proc
  pub is_root : IsRootNamed objects t.root root
  pub words : ℕ
  pub stack : IsStackNamed objects t.stack words
  pub needed : ℕ
  pub needs : HasNeed objects of root needed
  pub told : task_text need objects t ≡ task_line t.name t.stack (counted needed) words

-- where the order and the needs were found for the tasks of a system, each of them has such a line
abbrev pub EachTaskIsTold : Type 0
EachTaskIsTold = (objects : List ObjectParts) (tasks : List Task) (of : List (List Bound)) (order : List Proc) (needs : List ℕ) (i : ℕ) (t : Task)
    → AreFound objects tasks of order needs → slice_get tasks i ≡ Some t → IsTold objects of (told_need order needs) t
