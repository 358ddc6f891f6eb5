-- The stack table of a system: a line for each procedure that needs words, by module and declaration, and one for each task.
use Rattle.std.specs.Prelude.{ℕ, suc, List, [], ◌∷◌, ◌++◌, codes, decimal, Option, Some, None}
use Rattle.rt_tree_nodes.specs.declared.store.Proc.{Proc}
use Rattle.rt_object.specs.declared.object.Brick.{Brick}
use Rattle.rt_object.specs.declared.object.ObjectParts.{ObjectParts}
use Rattle.rt_system.specs.declared.parts.Task.{Task}
use Rattle.rt_graph.specs.Calls.{brick}
use Rattle.rt_graph.specs.Numbers.{and_then}
use Rattle.rt_graph.specs.Scans.{root_named, stack_named}
use Rattle.rt_report.specs.Lines.{line, dotted}

unfoldable pub proc_line : List ℕ → List ℕ → ℕ → List ℕ
proc_line title name need = line (codes "PROC" ∷ dotted title name ∷ codes "NEED" ∷ decimal need ∷ [])

unfoldable pub task_line : List ℕ → List ℕ → ℕ → ℕ → List ℕ
task_line name stack need has = line (codes "TASK" ∷ name ∷ codes "STACK" ∷ stack ∷ codes "NEED" ∷ decimal need ∷ codes "HAS" ∷ decimal has ∷ [])

-- a brick without a need has no line
abbrev pub line_of : List ℕ → List ℕ → Option ℕ → List ℕ
line_of title name None = []
line_of title name (Some need) = proc_line title name need

-- a task has a line where its root has a need, and its stack a length
abbrev pub line_with : Task → Option ℕ → Option ℕ → List ℕ
line_with t (Some need) (Some has) = task_line t.name t.stack need has
line_with t _ _ = []

-- the words that procedures need, by what is told of each
module _ (need : Proc → Option ℕ) where
  -- bricks of module m, from number b on
  abbrev pub bricks_text : List ℕ → ℕ → ℕ → List Brick → List ℕ
  bricks_text title m b [] = []
  bricks_text title m b (d ∷ ds) = line_of title d.name (need (brick m b)) ++ bricks_text title m (suc b) ds

  -- modules from number m on
  abbrev pub modules_text : ℕ → List ObjectParts → List ℕ
  modules_text m [] = []
  modules_text m (o ∷ os) = bricks_text o.title m 0 o.bricks ++ modules_text (suc m) os

  abbrev pub root_need : List ObjectParts → List ℕ → Option ℕ
  root_need objects name = and_then (root_named objects name) need

  abbrev pub task_text : List ObjectParts → Task → List ℕ
  task_text objects t = line_with t (root_need objects t.root) (stack_named objects t.stack)

  abbrev pub tasks_text : List ObjectParts → List Task → List ℕ
  tasks_text objects [] = []
  tasks_text objects (t ∷ ts) = task_text objects t ++ tasks_text objects ts

  abbrev pub table_text : List ObjectParts → List Task → List ℕ
  table_text objects tasks = modules_text 1 objects ++ tasks_text objects tasks
