-- The tasks of a system: their roots and their priorities.
use Rattle.std.specs.Prelude.{ℕ, List, map}
use Rattle.rt_tree_nodes.specs.declared.store.Proc.{Proc}
use Rattle.rt_meaning.specs.declared.begin.SourceTask.{SourceTask}

abbrev pub root_of : SourceTask → Proc
root_of t = record { «module» = t.root.0; brick = t.root.1 }

abbrev pub priority_of : SourceTask → ℕ
priority_of t = t.priority

abbrev pub roots : List SourceTask → List Proc
roots ts = map root_of ts

abbrev pub priorities : List SourceTask → List ℕ
priorities ts = map priority_of ts
