-- Where a whole system begins: a function of its modules and its tasks.
use Rattle.std.specs.Prelude.{List}
use Rattle.rt_tree_nodes.specs.declared.brick.ModuleParts.{ModuleParts}
use Rattle.rt_resolve.specs.Starting.{starting_store}
use Rattle.rt_meaning.specs.declared.begin.SourceTask.{SourceTask}
use Rattle.rt_meaning.specs.Roots.{roots, priorities}
use Rattle.rt_meaning.specs.Run.{State, start}

abbrev pub beginning : List ModuleParts → List SourceTask → State
beginning ps ts = start (starting_store ps) (roots ts) (priorities ts)
