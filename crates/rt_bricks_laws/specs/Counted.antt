-- What the grammar gives of the number of items of a module's procedures.
use Rattle.std.specs.Prelude.{ℕ, ◌+◌, ◌<◌, ◌≤◌, List, length}
use Rattle.std.specs.List.{AllByRecursion}
use Rattle.rt_pieces.specs.declared.item.Item.{Item}
use Rattle.rt_bricks.specs.declared.tree.Declaration.{Declaration}
use Rattle.rt_bricks.specs.declared.tree.Declaration.TheVariants as declaration
use Rattle.rt_bricks.specs.declared.tree.Module.{Module}
use Rattle.rt_bricks.specs.declared.tree.ProcedureBrick.{ProcedureBrick}
use Rattle.rt_bricks.specs.Derives.{Derives}
use Rattle.rt_bricks_laws.specs.Counts.{in_procedure}

-- From PROC to ENDPROC there are as many items as the parts have at least, and ENDPROC is one of so many.
pub record IsCounted (total : ℕ) (b : ProcedureBrick) : Type 0 where
  pub items : b.opens.item + in_procedure b ≤ b.ends.item + 1
  pub there : b.ends.item < total

abbrev pub Counted : ℕ → Declaration → Type 0
Counted total (declaration.Procedure b) = IsCounted total b
Counted total _ = Unit {0}

-- Each procedure of a module of these items is counted.
abbrev pub ProceduresAreCounted : Type 0
ProceduresAreCounted = (items : List Item) (it : Module) → length items < 65536 → Derives items it → AllByRecursion (Counted (length items)) it.declarations
