-- How many items a procedure has.
use Rattle.std.specs.Prelude.{ℕ, ◌+◌, ◌-◌}
use Rattle.rt_bricks.specs.declared.tree.ProcedureBrick.{ProcedureBrick}

-- how many items there are from one to another, both counted
abbrev pub items_between : ℕ → ℕ → ℕ
items_between opens ends = ends + 1 - opens

-- the items from PROC to ENDPROC
abbrev pub items_of : ProcedureBrick → ℕ
items_of b = items_between b.opens.item b.ends.item
