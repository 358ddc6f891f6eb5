-- How many items a procedure has, by the numbers of the first and the last.
use Rattle.std.proofs.Common.{ℕ, ◌<◌, List, [], ◌∷◌, length, arith}
use Rattle.std.specs.List.{AllByRecursion}
use Rattle.rt_bricks.specs.declared.tree.Declaration.{Declaration}
use Rattle.rt_bricks.specs.declared.tree.Declaration.TheVariants as d
use Rattle.rt_bricks_laws.specs.Counted.{Counted}
use Rattle.rt_bricks_laws.proofs.Bricks.{procedures_counted}
use Rattle.rt_bricks_laws.specs.Laws.{ItemsCounted, ItemsAreCounted}

counted_items : (total : ℕ) (y : Declaration) → total < 65536 → Counted total y → ItemsCounted y
counted_items total (d.Procedure b) few h =
    let some = h.items in
    let there = h.there in
    (omega arith, omega arith)
counted_items total (d.Record x) few h = tt
counted_items total (d.Data x) few h = tt
counted_items total (d.Stack x) few h = tt
counted_items total (d.ImportedProcedures x) few h = tt
counted_items total (d.ImportedData x) few h = tt
counted_items total (d.ImportedStacks x) few h = tt

each_counted : (total : ℕ) (ys : List Declaration) → total < 65536 → AllByRecursion (Counted total) ys → AllByRecursion ItemsCounted ys
each_counted total [] few h = tt
each_counted total (y ∷ ys) few h = (counted_items total y few h.0, each_counted total ys few h.1)

pub items_counted : ItemsAreCounted
items_counted items it few derived = each_counted (length items) it.declarations few (procedures_counted items it few derived)
