-- What the grammar gives of a module's procedures.
use Rattle.std.specs.Prelude.{◌≡◌, ◌<◌, ◌≤◌, true, List, length}
use Rattle.std.specs.List.{AllByRecursion}
use Rattle.rt_pieces.specs.declared.item.Item.{Item}
use Rattle.rt_bricks.specs.declared.tree.Declaration.{Declaration}
use Rattle.rt_bricks.specs.declared.tree.Declaration.TheVariants as declaration
use Rattle.rt_bricks.specs.declared.tree.Module.{Module}
use Rattle.rt_bricks.specs.Derives.{Derives}
use Rattle.rt_bricks_laws.specs.Counts.{in_procedure}
use Rattle.rt_bricks.specs.Counted.{items_of}
use Rattle.rt_bricks_laws.specs.Bodies.{labels_in_body, body_is_broad}

-- The items from PROC to ENDPROC have numbers of 16 bits, and are no fewer than those of the parts.
abbrev pub ItemsCounted : Declaration → Type 0
ItemsCounted (declaration.Procedure b) = (in_procedure b ≤ items_of b) × (items_of b < 65536)
ItemsCounted _ = Unit {0}

abbrev pub ItemsAreCounted : Type 0
ItemsAreCounted = (items : List Item) (it : Module) → length items < 65536 → Derives items it → AllByRecursion ItemsCounted it.declarations

-- A body is broad: a SWITCH has a label, an IF a branch, and what AND and OR join are two or more.
abbrev pub BodyIsBroad : Declaration → Type 0
BodyIsBroad (declaration.Procedure b) = body_is_broad b.body ≡ true
BodyIsBroad _ = Unit {0}

abbrev pub BodiesAreBroad : Type 0
BodiesAreBroad = (items : List Item) (it : Module) → Derives items it → AllByRecursion BodyIsBroad it.declarations

-- The labels of a body have numbers of 16 bits.
abbrev pub LabelsFew : Declaration → Type 0
LabelsFew (declaration.Procedure b) = labels_in_body b.body < 65536
LabelsFew _ = Unit {0}

abbrev pub LabelsAreFew : Type 0
LabelsAreFew = (items : List Item) (it : Module) → length items < 65536 → Derives items it → AllByRecursion LabelsFew it.declarations
