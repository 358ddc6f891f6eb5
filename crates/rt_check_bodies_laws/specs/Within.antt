-- Each procedure of a module in whose text no fault stands is within what a procedure may take.
use Rattle.std.specs.Prelude.{◌≡◌, ℕ, ◌<◌, ◌≤◌, true, List, [], length, Some, slice_get}
use Rattle.std.specs.List.{AllByRecursion, list_all}
use Rattle.rt_pieces.specs.declared.item.Item.{Item}
use Rattle.rt_bricks.specs.declared.tree.Declaration.TheVariants as declaration
use Rattle.rt_bricks.specs.declared.tree.Module.{Module}
use Rattle.rt_bricks.specs.declared.tree.ProcedureBrick.{ProcedureBrick}
use Rattle.rt_bricks.specs.Derives.{Derives}
use Rattle.rt_bricks_laws.specs.Counts.{in_procedure}
use Rattle.rt_tree_nodes.specs.declared.brick.BrickSort.{BrickSort}
use Rattle.rt_tree_nodes.specs.declared.brick.BrickSort.TheVariants as sort
use Rattle.rt_tree_nodes.specs.declared.brick.Local.{Local}
use Rattle.rt_tree_nodes.specs.declared.brick.ModuleParts.{ModuleParts}
use Rattle.rt_tree_nodes.specs.declared.brick.ProcBody.{ProcBody}
use Rattle.rt_tree_nodes.specs.Scopes.{scope_of, with_locals}
use Rattle.rt_tree.specs.Modules.{local_stands, every_node_fits, with_most}
use Rattle.rt_tree.specs.Statements.{Sight as Seen}
use Rattle.rt_tree.specs.Within.{ProcWithin, Within}
use Rattle.rt_exprs.specs.Sights.{Sight}
use Rattle.rt_check_bodies.specs.Procedures.{procedure, faults}
use Rattle.rt_bricks.specs.Counted.{items_of}
use Rattle.rt_check_bodies_laws.specs.Held.{Holds}
use Rattle.rt_bricks_laws.specs.Bodies.{body_is_broad}
use Rattle.rt_check_bodies_laws.specs.Modes.{ModesStand}

-- ---- a procedure by itself

-- Its text, as the grammar gives it: its items have numbers of 16 bits, and are no fewer than those of its parts.
pub record IsSound (b : ProcedureBrick) : Type 0 where
  pub broad : body_is_broad b.body ≡ true
  pub parts : in_procedure b ≤ items_of b
  pub few : items_of b < 65536

-- its locals, its parameters among them, have numbers of 16 bits
abbrev pub LocalsAreFew : Type 0
LocalsAreFew = (s : Sight) (b : ProcedureBrick) → IsSound b → length (procedure s b).locals < 65536

-- What is seen where it stands, and the modes of its module and of its locals, over the tree p of its module.
pub record IsHeld (p : ModuleParts) (s : Sight) (b : ProcedureBrick) : Type 0 where
  pub outside : (seen : Seen) → Holds (with_locals (scope_of p) (procedure s b).locals) s seen
  pub modes : ModesStand (scope_of p)
  pub standing : list_all (local_stands (length p.modes.records)) (procedure s b).locals ≡ true

-- so many of the locals are the parameters
abbrev pub ProceduresAreWithin : Type 0
ProceduresAreWithin = (p : ModuleParts) (s : Sight) (b : ProcedureBrick) (count : ℕ) → IsSound b → IsHeld p s b → faults s b ≡ [] → count ≤ length (procedure s b).locals → ProcWithin p count (procedure s b)

-- ---- a whole module

-- A body is that of a procedure of the text, in which no fault stands.
pub record IsRead (s : Sight) (it : Module) (body : ProcBody) : Type 0 where
  pub brick : ProcedureBrick
  pub place : ℕ
  pub there : slice_get it.declarations place ≡ Some (declaration.Procedure brick)
  pub none : faults s brick ≡ []
  pub is : body ≡ procedure s brick

abbrev pub SortRead : Sight → Module → BrickSort → Type 0
SortRead s it (sort.Proc m (Some body)) = IsRead s it body
SortRead s it _ = Unit {0}

-- The tree p has the bodies that the text gives, and what is seen in them is there.
pub record IsMade (p : ModuleParts) (s : Sight) (it : Module) : Type 0 where
  pub outside : (ls : List Local) (seen : Seen) → Holds (with_locals (scope_of p) ls) s seen
  pub bodies : AllByRecursion (λ b. SortRead s it b.sort) p.bricks

abbrev pub ModulesAreWithin : Type 0
ModulesAreWithin = (items : List Item) (it : Module) (p : ModuleParts) (s : Sight) → length items < 65536 → Derives items it → every_node_fits p ≡ true → IsMade p s it → Within p

-- So it stays where the bound of a recursion is set.
abbrev pub BoundsStayWithin : Type 0
BoundsStayWithin = (p : ModuleParts) (k most : ℕ) → Within p → Within (with_most p k most)
