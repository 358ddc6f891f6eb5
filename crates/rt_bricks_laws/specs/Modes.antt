-- How deep the modes are that a module writes, each where it stands.
use Rattle.std.specs.Prelude.{◌≡◌, ℕ, ◌+◌, ◌≤◌, Bool, true, ◌&&◌, List, [], ◌∷◌, length, map, Option, Some, None}
use Rattle.std.specs.List.{AllByRecursion}
use Rattle.rt_pieces.specs.declared.item.Item.{Item}
use Rattle.rt_syntax_exprs.specs.declared.tree.WrittenMode.{WrittenMode}
use Rattle.rt_syntax.specs.declared.tree.Body.{Body}
use Rattle.rt_syntax.specs.declared.tree.Locals.{Locals}
use Rattle.rt_syntax.specs.declared.tree.Simple.TheFolds.{fold-Simple, fold-Body, fold-Branch, fold-Stmt}
use Rattle.rt_syntax.specs.declared.tree.Simple.TheOpen.{Simple-F, Body-F, Branch-F, Stmt-F}
use Rattle.rt_syntax.specs.declared.tree.Branch.{Branch}
use Rattle.rt_syntax.specs.declared.tree.Simple.{Simple}
use Rattle.rt_syntax.specs.declared.tree.Stmt.{Stmt}
use Rattle.rt_bricks.specs.declared.tree.DataLine.{DataLine}
use Rattle.rt_bricks.specs.declared.tree.Declaration.{Declaration}
use Rattle.rt_bricks.specs.declared.tree.Declaration.TheVariants as declaration
use Rattle.rt_bricks.specs.declared.tree.Fields.{Fields}
use Rattle.rt_bricks.specs.declared.tree.Module.{Module}
use Rattle.rt_bricks.specs.declared.tree.ProcedureBrick.{ProcedureBrick}
use Rattle.rt_bricks.specs.Derives.{Derives}
use Rattle.rt_bricks_laws.specs.Shallow.{shallow}
use Rattle.rt_bricks_laws.specs.Bodies.{all, all_if, true_if}

-- At most so many modes open, and at most eight REF stand in a row.
abbrev pub IsShallow : ℕ → WrittenMode → Type 0
IsShallow levels w = shallow w levels 8 ≡ true

-- ---- the declarations of bodies

abbrev pub locals_shallow : Locals → Bool
locals_shallow l = shallow l.mode 100 8

-- those of a block, and of all blocks inside it
abbrev pub simple_modes : Simple-F Bool Bool Bool Bool → Bool
simple_modes (Simple-F.Block b at) = b
simple_modes (Simple-F.If bs e at) = all bs && all_if e
simple_modes (Simple-F.For c limit xs at) = all xs
simple_modes (Simple-F.While c xs at) = all xs
simple_modes _ = true

abbrev pub body_modes : Body-F Bool Bool Bool Bool → Bool
body_modes b = all (map locals_shallow b.locals) && all b.statements

abbrev pub branch_modes : Branch-F Bool Bool Bool Bool → Bool
branch_modes b = all b.taken

abbrev pub line_modes : Stmt-F Bool Bool Bool Bool → Bool
line_modes x = true_if x.simple

abbrev pub simple_is_shallow : Simple → Bool
simple_is_shallow = fold-Simple Bool Bool Bool Bool simple_modes body_modes branch_modes line_modes

abbrev pub body_is_shallow : Body → Bool
body_is_shallow = fold-Body Bool Bool Bool Bool simple_modes body_modes branch_modes line_modes

abbrev pub branch_is_shallow : Branch → Bool
branch_is_shallow = fold-Branch Bool Bool Bool Bool simple_modes body_modes branch_modes line_modes

abbrev pub line_is_shallow : Stmt → Bool
line_is_shallow = fold-Stmt Bool Bool Bool Bool simple_modes body_modes branch_modes line_modes

-- ---- declarations

abbrev pub FieldsShallow : ℕ → Fields → Type 0
FieldsShallow levels g = IsShallow levels g.mode

abbrev pub LineShallow : DataLine → Type 0
LineShallow l = IsShallow 100 l.mode

abbrev pub ResultShallow : Option WrittenMode → Type 0
ResultShallow None = Unit {0}
ResultShallow (Some w) = IsShallow 99 w

-- how many names stand in fields
abbrev pub names_in : List Fields → ℕ
names_in [] = 0
names_in (g ∷ gs) = length g.names + names_in gs

-- PROC opens a mode, so that one less may open in the parameters and in the result.
pub record IsShallowProcedure (b : ProcedureBrick) : Type 0 where
  pub fields : AllByRecursion (FieldsShallow 99) b.fields
  pub few : names_in b.fields ≤ 32
  pub result : ResultShallow b.result
  pub body : body_is_shallow b.body ≡ true

abbrev pub ModesShallow : Declaration → Type 0
ModesShallow (declaration.Record r) = AllByRecursion (FieldsShallow 100) r.fields
ModesShallow (declaration.Data b) = AllByRecursion LineShallow b.lines
ModesShallow (declaration.Stack b) = Unit {0}
ModesShallow (declaration.Procedure b) = IsShallowProcedure b
ModesShallow (declaration.ImportedProcedures x) = IsShallow 100 x.mode
ModesShallow (declaration.ImportedData x) = AllByRecursion (FieldsShallow 100) x.lines
ModesShallow (declaration.ImportedStacks x) = Unit {0}

abbrev pub ModesAreShallow : Type 0
ModesAreShallow = (items : List Item) (it : Module) → Derives items it → AllByRecursion ModesShallow it.declarations

-- Where more may open, a mode is shallow as well.
abbrev pub DeeperIsShallow : Type 0
DeeperIsShallow = (w : WrittenMode) (levels more refs : ℕ) → levels ≤ more → shallow w levels refs ≡ true → shallow w more refs ≡ true
