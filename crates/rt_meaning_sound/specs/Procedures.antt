-- The procedures that the checker makes name a local only where it has a value, whichever way control comes there.
use Rattle.std.specs.Prelude.{◌≡◌, ℕ, ◌<◌, true, List, [], length, map, Option, Some, slice_get}
use Rattle.std.specs.List.{list_all}
use Rattle.rt_pieces.specs.declared.item.Item.{Item as TextItem}
use Rattle.rt_bricks.specs.declared.tree.Module.{Module}
use Rattle.rt_bricks.specs.declared.tree.ProcedureBrick.{ProcedureBrick}
use Rattle.rt_modes.specs.declared.mode.Mode.{Mode, out-Mode}
use Rattle.rt_modes.specs.declared.mode.Mode.TheOpen.{Mode-F}
use Rattle.rt_tree_nodes.specs.declared.brick.Brick.{Brick}
use Rattle.rt_tree_nodes.specs.declared.brick.BrickSort.TheVariants as sort
use Rattle.rt_tree_nodes.specs.declared.brick.Local.{Local}
use Rattle.rt_tree_nodes.specs.declared.brick.Local.TheVariants as local
use Rattle.rt_tree_nodes.specs.declared.brick.ModuleParts.{ModuleParts}
use Rattle.rt_tree_nodes.specs.declared.brick.ProcBody.{ProcBody}
use Rattle.rt_tree_nodes.specs.Scopes.{scope_of, with_locals}
use Rattle.rt_tree.specs.Modules.{local_stands}
use Rattle.rt_tree.specs.Statements.{Sight as Seen}
use Rattle.rt_exprs.specs.Sights.{Sight}
use Rattle.rt_check_bodies.specs.Procedures.{parameters, nothing_yet, procedure, faults}
use Rattle.rt_check_bodies_laws.specs.Held.{Holds}
use Rattle.rt_bricks_laws.specs.Bodies.{labels_in_body}
use Rattle.rt_bricks_laws.specs.Numbers.{words_in_body}
use Rattle.rt_check_bodies_laws.specs.Modes.{ModesStand}
use Rattle.rt_check_module.specs.Tree.{tree}
use Rattle.rt_check_module_laws.specs.Modules.{IsText, IsFaultless}
use Rattle.rt_meaning_laws.specs.Modules.{BodyNamed}

-- ---- a procedure by itself

-- Its text, as the grammar gives it: each number is a word, and there are fewer labels than 65,536.
pub record IsSound (b : ProcedureBrick) : Type 0 where
  pub words : words_in_body b.body ≡ true
  pub labels : labels_in_body b.body < 65536

-- Where it stands, over the tree p of its module: what is seen there is there in the tree, whatever the locals are, so that
-- none is seen from outside; the modes of the module and of its locals may stand; and its locals have numbers of 16 bits.
pub record IsHeld (p : ModuleParts) (s : Sight) (b : ProcedureBrick) : Type 0 where
  pub outside : (ls : List Local) (seen : Seen) → Holds (with_locals (scope_of p) ls) s seen
  pub modes : ModesStand (scope_of p)
  pub few : length (procedure s b).locals < 65536
  pub standing : list_all (local_stands (length p.modes.records)) (procedure s b).locals ≡ true

-- the modes of its parameters
abbrev pub HasParameters : Sight → ProcedureBrick → List Mode → Type 0
HasParameters s b ms = (parameters s [] b.fields nothing_yet).1.locals ≡ map local.Variable ms

-- A procedure in which no fault stands names each local only where it has a value.
abbrev pub ProceduresAreNamed : Type 0
ProceduresAreNamed = (p : ModuleParts) (s : Sight) (b : ProcedureBrick) (ms : List Mode) (r : Option Mode) → IsSound b → IsHeld p s b → faults s b ≡ [] → HasParameters s b ms → BodyNamed p (procedure s b) ms r

-- ---- a whole module

-- In a module in which no fault stands each procedure with a body does.
abbrev pub ModulesAreNamed : Type 0
ModulesAreNamed = (items : List TextItem) (m : Module) → IsText items m → IsFaultless m.declarations
    → (k : ℕ) (d : Brick) → slice_get (tree m).bricks k ≡ Some d
    → (w : Mode) (body : ProcBody) (ws : List Mode) (o : Option Mode) → d.sort ≡ sort.Proc w (Some body) → out-Mode w ≡ Mode-F.Proc ws o → BodyNamed (tree m) body ws o
