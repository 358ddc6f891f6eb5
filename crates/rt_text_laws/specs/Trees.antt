-- What the typed tree of a text has, as the items, the grammar and the checker make it.
use Rattle.std.specs.Prelude.{◌≡◌, ◌≢◌, ℕ, ◌<◌, ◌≤◌, true, false, List, [], length, Option, Some, Ok, slice_get}
use Rattle.std.specs.List.{AllByRecursion}
use Rattle.rt_modes.specs.declared.mode.Field.{Field}
use Rattle.rt_modes.specs.declared.mode.Mode.{Mode, out-Mode}
use Rattle.rt_modes.specs.declared.mode.Mode.TheOpen.{Mode-F}
use Rattle.rt_modes.specs.declared.mode.RecordDef.{RecordDef}
use Rattle.rt_tree_nodes.specs.declared.brick.Brick.{Brick}
use Rattle.rt_tree_nodes.specs.declared.brick.BrickSort.TheVariants as sort
use Rattle.rt_tree_nodes.specs.declared.brick.DataStart.{DataStart}
use Rattle.rt_tree_nodes.specs.declared.brick.ModuleParts.{ModuleParts}
use Rattle.rt_tree_nodes.specs.declared.brick.ProcBody.{ProcBody}
use Rattle.rt_tree_nodes.specs.Scopes.{is_svc}
use Rattle.rt_pieces.specs.declared.item.Item.{Item}
use Rattle.rt_items.specs.Lets.{Items}
use Rattle.rt_items.specs.Ranges.{InRange}
use Rattle.rt_tree.specs.Depth.{sequence_recovers}
use Rattle.rt_tree.specs.Modules.{every_node_fits}
use Rattle.rt_tree.specs.Opened.{IsField, IsTable}
use Rattle.rt_tree.specs.Within.{Within, parameters_of, tree_of}
use Rattle.rt_bricks_laws.specs.Spelled.{IsSpelledName}
use Rattle.rt_check.specs.Texts.{IsTree}
use Rattle.rt_meaning_laws.specs.Modules.{BodyNamed}
use Rattle.rt_meaning_laws.specs.Starting.{NumbersFit}

-- Each item of a text is in range, whatever numbers stand for its bytes.
abbrev pub ItemsAreRanged : Type 0
ItemsAreRanged = (text : List ℕ) (items : List Item) → Items text (Ok items) → AllByRecursion InRange items

-- ---- records and data

-- Each record has a field.
abbrev pub RecordsHaveFields : ModuleParts → Type 0
RecordsHaveFields p = (r : ℕ) (d : RecordDef) → slice_get p.modes.records r ≡ Some d → d.fields ≢ []

-- P holds of the items of each data brick.
abbrev pub EachData : ModuleParts → (Brick → List Field → Type 0) → Type 0
EachData p P = (b : ℕ) (d : Brick) (fs : List Field) (ss : List DataStart) → slice_get p.bricks b ≡ Some d → d.sort ≡ sort.Data fs ss → P d fs

-- The names of these items are words, none of them a mode's, and no two have one name.
pub record AreNamed (fs : List Field) : Type 0 where
  pub names : AllByRecursion (λ f. IsSpelledName f.name) fs
  pub apart : (i j : ℕ) (f g : Field) → slice_get fs i ≡ Some f → slice_get fs j ≡ Some g → f.name ≡ g.name → i ≡ j

-- ---- procedures

-- P holds of each procedure with a body.
abbrev pub EachBody : ModuleParts → (Mode → ProcBody → Type 0) → Type 0
EachBody p P = (k : ℕ) (d : Brick) (w : Mode) (body : ProcBody) → slice_get p.bricks k ≡ Some d → d.sort ≡ sort.Proc w (Some body) → P w body

-- No procedure recovers anywhere.
abbrev pub NothingRecovers : ModuleParts → Type 0
NothingRecovers p = EachBody p (λ w body. sequence_recovers (tree_of p body) ≡ false)

-- Each procedure has its PROC, name, parentheses, semicolon and ENDPROC.
abbrev pub ItemsAreSome : ModuleParts → Type 0
ItemsAreSome p = EachBody p (λ w body. 6 ≤ body.items)

abbrev pub ItemsAreFew : ModuleParts → Type 0
ItemsAreFew p = EachBody p (λ w body. body.items < 65536)

-- The parameters of a procedure are among its locals.
abbrev pub ParametersAreLocals : ModuleParts → Type 0
ParametersAreLocals p = EachBody p (λ w body. parameters_of w ≤ length body.locals)

-- ---- the whole

-- What the typed tree of a text has.
pub record TreePromise (p : ModuleParts) : Type 0 where
  pub nodes_fit : every_node_fits p ≡ true
  pub numbers_fit : NumbersFit p
  pub records_are_table : IsTable p.modes
  pub records_have_fields : RecordsHaveFields p
  pub items_are_fields : EachData p (λ d fs. is_svc d.kind ≡ false → AllByRecursion (IsField p.modes) fs)
  -- be they supplied, of another module or of its own
  pub items_are_named : EachData p (λ d fs. AreNamed fs)
  pub procedures_are_within : Within p
  pub parameters_are_locals : ParametersAreLocals p
  -- each names a local only where it has a value
  pub locals_have_values : EachBody p (λ w body. (ws : List Mode) (o : Option Mode) → out-Mode w ≡ Mode-F.Proc ws o → BodyNamed p body ws o)
  pub nothing_recovers : NothingRecovers p
  pub items_are_some : ItemsAreSome p
  pub items_are_few : ItemsAreFew p

abbrev pub TreesPromise : Type 0
TreesPromise = (text : List ℕ) (p : ModuleParts) → IsTree text p → TreePromise p
