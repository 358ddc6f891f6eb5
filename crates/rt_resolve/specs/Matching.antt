-- Modules that match, so that they make a system.
use Rattle.std.specs.Prelude.{◌≡◌, ◌⊎◌, ℕ, suc, true, [], ◌∷◌, Some, None, slice_get}
use Rattle.rt_modes.specs.declared.mode.Mode.{Mode}
use Rattle.rt_modes.specs.declared.mode.ModeTable.{ModeTable}
use Rattle.rt_modes.specs.FullMode.{FullMode, FullData}
use Rattle.rt_tree_nodes.specs.declared.brick.Brick.{Brick}
use Rattle.rt_tree_nodes.specs.declared.brick.BrickSort.{BrickSort}
use Rattle.rt_tree_nodes.specs.declared.brick.BrickSort.TheVariants as sort
use Rattle.rt_tree_nodes.specs.declared.brick.Kind.TheVariants as kind
use Rattle.rt_tree_nodes.specs.declared.brick.ModuleParts.{ModuleParts}
use Rattle.rt_tree_nodes.specs.Scopes.{face, is_errors, is_streams}
use Rattle.rt_modes.specs.Bricks.{supplied_names}
use Rattle.rt_tree.specs.Stored.{System, HasBrick}
use Rattle.rt_modes.specs.declared.mode.Mode.TheVariants as mode

-- the table of module 0, whose supplied procedures need no records
abbrev pub no_records : ModeTable
no_records = record { records = [] }

abbrev pub int_taken : Mode
int_taken = mode.Proc (mode.Int ∷ []) None

abbrev pub int_given : Mode
int_given = mode.Proc [] (Some mode.Int)

-- the supplied procedures
pub data IsSupplied : ℕ → Mode → Type 0 where
  rrin : IsSupplied 1 (mode.Proc [] (Some mode.Byte))
  rrout : IsSupplied 2 (mode.Proc (mode.Byte ∷ []) None)
  delay : IsSupplied 3 int_taken
  wait : IsSupplied 4 int_taken
  signal : IsSupplied 5 int_taken
  secure : IsSupplied 6 int_taken
  release : IsSupplied 7 int_taken
  clock : IsSupplied 8 int_given
  taskno : IsSupplied 9 int_given
  rrgel : IsSupplied 10 int_taken

-- two bricks of one sort and one full mode
abbrev pub SortSame : ModeTable → ModeTable → BrickSort → BrickSort → Type 0
SortSame t u (sort.Proc m body) (sort.Proc n other) = FullMode t m ≡ FullMode u n
SortSame t u (sort.Data fs ss) (sort.Data gs ts) = FullData t fs ≡ FullData u gs
SortSame t u (sort.Stack k) (sort.Stack n) = Unit {0}
SortSame _ _ _ _ = ⊥

-- An SVC brick is a supplied procedure of its name and full mode, or supplied data with its items.
abbrev pub SuppliedSame : ModuleParts → Brick → BrickSort → Type 0
SuppliedSame p d (sort.Proc m body) = (k : ℕ) × (n : Mode) × (slice_get supplied_names k ≡ Some d.name) × IsSupplied (suc k) n × (FullMode p.modes m ≡ FullMode no_records n)
SuppliedSame p d (sort.Data fs ss) = (is_errors (face d) ≡ true) ⊎ (is_streams (face d) ≡ true)
SuppliedSame p d (sort.Stack n) = ⊥

-- The modules match: no two ENT bricks have one name, each EXT brick has an ENT brick of its name, sort and full mode, and each
-- SVC brick is supplied.
pub record Matched (ps : System) : Type 0 where
  pub one : {m b n c : ℕ} {p q : ModuleParts} {d e : Brick} → HasBrick ps m b p d → d.kind ≡ kind.Ent → HasBrick ps n c q e → e.kind ≡ kind.Ent → d.name ≡ e.name → (m ≡ n) × (b ≡ c)
  pub entries : {m b : ℕ} {p : ModuleParts} {d : Brick} → HasBrick ps m b p d → d.kind ≡ kind.Ext
      → (n c : ℕ) × (q : ModuleParts) × (e : Brick) × HasBrick ps n c q e × (e.kind ≡ kind.Ent) × (e.name ≡ d.name) × SortSame p.modes q.modes d.sort e.sort
  pub supplied : {m b : ℕ} {p : ModuleParts} {d : Brick} → HasBrick ps m b p d → d.kind ≡ kind.Svc → SuppliedSame p d d.sort
