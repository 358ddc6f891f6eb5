-- Where the places of a system lie, by where its data bricks and strings begin.
use Rattle.std.specs.Prelude.{◌≡◌, ◌≢◌, ◌⊎◌, ℕ, ◌+◌, ◌%◌, ◌≤◌, true, List, [], ◌∷◌, length, Option, Some, None, slice_get}
use Rattle.rt_modes.specs.declared.mode.Field.{Field}
use Rattle.rt_modes.specs.declared.mode.RecordDef.{RecordDef}
use Rattle.rt_tree_nodes.specs.declared.brick.Brick.{Brick}
use Rattle.rt_tree_nodes.specs.declared.brick.BrickSort.{BrickSort}
use Rattle.rt_tree_nodes.specs.declared.brick.BrickSort.TheVariants as sort
use Rattle.rt_tree_nodes.specs.declared.brick.DataStart.{DataStart}
use Rattle.rt_tree_nodes.specs.declared.brick.ModuleParts.{ModuleParts}
use Rattle.rt_tree_nodes.specs.declared.store.Location.{Location}
use Rattle.rt_tree_nodes.specs.declared.store.Location.TheVariants.{Shared, Own}
use Rattle.rt_tree_nodes.specs.declared.store.Origin.{Origin}
use Rattle.rt_tree_nodes.specs.declared.store.Origin.TheVariants as origin
use Rattle.rt_tree.specs.Modules.{is_here}
use Rattle.rt_tree.specs.Stored.{System, HasBrick, module_of, text_mode}
use Rattle.rt_sizes.specs.Containing.{Contains}
use Rattle.rt_sizes.specs.Sizes.{even, fields_end, offset}
use Rattle.rt_places.specs.Places.{AreSizes}
use Rattle.rt_places.specs.Along.{number, by, mode_of, reach}

-- ---- what is there

abbrev pub records_in : Option ModuleParts → List RecordDef
records_in None = []
records_in (Some p) = p.modes.records

abbrev pub brick_in : Option ModuleParts → ℕ → Option Brick
brick_in None b = None
brick_in (Some p) b = slice_get p.bricks b

abbrev pub string_in : Option ModuleParts → ℕ → Option (List ℕ)
string_in None k = None
string_in (Some p) k = slice_get p.strings k

abbrev pub fields_by : BrickSort → List Field
fields_by (sort.Data fs ss) = fs
fields_by _ = []

abbrev pub items_in : Option Brick → List Field
items_in None = []
items_in (Some d) = fields_by d.sort

abbrev pub module_in : Origin → ℕ
module_in (origin.Brick m b) = m
module_in (origin.Text m k) = m

-- a system, the sizes of the records of each module, and where each data brick and string begins
module _ (ps : System) (S : ℕ → ℕ → Option ℕ) where
  abbrev pub items : ℕ → ℕ → List Field
  items m b = items_in (brick_in (module_of ps m) b)

  -- where a place begins in its brick or string
  abbrev pub offset_at : Origin → List ℕ → ℕ
  offset_at (origin.Brick m b) [] = 0
  offset_at (origin.Brick m b) (j ∷ path) = number (offset (S m) (items m b) j) + by (reach (records_in (module_of ps m)) (S m) path) (mode_of (slice_get (items m b) j))
  offset_at (origin.Text m k) path = by (λ s. reach (records_in (module_of ps m)) (S m) path (text_mode s)) (string_in (module_of ps m) k)

  -- how many bytes a data brick or a string has that is there
  pub record IsBrick (m b n : ℕ) : Type 0 where
    pub parts : ModuleParts
    pub brick : Brick
    pub fields : List Field
    pub starts : List DataStart
    pub has : HasBrick ps m b parts brick
    pub here : is_here brick.kind ≡ true
    pub sort : brick.sort ≡ sort.Data fields starts
    pub ends : fields_end (S m) fields 0 ≡ Some n

  pub record IsText (m k n : ℕ) : Type 0 where
    pub parts : ModuleParts
    pub text : List ℕ
    pub of : module_of ps m ≡ Some parts
    pub at : slice_get parts.strings k ≡ Some text
    pub bytes : n ≡ even (2 + length text)

  abbrev pub HasRoom : Origin → ℕ → Type 0
  HasRoom (origin.Brick m b) n = IsBrick m b n
  HasRoom (origin.Text m k) n = IsText m k n

  -- all records, and the items of all data bricks, have sizes, none of which is 0; and no record contains itself
  pub record HasSizes : Type 0 where
    pub records : (m : ℕ) (p : ModuleParts) → module_of ps m ≡ Some p → AreSizes p.modes.records (S m)
    pub some : (m r n : ℕ) → S m r ≡ Some n → 1 ≤ n
    pub no_ring : (m r : ℕ) (p : ModuleParts) → module_of ps m ≡ Some p → Contains p.modes.records r r → ⊥
    pub items : (m b : ℕ) (p : ModuleParts) (d : Brick) (fs : List Field) (ss : List DataStart) → HasBrick ps m b p d → is_here d.kind ≡ true → d.sort ≡ sort.Data fs ss → (n : ℕ) × (fields_end (S m) fs 0 ≡ Some n)

  module _ (base : Origin → ℕ) where
    abbrev pub address : Location → ℕ
    address (Shared o path) = base o + offset_at o path
    address (Own k) = 0

    -- what is there lies between two addresses, begins at an even one, and lies apart
    pub record AreBases (from to : ℕ) : Type 0 where
      pub even_base : (o : Origin) (n : ℕ) → HasRoom o n → base o % 2 ≡ 0
      pub above : (o : Origin) (n : ℕ) → HasRoom o n → from ≤ base o
      pub below : (o : Origin) (n : ℕ) → HasRoom o n → base o + n ≤ to
      pub apart : (o p : Origin) (n k : ℕ) → HasRoom o n → HasRoom p k → o ≢ p → (base o + n ≤ base p) ⊎ (base p + k ≤ base o)
