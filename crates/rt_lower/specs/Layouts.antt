-- Where the items of data bricks and the fields of records begin, and how many bytes records have.
use Rattle.std.specs.Prelude.{◌≡◌, ℕ, true, List, [], length, replicate, Option, Some, None, slice_get}
use Rattle.rt_modes.specs.declared.mode.Field.{Field}
use Rattle.rt_modes.specs.declared.mode.Mode.{Mode}
use Rattle.rt_modes.specs.declared.mode.RecordDef.{RecordDef}
use Rattle.rt_sizes.specs.Capped.{table}
use Rattle.rt_sizes.specs.Sizes.{Table, Begins, RecordHasSize, size}
use Rattle.rt_tree_nodes.specs.declared.brick.Brick.{Brick}
use Rattle.rt_tree_nodes.specs.declared.brick.BrickSort.{BrickSort}
use Rattle.rt_tree_nodes.specs.declared.brick.BrickSort.TheVariants as sort
use Rattle.rt_tree_nodes.specs.declared.brick.ModuleParts.{ModuleParts}
use Rattle.rt_lower.specs.declared.layouts.Layouts.{Layouts}

-- ---- what is looked up

-- a number that is there
abbrev pub number : Option ℕ → ℕ
number None = 0
number (Some n) = n

abbrev pub row : Option (List ℕ) → List ℕ
row None = []
row (Some ns) = ns

-- number k of row j
abbrev pub entry : List (List ℕ) → ℕ → ℕ → ℕ
entry rows j k = number (slice_get (row (slice_get rows j)) k)

-- where item i of brick b begins
abbrev pub item_offset : Layouts → ℕ → ℕ → ℕ
item_offset l b i = entry l.items b i

-- where field k of record r begins
abbrev pub field_offset : Layouts → ℕ → ℕ → ℕ
field_offset l r k = entry l.fields r k

-- how many bytes a value of a mode has
abbrev pub bytes : Layouts → Mode → ℕ
bytes l m = number (size (slice_get l.sizes) m)

-- ---- which layouts are right

-- the records of a module, all of whose fields are known
abbrev pub table_of : List RecordDef → Table
table_of records = table records (replicate (length records) true)

-- where fields begin, one after the other
pub record AreOffsets (t : Table) (fs : List Field) (ns : List ℕ) : Type 0 where
  pub each : length ns ≡ length fs
  pub begin : (k n : ℕ) → slice_get ns k ≡ Some n → Begins t fs k n

abbrev pub fields_in : BrickSort → List Field
fields_in (sort.Data fs starts) = fs
fields_in _ = []

abbrev pub ItemsBegin : Table → Brick → List ℕ → Type 0
ItemsBegin t d ns = AreOffsets t (fields_in d.sort) ns

abbrev pub FieldsBegin : Table → RecordDef → List ℕ → Type 0
FieldsBegin t r ns = AreOffsets t r.fields ns

-- one row for each of some things
pub record AreRows {A : Type 0} (xs : List A) (rows : List (List ℕ)) (IsRow : A → List ℕ → Type 0) : Type 0 where
  pub each : length rows ≡ length xs
  pub right : (k : ℕ) (x : A) (ns : List ℕ) → slice_get xs k ≡ Some x → slice_get rows k ≡ Some ns → IsRow x ns

-- a number for each record
pub record AreRecordSizes (records : List RecordDef) (ns : List ℕ) : Type 0 where
  pub each : length ns ≡ length records
  pub right : (k n : ℕ) → slice_get ns k ≡ Some n → RecordHasSize (table_of records) k n

pub record AreLayouts (p : ModuleParts) (l : Layouts) : Type 0 where
  pub items : AreRows p.bricks l.items (ItemsBegin (table_of p.modes.records))
  pub fields : AreRows p.modes.records l.fields (FieldsBegin (table_of p.modes.records))
  pub sizes : AreRecordSizes p.modes.records l.sizes
