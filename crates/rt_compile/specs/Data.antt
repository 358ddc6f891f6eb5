-- The bytes of a data brick of a typed module, and the words in them that become addresses.
use Rattle.std.specs.Prelude.{ℕ, ◌+◌, ◌*◌, ◌%◌, ◌==◌, if◌then◌else◌, List, [], ◌∷◌, ◌++◌, length, map, Option, Some, None, slice_get}
use Rattle.rt_words.specs.Bytes.{word_bytes}
use Rattle.rt_modes.specs.declared.mode.Field.{Field}
use Rattle.rt_modes.specs.declared.mode.Mode.{Mode, out-Mode}
use Rattle.rt_modes.specs.declared.mode.Mode.TheOpen.{Mode-F}
use Rattle.rt_modes.specs.declared.mode.RecordDef.{RecordDef}
use Rattle.rt_tree_nodes.specs.declared.brick.DataStart.{DataStart}
use Rattle.rt_tree_nodes.specs.declared.brick.DataStart.TheFolds.{fold-DataStart}
use Rattle.rt_tree_nodes.specs.declared.brick.DataStart.TheOpen.{DataStart-F}
use Rattle.rt_tree_nodes.specs.Scopes.{Scope}
use Rattle.rt_tree.specs.Modules.{part_mode, shared_mode}
use Rattle.rt_object.specs.declared.object.Relocation.{Relocation}
use Rattle.rt_object.specs.declared.object.Relocated.{Relocated}
use Rattle.rt_object.specs.declared.object.Relocated.TheVariants as relocated
use Rattle.rt_lower.specs.declared.layouts.Layouts.{Layouts}
use Rattle.rt_lower.specs.Layouts.{item_offset, field_offset, bytes}
use Rattle.rt_compile.specs.declared.data.written.Data.{Data}

-- ---- what is written, one value behind another

abbrev pub nothing : Data
nothing = record { bytes = []; relocations = [] }

abbrev pub with_bytes : List ℕ → Data → Data
with_bytes bs d = record { bytes = d.bytes ++ bs; relocations = d.relocations }

-- with a zero byte behind it where the number of bytes is odd
abbrev pub even : Data → Data
even d = if length d.bytes % 2 == 1 then with_bytes (0 ∷ []) d else d

-- a word begins at an even place, with its low byte
abbrev pub word : ℕ → Data → Data
word n d = with_bytes (word_bytes n) (even d)

abbrev pub relocation : Relocated → ℕ → Data → Relocation
relocation of offset d = record { place = length d.bytes; of = of; offset = offset }

-- two zero bytes that become an address
abbrev pub hole : Relocated → ℕ → Data → Data
hole of offset d = record { bytes = d.bytes ++ 0 ∷ (0 ∷ []); relocations = d.relocations ++ relocation of offset d ∷ [] }

-- an address begins at an even place
abbrev pub address : Relocated → ℕ → Data → Data
address of offset d = hole of offset (even d)

-- ---- where a place of data begins in its brick

-- a number that goes by what is there
abbrev pub by : {A : Type 0} → ℕ → (A → ℕ) → Option A → ℕ
by n f None = n
by n f (Some x) = f x

-- where part k begins of a value that begins at n: a field of a record, or an element of an array behind its length word
abbrev pub part_begins : Layouts → ℕ → ℕ → Mode-F Mode → ℕ
part_begins l k n (Mode-F.Record r) = n + field_offset l r k
part_begins l k n (Mode-F.Array count m) = n + (2 + k * bytes l m)
part_begins l k n _ = n

-- where the part begins to which a path leads in a value that begins at n
abbrev pub along : Layouts → List RecordDef → List ℕ → ℕ → Mode → ℕ
along l records [] n m = n
along l records (k ∷ ks) n m =
    let begin = part_begins l k n (out-Mode m) in
    by begin (along l records ks begin) (part_mode records k (out-Mode m))

-- where the part of item j of brick b begins to which a path leads
abbrev pub offset_of : Layouts → Scope → ℕ → ℕ → List ℕ → ℕ
offset_of l c b j path = by (item_offset l b j) (along l c.records path (item_offset l b j)) (shared_mode c b j [])

-- ---- values by their starts

-- what is written behind what stands there, for a value of a mode
abbrev pub Writing : Type 0
Writing = Mode → Data → Data

-- a BYTE is one byte, any other number a word
abbrev pub number : ℕ → Mode-F Mode → Data → Data
number n Mode-F.Byte = with_bytes (n % 256 ∷ [])
number n _ = word n

abbrev pub elements : List Writing → Mode → Data → Data
elements [] m d = d
elements (f ∷ fs) m d = elements fs m (f m d)

abbrev pub fields : List Writing → List Field → Data → Data
fields [] xs d = d
fields (f ∷ fs) [] d = d
fields (f ∷ fs) (x ∷ xs) d = fields fs xs (f x.mode d)

abbrev pub record_fields : List Writing → Option RecordDef → Data → Data
record_fields fs None d = d
record_fields fs (Some r) d = fields fs r.fields d

-- An array is its length word and its elements, a record its fields. Each begins at an even place and ends at one.
abbrev pub listed : List RecordDef → List Writing → Mode-F Mode → Data → Data
listed records fs (Mode-F.Array n m) d = even (elements fs m (word n d))
listed records fs (Mode-F.Record r) d = even (record_fields fs (slice_get records r) (even d))
listed records fs _ d = d

module _ (l : Layouts) (c : Scope) where
  abbrev pub one_start : DataStart-F Writing → Writing
  one_start (DataStart-F.Number n) m = number n (out-Mode m)
  one_start (DataStart-F.Text s) m = address (relocated.String s) 0
  one_start (DataStart-F.Proc b) m = address (relocated.Brick b) 0
  one_start (DataStart-F.Place b j path) m = address (relocated.Brick b) (offset_of l c b j path)
  one_start (DataStart-F.List fs) m = listed c.records fs (out-Mode m)

  abbrev pub starts : DataStart → Writing
  starts = fold-DataStart Writing one_start

  -- a data brick of these items with these starts; they lie as the fields of a record, so it ends at an even place
  abbrev pub data_of : List Field → List DataStart → Data
  data_of fs ss = even (fields (map starts ss) fs nothing)
