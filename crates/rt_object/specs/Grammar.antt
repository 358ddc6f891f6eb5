-- The bytes of an object, field by field.
use Rattle.std.specs.Prelude.{◌≡◌, ℕ, suc, ◌%◌, ◌<◌, ◌==◌, ◌⊎◌, nat_lt, nat_le, Bool, true, false, not, ◌&&◌, ◌||◌, if◌then◌else◌, List, [], ◌∷◌, ◌++◌, length, map, codes, slice_get, Option, Some, None, take}
use Rattle.std.specs.List.{AllByRecursion, list_any}
use Rattle.std.specs.Str.{bytes_eq}
use Rattle.rt_words.specs.Format.{Format, Spell, AreRefusedAt, nothing, byte, word, block, tag, name, where_true, any, within, ◌>>=◌, each, times, passing}
use Rattle.rt_modes.specs.Spelling.{mode_format}
use Rattle.rt_modes.specs.declared.mode.Field.{Field}
use Rattle.rt_modes.specs.declared.mode.Mode.{Mode, out-Mode}
use Rattle.rt_modes.specs.declared.mode.Mode.TheOpen.{Mode-F}
use Rattle.rt_modes.specs.declared.mode.RecordDef.{RecordDef}
use Rattle.rt_sizes.specs.Sizes as sizes
use Rattle.rt_object.specs.declared.fault.ObjectFault.{ObjectFault}
use Rattle.rt_object.specs.declared.fault.ObjectFault.TheVariants as fault
use Rattle.rt_object.specs.declared.object.Brick.{Brick}
use Rattle.rt_object.specs.declared.object.BrickKind.{BrickKind}
use Rattle.rt_object.specs.declared.object.BrickKind.TheVariants.{Own, Ent, Ext, Svc}
use Rattle.rt_object.specs.declared.object.Call.{Call}
use Rattle.rt_object.specs.declared.object.Content.{Content}
use Rattle.rt_object.specs.declared.object.Content.TheVariants as content
use Rattle.rt_object.specs.declared.object.DataContent.{DataContent}
use Rattle.rt_object.specs.declared.object.External.{External}
use Rattle.rt_object.specs.declared.object.External.TheVariants as external
use Rattle.rt_object.specs.declared.object.ObjectParts.{ObjectParts}
use Rattle.rt_object.specs.declared.object.ProcContent.{ProcContent}
use Rattle.rt_object.specs.declared.object.Relocated.{Relocated}
use Rattle.rt_object.specs.declared.object.Relocated.TheVariants as relocated
use Rattle.rt_object.specs.declared.object.Relocation.{Relocation}
use Rattle.rt_object.specs.declared.object.Supplied.{Supplied}
use Rattle.rt_object.specs.declared.object.Supplied.TheVariants as supplied
use Rattle.rt_object.specs.declared.object.Target.{Target}
use Rattle.rt_object.specs.declared.object.Target.TheVariants as target
use Rattle.rt_object.specs.Ranges.{IsByte, table_of, IsBadRecord, rrerr}
use Rattle.rt_object.specs.declared.tag.Called.{Called}
use Rattle.rt_object.specs.declared.tag.Kind.{Kind}
use Rattle.rt_object.specs.declared.tag.Named.{Named}
use Rattle.rt_object.specs.declared.tag.Sort.{Sort}
use Rattle.rt_object.specs.declared.tag.Called.TheVariants as callees
use Rattle.rt_object.specs.declared.tag.Kind.TheVariants as kinds
use Rattle.rt_object.specs.declared.tag.Named.TheVariants as namings
use Rattle.rt_object.specs.declared.tag.Sort.TheVariants as sorts

-- ---- tests of what is read

-- whether none of these names is this one
abbrev pub is_new : List (List ℕ) → List ℕ → Bool
is_new names n = not (list_any (λ m. bytes_eq m n) names)

abbrev pub is_no_label_layer : Mode-F Mode → Bool
is_no_label_layer Mode-F.Label = false
is_no_label_layer _ = true

abbrev pub is_no_label : Mode → Bool
is_no_label m = is_no_label_layer (out-Mode m)

-- whether a mode may be that of a field: a label only where labels may stand
abbrev pub may_be : Bool → Mode → Bool
may_be labels m = if labels then true else is_no_label m

-- labels stand in the supplied data brick RRERR
abbrev pub is_rrerr : List ℕ → Bool
is_rrerr n = bytes_eq n rrerr

abbrev pub is_proc_layer : Mode-F Mode → Bool
is_proc_layer (Mode-F.Proc ps r) = true
is_proc_layer _ = false

abbrev pub is_proc : Mode → Bool
is_proc m = is_proc_layer (out-Mode m)

abbrev pub is_value_layer : Mode-F Mode → Bool
is_value_layer (Mode-F.Array n m) = false
is_value_layer Mode-F.Label = false
is_value_layer _ = true

abbrev pub is_value : Mode → Bool
is_value m = is_value_layer (out-Mode m)

-- whether the code of a mode is that of a procedure
abbrev pub is_proc_code : ℕ → Bool
is_proc_code b = b == 9

-- whether it isn't that of an array or a label
abbrev pub is_value_code : ℕ → Bool
is_value_code b = not (b == 6 || b == 8)

-- whether the first byte is there and passes a test
abbrev pub begins : (ℕ → Bool) → List ℕ → Bool
begins test [] = false
begins test (b ∷ l) = test b

-- a format whose first byte passes a test; another byte is refused, whatever stands behind it
abbrev pub beginning : {A : Type 0} → (ℕ → Bool) → Format A → Format A
beginning {A} test p = record {
  Fits = λ l r x. (begins test l ≡ true) × p.Fits l r x;
  Refuses = λ l n. (begins test l ≡ false) × (n ≡ length l) ⊎ ((begins test l ≡ true) × p.Refuses l n);
}

-- how many bytes fields over these records have, where they have a size: a record holds others less than one more deep than
-- there are records
abbrev pub size_of : List RecordDef → List Field → Option ℕ
size_of records fields = sizes.fields_end (sizes.within (table_of records) (suc (length records))) fields 0

abbrev pub is_within_most : Option ℕ → Bool
is_within_most None = false
is_within_most (Some n) = nat_le n 57344

-- whether fields with such an end have so many bytes: they lie as those of a record, so the bytes are rounded up to an even number
abbrev pub is_size : Option ℕ → ℕ → Bool
is_size None n = false
is_size (Some m) n = sizes.even m == n

-- whether a place is a multiple of step, inside a part, and behind the one before it
abbrev pub is_behind : List Relocation → ℕ → Bool
is_behind [] place = true
is_behind (r ∷ rs) place = nat_lt r.place place && is_behind rs place

abbrev pub is_place : ℕ → ℕ → List Relocation → ℕ → Bool
is_place step places before place = is_behind before place && (place % step == 0 && nat_lt place places)

abbrev pub is_proc_content : Content → Bool
is_proc_content (content.Proc p) = true
is_proc_content _ = false

abbrev pub is_proc_kind : BrickKind → Bool
is_proc_kind (Own c) = is_proc_content c
is_proc_kind (Ent c) = is_proc_content c
is_proc_kind (Ext (external.Proc m)) = true
is_proc_kind (Svc (supplied.Proc m)) = true
is_proc_kind _ = false

abbrev pub is_proc_at : Option Brick → Bool
is_proc_at None = false
is_proc_at (Some b) = is_proc_kind b.kind

-- whether the number is that of a procedure, and greater than those before it
abbrev pub is_taken : List Brick → List ℕ → ℕ → Bool
is_taken bricks before k = not (list_any (λ m. nat_le k m) before) && is_proc_at (slice_get bricks k)

-- ---- kinds and sorts

abbrev pub kind_of : ℕ → Option Kind
kind_of b = if b == 1 then Some kinds.Own else (if b == 2 then Some kinds.Ent else (if b == 3 then Some kinds.Ext else (if b == 4 then Some kinds.Svc else None)))

abbrev pub sort_of : ℕ → Option Sort
sort_of b = if b == 1 then Some sorts.Proc else (if b == 2 then Some sorts.Data else (if b == 3 then Some sorts.Stack else None))

-- no stack is the supervisor's
abbrev pub sort_in : Kind → ℕ → Option Sort
sort_in kinds.Svc b = if b == 3 then None else sort_of b
sort_in _ b = sort_of b

abbrev pub called_of : ℕ → Option Called
called_of b = if b == 1 then Some callees.Brick else (if b == 2 then Some callees.Mode else (if b == 3 then Some callees.Error else None))

abbrev pub named_of : ℕ → Option Named
named_of b = if b == 1 then Some namings.Brick else (if b == 2 then Some namings.String else (if b == 3 then Some namings.Support else None))

abbrev pub below : ℕ → ℕ → Option ℕ
below count = where_true (λ k. nat_lt k count)

-- ---- records

-- the name of a field and its mode, behind other fields, over so many records
abbrev pub field_format : ℕ → Bool → List Field → Format Field
field_format records labels before = do
  new ← passing (is_new (map (λ f. f.name) before)) name
  mode ← passing (may_be labels) (mode_format records)
  nothing (record { name = new; mode = mode })

-- fields = word {name mode}
abbrev pub fields_format : ℕ → Bool → Format (List Field)
fields_format records labels = do
  count ← word any
  each (field_format records labels) count []

abbrev pub record_format : ℕ → List RecordDef → Format RecordDef
record_format records before = do
  new ← passing (is_new (map (λ r. r.name) before)) name
  fields ← fields_format records false
  nothing (record { name = new; fields = fields })

-- record k is bad, and none before it is
pub record IsFirstBad (records : List RecordDef) (k : ℕ) : Type 0 where
  pub there : k < length records
  pub bad : IsBadRecord records k
  pub none_before : (j : ℕ) → j < k → IsBadRecord records j → ⊥

-- where no record is bad; the first bad one is refused where its record begins
abbrev pub without_bad : (ℕ → Format (List RecordDef)) → Format (List RecordDef) → Format (List RecordDef)
without_bad front p = record {
  Fits = λ l r records. p.Fits l r records × ((k : ℕ) → k < length records → IsBadRecord records k → ⊥);
  Refuses = λ l n. p.Refuses l n
      ⊎ ((r : List ℕ) × (records : List RecordDef) × (k : ℕ) × p.Fits l r records × IsFirstBad records k × ((m : List ℕ) × (front k).Fits l m (take k records) × (n ≡ length m)));
}

-- the number of records, and the first of them
abbrev pub front_records : ℕ → Format (List RecordDef)
front_records k = do
  count ← word any
  each (record_format count) k []

-- records = word {name fields}
abbrev pub records_format : Format (List RecordDef)
records_format = without_bad front_records (do
  count ← word any
  each (record_format count) count [])

-- ---- strings

abbrev pub string_format : Format (List ℕ)
string_format = do
  count ← word (within 0 8191)
  block count

-- strings = word {word bytes}
abbrev pub strings_format : Format (List (List ℕ))
strings_format = do
  count ← word any
  times string_format count []

-- ---- code

-- code = word {word} then one mark byte per word
abbrev pub code_format : Format (List ℕ × List ℕ)
code_format = do
  count ← word (within 0 16383)
  words ← times (word any) count []
  marks ← times (byte (within 0 2)) count []
  nothing (words, marks)

-- ---- bricks, where there are these records, so many strings and so many bricks

module _ (records : List RecordDef) (strings bricks : ℕ) where
  abbrev pub mode : Format Mode
  mode = mode_format (length records)

  abbrev pub named_format : Named → Format Relocated
  named_format namings.Brick = do
    k ← word (below bricks)
    nothing (relocated.Brick k)
  named_format namings.String = do
    k ← word (below strings)
    nothing (relocated.String k)
  named_format namings.Support = do
    k ← word (within 1 32)
    nothing (relocated.Support k)

  abbrev pub relocation_format : ℕ → ℕ → List Relocation → Format Relocation
  relocation_format step places before = do
    place ← word (where_true (is_place step places before))
    kind ← byte named_of
    of ← named_format kind
    offset ← word any
    nothing (record { place = place; of = of; offset = offset })

  -- relocs = word {place, kind byte, index, offset}
  abbrev pub relocations_format : ℕ → ℕ → Format (List Relocation)
  relocations_format step places = do
    count ← word any
    each (relocation_format step places) count []

  abbrev pub called_format : Called → Format Target
  called_format callees.Brick = do
    k ← word (below bricks)
    nothing (target.Brick k)
  called_format callees.Mode = do
    m ← beginning is_value_code mode
    nothing (target.Mode m)
  called_format callees.Error = nothing target.Error

  -- {depth, args (words), target}, so many times as the calls' word says
  abbrev pub call_format : Format Call
  call_format = do
    depth ← word any
    args ← word any
    called ← byte called_of
    target ← called_format called
    nothing (record { depth = depth; args = args; target = target })

  abbrev pub calls_format : Format (List Call)
  calls_format = do
    count ← word any
    times call_format count []

  abbrev pub body_format : Format ((List ℕ × List ℕ) × List Relocation)
  body_format = do
    code ← code_format
    relocations ← relocations_format 1 (length code.0)
    nothing (code, relocations)

  -- PROC: mode, items, locals, deep (words), calls, code, relocs
  abbrev pub proc_format : Format ProcContent
  proc_format = do
    m ← beginning is_proc_code mode
    items ← word any
    locals ← word any
    deep ← word any
    calls ← calls_format
    body ← body_format
    nothing (record { mode = m; items = items; locals = locals; deep = deep; calls = calls; words = body.0.0; marks = body.0.1; relocations = body.1 })

  -- the fields of a data brick, which is refused at their count where they have too many bytes
  abbrev pub data_fields : Bool → Format (List Field)
  data_fields labels = passing (λ fields. is_within_most (size_of records fields)) (fields_format (length records) labels)

  -- so many bytes as the fields take
  abbrev pub data_bytes : List Field → Format (List ℕ)
  data_bytes fields = do
    size ← word (where_true (is_size (size_of records fields)))
    block size

  -- DATA: fields, word, bytes, relocs
  abbrev pub data_format : Format DataContent
  data_format = do
    fields ← data_fields false
    bytes ← data_bytes fields
    relocations ← relocations_format 2 (length bytes)
    nothing (record { fields = fields; bytes = bytes; relocations = relocations })

  abbrev pub content_format : Sort → Format Content
  content_format sorts.Proc = do
    p ← proc_format
    nothing (content.Proc p)
  content_format sorts.Data = do
    d ← data_format
    nothing (content.Data d)
  content_format sorts.Stack = do
    n ← word (within 1 28672)
    nothing (content.Stack n)

  abbrev pub external_format : Sort → Format External
  external_format sorts.Proc = do
    m ← beginning is_proc_code mode
    nothing (external.Proc m)
  external_format sorts.Data = do
    fields ← data_fields false
    nothing (external.Data fields)
  external_format sorts.Stack = nothing external.Stack

  abbrev pub supplied_format : List ℕ → Sort → Format Supplied
  supplied_format n sorts.Proc = do
    m ← beginning is_proc_code mode
    nothing (supplied.Proc m)
  supplied_format n _ = do
    fields ← data_fields (is_rrerr n)
    nothing (supplied.Data fields)

  abbrev pub kind_format : Kind → Sort → List ℕ → Format BrickKind
  kind_format kinds.Own sort n = do
    c ← content_format sort
    nothing (Own c)
  kind_format kinds.Ent sort n = do
    c ← content_format sort
    nothing (Ent c)
  kind_format kinds.Ext sort n = do
    e ← external_format sort
    nothing (Ext e)
  kind_format kinds.Svc sort n = do
    s ← supplied_format n sort
    nothing (Svc s)

  -- kind sort name ...
  abbrev pub brick_format : List Brick → Format Brick
  brick_format before = do
    kind ← byte kind_of
    sort ← byte (sort_in kind)
    new ← passing (is_new (map (λ b. b.name) before)) name
    holds ← kind_format kind sort new
    nothing (record { name = new; kind = holds })

-- bricks = word {kind sort name ...}
abbrev pub bricks_format : List RecordDef → ℕ → Format (List Brick)
bricks_format records strings = do
  count ← word any
  each (brick_format records strings count) count []

-- ---- the object

-- taken = word {word brick}
abbrev pub taken_format : List Brick → Format (List ℕ)
taken_format bricks = do
  count ← word any
  each (λ before. word (where_true (is_taken bricks before))) count []

abbrev pub object_format : Format ObjectParts
object_format = do
  magic ← tag (codes "RTO" ++ 1 ∷ [])
  title ← name
  records ← records_format
  strings ← strings_format
  bricks ← bricks_format records (length strings)
  taken ← taken_format bricks
  nothing (record { title = title; records = record { records = records }; strings = strings; bricks = bricks; taken = taken })

-- ---- all of some bytes

-- the bytes are the object: they fit its fields, and no byte stands behind them
pub record IsObject (bytes : List ℕ) (object : ObjectParts) : Type 0 where
  pub each_byte : AllByRecursion IsByte bytes
  pub fields : Spell object_format bytes object

-- the bytes begin as an object does, and name another version
abbrev pub IsOfVersion : List ℕ → ℕ → Type 0
IsOfVersion bytes version = (rest : List ℕ) × (bytes ≡ codes "RTO" ++ version ∷ rest) × (version ≡ 1 → ⊥)

-- The bytes are no object, and name no other version: the first field that is cut or out of range, or the first byte behind the
-- last taken number, stands at p.
pub record IsNoObject (bytes : List ℕ) (p : ℕ) : Type 0 where
  pub refused : AreRefusedAt object_format bytes p
  pub version : (found : ℕ) → IsOfVersion bytes found → ⊥

-- a fault of a read: want of memory, the place of the field refused, or the other version that is named
abbrev pub Faults : List ℕ → ObjectFault → Type 0
Faults bytes fault.Memory = Unit {0}
Faults bytes (fault.BadObject p) = IsNoObject bytes p
Faults bytes (fault.Version found) = IsOfVersion bytes found
