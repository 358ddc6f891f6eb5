-- The parts of an object as functions from the bytes that stand there.
use Rattle.std.specs.Prelude.{ℕ, Bool, false, if◌then◌else◌, List, [], length, map, Err}
use Rattle.rt_words.specs.Format.{where_true, any, within}
use Rattle.rt_words.specs.Reading.{Reader, nothing, byte, word, block, name, ◌>>=◌, each, times, passing}
use Rattle.rt_modes.specs.Reading as modes
use Rattle.rt_modes.specs.declared.code.Place.TheVariants.{Alone}
use Rattle.rt_modes.specs.declared.mode.Field.{Field}
use Rattle.rt_modes.specs.declared.mode.Mode.{Mode}
use Rattle.rt_modes.specs.declared.mode.RecordDef.{RecordDef}
use Rattle.rt_object.specs.declared.object.Brick.{Brick}
use Rattle.rt_object.specs.declared.object.BrickKind.{BrickKind}
use Rattle.rt_object.specs.declared.object.BrickKind.TheVariants.{Own, Ent, Ext, Svc}
use Rattle.rt_object.specs.declared.object.Call.{Call}
use Rattle.rt_object.specs.declared.object.Content.{Content}
use Rattle.rt_object.specs.declared.object.Content.TheVariants as content
use Rattle.rt_object.specs.declared.object.DataContent.{DataContent}
use Rattle.rt_object.specs.declared.object.External.{External}
use Rattle.rt_object.specs.declared.object.External.TheVariants as external
use Rattle.rt_object.specs.declared.object.ObjectParts.{ObjectParts}
use Rattle.rt_object.specs.declared.object.ProcContent.{ProcContent}
use Rattle.rt_object.specs.declared.object.Relocated.{Relocated}
use Rattle.rt_object.specs.declared.object.Relocated.TheVariants as relocated
use Rattle.rt_object.specs.declared.object.Relocation.{Relocation}
use Rattle.rt_object.specs.declared.object.Supplied.{Supplied}
use Rattle.rt_object.specs.declared.object.Supplied.TheVariants as supplied
use Rattle.rt_object.specs.declared.object.Target.{Target}
use Rattle.rt_object.specs.declared.object.Target.TheVariants as target
use Rattle.rt_object.specs.Grammar.{is_new, is_proc_code, is_value_code, begins, size_of, is_within_most, is_size, is_place, is_taken, kind_of, sort_in, called_of, named_of, below, is_rrerr, may_be}
use Rattle.rt_object.specs.declared.tag.Called.{Called}
use Rattle.rt_object.specs.declared.tag.Kind.{Kind}
use Rattle.rt_object.specs.declared.tag.Named.{Named}
use Rattle.rt_object.specs.declared.tag.Sort.{Sort}
use Rattle.rt_object.specs.declared.tag.Called.TheVariants as callees
use Rattle.rt_object.specs.declared.tag.Kind.TheVariants as kinds
use Rattle.rt_object.specs.declared.tag.Named.TheVariants as namings
use Rattle.rt_object.specs.declared.tag.Sort.TheVariants as sorts

-- what begins with a byte that passes a test
abbrev pub beginning : {A : Type 0} → (ℕ → Bool) → Reader A → Reader A
beginning test p = λ l. if begins test l then p l else Err (length l)

-- a mode over so many records
abbrev pub mode_in : ℕ → Reader Mode
mode_in records = modes.mode_of records (modes.inside records 100) 100 Alone 8

-- ---- records

-- the name of a field and its mode, behind other fields, over so many records
unfoldable pub field_reader : ℕ → Bool → List Field → Reader Field
field_reader records labels before = do
  new ← passing (is_new (map (λ f. f.name) before)) name
  mode ← passing (may_be labels) (mode_in records)
  nothing (record { name = new; mode = mode })

-- fields = word {name mode}
unfoldable pub fields_reader : ℕ → Bool → Reader (List Field)
fields_reader records labels = do
  count ← word any
  each (field_reader records labels) count []

unfoldable pub record_reader : ℕ → List RecordDef → Reader RecordDef
record_reader records before = do
  new ← passing (is_new (map (λ r. r.name) before)) name
  fields ← fields_reader records false
  nothing (record { name = new; fields = fields })

-- records = word {name fields}, where it isn't asked whether one is bad
unfoldable pub records_reader : Reader (List RecordDef)
records_reader = do
  count ← word any
  each (record_reader count) count []

-- ---- strings

unfoldable pub string_reader : Reader (List ℕ)
string_reader = do
  count ← word (within 0 8191)
  block count

-- strings = word {word bytes}
unfoldable pub strings_reader : Reader (List (List ℕ))
strings_reader = do
  count ← word any
  times string_reader count []

-- ---- code

-- so many words, and so many marks
unfoldable pub code_of : ℕ → Reader (List ℕ × List ℕ)
code_of count = do
  words ← times (word any) count []
  marks ← times (byte (within 0 2)) count []
  nothing (words, marks)

-- code = word {word} then one mark byte per word
unfoldable pub code_reader : Reader (List ℕ × List ℕ)
code_reader = do
  count ← word (within 0 16383)
  code_of count

-- the procedure of a mode and of what stands behind it
abbrev pub proc_of : Mode → (((ℕ × ℕ) × ℕ) × List Call) × ((List ℕ × List ℕ) × List Relocation) → ProcContent
proc_of m inside = record { mode = m; items = inside.0.0.0.0; locals = inside.0.0.0.1; deep = inside.0.0.1; calls = inside.0.1; words = inside.1.0.0; marks = inside.1.0.1; relocations = inside.1.1 }

-- ---- bricks, where there are these records, so many strings and so many bricks

module _ (records : List RecordDef) (strings bricks : ℕ) where
  abbrev pub mode : Reader Mode
  mode = mode_in (length records)

  unfoldable pub named_reader : Named → Reader Relocated
  named_reader namings.Brick = do
    k ← word (below bricks)
    nothing (relocated.Brick k)
  named_reader namings.String = do
    k ← word (below strings)
    nothing (relocated.String k)
  named_reader namings.Support = do
    k ← word (within 1 32)
    nothing (relocated.Support k)

  unfoldable pub relocation_reader : ℕ → ℕ → List Relocation → Reader Relocation
  relocation_reader step places before = do
    place ← word (where_true (is_place step places before))
    kind ← byte named_of
    of ← named_reader kind
    offset ← word any
    nothing (record { place = place; of = of; offset = offset })

  -- relocs = word {place, kind byte, index, offset}
  unfoldable pub relocations_reader : ℕ → ℕ → Reader (List Relocation)
  relocations_reader step places = do
    count ← word any
    each (relocation_reader step places) count []

  unfoldable pub called_reader : Called → Reader Target
  called_reader callees.Brick = do
    k ← word (below bricks)
    nothing (target.Brick k)
  called_reader callees.Mode = do
    m ← beginning is_value_code mode
    nothing (target.Mode m)
  called_reader callees.Error = nothing target.Error

  -- {depth, args (words), target}, so many times as the calls' word says
  unfoldable pub call_reader : Reader Call
  call_reader = do
    depth ← word any
    args ← word any
    called ← byte called_of
    target ← called_reader called
    nothing (record { depth = depth; args = args; target = target })

  unfoldable pub calls_reader : Reader (List Call)
  calls_reader = do
    count ← word any
    times call_reader count []

  unfoldable pub body_reader : Reader ((List ℕ × List ℕ) × List Relocation)
  body_reader = do
    code ← code_reader
    relocations ← relocations_reader 1 (length code.0)
    nothing (code, relocations)

  -- a procedure of this mode, whose counts stand next
  unfoldable pub behind_mode : Mode → Reader ProcContent
  behind_mode m = do
    items ← word any
    locals ← word any
    deep ← word any
    calls ← calls_reader
    body ← body_reader
    nothing (proc_of m ((((items, locals), deep), calls), body))

  -- PROC: mode, items, locals, deep (words), calls, code, relocs
  unfoldable pub proc_reader : Reader ProcContent
  proc_reader = do
    m ← beginning is_proc_code mode
    items ← word any
    locals ← word any
    deep ← word any
    calls ← calls_reader
    body ← body_reader
    nothing (record { mode = m; items = items; locals = locals; deep = deep; calls = calls; words = body.0.0; marks = body.0.1; relocations = body.1 })

  -- the fields of a data brick, which is refused at their count where they have too many bytes
  unfoldable pub data_fields : Bool → Reader (List Field)
  data_fields labels = passing (λ fields. is_within_most (size_of records fields)) (fields_reader (length records) labels)

  -- so many bytes as the fields take
  unfoldable pub data_bytes : List Field → Reader (List ℕ)
  data_bytes fields = do
    size ← word (where_true (is_size (size_of records fields)))
    block size

  -- DATA: fields, word, bytes, relocs
  unfoldable pub data_reader : Reader DataContent
  data_reader = do
    fields ← data_fields false
    bytes ← data_bytes fields
    relocations ← relocations_reader 2 (length bytes)
    nothing (record { fields = fields; bytes = bytes; relocations = relocations })

  unfoldable pub content_reader : Sort → Reader Content
  content_reader sorts.Proc = do
    p ← proc_reader
    nothing (content.Proc p)
  content_reader sorts.Data = do
    d ← data_reader
    nothing (content.Data d)
  content_reader sorts.Stack = do
    n ← word (within 1 28672)
    nothing (content.Stack n)

  unfoldable pub external_reader : Sort → Reader External
  external_reader sorts.Proc = do
    m ← beginning is_proc_code mode
    nothing (external.Proc m)
  external_reader sorts.Data = do
    fields ← data_fields false
    nothing (external.Data fields)
  external_reader sorts.Stack = nothing external.Stack

  unfoldable pub supplied_reader : List ℕ → Sort → Reader Supplied
  supplied_reader n sorts.Proc = do
    m ← beginning is_proc_code mode
    nothing (supplied.Proc m)
  supplied_reader n _ = do
    fields ← data_fields (is_rrerr n)
    nothing (supplied.Data fields)

  unfoldable pub kind_reader : Kind → Sort → List ℕ → Reader BrickKind
  kind_reader kinds.Own sort n = do
    c ← content_reader sort
    nothing (Own c)
  kind_reader kinds.Ent sort n = do
    c ← content_reader sort
    nothing (Ent c)
  kind_reader kinds.Ext sort n = do
    e ← external_reader sort
    nothing (Ext e)
  kind_reader kinds.Svc sort n = do
    s ← supplied_reader n sort
    nothing (Svc s)

  -- kind sort name ...
  unfoldable pub brick_reader : List Brick → Reader Brick
  brick_reader before = do
    kind ← byte kind_of
    sort ← byte (sort_in kind)
    new ← passing (is_new (map (λ b. b.name) before)) name
    holds ← kind_reader kind sort new
    nothing (record { name = new; kind = holds })

-- bricks = word {kind sort name ...}
unfoldable pub bricks_reader : List RecordDef → ℕ → Reader (List Brick)
bricks_reader records strings = do
  count ← word any
  each (brick_reader records strings count) count []

-- ---- the object

-- a number behind others
unfoldable pub taken_number : List Brick → List ℕ → Reader ℕ
taken_number bricks before = word (where_true (is_taken bricks before))

-- taken = word {word brick}
unfoldable pub taken_reader : List Brick → Reader (List ℕ)
taken_reader bricks = do
  count ← word any
  each (taken_number bricks) count []

-- what stands behind the records
unfoldable pub tail : List RecordDef → Reader ((List (List ℕ) × List Brick) × List ℕ)
tail records = do
  strings ← strings_reader
  bricks ← bricks_reader records (length strings)
  found ← taken_reader bricks
  nothing ((strings, bricks), found)

-- the parts of an object
abbrev pub parts : List ℕ → List RecordDef → (List (List ℕ) × List Brick) × List ℕ → ObjectParts
parts title records tail = record { title = title; records = record { records = records }; strings = tail.0.0; bricks = tail.0.1; taken = tail.1 }
