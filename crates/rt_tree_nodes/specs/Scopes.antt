-- What the nodes of a procedure may name.
use Rattle.std.specs.Prelude.{ℕ, ◌-◌, Bool, true, false, ◌&&◌, ◌||◌, nat_lt, ◌==◌, if◌then◌else◌, List, [], ◌∷◌, codes, length, map, Option, Some, None, option_map, slice_get, position}
use Rattle.std.specs.Str.{bytes_eq}
use Rattle.rt_modes.specs.declared.mode.Field.{Field}
use Rattle.rt_modes.specs.declared.mode.Mode.{Mode, out-Mode}
use Rattle.rt_modes.specs.declared.mode.Mode.TheFolds.{fold-Mode}
use Rattle.rt_modes.specs.declared.mode.Mode.TheOpen.{Mode-F}
use Rattle.rt_modes.specs.declared.mode.RecordDef.{RecordDef}
use Rattle.rt_tree_nodes.specs.declared.brick.Brick.{Brick}
use Rattle.rt_tree_nodes.specs.declared.brick.BrickSort.{BrickSort}
use Rattle.rt_tree_nodes.specs.declared.brick.BrickSort.TheVariants as sort
use Rattle.rt_tree_nodes.specs.declared.brick.Kind.{Kind}
use Rattle.rt_tree_nodes.specs.declared.brick.Kind.TheVariants as kind
use Rattle.rt_tree_nodes.specs.declared.brick.Local.{Local}
use Rattle.rt_tree_nodes.specs.declared.brick.ModuleParts.{ModuleParts}
use Rattle.rt_tree_nodes.specs.declared.supplied.Supplied.{Supplied}

-- the next answer, where there is a first
abbrev pub with : {A B : Type 0} → Option A → (A → Option B) → Option B
with None go = None
with (Some x) go = go x

abbrev pub only : {A : Type 0} → Bool → A → Option A
only true x = Some x
only false x = None

-- a test of what is there
abbrev pub passes : {A : Type 0} → (A → Bool) → Option A → Bool
passes test None = false
passes test (Some x) = test x

-- ---- whether two modes are the same

abbrev pub all_same : List (Mode → Bool) → List Mode → Bool
all_same [] [] = true
all_same (f ∷ fs) (m ∷ ms) = f m && all_same fs ms
all_same _ _ = false

abbrev pub result_same : Option (Mode → Bool) → Option Mode → Bool
result_same None None = true
result_same (Some f) (Some m) = f m
result_same _ _ = false

-- one layer of a mode, with what is known of the modes inside it, and one of another mode
abbrev pub layer_same : Mode-F (Mode → Bool) → Mode-F Mode → Bool
layer_same Mode-F.Byte Mode-F.Byte = true
layer_same Mode-F.Int Mode-F.Int = true
layer_same Mode-F.Frac Mode-F.Frac = true
layer_same Mode-F.Label Mode-F.Label = true
layer_same (Mode-F.Ref f) (Mode-F.Ref m) = f m
layer_same (Mode-F.RefArray f) (Mode-F.RefArray m) = f m
layer_same (Mode-F.Array k f) (Mode-F.Array n m) = k == n && f m
layer_same (Mode-F.Record k) (Mode-F.Record n) = k == n
layer_same (Mode-F.Proc fs f) (Mode-F.Proc ms m) = all_same fs ms && result_same f m
layer_same _ _ = false

abbrev pub same : Mode → Mode → Bool
same = fold-Mode (Mode → Bool) (λ f m. layer_same f (out-Mode m))

-- ---- the supplied data

-- a mode of one layer
abbrev pub Layer : Type 0
Layer = Mode-F Mode

abbrev pub is_byte_layer : Layer → Bool
is_byte_layer Mode-F.Byte = true
is_byte_layer _ = false

abbrev pub is_int_layer : Layer → Bool
is_int_layer Mode-F.Int = true
is_int_layer _ = false

abbrev pub is_label_layer : Layer → Bool
is_label_layer Mode-F.Label = true
is_label_layer _ = false

-- one mode that passes a test
abbrev pub is_one : (Layer → Bool) → List Mode → Bool
is_one test [] = false
is_one test (m ∷ ms) = test (out-Mode m) && length ms == 0

abbrev pub is_none : {A : Type 0} → Option A → Bool
is_none None = true
is_none (Some x) = false

-- PROC with one parameter, and no result
abbrev pub takes : (Layer → Bool) → Layer → Bool
takes test (Mode-F.Proc ms r) = is_one test ms && is_none r
takes test _ = false

-- PROC with a result, and no parameter
abbrev pub gives : (Layer → Bool) → Layer → Bool
gives test (Mode-F.Proc ms r) = length ms == 0 && passes (λ m. test (out-Mode m)) r
gives test _ = false

abbrev pub field_is : List ℕ → (Layer → Bool) → Field → Bool
field_is name test f = bytes_eq f.name name && test (out-Mode f.mode)

-- LABEL ERL; INT ERN; PROC(INT) ERP
abbrev pub is_error_data : List Field → Bool
is_error_data fs = length fs == 3
    && (passes (field_is (codes "ERL") is_label_layer) (slice_get fs 0)
    && (passes (field_is (codes "ERN") is_int_layer) (slice_get fs 1)
    && passes (field_is (codes "ERP") (takes is_int_layer)) (slice_get fs 2)))

-- PROC() BYTE IN; PROC(BYTE) OUT
abbrev pub is_stream_data : List Field → Bool
is_stream_data fs = length fs == 2
    && (passes (field_is (codes "IN") (gives is_byte_layer)) (slice_get fs 0)
    && passes (field_is (codes "OUT") (takes is_byte_layer)) (slice_get fs 1))

abbrev pub is_svc : Kind → Bool
is_svc kind.Svc = true
is_svc _ = false

-- What a module says of a brick to those who name it.
pub data Sort : Type 0 where
  OfProc : (m : Mode) → Sort
  OfData : (fs : List Field) → Sort
  OfStack : Sort

pub record Face : Type 0 where
  pub kind : Kind
  pub name : List ℕ
  pub sort : Sort

abbrev pub sort_of : BrickSort → Sort
sort_of (sort.Proc m body) = OfProc m
sort_of (sort.Data fs starts) = OfData fs
sort_of (sort.Stack n) = OfStack

abbrev pub face : Brick → Face
face b = record { kind = b.kind; name = b.name; sort = sort_of b.sort }

abbrev pub faces : List Brick → List Face
faces = map face

abbrev pub fields_in : Sort → Option (List Field)
fields_in (OfData fs) = Some fs
fields_in _ = None

abbrev pub fields_of : Face → Option (List Field)
fields_of b = fields_in b.sort

abbrev pub is_errors : Face → Bool
is_errors b = is_svc b.kind && (bytes_eq b.name (codes "RRERR") && passes is_error_data (fields_of b))

abbrev pub is_streams : Face → Bool
is_streams b = is_svc b.kind && (bytes_eq b.name (codes "RRSIO") && passes is_stream_data (fields_of b))

-- the fields of the first brick that passes a test
abbrev pub first_fields : (Face → Bool) → List Face → Option (List Field)
first_fields test [] = None
first_fields test (b ∷ bs) = if test b then fields_of b else first_fields test bs

-- the items of the task's own error data, and of its streams, where the module declares them as they are supplied
abbrev pub errors_of : List Face → Option (List Field)
errors_of = first_fields is_errors

abbrev pub streams_of : List Face → Option (List Field)
streams_of = first_fields is_streams

-- the fields of the brick at a number
abbrev pub fields_at : List Face → Option ℕ → Option (List Field)
fields_at bs at = with at (λ k. with (slice_get bs k) fields_of)

-- the numbers of the first bricks that declare the task's own error data and its streams as they are supplied
abbrev pub supplied_of : List Brick → Supplied
supplied_of bs = record { errors = position is_errors (faces bs); streams = position is_streams (faces bs) }

-- the items of any other data brick
abbrev pub items_of : Face → Option (List Field)
items_of b = if is_errors b || is_streams b then None else fields_of b

-- the mode of a procedure brick
abbrev pub proc_in : Sort → Option Mode
proc_in (OfProc m) = Some m
proc_in _ = None

abbrev pub proc_of : Face → Option Mode
proc_of b = proc_in b.sort

abbrev pub mode_of : Field → Mode
mode_of f = f.mode

abbrev pub field_at : List Field → ℕ → Option Mode
field_at fs k = option_map mode_of (slice_get fs k)

-- ---- what the nodes of a procedure may name

-- The records, bricks and strings of the module; the items of the task's own error data and streams, where the module
-- declares them as they are supplied; and the parameters and locals of the procedure.
pub record Scope : Type 0 where
  pub records : List RecordDef
  pub bricks : List Face
  pub strings : ℕ
  pub errors : Option (List Field)
  pub streams : Option (List Field)
  pub locals : List Local

-- field k of record r
abbrev pub field_mode : List RecordDef → ℕ → ℕ → Option Mode
field_mode records r k = with (slice_get records r) (λ d. field_at d.fields k)

-- items 0 to 2 are those of the error data, 3 and 4 those of the streams
abbrev pub svc_mode : Scope → ℕ → Option Mode
svc_mode c k = if nat_lt k 3 then with c.errors (λ fs. field_at fs k) else with c.streams (λ fs. field_at fs (k - 3))

abbrev pub proc_mode : List Face → ℕ → Option Mode
proc_mode bricks b = with (slice_get bricks b) proc_of

-- what the data of a module may name
abbrev pub scope_of : ModuleParts → Scope
scope_of p = record {
  records = p.modes.records;
  bricks = faces p.bricks;
  strings = length p.strings;
  errors = errors_of (faces p.bricks);
  streams = streams_of (faces p.bricks);
  locals = [];
}

-- what the nodes of a procedure with these locals may name
abbrev pub with_locals : Scope → List Local → Scope
with_locals c ls = record c { locals = ls }
