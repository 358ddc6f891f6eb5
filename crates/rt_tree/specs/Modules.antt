-- Which modules have only fitting nodes.
use Rattle.std.specs.Prelude.{ℕ, zero, suc, ◌-◌, Bool, true, false, ◌&&◌, ◌||◌, not, nat_lt, nat_le, ◌==◌, if◌then◌else◌, List, [], ◌∷◌, codes, length, map, Option, Some, None, slice_get}
use Rattle.std.specs.List.{list_all}
use Rattle.std.specs.Str.{bytes_eq}
use Rattle.rt_modes.specs.declared.mode.Field.{Field}
use Rattle.rt_modes.specs.declared.mode.Mode.{Mode, out-Mode}
use Rattle.rt_modes.specs.declared.mode.Mode.TheFolds.{fold-Mode}
use Rattle.rt_modes.specs.declared.mode.Mode.TheOpen.{Mode-F}
use Rattle.rt_modes.specs.declared.mode.Mode.TheVariants as mode
use Rattle.rt_modes.specs.declared.mode.RecordDef.{RecordDef}
use Rattle.rt_tree_nodes.specs.declared.brick.Brick.{Brick}
use Rattle.rt_tree_nodes.specs.declared.brick.BrickSort.{BrickSort}
use Rattle.rt_tree_nodes.specs.declared.brick.BrickSort.TheVariants as sort
use Rattle.rt_tree_nodes.specs.declared.brick.DataStart.{DataStart}
use Rattle.rt_tree_nodes.specs.declared.brick.DataStart.TheFolds.{fold-DataStart}
use Rattle.rt_tree_nodes.specs.declared.brick.DataStart.TheOpen.{DataStart-F}
use Rattle.rt_tree_nodes.specs.declared.brick.Kind.{Kind}
use Rattle.rt_tree_nodes.specs.declared.brick.Kind.TheVariants as kind
use Rattle.rt_tree_nodes.specs.declared.brick.Local.{Local}
use Rattle.rt_tree_nodes.specs.declared.brick.Local.TheVariants as local
use Rattle.rt_tree_nodes.specs.declared.brick.ModuleParts.{ModuleParts}
use Rattle.rt_tree_nodes.specs.declared.brick.ProcBody.{ProcBody}
use Rattle.rt_tree.specs.declared.standing.Standing.{Standing}
use Rattle.rt_tree.specs.declared.standing.Standing.TheVariants as standing
use Rattle.rt_tree.specs.declared.sight.Next.{Next}
use Rattle.rt_tree_nodes.specs.declared.statement.Body.{Body, out-Body}
use Rattle.rt_tree_nodes.specs.Scopes.{with, passes, same, Scope, Face, Sort, OfData, is_svc, field_is, is_label_layer, proc_mode, field_mode, field_at, scope_of, with_locals}
use Rattle.rt_tree.specs.Statements.{Sight, next_by, labels_end, marked, body_part, closed}
use Rattle.rt_tree_nodes.specs.Typing.{Signature, signature_by}

-- ---- where a mode may stand

-- A mode at a place where so many more modes may open and so many more REF stand in the row.
abbrev pub Stands : Type 0
Stands = Standing → ℕ → ℕ → Bool

abbrev pub is_alone : Standing → Bool
is_alone standing.Alone = true
is_alone _ = false

abbrev pub is_passed : Standing → Bool
is_passed standing.Passed = true
is_passed _ = false

abbrev pub is_length : ℕ → Bool
is_length n = nat_le 1 n && nat_le n 8191

abbrev pub all_passed : ℕ → List Stands → Bool
all_passed levels [] = true
all_passed levels (f ∷ fs) = f standing.Passed levels 8 && all_passed levels fs

abbrev pub result_passed : ℕ → Option Stands → Bool
result_passed levels None = true
result_passed levels (Some f) = f standing.Passed levels 8

module _ (records : ℕ) where
  abbrev pub layer_stands : Mode-F Stands → Stands
  layer_stands Mode-F.Byte place levels refs = true
  layer_stands Mode-F.Int place levels refs = true
  layer_stands Mode-F.Frac place levels refs = true
  layer_stands Mode-F.Label place levels refs = false
  layer_stands (Mode-F.Ref f) place levels refs = nat_lt 0 levels && (nat_lt 0 refs && f standing.Inside (levels - 1) (refs - 1))
  layer_stands (Mode-F.RefArray f) place levels refs = nat_lt 0 levels && (nat_lt 0 refs && f standing.Inside (levels - 1) 8)
  layer_stands (Mode-F.Array n f) place levels refs = is_alone place && (nat_lt 0 levels && (is_length n && f standing.Inside (levels - 1) 8))
  layer_stands (Mode-F.Record r) place levels refs = not (is_passed place) && nat_lt r records
  layer_stands (Mode-F.Proc fs r) place levels refs = nat_lt 0 levels && (nat_le (length fs) 32 && (all_passed (levels - 1) fs && result_passed (levels - 1) r))

  abbrev pub stands : Mode → Stands
  stands = fold-Mode Stands layer_stands

  -- as the mode of a field or an item: at most 100 modes open, and at most eight REF stand in a row
  abbrev pub stands_alone : Mode → Bool
  stands_alone m = stands m standing.Alone 100 8

  -- as the mode of a local
  abbrev pub stands_passed : Mode → Bool
  stands_passed m = stands m standing.Passed 100 8

-- ---- the starts of data

abbrev pub part_mode : List RecordDef → ℕ → Mode-F Mode → Option Mode
part_mode records k (Mode-F.Record r) = field_mode records r k
part_mode records k (Mode-F.Array n m) = if nat_lt k n then Some m else None
part_mode records k _ = None

-- the mode of what a path of fields and elements leads to
abbrev pub mode_along : List RecordDef → List ℕ → Mode → Option Mode
mode_along records [] m = Some m
mode_along records (k ∷ ks) m = with (part_mode records k (out-Mode m)) (mode_along records ks)

abbrev pub data_in : Sort → Option (List Field)
data_in (OfData fs) = Some fs
data_in _ = None

-- the fields of a data brick that all tasks share
abbrev pub shared_of : Face → Option (List Field)
shared_of b = if is_svc b.kind then None else data_in b.sort

abbrev pub shared_mode : Scope → ℕ → ℕ → List ℕ → Option Mode
shared_mode c b j path = with (slice_get c.bricks b) (λ d. with (shared_of d) (λ fs. with (field_at fs j) (mode_along c.records path)))

abbrev pub number_starts : ℕ → Mode-F Mode → Bool
number_starts n Mode-F.Byte = nat_le n 255
number_starts n Mode-F.Int = true
number_starts n Mode-F.Frac = true
number_starts n _ = false

abbrev pub text_starts : Scope → ℕ → Mode-F Mode → Bool
text_starts c s (Mode-F.RefArray m) = same m mode.Byte && nat_lt s c.strings
text_starts c s _ = false

abbrev pub is_array_of : Mode → Mode-F Mode → Bool
is_array_of w (Mode-F.Array n m) = same w m
is_array_of w _ = false

-- a REF to a place of this mode, or a REF ARRAY to an array
abbrev pub place_starts : Mode → Mode-F Mode → Bool
place_starts m (Mode-F.Ref w) = same w m
place_starts m (Mode-F.RefArray w) = is_array_of w (out-Mode m)
place_starts _ _ = false

abbrev pub Starts : Type 0
Starts = Mode → Bool

abbrev pub all_start : List Starts → Mode → Bool
all_start [] m = true
all_start (f ∷ fs) m = f m && all_start fs m

abbrev pub fields_start : List Starts → List Field → Bool
fields_start [] xs = length xs == 0
fields_start (f ∷ fs) [] = false
fields_start (f ∷ fs) (x ∷ xs) = f x.mode && fields_start fs xs

abbrev pub record_starts : List Starts → Option RecordDef → Bool
record_starts fs = passes (λ d. fields_start fs d.fields)

abbrev pub list_starts : List RecordDef → List Starts → Mode-F Mode → Bool
list_starts records fs (Mode-F.Array n m) = length fs == n && all_start fs m
list_starts records fs (Mode-F.Record r) = record_starts fs (slice_get records r)
list_starts records fs _ = false

module _ (c : Scope) where
  abbrev pub one_start : DataStart-F Starts → Starts
  one_start (DataStart-F.Number n) m = number_starts n (out-Mode m)
  one_start (DataStart-F.Text s) m = text_starts c s (out-Mode m)
  one_start (DataStart-F.Proc b) m = passes (same m) (proc_mode c.bricks b)
  one_start (DataStart-F.Place b j path) m = passes (λ found. place_starts found (out-Mode m)) (shared_mode c b j path)
  one_start (DataStart-F.List fs) m = list_starts c.records fs (out-Mode m)

  abbrev pub starts : DataStart → Starts
  starts = fold-DataStart Starts one_start

  -- one for each item
  abbrev pub items_start : List DataStart → List Field → Bool
  items_start ss fs = fields_start (map starts ss) fs

-- ---- bricks

-- whether the module itself has the brick
abbrev pub is_here : Kind → Bool
is_here kind.Own = true
is_here kind.Ent = true
is_here _ = false

abbrev pub is_ext : Kind → Bool
is_ext kind.Ext = true
is_ext _ = false

-- the first locals are the parameters
abbrev pub parameters_first : List Mode → List Local → Bool
parameters_first [] ls = true
parameters_first (m ∷ ms) (local.Variable n ∷ ls) = same m n && parameters_first ms ls
parameters_first _ _ = false

abbrev pub local_stands : ℕ → Local → Bool
local_stands records (local.Variable m) = stands_passed records m
local_stands records local.Loop = true

abbrev pub closes : Option Mode → Body → Bool
closes None b = true
closes (Some m) b = closed b

abbrev pub first_sight : Option Mode → ℕ → Sight
first_sight r outermost = record { seen = []; outermost = outermost; result = r }

-- The numbers behind a body whose labels count from 0, and whose locals from the parameters on. The labels of its
-- outermost sequence can be recovered at.
abbrev pub numbers_behind : Scope → ℕ → Option Mode → Body → Option Next
numbers_behind c parameters r b =
    with (labels_end 0 (map (marked c) (out-Body b).statements)) (λ outermost. body_part c b (first_sight r outermost) (next_by 0 parameters))

-- the labels and the locals are numbered to the last one
abbrev pub is_last : ProcBody → Next → Bool
is_last p n = n.label == p.labels && n.local == length p.locals

abbrev pub numbers_all : Scope → ℕ → Option Mode → ProcBody → Bool
numbers_all c parameters r b = passes (is_last b) (numbers_behind (with_locals c b.locals) parameters r b.body)

abbrev pub proc_fits : Scope → List Mode → Option Mode → ProcBody → Bool
proc_fits c ms r b =
    parameters_first ms b.locals
    && (list_all (local_stands (length c.records)) b.locals
    && (numbers_all c (length ms) r b
    && closes r b.body))

-- an own or ENT procedure has a body, and no other
abbrev pub body_fits : Scope → Kind → Signature → Option ProcBody → Bool
body_fits c k s None = not (is_here k)
body_fits c k s (Some b) = is_here k && proc_fits c s.parameters s.answer b

abbrev pub procedure_fits : Scope → Kind → Mode → Option ProcBody → Bool
procedure_fits c k m body = passes (λ s. stands_alone (length c.records) m && body_fits c k s body) (signature_by (out-Mode m))

-- LABEL is the mode of ERL in the SVC data RRERR alone
abbrev pub is_recovery_label : Kind → List ℕ → Field → Bool
is_recovery_label k brick f = is_svc k && (bytes_eq brick (codes "RRERR") && field_is (codes "ERL") is_label_layer f)

abbrev pub field_stands : ℕ → Field → Bool
field_stands records f = stands_alone records f.mode

abbrev pub item_stands : ℕ → Kind → List ℕ → Field → Bool
item_stands records k brick f = field_stands records f || is_recovery_label k brick f

-- an own or ENT data brick has a start for each item, and no other has one
abbrev pub data_starts : Scope → Kind → List Field → List DataStart → Bool
data_starts c k fs ss = if is_here k then items_start c ss fs else length ss == 0

-- an own or ENT stack has 1 to 28,672 words; that of an EXT one isn't known
abbrev pub words_fit : Kind → ℕ → Bool
words_fit k n = if is_here k then nat_le 1 n && nat_le n 28672 else is_ext k && n == 0

abbrev pub sort_fits : Scope → Kind → List ℕ → BrickSort → Bool
sort_fits c k name (sort.Proc m body) = procedure_fits c k m body
sort_fits c k name (sort.Data fs ss) = list_all (item_stands (length c.records) k name) fs && data_starts c k fs ss
sort_fits c k name (sort.Stack n) = words_fit k n

abbrev pub brick_fits : Scope → Brick → Bool
brick_fits c b = sort_fits c b.kind b.name b.sort

-- ---- modules

abbrev pub record_stands : ℕ → RecordDef → Bool
record_stands records d = list_all (field_stands records) d.fields

-- a string has at most 8,191 bytes
abbrev pub is_short : List ℕ → Bool
is_short s = nat_le (length s) 8191

-- Every node fits: the modes of the records, the bricks with all that is in them, and the strings.
abbrev pub every_node_fits : ModuleParts → Bool
every_node_fits p = list_all (record_stands (length p.modes.records)) p.modes.records && (list_all (brick_fits (scope_of p)) p.bricks && list_all is_short p.strings)

-- ---- the bound of a recursion

abbrev pub has_body : BrickSort → Bool
has_body (sort.Proc m (Some b)) = true
has_body _ = false

-- an own or ENT procedure
abbrev pub is_procedure : Option Brick → Bool
is_procedure = passes (λ b. has_body b.sort)

abbrev pub body_with : ℕ → Option ProcBody → Option ProcBody
body_with most None = None
body_with most (Some b) = Some (record { locals = b.locals; labels = b.labels; items = b.items; most = most; body = b.body })

abbrev pub sort_with : ℕ → BrickSort → BrickSort
sort_with most (sort.Proc m body) = sort.Proc m (body_with most body)
sort_with most other = other

abbrev pub brick_with : ℕ → Brick → Brick
brick_with most b = record { kind = b.kind; name = b.name; sort = sort_with most b.sort }

abbrev pub bricks_with : List Brick → ℕ → ℕ → List Brick
bricks_with [] k most = []
bricks_with (b ∷ bs) zero most = brick_with most b ∷ bs
bricks_with (b ∷ bs) (suc k) most = b ∷ bricks_with bs k most

-- the parts with another bound of one brick, and nothing else changed
abbrev pub with_most : ModuleParts → ℕ → ℕ → ModuleParts
with_most p k most = record { title = p.title; modes = p.modes; bricks = bricks_with p.bricks k most; strings = p.strings }
