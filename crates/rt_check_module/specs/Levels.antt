-- What the names of a module stand for.
use Rattle.std.specs.Prelude.{ℕ, ◌==◌, Bool, true, false, ◌&&◌, if◌then◌else◌, List, [], ◌∷◌, codes, map, Option, Some, None, slice_get}
use Rattle.std.specs.Str.{bytes_eq}
use Rattle.rt_modes.specs.declared.mode.Field.{Field}
use Rattle.rt_modes.specs.declared.mode.Mode.{Mode, out-Mode}
use Rattle.rt_modes.specs.declared.mode.Mode.TheOpen.{Mode-F}
use Rattle.rt_tree_nodes.specs.declared.brick.Kind.{Kind}
use Rattle.rt_tree_nodes.specs.Scopes.{passes, is_svc, is_error_data, is_stream_data}
use Rattle.rt_exprs.specs.declared.scope.Meaning.{Meaning}
use Rattle.rt_exprs.specs.declared.scope.Meaning.TheVariants as meaning
use Rattle.rt_check_declared.specs.declared.names.Declared.{Declared}
use Rattle.rt_check_declared.specs.declared.names.Declared.TheVariants as what
use Rattle.rt_check_declared.specs.Names.{Known}
use Rattle.rt_check_declared.specs.declared.bricks.Heading.{Heading}
use Rattle.rt_check_declared.specs.declared.bricks.Sort.{Sort}
use Rattle.rt_check_declared.specs.declared.bricks.Sort.TheVariants as sort
use Rattle.rt_check_declared.specs.declared.parts.Given.{Given}
use Rattle.rt_check_declared.specs.declared.parts.Given.TheVariants as given
use Rattle.rt_check_declared.specs.declared.parts.Part.{Part}
use Rattle.rt_check_declared.specs.Totals.{all_fields}
use Rattle.rt_exprs.specs.Sights.{Names, declared}
use Rattle.rt_check_module.specs.declared.supplied.Own.{Own}
use Rattle.rt_check_module.specs.declared.supplied.Own.TheVariants as own

-- names with one more, where there is one
abbrev pub if_any : (Names → List ℕ × Declared → Names) → Names → Option (List ℕ × Declared) → Names
if_any f l None = l
if_any f l (Some k) = f l k

-- ---- MODEs

-- The names of MODEs alone; whether the record is fit or not.
abbrev pub with_mode : Names → List ℕ × Declared → Names
with_mode l (n, what.Record r) = declared n (meaning.Mode r) l
with_mode l _ = l

abbrev pub with_modes : Names → Known → Names
with_modes l [] = l
with_modes l (k ∷ ks) = with_modes (with_mode l k) ks

abbrev pub mode_names : Known → Names
mode_names ks = with_modes [] ks

-- ---- the task's own supplied data

abbrev pub items_in : Sort → Option (List Field)
items_in (sort.Items ps) = all_fields ps
items_in _ = None

abbrev pub is_errors : Heading → Bool
is_errors h = is_svc h.kind && (bytes_eq h.name (codes "RRERR") && passes is_error_data (items_in h.sort))

abbrev pub is_streams : Heading → Bool
is_streams h = is_svc h.kind && (bytes_eq h.name (codes "RRSIO") && passes is_stream_data (items_in h.sort))

-- which of the task's own data a brick has, where it is supplied
abbrev pub own_by : Bool → Bool → Option Own
own_by true streams = Some own.Errors
own_by false true = Some own.Streams
own_by false false = None

abbrev pub own_of : Heading → Option Own
own_of h = own_by (is_errors h) (is_streams h)

-- The number of an item among the task's own data: 0 ERL, 1 ERN, 2 ERP, 3 IN, 4 OUT.
abbrev pub error_item : ℕ → ℕ
error_item j = if j == 0 then 0 else if j == 1 then 1 else 2

abbrev pub stream_item : ℕ → ℕ
stream_item j = if j == 0 then 3 else 4

abbrev pub own_item : Own → ℕ → ℕ
own_item own.Errors j = error_item j
own_item own.Streams j = stream_item j

-- ---- bricks and items

abbrev pub brick_by : ℕ → Sort → Meaning
brick_by b (sort.Procedure (given.Mode m)) = meaning.Proc b m
brick_by b (sort.Procedure given.Unknown) = meaning.UnknownProc
brick_by b (sort.Items ps) = meaning.Data b
brick_by b (sort.Stack n) = meaning.Stack b

abbrev pub brick_in : ℕ → Option Heading → Meaning
brick_in b None = meaning.Stack b
brick_in b (Some h) = brick_by b h.sort

-- An item of SVC data that isn't as supplied. LABEL is the mode of ERL alone, which is the task's own.
abbrev pub other_item : ℕ → ℕ → Mode → Mode-F Mode → Meaning
other_item b j m Mode-F.Label = meaning.Svc 0 m
other_item b j m _ = meaning.SvcItem b j m

-- Item j of brick b, of a mode: one of a task's own supplied data, of other SVC data, or of data that all tasks share.
abbrev pub item_with : Kind → Option (Option Own) → ℕ → ℕ → Mode → Meaning
item_with k (Some (Some o)) b j m = meaning.Svc (own_item o j) m
item_with k _ b j m = if is_svc k then other_item b j m (out-Mode m) else meaning.Item b j m

abbrev pub given_as : Kind → Option (Option Own) → ℕ → ℕ → Given → Meaning
given_as k o b j given.Unknown = meaning.Unknown
given_as k o b j (given.Mode m) = item_with k o b j m

abbrev pub item_by : Kind → Option (Option Own) → ℕ → ℕ → Option Part → Meaning
item_by k o b j None = meaning.Data b
item_by k o b j (Some p) = given_as k o b j p.has

abbrev pub part_in : Sort → ℕ → Option Part
part_in (sort.Items ps) j = slice_get ps j
part_in _ j = None

abbrev pub item_in : Option (Option Own) → ℕ → ℕ → Option Heading → Meaning
item_in o b j None = meaning.Data b
item_in o b j (Some h) = item_by h.kind o b j (part_in h.sort j)

-- ---- all names

-- where the bricks have these of the task's own data
module _ (owns : List (Option Own)) (bricks : List Heading) where
  abbrev pub means : Declared → Meaning
  means (what.Record r) = meaning.Mode r
  means (what.Brick b) = brick_in b (slice_get bricks b)
  means (what.Item b j) = item_in (slice_get owns b) b j (slice_get bricks b)

  abbrev pub with_one : Names → List ℕ × Declared → Names
  with_one l k = declared k.0 (means k.1) l

  abbrev pub with_all : Names → Known → Names
  with_all l [] = l
  with_all l (k ∷ ks) = with_all (with_one l k) ks

abbrev pub module_names : List Heading → Known → Names
module_names bricks ks = with_all (map own_of bricks) bricks [] ks
