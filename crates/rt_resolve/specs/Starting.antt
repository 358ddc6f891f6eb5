-- The starting store of a system: the starts of its data bricks, and its strings.
use Rattle.std.specs.Prelude.{ℕ, suc, if◌then◌else◌, List, [], ◌∷◌, map, length, Option, Some, None, slice_get}
use Rattle.rt_modes.specs.declared.mode.Field.{Field}
use Rattle.rt_modes.specs.declared.mode.Mode.{Mode, out-Mode}
use Rattle.rt_modes.specs.declared.mode.Mode.TheOpen.{Mode-F}
use Rattle.rt_modes.specs.declared.mode.RecordDef.{RecordDef}
use Rattle.rt_tree_nodes.specs.declared.brick.Brick.{Brick}
use Rattle.rt_tree_nodes.specs.declared.brick.BrickSort.{BrickSort}
use Rattle.rt_tree_nodes.specs.declared.brick.BrickSort.TheVariants as sort
use Rattle.rt_tree_nodes.specs.declared.brick.DataStart.{DataStart}
use Rattle.rt_tree_nodes.specs.declared.brick.DataStart.TheFolds.{fold-DataStart}
use Rattle.rt_tree_nodes.specs.declared.brick.DataStart.TheOpen.{DataStart-F}
use Rattle.rt_tree_nodes.specs.declared.brick.ModuleParts.{ModuleParts}
use Rattle.rt_tree_nodes.specs.declared.store.Proc.{Proc}
use Rattle.rt_tree_nodes.specs.declared.store.Origin.TheVariants as origin
use Rattle.rt_tree_nodes.specs.declared.store.Location.{Location}
use Rattle.rt_tree_nodes.specs.declared.store.Location.TheVariants.{Shared}
use Rattle.rt_tree_nodes.specs.declared.store.Datum.{Datum}
use Rattle.rt_tree_nodes.specs.declared.store.Datum.TheVariants.{Word, Reference, Row, Procedure}
use Rattle.rt_tree_nodes.specs.declared.store.Contents.{Contents}
use Rattle.rt_tree_nodes.specs.declared.store.Contents.TheVariants as contents
use Rattle.rt_tree.specs.Modules.{is_here, shared_mode}
use Rattle.rt_tree_nodes.specs.Scopes.{scope_of}
use Rattle.rt_tree_nodes.specs.Scopes.{Scope}
use Rattle.rt_tree_nodes.specs.Code.{scope}
use Rattle.rt_resolve.specs.declared.starting.Home.{Home as HomeNode}
use Rattle.rt_work_state.specs.declared.store.ModuleStore.{ModuleStore}
use Rattle.rt_work_state.specs.Stores.{Store}
use Rattle.rt_work_state.specs.Nodes.{length_in}
use Rattle.rt_resolve.specs.Bindings.{bounds, proc_or_none}

-- a module of a system: what its data may name, the lengths of its strings, its number, and to what each of its bricks is
-- bound
pub record Home : Type 0 where
  pub scope : Scope
  pub texts : List ℕ
  pub number : ℕ
  pub leads : List Proc

-- where the brick of a number leads
abbrev pub lead : Home → ℕ → Proc
lead h b = proc_or_none (slice_get h.leads b)

abbrev pub array_length : Mode-F Mode → ℕ
array_length (Mode-F.Array n m) = n
array_length _ = 0

abbrev pub length_found : Option Mode → ℕ
length_found None = 0
length_found (Some m) = array_length (out-Mode m)

abbrev pub location_of : Proc → ℕ → List ℕ → Location
location_of f j path = Shared (origin.Brick f.module f.brick) (j ∷ path)

-- a REF ARRAY leads to an array, a REF to a place of another mode
abbrev pub leads_by : Mode-F Mode → Location → Option Mode → Datum
leads_by (Mode-F.RefArray m) l found = Row l (length_found found)
leads_by _ l found = Reference l

-- the row of a string
abbrev pub text_of : Home → ℕ → Datum
text_of h s = Row (Shared (origin.Text h.number s) []) (length_in (slice_get h.texts s))

-- what an item, a field or an element of a mode contains
abbrev pub Starting : Type 0
Starting = Mode → Contents

abbrev pub elements : List Starting → Mode → List Contents
elements [] m = []
elements (f ∷ fs) m = f m ∷ elements fs m

abbrev pub parts : List Starting → List Field → List Contents
parts [] xs = []
parts (f ∷ fs) [] = []
parts (f ∷ fs) (x ∷ xs) = f x.mode ∷ parts fs xs

abbrev pub record_parts : List Starting → Option RecordDef → List Contents
record_parts fs None = []
record_parts fs (Some d) = parts fs d.fields

abbrev pub listed : List RecordDef → List Starting → Mode-F Mode → List Contents
listed records fs (Mode-F.Array n m) = elements fs m
listed records fs (Mode-F.Record r) = record_parts fs (slice_get records r)
listed records fs _ = []

-- the reference of a place of data
abbrev pub place_start : Home → ℕ → ℕ → List ℕ → Mode → Datum
place_start h b j path w = leads_by (out-Mode w) (location_of (lead h b) j path) (shared_mode h.scope b j path)

module _ (h : Home) where
  abbrev pub one_start : DataStart-F Starting → Starting
  one_start (DataStart-F.Number n) w = contents.Datum (Word n)
  one_start (DataStart-F.Text s) w = contents.Datum (text_of h s)
  one_start (DataStart-F.Proc b) w = contents.Datum (Procedure (lead h b))
  one_start (DataStart-F.Place b j path) w = contents.Datum (place_start h b j path w)
  one_start (DataStart-F.List fs) w = contents.Parts (listed h.scope.records fs (out-Mode w))

  abbrev pub starts : DataStart → Starting
  starts = fold-DataStart Starting one_start

  -- an own or ENT data brick contains its items; no other brick has contents of its own
  abbrev pub sort_contents : BrickSort → List Contents
  sort_contents (sort.Data fs ss) = parts (map starts ss) fs
  sort_contents _ = []

  abbrev pub brick_contents : Brick → Contents
  brick_contents b = contents.Parts (if is_here b.kind then sort_contents b.sort else [])

abbrev pub byte_contents : ℕ → Contents
byte_contents b = contents.Datum (Word b)

abbrev pub text_contents : List ℕ → Contents
text_contents bytes = contents.Parts (map byte_contents bytes)

abbrev pub text_length : List ℕ → ℕ
text_length bytes = length bytes

abbrev pub home_of : List ModuleParts → ℕ → ModuleParts → Home
home_of ps m p = record { scope = scope_of p; texts = map text_length p.strings; number = m; leads = bounds ps m p }

abbrev pub module_store : List ModuleParts → ℕ → ModuleParts → ModuleStore
module_store ps m p = record { bricks = map (brick_contents (home_of ps m p)) p.bricks; texts = map text_contents p.strings }

-- the same of modules that count from m
abbrev pub stores_from : List ModuleParts → ℕ → List ModuleParts → Store
stores_from ps m [] = []
stores_from ps m (q ∷ qs) = module_store ps m q ∷ stores_from ps (suc m) qs

-- the starting store of a system of these modules
abbrev pub starting_store : List ModuleParts → Store
starting_store ps = stores_from ps 1 ps

-- ---- what the code holds

abbrev pub home : HomeNode → Home
home h = record { scope = scope h.scope; texts = h.texts.now; number = h.number; leads = h.leads.now }
