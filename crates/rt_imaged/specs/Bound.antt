-- To what the bricks of modules are bound, by the linker as by the meaning.
use Rattle.std.specs.Prelude.{◌≡◌, ℕ, ◌<◌, true, false, List, Some}
use Rattle.rt_modes.specs.declared.mode.Field.{Field}
use Rattle.rt_modes.specs.declared.mode.Mode.{Mode}
use Rattle.rt_tree_nodes.specs.declared.brick.Brick.{Brick}
use Rattle.rt_tree_nodes.specs.declared.brick.BrickSort.TheVariants as sort
use Rattle.rt_tree_nodes.specs.declared.brick.DataStart.{DataStart}
use Rattle.rt_tree_nodes.specs.declared.brick.ModuleParts.{ModuleParts}
use Rattle.rt_tree_nodes.specs.declared.store.Origin.TheVariants.{Brick as AtBrick}
use Rattle.rt_tree_nodes.specs.declared.store.Proc.{Proc}
use Rattle.rt_tree_nodes.specs.Scopes.{scope_of, proc_mode, is_svc}
use Rattle.rt_tree.specs.Modules.{is_here}
use Rattle.rt_tree.specs.Stored.{System, HasBrick, module_of, brick}
use Rattle.rt_sizes_laws.specs.Laws.{LieAlike}
use Rattle.rt_resolve.specs.Starting.{home_of, lead}
use Rattle.rt_object.specs.declared.object.ObjectParts.{ObjectParts}
use Rattle.rt_match.specs.declared.bindings.Bound.{Bound}
use Rattle.rt_graph.specs.Calls.{numbered, bound_in}
use Rattle.rt_link.specs.Named.{bound_address}
use Rattle.rt_bases.specs.Bases.{base_of}
use Rattle.rt_modes.specs.declared.mode.ModeTable.{ModeTable}
use Rattle.rt_tree.specs.Opened.{IsTable}
use Rattle.rt_meaning_laws.specs.Levels.{IsTableOf}
use Rattle.rt_system.specs.declared.parts.Task.{Task}
use Rattle.rt_image.specs.declared.image.ImageParts.{ImageParts}
use Rattle.rt_image.specs.declared.map.Map.{Map}
use Rattle.rt_lower.specs.declared.layouts.Layouts.{Layouts}
use Rattle.rt_compile.specs.DataLaws.{BytesAreCounted}
use Rattle.rt_imaged.specs.Whole.{entry_of, whole_of, IsSystem}
use Rattle.rt_imaged.specs.Trees.{TreesAre, AllResolve}

-- a data brick that a module names leads to one that is there, whose items lie alike, and the linker binds it to that
pub record DataLead (ps : System) (objects : List ObjectParts) (stacks : List Proc) (of : List (List Bound)) (m b : ℕ) (p : ModuleParts) (fields : List Field) : Type 0 where
  pub home : ℕ
  pub number : ℕ
  pub owner : ModuleParts
  pub its : Brick
  pub items : List Field
  pub starts : List DataStart
  pub leads : lead (home_of ps m p) b ≡ brick home number
  pub has : HasBrick ps home number owner its
  pub here : is_here its.kind ≡ true
  pub sort_is : its.sort ≡ sort.Data items starts
  pub alike : LieAlike p.modes owner.modes fields items
  pub address : bound_address objects stacks of m b (bound_in (numbered of m) b) ≡ base_of objects stacks (AtBrick home number)

-- What matching has to give the linker (rt_match, AreBound and Match, against rt_resolve, bounds): both bind each brick to the same.
pub record BindAlike (ps : System) (objects : List ObjectParts) (stacks : List Proc) (of : List (List Bound)) : Type 0 where
  pub procs : (m b : ℕ) (p : ModuleParts) (v : Mode) → module_of ps m ≡ Some p → proc_mode (scope_of p).bricks b ≡ Some v → bound_address objects stacks of m b (bound_in (numbered of m) b) ≡ entry_of objects stacks (lead (home_of ps m p) b)
  pub entries : (f : Proc) → entry_of objects stacks f < 65536
  pub data_leads : (m b : ℕ) (p : ModuleParts) (d : Brick) (fields : List Field) (ss : List DataStart) → HasBrick ps m b p d → d.sort ≡ sort.Data fields ss → is_svc d.kind ≡ false → DataLead ps objects stacks of m b p fields

-- Where an accepted system's bricks are bound alike, its relocations resolve.
abbrev pub RelocationsResolve : Type 0
RelocationsResolve =
    BytesAreCounted → (ps : System) (ls : List Layouts) (objects : List ObjectParts) (tasks : List Task) (image : ImageParts) (map : Map) (s : IsSystem ps ls objects tasks image map) → TreesAre ps → ((t : ModeTable) → IsTableOf ps t → IsTable t)
    → let known = s.linked.known in BindAlike ps objects known.stacks known.bindings.of → AllResolve (whole_of ps ls objects known image) ps ls objects known.stacks known.bindings.of
