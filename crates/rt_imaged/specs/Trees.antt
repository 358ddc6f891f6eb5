-- What is known of the trees of a system, and of the words of relocations.
use Rattle.std.specs.Prelude.{◌≡◌, ◌≢◌, ℕ, ◌<◌, ◌≤◌, true, List, [], length, map, Some, slice_get}
use Rattle.std.specs.List.{AllByRecursion, Contains}
use Rattle.rt_modes.specs.FullMode.{joined}
use Rattle.rt_modes.specs.declared.mode.Field.{Field}
use Rattle.rt_modes.specs.declared.mode.Mode.{Mode, out-Mode}
use Rattle.rt_modes.specs.declared.mode.RecordDef.{RecordDef}
use Rattle.rt_tree_nodes.specs.declared.brick.Brick.{Brick}
use Rattle.rt_tree_nodes.specs.declared.brick.BrickSort.TheVariants as sort
use Rattle.rt_tree_nodes.specs.declared.brick.DataStart.{DataStart}
use Rattle.rt_tree_nodes.specs.declared.brick.ModuleParts.{ModuleParts}
use Rattle.rt_tree_nodes.specs.declared.store.Proc.{Proc}
use Rattle.rt_tree_nodes.specs.Scopes.{scope_of, proc_mode}
use Rattle.rt_tree.specs.Modules.{is_here, every_node_fits, items_start}
use Rattle.rt_tree.specs.Stored.{System, HasBrick, module_of}
use Rattle.rt_sizes.specs.Sizes.{End}
use Rattle.rt_image.specs.Ranges.{IsByte}
use Rattle.rt_resolve.specs.Starting.{home_of}
use Rattle.rt_meaning_laws.specs.Starting.{numbers_in}
use Rattle.rt_object.specs.Ranges.{IsProcLayer}
use Rattle.rt_object.specs.declared.object.ObjectParts.{ObjectParts}
use Rattle.rt_match.specs.declared.bindings.Bound.{Bound}
use Rattle.rt_link.specs.Named.{relocated_word}
use Rattle.rt_lower.specs.declared.layouts.Layouts.{Layouts}
use Rattle.rt_lower.specs.Layouts.{table_of}
use Rattle.rt_started.specs.Started.{Resolves}
use Rattle.rt_follows.specs.Whole.{Whole, word_of}
use Rattle.rt_imaged.specs.Whole.{layouts_at}

-- The first two aren't in ModulesFit; the others follow from its nodes and numbers.
pub record TreesAre (ps : System) : Type 0 where
  -- no record is without a field: two items of such a mode would lie at one address
  pub filled : (m r : ℕ) (p : ModuleParts) (d : RecordDef) → module_of ps m ≡ Some p → slice_get p.modes.records r ≡ Some d → d.fields ≢ []
  -- the items of a data brick have an end (the ranges of objects have it: HasDataRanges)
  pub ends : (m b : ℕ) (p : ModuleParts) (d : Brick) (fs : List Field) (ss : List DataStart) → HasBrick ps m b p d → is_here d.kind ≡ true → d.sort ≡ sort.Data fs ss → (n : ℕ) × End (table_of p.modes.records) fs n
  pub nodes : (m : ℕ) (p : ModuleParts) → module_of ps m ≡ Some p → every_node_fits p ≡ true
  pub starts_fit : (m b : ℕ) (p : ModuleParts) (d : Brick) (fs : List Field) (ss : List DataStart) → HasBrick ps m b p d → is_here d.kind ≡ true → d.sort ≡ sort.Data fs ss → items_start (scope_of p) ss fs ≡ true
  pub words : (m b : ℕ) (p : ModuleParts) (d : Brick) (fs : List Field) (ss : List DataStart) → HasBrick ps m b p d → is_here d.kind ≡ true → d.sort ≡ sort.Data fs ss → (k : ℕ) → Contains (joined (map numbers_in ss)) k → k < 65536
  pub procs : (m : ℕ) (p : ModuleParts) (k : ℕ) (v : Mode) → module_of ps m ≡ Some p → proc_mode (scope_of p).bricks k ≡ Some v → IsProcLayer (out-Mode v)
  pub strings : (m k : ℕ) (p : ModuleParts) (s : List ℕ) → module_of ps m ≡ Some p → slice_get p.strings k ≡ Some s → AllByRecursion IsByte s × (length s ≤ 8191)

-- the words of the relocations of each module's data are those of the values that they stand for
abbrev pub AllResolve : Whole → System → List Layouts → List ObjectParts → List Proc → List (List Bound) → Type 0
AllResolve w ps ls objects stacks of = (m : ℕ) (p : ModuleParts) (l : Layouts) → module_of ps m ≡ Some p → layouts_at ls m ≡ Some l → Resolves (relocated_word objects stacks of m) (word_of w) l (scope_of p) (home_of ps m p)
