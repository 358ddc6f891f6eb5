-- The item of data that a word names, to be watched.
use Rattle.std.specs.Prelude.{◌≡◌, ℕ, true, List, ◌∷◌, ◌++◌, Some, slice_get}
use Rattle.rt_modes.specs.declared.mode.Field.{Field}
use Rattle.rt_tree_nodes.specs.declared.brick.Brick.{Brick}
use Rattle.rt_tree_nodes.specs.declared.brick.BrickSort.TheVariants as sort
use Rattle.rt_tree_nodes.specs.declared.brick.DataStart.{DataStart}
use Rattle.rt_tree_nodes.specs.declared.brick.ModuleParts.{ModuleParts}
use Rattle.rt_tree.specs.Modules.{is_here}
use Rattle.rt_work_state.specs.Stores.{numbered}
use Rattle.rt_replay.specs.Trace.{Watched}

-- it is the item of this name of an own or ENT data brick of this name, in a module of this title
pub record IsItemOf (ms : List ModuleParts) (title brick item : List ℕ) (x : Watched) : Type 0 where
  pub module_parts : ModuleParts
  pub there : numbered ms x.module_number ≡ Some module_parts
  pub titled : module_parts.title ≡ title
  pub brick_parts : Brick
  pub stands : slice_get module_parts.bricks x.brick ≡ Some brick_parts
  pub brick_named : brick_parts.name ≡ brick
  pub here : is_here brick_parts.kind ≡ true
  pub fields : List Field
  pub starts : List DataStart
  pub data_brick : brick_parts.sort ≡ sort.Data fields starts
  pub field : Field
  pub holds : slice_get fields x.item ≡ Some field
  pub item_named : field.name ≡ item

-- the word is TITLE.BRICK.ITEM, and names the item: it is so in this module alone
pub record IsWatched (ms : List ModuleParts) (word : List ℕ) (x : Watched) : Type 0 where
  pub title : List ℕ
  pub brick : List ℕ
  pub item : List ℕ
  pub spelled : word ≡ title ++ 46 ∷ (brick ++ 46 ∷ item)
  pub is : IsItemOf ms title brick item x
  pub only : (y : Watched) → IsItemOf ms title brick item y → y.module_number ≡ x.module_number

-- the word names no item
abbrev pub NamesNone : List ModuleParts → List ℕ → Type 0
NamesNone ms word = (x : Watched) → IsWatched ms word x → ⊥
