-- Which data brick a title and a name stand for.
use Rattle.std.specs.Prelude.{◌≡◌, ℕ, true, List}
use Rattle.rt_modes.specs.declared.mode.Field.{Field}
use Rattle.rt_tree_nodes.specs.declared.brick.Brick.{Brick}
use Rattle.rt_tree_nodes.specs.declared.brick.BrickSort.TheVariants as sort
use Rattle.rt_tree_nodes.specs.declared.brick.DataStart.{DataStart}
use Rattle.rt_tree_nodes.specs.declared.brick.ModuleParts.{ModuleParts}
use Rattle.rt_tree_nodes.specs.declared.store.Proc.{Proc}
use Rattle.rt_tree.specs.Modules.{is_here}
use Rattle.rt_tree.specs.Stored.{System, HasBrick}

module _ (ps : System) (title name : List ℕ) where
  -- brick b of module m is an own or ENT data brick of this name, in a module of this title
  pub record IsDataBrick (m b : ℕ) : Type 0 where
    pub parts : ModuleParts
    pub brick : Brick
    pub has : HasBrick ps m b parts brick
    pub titled : parts.title ≡ title
    pub named : brick.name ≡ name
    pub here : is_here brick.kind ≡ true
    pub fields : List Field
    pub starts : List DataStart
    pub is_data : brick.sort ≡ sort.Data fields starts

  -- just one module of this title has such a brick
  pub record NamesBrick (g : Proc) : Type 0 where
    pub is : IsDataBrick g.module g.brick
    pub only : (m b : ℕ) → IsDataBrick m b → m ≡ g.module

  -- none has one, or more than one has
  abbrev pub NamesNoBrick : Type 0
  NamesNoBrick = (g : Proc) → NamesBrick g → ⊥
