-- The numbers in the tree of a module.
use Rattle.std.specs.Prelude.{◌≡◌, ℕ, ◌<◌, List, map, slice_get, Some}
use Rattle.std.specs.List.{AllByRecursion, Contains}
use Rattle.rt_bricks.specs.declared.tree.Module.{Module}
use Rattle.rt_modes.specs.declared.mode.Field.{Field}
use Rattle.rt_modes.specs.FullMode.{joined}
use Rattle.rt_tree_nodes.specs.declared.brick.Brick.{Brick}
use Rattle.rt_tree_nodes.specs.declared.brick.BrickSort.TheVariants as sort
use Rattle.rt_tree_nodes.specs.declared.brick.DataStart.{DataStart}
use Rattle.rt_pieces.specs.declared.item.Item.{Item}
use Rattle.rt_check_module_laws.specs.Modules.{IsText}
use Rattle.rt_meaning_laws.specs.Starting.{numbers_in}
use Rattle.rt_check_module.specs.Tree.{tree}

-- In the tree of a module of a text, whether or not faults stand in it, the starts of data have numbers of 16 bits alone.
abbrev pub StartsAreWords : Type 0
StartsAreWords = (items : List Item) (m : Module) → IsText items m
    → (b : ℕ) (d : Brick) (fs : List Field) (ss : List DataStart) → slice_get (tree m).bricks b ≡ Some d → d.sort ≡ sort.Data fs ss
    → (n : ℕ) → Contains (joined (map numbers_in ss)) n → n < 65536

-- So is it with the strings: they have bytes of 8 bits alone.
abbrev pub StringsAreBytes : Type 0
StringsAreBytes = (items : List Item) (m : Module) → IsText items m
    → (k : ℕ) (text : List ℕ) → slice_get (tree m).strings k ≡ Some text → AllByRecursion (λ b. b < 256) text
