-- Which procedures may have code that is too long.
use Rattle.std.specs.Prelude.{◌≡◌, ℕ, ◌*◌, ◌<◌, ◌≤◌, true, List, length, Some, slice_get}
use Rattle.rt_modes.specs.declared.mode.Mode.{Mode}
use Rattle.rt_tree_nodes.specs.declared.brick.Brick.{Brick}
use Rattle.rt_tree_nodes.specs.declared.brick.BrickSort.TheVariants as sort
use Rattle.rt_tree_nodes.specs.declared.brick.ModuleParts.{ModuleParts}
use Rattle.rt_tree_nodes.specs.declared.brick.ProcBody.{ProcBody}
use Rattle.rt_tree.specs.Modules.{every_node_fits}
use Rattle.rt_tree.specs.Within.{Within}
use Rattle.rt_templates.specs.declared.code.Support.{Support}
use Rattle.rt_templates.specs.Supported.{IsSupport}
use Rattle.rt_compile.specs.Objects.{HasLongProc}
use Rattle.rt_compile.specs.Texts.{HasLongCode}

-- a procedure of this name, with more than 1,363 items from PROC to ENDPROC
pub record HasLargeProc (p : ModuleParts) (name : List ℕ) : Type 0 where
  pub number : ℕ
  pub brick : Brick
  pub mode : Mode
  pub body : ProcBody
  pub at : slice_get p.bricks number ≡ Some brick
  pub named : brick.name ≡ name
  pub sort_is : brick.sort ≡ sort.Proc mode (Some body)
  pub many : 1363 < body.items

-- Code is too long only of such a procedure, in a module that is within: an item takes at most 12 words.
abbrev pub LongCodeIsLarge : Type 0
LongCodeIsLarge = (p : ModuleParts) (name : List ℕ) → every_node_fits p ≡ true → Within p → HasLongProc p name → HasLargeProc p name

-- So it is of each text that is refused for it.
abbrev pub LongTextsAreLarge : Type 0
LongTextsAreLarge = (text name : List ℕ) (long : HasLongCode text name) → HasLargeProc long.tree name

-- The support code has at most 2,048 bytes.
abbrev pub SupportIsSmall : Type 0
SupportIsSmall = (s : Support) → IsSupport s → 2 * length s.words ≤ 2048
