-- Full modes of the modules of a system, and the levels of modes: what modes of two modules with one full mode have in common.
use Rattle.std.specs.Prelude.{◌≡◌, ◌⊎◌, ℕ, Some}
use Rattle.rt_modes.specs.declared.mode.Mode.{Mode, out-Mode}
use Rattle.rt_modes.specs.declared.mode.Mode.TheOpen.{Mode-F}
use Rattle.rt_modes.specs.declared.mode.ModeTable.{ModeTable}
use Rattle.rt_modes.specs.FullMode.{FullMode}
use Rattle.rt_tree_nodes.specs.declared.brick.ModuleParts.{ModuleParts}
use Rattle.rt_tree.specs.Stored.{System, module_of}
use Rattle.rt_tree.specs.FullModes.{MayStand}
use Rattle.rt_tree.specs.Opened.{LevelSame}
use Rattle.rt_resolve.specs.Matching.{no_records}

-- the mode of a string without a byte; that of another may stand
abbrev pub IsEmptyString : Mode → Type 0
IsEmptyString m = (w : Mode) × (out-Mode m ≡ Mode-F.Array 0 w) × (out-Mode w ≡ Mode-F.Byte)

-- what a place may be of
abbrev pub MayBe : ModeTable → Mode → Type 0
MayBe t m = MayStand t m ⊎ IsEmptyString m

-- the records of a module of the system, or those of module 0
pub data IsTableOf (ps : System) : ModeTable → Type 0 where
  of_module : (m : ℕ) {p : ModuleParts} → module_of ps m ≡ Some p → IsTableOf ps p.modes
  of_supplied : IsTableOf ps no_records

module _ (t u : ModeTable) where
  -- modes of one full mode have one first level
  abbrev pub Open : Type 0
  Open = (m n : Mode) → MayBe t m → MayBe u n → FullMode t m ≡ FullMode u n → LevelSame t u (out-Mode m) (out-Mode n)

-- Full modes say what modes are, whichever two modules of the system they stand in.
abbrev pub FullModesTell : System → Type 0
FullModesTell ps = (t u : ModeTable) → IsTableOf ps t → IsTableOf ps u → Open t u
