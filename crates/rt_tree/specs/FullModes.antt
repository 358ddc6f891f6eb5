-- Full modes of one module, and modes: where names of records can be told apart, the text says which mode it is.
use Rattle.std.specs.Prelude.{◌≡◌, ℕ, true, length, Some, slice_get}
use Rattle.rt_modes.specs.declared.mode.Mode.{Mode}
use Rattle.rt_modes.specs.declared.mode.ModeTable.{ModeTable}
use Rattle.rt_modes.specs.declared.mode.RecordDef.{RecordDef}
use Rattle.rt_modes.specs.FullMode.{FullMode}
use Rattle.rt_tree.specs.declared.standing.Standing.{Standing}
use Rattle.rt_tree.specs.Modules.{stands}
use Rattle.rt_modes.specs.ModeWords.{is_word, word, Other}

-- Each record's name is a word, and none of a mode's.
abbrev pub AreNames : ModeTable → Type 0
AreNames t = (r : ℕ) (d : RecordDef) → slice_get t.records r ≡ Some d → (is_word d.name ≡ true) × (word d.name ≡ Other)

-- no two records have the same name
abbrev pub AreApart : ModeTable → Type 0
AreApart t = (r q : ℕ) (d e : RecordDef) → slice_get t.records r ≡ Some d → slice_get t.records q ≡ Some e → d.name ≡ e.name → r ≡ q

-- The mode may stand somewhere in the module.
pub record MayStand (t : ModeTable) (m : Mode) : Type 0 where
  pub place : Standing
  pub levels : ℕ
  pub refs : ℕ
  pub passes : stands (length t.records) m place levels refs ≡ true

-- Two modes of one module whose full modes are equal are one mode.
abbrev pub FullModesTell : Type 0
FullModesTell = (t : ModeTable) (m n : Mode) → AreNames t → AreApart t → MayStand t m → MayStand t n → FullMode t m ≡ FullMode t n → m ≡ n
