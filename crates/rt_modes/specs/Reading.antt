-- The mode that stands at a place as a function from the bytes there.
use Rattle.std.specs.Prelude.{ℕ, zero, suc, ◌-◌, []}
use Rattle.rt_words.specs.Reading.{Reader, ◌>>=◌, nothing, never, byte, word, times, or_zero}
use Rattle.rt_modes.specs.declared.code.Code.{Code}
use Rattle.rt_modes.specs.declared.code.Code.TheVariants as code
use Rattle.rt_modes.specs.declared.code.Place.{Place}
use Rattle.rt_modes.specs.declared.code.Place.TheVariants.{Inside, Passed}
use Rattle.rt_modes.specs.declared.mode.Mode.{Mode}
use Rattle.rt_modes.specs.declared.mode.Mode.TheVariants as mode
use Rattle.rt_modes.specs.Spelling.{code_at, length_of, record_of, count_of}

module _ (inner : Place → ℕ → Reader Mode) where
  abbrev pub array : Reader Mode
  array = do
    n ← word length_of
    m ← inner Inside 8
    nothing (mode.Array n m)

  abbrev pub procedure : Reader Mode
  procedure = do
    count ← byte count_of
    ps ← times (inner Passed 8) count []
    r ← or_zero (inner Passed 8)
    nothing (mode.Proc ps r)

module _ (records : ℕ) (inner : Place → ℕ → Reader Mode) (refs : ℕ) where
  unfoldable pub behind : Code → Reader Mode
  behind code.Byte = nothing mode.Byte
  behind code.Int = nothing mode.Int
  behind code.Frac = nothing mode.Frac
  behind code.Ref = do
    m ← inner Inside (refs - 1)
    nothing (mode.Ref m)
  behind code.RefArray = do
    m ← inner Inside 8
    nothing (mode.RefArray m)
  behind code.Array = array inner
  behind code.Record = do
    k ← word (record_of records)
    nothing (mode.Record k)
  behind code.Label = nothing mode.Label
  behind code.Proc = procedure inner

unfoldable pub mode_of : ℕ → (Place → ℕ → Reader Mode) → ℕ → Place → ℕ → Reader Mode
mode_of records inner levels place refs = do
  c ← byte (code_at place levels refs)
  behind records inner refs c

unfoldable pub inside : ℕ → ℕ → Place → ℕ → Reader Mode
inside records zero place refs = never
inside records (suc levels) place refs = mode_of records (inside records levels) levels place refs
