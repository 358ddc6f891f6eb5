-- The reader of a mode is right for the format of a mode.
use Rattle.std.proofs.Common.{ℕ, zero, suc, ◌-◌, []}
use Rattle.rt_modes.specs.declared.code.Code.{Code}
use Rattle.rt_modes.specs.declared.code.Code.TheVariants as code
use Rattle.rt_modes.specs.declared.code.Place.{Place}
use Rattle.rt_modes.specs.declared.code.Place.TheVariants.{Alone, Inside, Passed}
use Rattle.rt_modes.specs.declared.mode.Mode.{Mode}
use Rattle.rt_modes.specs.declared.mode.Mode.TheVariants as mode
use Rattle.rt_words.specs.Format.{Format}
use Rattle.rt_words.specs.Format as format
use Rattle.rt_words.specs.Reading.{Reader}
use Rattle.rt_words.specs.Reading as formats
use Rattle.rt_modes.specs.Reading as reads
use Rattle.rt_modes.specs.Spelling.{code_at, length_of, record_of, count_of}
use Rattle.rt_modes.specs.Spelling as spec
use Rattle.rt_words.proofs.Right.{Right, right_nothing, right_never, right_byte, right_word, right_then, right_times, right_or_zero}

module _ (records : ℕ) (p : Place → ℕ → Reader Mode) (P : Place → ℕ → Format Mode) (g : (place : Place) (refs : ℕ) → Right (p place refs) (P place refs)) (refs : ℕ) where
  -- a mode inside this one, of which a mode is made
  right_of : (place : Place) (k : ℕ) (f : Mode → Mode) → Right (formats.◌>>=◌ (p place k) (λ m. formats.nothing (f m))) (format.◌>>=◌ (P place k) (λ m. format.nothing (f m)))
  right_of place k f = right_then (p place k) (λ m. formats.nothing (f m)) (P place k) (λ m. format.nothing (f m)) (g place k) (λ m. right_nothing (f m))

  right_behind : (c : Code) → Right (reads.behind records p refs c) (spec.behind records P refs c)
  unfolding reads.behind
  right_behind code.Byte = right_nothing mode.Byte
  right_behind code.Int = right_nothing mode.Int
  right_behind code.Frac = right_nothing mode.Frac
  right_behind code.Ref = right_of Inside (refs - 1) mode.Ref
  right_behind code.RefArray = right_of Inside 8 mode.RefArray
  right_behind code.Array = right_then (formats.word length_of) _ (format.word length_of) _ (right_word length_of) (λ n. right_of Inside 8 (mode.Array n))
  right_behind code.Record = right_then (formats.word (record_of records)) _ (format.word (record_of records)) _ (right_word (record_of records)) (λ k. right_nothing (mode.Record k))
  right_behind code.Label = right_nothing mode.Label
  right_behind code.Proc = right_then (formats.byte count_of) _ (format.byte count_of) _ (right_byte count_of)
      (λ count. right_then (formats.times (p Passed 8) count []) _ (format.times (P Passed 8) count []) _ (right_times (p Passed 8) (P Passed 8) (g Passed 8) count [])
      (λ ps. right_then (formats.or_zero (p Passed 8)) _ (format.or_zero (P Passed 8)) _ (right_or_zero (p Passed 8) (P Passed 8) (g Passed 8)) (λ r. right_nothing (mode.Proc ps r))))

  pub right_mode_of : (levels : ℕ) (place : Place) → Right (reads.mode_of records p levels place refs) (spec.mode_of records P levels place refs)
  unfolding reads.mode_of
  right_mode_of levels place = right_then (formats.byte (code_at place levels refs)) _ (format.byte (code_at place levels refs)) _ (right_byte (code_at place levels refs)) right_behind

pub right_inside : (records levels : ℕ) (place : Place) (refs : ℕ) → Right (reads.inside records levels place refs) (spec.inside records levels place refs)
unfolding reads.inside spec.inside
right_inside records zero place refs = right_never
right_inside records (suc levels) place refs = right_mode_of records (reads.inside records levels) (spec.inside records levels) (λ q k. right_inside records levels q k) refs levels place

-- a mode of the object form
pub right_mode : (records : ℕ) → Right (reads.mode_of records (reads.inside records 100) 100 Alone 8) (spec.mode_format records)
right_mode records = right_mode_of records (reads.inside records 100) (spec.inside records 100) (λ q k. right_inside records 100 q k) 8 100 Alone
