-- What the format of a mode leaves, and the field that it refuses, lie within the bytes that stand there.
use Rattle.std.proofs.Common.{ℕ, zero, suc, ◌-◌, []}
use Rattle.rt_words.specs.Format.{Format, nothing, byte, word, ◌>>=◌, times, or_zero}
use Rattle.rt_words.proofs.Within.{Within, in_nothing, in_never, in_byte, in_word, in_then, in_times, in_or_zero}
use Rattle.rt_modes.specs.declared.code.Code.{Code}
use Rattle.rt_modes.specs.declared.code.Code.TheVariants as code
use Rattle.rt_modes.specs.declared.code.Place.{Place}
use Rattle.rt_modes.specs.declared.code.Place.TheVariants.{Alone, Inside, Passed}
use Rattle.rt_modes.specs.declared.mode.Mode.{Mode}
use Rattle.rt_modes.specs.declared.mode.Mode.TheVariants as mode
use Rattle.rt_modes.specs.Spelling.{code_at, length_of, record_of, count_of, behind, mode_of, inside, mode_format}

module _ (records : ℕ) (P : Place → ℕ → Format Mode) (g : (place : Place) (refs : ℕ) → Within (P place refs)) (refs : ℕ) where
  in_of : (place : Place) (k : ℕ) (f : Mode → Mode) → Within (P place k >>= (λ m. nothing (f m)))
  in_of place k f = in_then (P place k) (λ m. nothing (f m)) (g place k) (λ m. in_nothing (f m))

  in_behind : (c : Code) → Within (behind records P refs c)
  in_behind code.Byte = in_nothing mode.Byte
  in_behind code.Int = in_nothing mode.Int
  in_behind code.Frac = in_nothing mode.Frac
  in_behind code.Ref = in_of Inside (refs - 1) mode.Ref
  in_behind code.RefArray = in_of Inside 8 mode.RefArray
  in_behind code.Array = in_then (word length_of) (λ n. P Inside 8 >>= (λ m. nothing (mode.Array n m))) (in_word length_of) (λ n. in_of Inside 8 (mode.Array n))
  in_behind code.Record = in_then (word (record_of records)) (λ k. nothing (mode.Record k)) (in_word (record_of records)) (λ k. in_nothing (mode.Record k))
  in_behind code.Label = in_nothing mode.Label
  in_behind code.Proc = in_then (byte count_of) _ (in_byte count_of) (λ count. in_then (times (P Passed 8) count []) _ (in_times (P Passed 8) count [] (g Passed 8))
      (λ ps. in_then (or_zero (P Passed 8)) _ (in_or_zero (P Passed 8) (g Passed 8)) (λ r. in_nothing (mode.Proc ps r))))

  in_mode_of : (levels : ℕ) (place : Place) → Within (mode_of records P levels place refs)
  in_mode_of levels place = in_then (byte (code_at place levels refs)) (behind records P refs) (in_byte (code_at place levels refs)) in_behind

in_inside : (records levels : ℕ) (place : Place) (refs : ℕ) → Within (inside records levels place refs)
unfolding inside
in_inside records zero place refs = in_never
in_inside records (suc levels) place refs = in_mode_of records (inside records levels) (λ q k. in_inside records levels q k) refs levels place

pub in_mode : (records : ℕ) → Within (mode_format records)
in_mode records = in_mode_of records (inside records 100) (λ q k. in_inside records 100 q k) 8 100 Alone
