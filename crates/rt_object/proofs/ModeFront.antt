-- A mode is read back whatever follows it.
use Rattle.std.proofs.Common.{◌≡◌, ℕ, zero, suc, ◌-◌, List, [], ◌∷◌, ◌++◌, Some, inl, inr, refl, sym, ap, ◌∙◌}
use Rattle.rt_words.specs.Format.{Format, nothing, byte, word, ◌>>=◌, times, or_zero}
use Rattle.rt_words.specs.FormatLaws.{IsReadBack}
use Rattle.rt_words.proofs.Front.{front_nothing, front_never, front_byte, front_word, front_then, front_times}
use Rattle.rt_modes.specs.declared.code.Code.{Code}
use Rattle.rt_modes.specs.declared.code.Code.TheVariants as code
use Rattle.rt_modes.specs.declared.code.Place.{Place}
use Rattle.rt_modes.specs.declared.code.Place.TheVariants.{Alone, Inside, Passed}
use Rattle.rt_modes.specs.declared.mode.Mode.{Mode}
use Rattle.rt_modes.specs.declared.mode.Mode.TheVariants as mode
use Rattle.rt_modes.specs.Spelling.{code_at, length_of, record_of, count_of, behind, mode_of, inside, mode_format}

-- what fits begins with a byte that isn't 0
BeginsElse : {A : Type 0} → Format A → Type 0
BeginsElse {A} P = (l r : List ℕ) (a : A) → P.Fits l r a → (b : ℕ) × (t : List ℕ) × (l ≡ b ∷ t) × (b ≡ 0 → ⊥)

heads : (a b : ℕ) (xs ys : List ℕ) → a ∷ xs ≡ b ∷ ys → a ≡ b
heads a b xs ys e = cc

front_or_zero : {A : Type 0} (P : Format A) → IsReadBack P → BeginsElse P → IsReadBack (or_zero P)
unfolding BeginsElse
front_or_zero {A} P g else = record {
  back = λ l r x f. elim f [
    | inl k ↦ (0 ∷ [], k.0, λ s. inl (refl, k.1))
    | inr (free, (a, fits, e)) ↦ let k = g.back l r a fits in (k.0, k.1, λ s. inr (no_zero (k.0 ++ s) s a (k.2 s), (a, k.2 s, e)))
  ];
}
  where
    no_zero : (l r : List ℕ) (a : A) → P.Fits l r a → (m : List ℕ) → l ≡ 0 ∷ m → ⊥
    no_zero l r a fits m e = let k = else l r a fits in k.3 (heads k.0 0 k.1 m (sym k.2 ∙ e))

-- 0 is no code
no_code : (place : Place) (levels refs : ℕ) (c : Code) → code_at place levels refs 0 ≡ Some c → ⊥
no_code place levels refs c e = cc

mode_else : (records : ℕ) (P : Place → ℕ → Format Mode) (levels : ℕ) (place : Place) (refs : ℕ) → BeginsElse (mode_of records P levels place refs)
unfolding BeginsElse
mode_else records P levels place refs = λ l r m (t, c, (b, e, f), rest). (b, t, e, λ zero. no_code place levels refs c (sym (ap (code_at place levels refs) zero) ∙ f))

inside_else : (records levels : ℕ) (place : Place) (refs : ℕ) → BeginsElse (inside records levels place refs)
unfolding inside BeginsElse
inside_else records zero place refs = λ l r m f. absurd f
inside_else records (suc levels) place refs = mode_else records (inside records levels) levels place refs

module _ (records : ℕ) (P : Place → ℕ → Format Mode) (g : (place : Place) (refs : ℕ) → IsReadBack (P place refs)) (else : (place : Place) (refs : ℕ) → BeginsElse (P place refs)) (refs : ℕ) where
  front_of : (place : Place) (k : ℕ) (f : Mode → Mode) → IsReadBack (P place k >>= (λ m. nothing (f m)))
  front_of place k f = front_then (P place k) (λ m. nothing (f m)) (g place k) (λ m. front_nothing (f m))

  front_behind : (c : Code) → IsReadBack (behind records P refs c)
  front_behind code.Byte = front_nothing mode.Byte
  front_behind code.Int = front_nothing mode.Int
  front_behind code.Frac = front_nothing mode.Frac
  front_behind code.Ref = front_of Inside (refs - 1) mode.Ref
  front_behind code.RefArray = front_of Inside 8 mode.RefArray
  front_behind code.Array = front_then (word length_of) _ (front_word length_of) (λ n. front_of Inside 8 (mode.Array n))
  front_behind code.Record = front_then (word (record_of records)) _ (front_word (record_of records)) (λ k. front_nothing (mode.Record k))
  front_behind code.Label = front_nothing mode.Label
  front_behind code.Proc = front_then (byte count_of) _ (front_byte count_of) (λ count. front_then (times (P Passed 8) count []) _ (front_times (P Passed 8) (g Passed 8) count [])
      (λ ps. front_then (or_zero (P Passed 8)) _ (front_or_zero (P Passed 8) (g Passed 8) (else Passed 8)) (λ r. front_nothing (mode.Proc ps r))))

  front_mode_of : (levels : ℕ) (place : Place) → IsReadBack (mode_of records P levels place refs)
  front_mode_of levels place = front_then (byte (code_at place levels refs)) (behind records P refs) (front_byte (code_at place levels refs)) front_behind

front_inside : (records levels : ℕ) (place : Place) (refs : ℕ) → IsReadBack (inside records levels place refs)
unfolding inside
front_inside records zero place refs = front_never
front_inside records (suc levels) place refs = front_mode_of records (inside records levels) (λ q k. front_inside records levels q k) (λ q k. inside_else records levels q k) refs levels place

pub front_mode : (records : ℕ) → IsReadBack (mode_format records)
front_mode records = front_mode_of records (inside records 100) (λ q k. front_inside records 100 q k) (λ q k. inside_else records 100 q k) 8 100 Alone

-- its code is there
pub some_code : (records : ℕ) (r : List ℕ) (m : Mode) → (mode_format records).Fits [] r m → ⊥
some_code records r m (t, c, (b, e, f), rest) = let bad : [] ≡ b ∷ t = e in cc
