-- The spelling of a mode is bytes, and begins with its code.
use Rattle.std.proofs.Common.{◌≡◌, ℕ, zero, suc, ◌^◌, ◌≤◌, Bool, List, [], ◌∷◌, map, Some, None, refl, sym, ap, subst, ◌∙◌, arith}
use Rattle.std.specs.List.{AllByRecursion}
use Rattle.rt_words.proofs.Spelled.{AreBytes, bytes_append, word_are_bytes}
use Rattle.rt_modes.specs.FullMode.{joined}
use Rattle.rt_modes.specs.Spelling.{MayStand, StandsInside, OneMayStand, spelling, one_spelling}
use Rattle.rt_modes.specs.declared.code.Place.{Place}
use Rattle.rt_modes.specs.declared.code.Place.TheVariants.{Alone, Inside, Passed}
use Rattle.rt_modes.specs.declared.mode.Mode.{Mode, out-Mode, map-Mode}
use Rattle.rt_modes.specs.declared.mode.Mode.TheFolds.{fold_out-Mode}
use Rattle.rt_modes.specs.declared.mode.Mode.TheOpen.{Mode-F}
use Rattle.rt_words.specs.Bytes.{word_bytes}
use Rattle.rt_object.specs.Grammar.{begins}

spelled_at : (m : Mode) (l : Mode-F Mode) → out-Mode m ≡ l → spelling m ≡ one_spelling (map-Mode Mode (List ℕ) spelling l)
spelled_at m l o = rw (fold_out-Mode, o) refl

joined_bytes : (S : Mode → Type 0) → ((m : Mode) → S m → AreBytes (spelling m)) → (ms : List Mode) → AllByRecursion S ms → AreBytes (joined (map spelling ms))
joined_bytes S g [] h = tt
joined_bytes S g (m ∷ ms) h = bytes_append (spelling m) (joined (map spelling ms)) (g m h.0) (joined_bytes S g ms h.1)

module _ (records : ℕ) (small : records ≤ 2 ^ 16) (inner : Place → ℕ → Mode → Type 0) (g : (place : Place) (refs : ℕ) (m : Mode) → inner place refs m → AreBytes (spelling m)) (levels : ℕ) (place : Place) (refs : ℕ) where
  layer_bytes : (l : Mode-F Mode) → OneMayStand records inner levels place refs l → AreBytes (one_spelling (map-Mode Mode (List ℕ) spelling l))
  layer_bytes Mode-F.Byte h = (omega arith, tt)
  layer_bytes Mode-F.Int h = (omega arith, tt)
  layer_bytes Mode-F.Frac h = (omega arith, tt)
  layer_bytes (Mode-F.Ref m) h = (omega arith, g Inside _ m h.2)
  layer_bytes (Mode-F.RefArray m) h = (omega arith, g Inside _ m h.2)
  layer_bytes (Mode-F.Array n m) h = let most = h.2.1 in (omega arith, bytes_append (word_bytes n) (spelling m) (word_are_bytes n (omega arith)) (g Inside _ m h.3))
  layer_bytes (Mode-F.Record k) h = let below = h.1 in (omega arith, word_are_bytes k (omega arith))
  layer_bytes Mode-F.Label h = (omega arith, tt)
  layer_bytes (Mode-F.Proc ps None) h =
      let more = bytes_append (joined (map spelling ps)) (0 ∷ []) (joined_bytes (inner Passed 8) (g Passed 8) ps h.2) (omega arith, tt) in
      (omega arith, (omega arith, more))
  layer_bytes (Mode-F.Proc ps (Some r)) h =
      let more = bytes_append (joined (map spelling ps)) (spelling r) (joined_bytes (inner Passed 8) (g Passed 8) ps h.2) (g Passed 8 r h.3) in
      (omega arith, (omega arith, more))

  one_bytes : (m : Mode) → OneMayStand records inner levels place refs (out-Mode m) → AreBytes (spelling m)
  one_bytes m h = subst AreBytes (sym (spelled_at m (out-Mode m) refl)) (layer_bytes (out-Mode m) h)

inside_bytes : (records : ℕ) → records ≤ 2 ^ 16 → (levels : ℕ) (place : Place) (refs : ℕ) (m : Mode) → StandsInside records levels place refs m → AreBytes (spelling m)
unfolding StandsInside
inside_bytes records small zero place refs m h = absurd h
inside_bytes records small (suc levels) place refs m h = one_bytes records small (StandsInside records levels) (inside_bytes records small levels) levels place refs m h

pub mode_bytes : (records : ℕ) → records ≤ 2 ^ 16 → (m : Mode) → MayStand records m → AreBytes (spelling m)
mode_bytes records small m h = one_bytes records small (StandsInside records 100) (inside_bytes records small 100) 100 Alone 8 m h

-- ---- its code

abbrev pub code_in : Mode-F Mode → ℕ
code_in Mode-F.Byte = 1
code_in Mode-F.Int = 2
code_in Mode-F.Frac = 3
code_in (Mode-F.Ref m) = 4
code_in (Mode-F.RefArray m) = 5
code_in (Mode-F.Array n m) = 6
code_in (Mode-F.Record k) = 7
code_in Mode-F.Label = 8
code_in (Mode-F.Proc ps r) = 9

layer_coded : (l : Mode-F Mode) → (t : List ℕ) × (one_spelling (map-Mode Mode (List ℕ) spelling l) ≡ code_in l ∷ t)
layer_coded Mode-F.Byte = (_, refl)
layer_coded Mode-F.Int = (_, refl)
layer_coded Mode-F.Frac = (_, refl)
layer_coded (Mode-F.Ref m) = (_, refl)
layer_coded (Mode-F.RefArray m) = (_, refl)
layer_coded (Mode-F.Array n m) = (_, refl)
layer_coded (Mode-F.Record k) = (_, refl)
layer_coded Mode-F.Label = (_, refl)
layer_coded (Mode-F.Proc ps None) = (_, refl)
layer_coded (Mode-F.Proc ps (Some r)) = (_, refl)

pub coded : (m : Mode) → (t : List ℕ) × (spelling m ≡ code_in (out-Mode m) ∷ t)
coded m = let k = layer_coded (out-Mode m) in (k.0, spelled_at m (out-Mode m) refl ∙ k.1)

pub begins_coded : (test : ℕ → Bool) (m : Mode) → begins test (spelling m) ≡ test (code_in (out-Mode m))
begins_coded test m = ap (begins test) (coded m).1
