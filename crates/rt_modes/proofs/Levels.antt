-- One level of a mode in others.
use Rattle.std.proofs.Common.{◌≡◌, ℕ, zero, suc, ◌-◌, List, refl, arith}
use Rattle.rt_modes.specs.declared.code.Place.{Place}
use Rattle.rt_modes.specs.Reading as reads

pub inside_again : (records levels : ℕ) (place : Place) (refs : ℕ) (l : List ℕ) → (levels ≡ 0 → ⊥)
    → reads.inside records levels place refs l ≡ reads.mode_of records (reads.inside records (levels - 1)) (levels - 1) place refs l
unfolding reads.inside
inside_again records zero place refs l some = absurd (some refl)
inside_again records (suc n) place refs l some = let e : suc n - 1 ≡ n = omega arith in rw e refl
