-- Modes that may stand, layer by layer.
use Rattle.std.proofs.Common.{◌≡◌, ℕ, zero, suc, ◌-◌, ◌<◌, true, false, sym, subst, arith, refl}
use Rattle.rt_modes.specs.Spelling.{OneMayStand, StandsInside}
use Rattle.rt_modes.specs.declared.code.Place.{Place}
use Rattle.rt_modes.specs.declared.code.Place.TheVariants.{Inside, Passed}
use Rattle.rt_modes.specs.declared.mode.Mode.{Mode, out-Mode}
use Rattle.rt_modes.specs.declared.mode.Mode.TheOpen.{Mode-F}
use Rattle.rt_object_ranges.specs.Parts.{is_record, is_record_layer}

-- ---- one level

pub none_stands : (records : ℕ) (place : Place) (refs : ℕ) (m : Mode) (levels : ℕ) → levels ≡ 0 → StandsInside records levels place refs m → ⊥
unfolding StandsInside
none_stands records place refs m zero e h = h
none_stands records place refs m (suc n) e h = absurd (omega arith)

pub stands_in : (records : ℕ) (place : Place) (refs : ℕ) (m : Mode) (levels : ℕ) → 0 < levels → OneMayStand records (StandsInside records (levels - 1)) (levels - 1) place refs (out-Mode m) → StandsInside records levels place refs m
unfolding StandsInside
stands_in records place refs m zero some h = absurd (omega arith)
stands_in records place refs m (suc n) some h = let e : suc n - 1 ≡ n = omega arith in subst (λ k. OneMayStand records (StandsInside records k) k place refs (out-Mode m)) e h

pub stands_out : (records : ℕ) (place : Place) (refs : ℕ) (m : Mode) (levels : ℕ) → 0 < levels → StandsInside records levels place refs m → OneMayStand records (StandsInside records (levels - 1)) (levels - 1) place refs (out-Mode m)
unfolding StandsInside
stands_out records place refs m zero some h = absurd (omega arith)
stands_out records place refs m (suc n) some h = let e : suc n - 1 ≡ n = omega arith in subst (λ k. OneMayStand records (StandsInside records k) k place refs (out-Mode m)) (sym e) h

-- ---- from one place to another

module _ (records : ℕ) (inner : Place → ℕ → Mode → Type 0) (levels refs : ℕ) where
  -- what may be passed, stands inside
  pub passed_out : (l : Mode-F Mode) → OneMayStand records inner levels Passed refs l → OneMayStand records inner levels Inside refs l
  passed_out Mode-F.Label h = absurd cc
  passed_out Mode-F.Byte h = tt
  passed_out Mode-F.Int h = tt
  passed_out Mode-F.Frac h = tt
  passed_out (Mode-F.Ref m) h = h
  passed_out (Mode-F.RefArray m) h = h
  passed_out (Mode-F.Array n m) h = absurd (let bad = h.0 in cc)
  passed_out (Mode-F.Record k) h = (λ e. cc, h.1)
  passed_out (Mode-F.Proc ps r) h = h

  -- no record is passed
  pub record_passed : (l : Mode-F Mode) → is_record_layer l ≡ true → OneMayStand records inner levels Passed refs l → ⊥
  record_passed Mode-F.Label e h = absurd cc
  record_passed Mode-F.Byte e h = absurd cc
  record_passed Mode-F.Int e h = absurd cc
  record_passed Mode-F.Frac e h = absurd cc
  record_passed (Mode-F.Ref m) e h = absurd cc
  record_passed (Mode-F.RefArray m) e h = absurd cc
  record_passed (Mode-F.Array n m) e h = absurd cc
  record_passed (Mode-F.Record k) e h = h.0 refl
  record_passed (Mode-F.Proc ps r) e h = absurd cc

  -- what stands inside, and is no record, may be passed
  pub passed_in : (l : Mode-F Mode) → is_record_layer l ≡ false → OneMayStand records inner levels Inside refs l → OneMayStand records inner levels Passed refs l
  passed_in Mode-F.Label e h = absurd cc
  passed_in Mode-F.Byte e h = tt
  passed_in Mode-F.Int e h = tt
  passed_in Mode-F.Frac e h = tt
  passed_in (Mode-F.Ref m) e h = h
  passed_in (Mode-F.RefArray m) e h = h
  passed_in (Mode-F.Array n m) e h = absurd (let bad = h.0 in cc)
  passed_in (Mode-F.Record k) e h = absurd cc
  passed_in (Mode-F.Proc ps r) e h = h

-- ---- modes that are passed

module _ (records refs : ℕ) (m : Mode) where
  pub passed_is_inside : (levels : ℕ) → StandsInside records levels Passed refs m → StandsInside records levels Inside refs m
  unfolding StandsInside
  passed_is_inside zero h = h
  passed_is_inside (suc n) h = passed_out records (StandsInside records n) n refs (out-Mode m) h

  pub inside_is_passed : is_record m ≡ false → (levels : ℕ) → StandsInside records levels Inside refs m → StandsInside records levels Passed refs m
  unfolding StandsInside
  inside_is_passed other zero h = h
  inside_is_passed other (suc n) h = passed_in records (StandsInside records n) n refs (out-Mode m) other h

  pub no_record_passed : is_record m ≡ true → (levels : ℕ) → StandsInside records levels Passed refs m → ⊥
  unfolding StandsInside
  no_record_passed e zero h = h
  no_record_passed e (suc n) h = record_passed records (StandsInside records n) n refs (out-Mode m) e h
