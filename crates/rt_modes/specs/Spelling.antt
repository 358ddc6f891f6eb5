-- The spelling of a mode in an object, where a mode may stand, and the first field that is no mode's.
use Rattle.std.specs.Prelude.{◌≡◌, ℕ, zero, suc, ◌-◌, ◌%◌, ◌<◌, ◌≤◌, ◌==◌, Bool, true, false, ◌&&◌, nat_lt, nat_le, if◌then◌else◌, List, [], ◌∷◌, ◌++◌, length, drop, Option, Some, None, IfSome}
use Rattle.std.specs.List.{AllByRecursion}
use Rattle.rt_modes.specs.declared.code.Code.{Code}
use Rattle.rt_modes.specs.declared.code.Code.TheVariants as code
use Rattle.rt_modes.specs.declared.code.Place.{Place}
use Rattle.rt_modes.specs.declared.code.Place.TheVariants.{Alone, Inside, Passed}
use Rattle.rt_modes.specs.declared.fault.ModeFault.{ModeFault}
use Rattle.rt_modes.specs.declared.fault.ModeFault.TheVariants as fault
use Rattle.rt_modes.specs.declared.mode.Mode.{Mode, out-Mode}
use Rattle.rt_modes.specs.declared.mode.Mode.TheOpen.{Mode-F}
use Rattle.rt_modes.specs.declared.mode.Mode.TheFolds.{fold-Mode}
use Rattle.rt_modes.specs.declared.mode.Mode.TheVariants as mode
use Rattle.rt_modes.specs.FullMode.{joined}
use Rattle.rt_words.specs.Format.{Format, nothing, never, byte, word, where_true, within, ◌>>=◌, times, or_zero}
use Rattle.rt_words.specs.Bytes.{word_bytes}

-- ---- the spelling

-- a result, or 0 where there is none
abbrev pub result_spelling : Option (List ℕ) → List ℕ
result_spelling None = 0 ∷ []
result_spelling (Some m) = m

-- One mode, with the spellings of the modes inside it. The number of parameters is a byte; where the mode may
-- stand it is at most 32.
abbrev pub one_spelling : Mode-F (List ℕ) → List ℕ
one_spelling Mode-F.Byte = 1 ∷ []
one_spelling Mode-F.Int = 2 ∷ []
one_spelling Mode-F.Frac = 3 ∷ []
one_spelling (Mode-F.Ref m) = 4 ∷ m
one_spelling (Mode-F.RefArray m) = 5 ∷ m
one_spelling (Mode-F.Array n m) = 6 ∷ (word_bytes n ++ m)
one_spelling (Mode-F.Record k) = 7 ∷ word_bytes k
one_spelling Mode-F.Label = 8 ∷ []
one_spelling (Mode-F.Proc ps r) = 9 ∷ (length ps % 256 ∷ (joined ps ++ result_spelling r))

abbrev pub spelling : Mode → List ℕ
spelling = fold-Mode (List ℕ) one_spelling

-- ---- where a mode may stand

abbrev pub IsLength : ℕ → Type 0
IsLength n = (1 ≤ n) × (n ≤ 8191)

-- One mode at a place where so many more modes may open and so many more REF stand in the row. inner says
-- of a mode inside it whether it may stand there.
module _ (records : ℕ) (inner : Place → ℕ → Mode → Type 0) (levels : ℕ) (place : Place) (refs : ℕ) where
  abbrev pub OneMayStand : Mode-F Mode → Type 0
  OneMayStand Mode-F.Byte = Unit {0}
  OneMayStand Mode-F.Int = Unit {0}
  OneMayStand Mode-F.Frac = Unit {0}
  OneMayStand (Mode-F.Ref m) = (0 < levels) × (0 < refs) × inner Inside (refs - 1) m
  OneMayStand (Mode-F.RefArray m) = (0 < levels) × (0 < refs) × inner Inside 8 m
  OneMayStand (Mode-F.Array n m) = (place ≡ Alone) × (0 < levels) × IsLength n × inner Inside 8 m
  OneMayStand (Mode-F.Record k) = (place ≡ Passed → ⊥) × (k < records)
  OneMayStand Mode-F.Label = place ≡ Alone
  OneMayStand (Mode-F.Proc ps r) = (0 < levels) × (length ps ≤ 32) × AllByRecursion (inner Passed 8) ps × IfSome r (inner Passed 8)

-- a mode in which fewer than so many modes open
unfoldable pub StandsInside : ℕ → ℕ → Place → ℕ → Mode → Type 0
StandsInside records zero place refs m = ⊥
StandsInside records (suc levels) place refs m = OneMayStand records (StandsInside records levels) levels place refs (out-Mode m)

-- a mode of the object form, over so many records: at most 100 modes open, and at most 8 REF stand in a row
abbrev pub MayStand : ℕ → Mode → Type 0
MayStand records m = OneMayStand records (StandsInside records 100) 100 Alone 8 (out-Mode m)

-- these bytes are the spelling of the mode, which may stand
pub record IsMode (records : ℕ) (bytes : List ℕ) (m : Mode) : Type 0 where
  pub spelled : bytes ≡ spelling m
  pub stands : MayStand records m

-- ---- the fields in their order

abbrev pub code_of : ℕ → Option Code
code_of b = if b == 1 then Some code.Byte
    else (if b == 2 then Some code.Int
    else (if b == 3 then Some code.Frac
    else (if b == 4 then Some code.Ref
    else (if b == 5 then Some code.RefArray
    else (if b == 6 then Some code.Array
    else (if b == 7 then Some code.Record
    else (if b == 8 then Some code.Label
    else (if b == 9 then Some code.Proc
    else None))))))))

abbrev pub is_alone : Place → Bool
is_alone Alone = true
is_alone Inside = false
is_alone Passed = false

abbrev pub is_not_passed : Place → Bool
is_not_passed Alone = true
is_not_passed Inside = true
is_not_passed Passed = false

-- whether a mode of this code may stand at a place where so many more modes may open and so many more REF
-- stand in the row
abbrev pub may_stand : Place → ℕ → ℕ → Code → Bool
may_stand place levels refs code.Byte = true
may_stand place levels refs code.Int = true
may_stand place levels refs code.Frac = true
may_stand place levels refs code.Ref = nat_lt 0 levels && nat_lt 0 refs
may_stand place levels refs code.RefArray = nat_lt 0 levels && nat_lt 0 refs
may_stand place levels refs code.Array = is_alone place && nat_lt 0 levels
may_stand place levels refs code.Record = is_not_passed place
may_stand place levels refs code.Label = is_alone place
may_stand place levels refs code.Proc = nat_lt 0 levels

-- a code that passes a test
abbrev pub where_may : (Code → Bool) → Option Code → Option Code
where_may may None = None
where_may may (Some c) = if may c then Some c else None

abbrev pub code_at : Place → ℕ → ℕ → ℕ → Option Code
code_at place levels refs b = where_may (may_stand place levels refs) (code_of b)

abbrev pub length_of : ℕ → Option ℕ
length_of = within 1 8191

abbrev pub record_of : ℕ → ℕ → Option ℕ
record_of records = where_true (λ k. nat_lt k records)

abbrev pub count_of : ℕ → Option ℕ
count_of = where_true (λ n. nat_le n 32)

-- what stands behind the code of a mode; inner is a mode inside it
module _ (records : ℕ) (inner : Place → ℕ → Format Mode) (refs : ℕ) where
  abbrev pub behind : Code → Format Mode
  behind code.Byte = nothing mode.Byte
  behind code.Int = nothing mode.Int
  behind code.Frac = nothing mode.Frac
  behind code.Ref = do
    m ← inner Inside (refs - 1)
    nothing (mode.Ref m)
  behind code.RefArray = do
    m ← inner Inside 8
    nothing (mode.RefArray m)
  behind code.Array = do
    n ← word length_of
    m ← inner Inside 8
    nothing (mode.Array n m)
  behind code.Record = do
    k ← word (record_of records)
    nothing (mode.Record k)
  behind code.Label = nothing mode.Label
  behind code.Proc = do
    count ← byte count_of
    ps ← times (inner Passed 8) count []
    r ← or_zero (inner Passed 8)
    nothing (mode.Proc ps r)

-- a mode, where so many more modes may open
abbrev pub mode_of : ℕ → (Place → ℕ → Format Mode) → ℕ → Place → ℕ → Format Mode
mode_of records inner levels place refs = do
  c ← byte (code_at place levels refs)
  behind records inner refs c

-- a mode in which fewer than so many modes open
unfoldable pub inside : ℕ → ℕ → Place → ℕ → Format Mode
inside records zero place refs = never
inside records (suc levels) place refs = mode_of records (inside records levels) levels place refs

-- a mode of the object form, over so many records
abbrev pub mode_format : ℕ → Format Mode
mode_format records = mode_of records (inside records 100) 100 Alone 8

-- ---- at a place of many bytes

-- the mode stands at `at`, up to the place p
pub record StandsAt (records : ℕ) (bytes : List ℕ) (at : ℕ) (m : Mode) (p : ℕ) : Type 0 where
  pub within : p ≤ length bytes
  pub spelled : drop at bytes ≡ spelling m ++ drop p bytes
  pub stands : MayStand records m

-- no mode stands at `at`: the first field that is cut or out of range stands at p
pub record RefusedAt (records : ℕ) (bytes : List ℕ) (at p : ℕ) : Type 0 where
  pub within : p ≤ length bytes
  pub refused : (mode_format records).Refuses (drop at bytes) (length bytes - p)

-- a fault of a read at `at`: want of memory, or the place of the field refused
abbrev pub Faults : ℕ → List ℕ → ℕ → ModeFault → Type 0
Faults records bytes at fault.Memory = Unit {0}
Faults records bytes at (fault.BadMode p) = RefusedAt records bytes at p
