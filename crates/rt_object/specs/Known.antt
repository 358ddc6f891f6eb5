-- What is known while an object is read.
use Rattle.std.specs.Prelude.{◌≡◌, ℕ, ◌<◌, ◌==◌, ◌||◌, nat_le, not, Bool, false, List, length, Option, Some, None, Vec, Result, Ok, Err}
use Rattle.std.specs.BTreeSet.{BTreeSet, contains_by}
use Rattle.std.specs.Cmp.Lexicographic.{slice_cmp}
use Rattle.std.specs.List.{list_any}
use Rattle.std.specs.Ordering.{nat_cmp}
use Rattle.std.specs.Str.{bytes_eq}
use Rattle.rt_words.specs.Format.{Format}
use Rattle.rt_words.specs.declared.stop.Stop.{Stop}
use Rattle.rt_words.specs.declared.stop.Stop.TheVariants as stop
use Rattle.rt_modes.specs.declared.mode.RecordDef.{RecordDef}
use Rattle.rt_sizes.specs.Capped.{is_within, size_in}
use Rattle.rt_sizes.specs.declared.size.Size.{Size}
use Rattle.rt_object.specs.declared.object.Relocation.{Relocation}
use Rattle.rt_object.specs.Grammar.{is_behind, IsFirstBad}
use Rattle.rt_object.specs.Ranges.{IsBadRecord}

-- a set has just these names
abbrev pub Knows : {A : Type 0} → BTreeSet (Vec ℕ A) → List (List ℕ) → Type 0
Knows set names = (n : List ℕ) → contains_by (λ k. slice_cmp nat_cmp n k.items) set ≡ list_any (λ m. bytes_eq m n) names

-- places behind those of some relocations are just those from one on
abbrev pub AreBehind : ℕ → List Relocation → Type 0
AreBehind least before = (place : ℕ) → is_behind before place ≡ nat_le least place

-- numbers greater than some are just those from one on
abbrev pub AreAbove : ℕ → List ℕ → Type 0
AreAbove least before = (k : ℕ) → not (list_any (λ m. nat_le k m) before) ≡ nat_le least k

-- whether a record is found to have more bytes than a record may
abbrev pub is_too_large : Option Size → Bool
is_too_large None = false
is_too_large (Some s) = not (is_within s)

-- whether a record is the one that was found
abbrev pub is_at : Option ℕ → ℕ → Bool
is_at None k = false
is_at (Some j) k = j == k

-- whether a record is that, or is too large
abbrev pub is_found : List (Option Size) → Option ℕ → ℕ → Bool
is_found sizes ring k = is_at ring k || is_too_large (size_in sizes k)

-- the first bad record, or that none is bad
abbrev pub IsFirst : List RecordDef → Option ℕ → Type 0
IsFirst records (Some k) = IsFirstBad records k
IsFirst records None = (k : ℕ) → k < length records → IsBadRecord records k → ⊥

-- ---- what a reader answers

abbrev pub StopsAt : {A : Type 0} → Format A → List ℕ → Stop → Type 0
StopsAt format bytes stop.Memory = Unit {0}
StopsAt format bytes (stop.Refused n) = format.Refuses bytes n

-- unless memory runs out, what the format says of the bytes
abbrev pub Meets : {X A : Type 0} → (X → A × List ℕ) → Result X Stop → Format A → List ℕ → Type 0
Meets view (Ok x) format bytes = format.Fits bytes (view x).1 (view x).0
Meets view (Err e) format bytes = StopsAt format bytes e
