-- What a node sees.
use Rattle.std.specs.Prelude.{ℕ, Bool, false, ◌||◌, if◌then◌else◌, List, [], ◌∷◌, ◌++◌, drop}
use Rattle.std.specs.Str.{bytes_eq}
use Rattle.rt_modes.specs.declared.mode.RecordDef.{RecordDef}
use Rattle.rt_exprs.specs.declared.scope.Meaning.{Meaning}

-- The names of one level, in the order of declaration, and what they stand for.
abbrev pub Names : Type 0
Names = List (List ℕ × Meaning)

-- The records of the module, the items of the module's strings, and the levels of names, innermost first. A string's number is
-- its place among the strings.
pub record Sight : Type 0 where
  pub records : List RecordDef
  pub strings : List ℕ
  pub levels : List Names

-- ---- names of a level

abbrev pub holds : Names → List ℕ → Bool
holds [] n = false
holds (x ∷ xs) n = bytes_eq n x.0 || holds xs n

-- Of two names of one level the first counts.
abbrev pub declared : List ℕ → Meaning → Names → Names
declared n m l = if holds l n then l else l ++ (n, m) ∷ []

-- ---- levels

abbrev pub with_levels : Sight → List Names → Sight
with_levels s ls = record { records = s.records; strings = s.strings; levels = ls }

-- inside a level of these names
abbrev pub within : Names → Sight → Sight
within l s = with_levels s (l ∷ s.levels)

-- outside the innermost level
abbrev pub outside : Sight → Sight
outside s = with_levels s (drop 1 s.levels)

abbrev pub innermost : List Names → Names
innermost [] = []
innermost (l ∷ ls) = l

-- one more name in the innermost level
abbrev pub with_name : List ℕ → Meaning → Sight → Sight
with_name n m s = within (declared n m (innermost s.levels)) (outside s)
