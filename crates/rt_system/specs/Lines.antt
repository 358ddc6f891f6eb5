-- The lines of a text, and the first of them that breaks a rule.
use Rattle.std.specs.Prelude.{◌≡◌, ℕ, ◌-◌, ◌⊎◌, Bool, false, ◌&&◌, ◌==◌, if◌then◌else◌, List, [], ◌∷◌, take}

-- space and tab
abbrev pub IsBlank : ℕ → Type 0
IsBlank c = (c ≡ 32) ⊎ (c ≡ 9)

abbrev pub begins_with : ℕ → List ℕ → Bool
begins_with b [] = false
begins_with b (c ∷ cs) = c == b

-- a byte at the front of the first of these lines; where there is none, a line of its own
abbrev pub in_front : ℕ → List (List ℕ) → List (List ℕ)
in_front c [] = (c ∷ []) ∷ []
in_front c (line ∷ lines) = (c ∷ line) ∷ lines

-- the lines of a text, without their ends: LF ends a line, a CR just before it belongs to the end, and any
-- other byte belongs to its line. What LF doesn't end is a line too, but for the empty rest of a text
unfoldable pub lines : List ℕ → List (List ℕ)
lines [] = []
lines (c ∷ cs) =
    if c == 10 then [] ∷ lines cs else
    if c == 13 && begins_with 10 cs then lines cs else
    in_front c (lines cs)

-- each line says what stands at its place in the second list
abbrev pub Say : {K : Type 0} → (List ℕ → K → Type 0) → List (List ℕ) → List K → Type 0
Say Says [] [] = Unit {0}
Say Says [] (kind ∷ kinds) = ⊥
Say Says (line ∷ lines) [] = ⊥
Say Says (line ∷ lines) (kind ∷ kinds) = Says line kind × Say Says lines kinds

-- line n, counted from 1, is the first that breaks a rule: the lines before it are good, and with it they aren't
pub record IsFirstBad (Good : List (List ℕ) → Type 0) (bytes : List ℕ) (n : ℕ) : Type 0 where
  pub before : Good (take (n - 1) (lines bytes))
  pub with_it : Good (take n (lines bytes)) → ⊥
