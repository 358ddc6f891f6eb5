-- The bytes of what is written, one value behind another.
use Rattle.std.specs.Prelude.{◌≡◌, ℕ, List, [], ◌∷◌, ◌++◌, length}
use Rattle.rt_words.specs.Bytes.{word_bytes}

-- the spellings of values, one behind another
abbrev pub spell_all : {A : Type 0} → (A → List ℕ) → List A → List ℕ
spell_all spell [] = []
spell_all spell (x ∷ xs) = spell x ++ spell_all spell xs

-- words, each with its low byte first
abbrev pub words_bytes : List ℕ → List ℕ
words_bytes = spell_all word_bytes

-- a name behind its length
abbrev pub name_bytes : List ℕ → List ℕ
name_bytes name = length name ∷ name

-- a text that grows by another has grown by the beginning of it
pub record Grew (text old new : List ℕ) : Type 0 where
  pub rest : List ℕ
  pub is : new ++ rest ≡ old ++ text
