-- The fields of a line.
use Rattle.std.specs.Prelude.{◌≡◌, ℕ, ◌≤◌, List, [], ◌∷◌, ◌++◌, length, map, None}
use Rattle.std.specs.List.{AllByRecursion}
use Rattle.rt_pieces.specs.Bytes.{upper}
use Rattle.rt_pieces.specs.Pieces.{IsName, word_of}
use Rattle.rt_system.specs.Lines.{IsBlank}
use Rattle.rt_system.specs.Numbers.{IsPlainNumber}

-- one or more blanks
pub record AreBlanks (text : List ℕ) : Type 0 where
  pub some : 1 ≤ length text
  pub blank : AllByRecursion IsBlank text

-- a field, blanks, and the rest of the line
pub record IsCut (line field rest : List ℕ) : Type 0 where
  pub blanks : List ℕ
  pub are : AreBlanks blanks
  pub parts : line ≡ field ++ (blanks ++ rest)

-- the line is these fields, with one or more blanks between each and the next
abbrev pub HasFields : List ℕ → List (List ℕ) → Type 0
HasFields line [] = ⊥
HasFields line (field ∷ []) = line ≡ field
HasFields line (field ∷ next ∷ more) = (rest : List ℕ) × IsCut line field rest × HasFields rest (next ∷ more)

-- a word and these fields behind it; the word may stand in any mixture of cases
pub record Names (word line : List ℕ) (fields : List (List ℕ)) : Type 0 where
  pub first : List ℕ
  pub spelled : map upper first ≡ word
  pub are : HasFields line (first ∷ fields)

abbrev pub IsFileByte : ℕ → Type 0
IsFileByte c = (33 ≤ c) × (c ≤ 126)

-- one or more bytes from 33 to 126
pub record IsFile (text : List ℕ) : Type 0 where
  pub some : 1 ≤ length text
  pub bytes : AllByRecursion IsFileByte text

-- a letter followed by letters or digits, 1 to 32 in all, which are this name in upper case; the name is no reserved word
pub record IsNamed (text name : List ℕ) : Type 0 where
  pub form : IsName text []
  pub short : length text ≤ 32
  pub upper_case : name ≡ map upper text
  pub free : word_of name ≡ None

-- a number from 1 to 255, without a leading zero
pub record IsPriority (text : List ℕ) (priority : ℕ) : Type 0 where
  pub number : IsPlainNumber text priority
  pub most : priority ≤ 255
