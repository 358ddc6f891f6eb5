-- The words of modes, and names that are none of them.
use Rattle.std.specs.Prelude.{ℕ, Bool, true, ◌&&◌, ◌||◌, nat_le, if◌then◌else◌, List, [], ◌∷◌, codes}
use Rattle.std.specs.Str.{bytes_eq}

-- a digit or a letter
abbrev pub is_word_byte : ℕ → Bool
is_word_byte b = nat_le 48 b && nat_le b 57 || (nat_le 65 b && nat_le b 90 || nat_le 97 b && nat_le b 122)

abbrev pub is_word : List ℕ → Bool
is_word [] = true
is_word (b ∷ bs) = is_word_byte b && is_word bs

-- the words of modes, and all others
pub data Word : Type 0 where
  Byte : Word
  Int : Word
  Frac : Word
  Label : Word
  Ref : Word
  Array : Word
  Proc : Word
  Other : Word

unfoldable pub word : List ℕ → Word
word w = if bytes_eq w (codes "BYTE") then Byte else (
    if bytes_eq w (codes "INT") then Int else (
    if bytes_eq w (codes "FRAC") then Frac else (
    if bytes_eq w (codes "LABEL") then Label else (
    if bytes_eq w (codes "REF") then Ref else (
    if bytes_eq w (codes "ARRAY") then Array else (
    if bytes_eq w (codes "PROC") then Proc else Other))))))
