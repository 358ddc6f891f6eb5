-- Files as a list of names with their bytes.
use Rattle.std.specs.Prelude.{ℕ, if◌then◌else◌, List, [], ◌∷◌, Option, Some, None}
use Rattle.std.specs.Str.{bytes_eq}

-- the bytes of the first file of a name, or none
abbrev pub first_of : List (List ℕ × List ℕ) → List ℕ → Option (List ℕ)
first_of [] name = None
first_of (file ∷ files) name = if bytes_eq file.0 name then Some file.1 else first_of files name
