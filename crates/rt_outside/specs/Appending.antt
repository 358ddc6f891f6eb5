-- What stands where a text was put only in part.
use Rattle.std.specs.Prelude.{ℕ, ◌≡◌, ◌≢◌, List, [], ◌++◌, Option}
use Rattle.std.specs.Io.KnownBytes.{Appends}

-- a proper start of the text was appended
pub record AppendsStart (old new : Option (List ℕ)) (text : List ℕ) : Type 0 where
  pub start : List ℕ
  pub rest : List ℕ
  pub parts : text ≡ start ++ rest
  pub proper : rest ≢ []
  pub appended : Appends old new start
