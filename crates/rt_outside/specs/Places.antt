-- Where a store's own files stand in its log.
use Rattle.std.specs.Prelude.{◌≡◌, ℕ, ◌≤◌, List, [], ◌∷◌, ◌++◌, length, slice_range, All, Option}
use Rattle.std.specs.Option.{option_to_list}
use Rattle.rt_outside.specs.declared.shelf.Place.{Place}

-- the name and the bytes that stand at a place of the log
abbrev pub file_at : List ℕ → Place → List ℕ × List ℕ
file_at log p = (slice_range log p.from p.middle, slice_range log p.middle p.to)

-- the files at these places, the last one first
abbrev pub kept : List ℕ → List Place → List (List ℕ × List ℕ)
kept log [] = []
kept log (p ∷ ps) = kept log ps ++ file_at log p ∷ []

-- a place within a log of this length
pub record IsPlace (len : ℕ) (p : Place) : Type 0 where
  pub name : p.from ≤ p.middle
  pub bytes : p.middle ≤ p.to
  pub within : p.to ≤ len

-- a place without a name
abbrev pub HasNoName : Place → Type 0
HasNoName p = p.from ≡ p.middle

-- a log, its places, and the room for more of both
pub record IsShelf (log : List ℕ) (unnamed : Option Place) (named : List Place) (room log_spare named_spare : ℕ) : Type 0 where
  pub log_room : room ≤ log_spare
  pub named_room : room ≤ named_spare
  pub unnamed_place : All (IsPlace (length log)) (option_to_list unnamed)
  pub no_name : All HasNoName (option_to_list unnamed)
  pub named_place : All (IsPlace (length log)) named
