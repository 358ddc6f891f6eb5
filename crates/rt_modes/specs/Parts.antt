-- What is left of a spelling while it is written, as the code keeps it.
use Rattle.std.specs.Prelude.{◌≡◌, ℕ, ◌<◌, List, [], ◌∷◌, ◌++◌, length, Option, map, option_map}
use Rattle.rt_modes.specs.FullMode.{joined}
use Rattle.rt_modes.specs.Spelling.{spelling, result_spelling}
use Rattle.rt_modes.specs.declared.mode.Mode.{Mode}
use Rattle.rt_modes.specs.declared.spell.Part.{Part}
use Rattle.rt_modes.specs.declared.spell.Part.TheVariants as part

abbrev pub parts_after : List Mode → Option Mode → List ℕ
parts_after ps r = joined (map spelling ps) ++ result_spelling (option_map spelling r)

abbrev pub part_spelling : Part → List ℕ
part_spelling (part.Mode m) = spelling m.now
part_spelling (part.Behind ps r) = parts_after ps.now r.now

-- the last part first
abbrev pub parts_spelling : List Part → List ℕ
parts_spelling [] = []
parts_spelling (p ∷ ps) = parts_spelling ps ++ part_spelling p

-- with these bytes before the parts, some bytes were appended, and the parts are what is left of all
pub record Adds (bytes : List ℕ) (before after : List Part) (old new : List ℕ) : Type 0 where
  pub text : new ++ parts_spelling after ≡ old ++ (bytes ++ parts_spelling before)
  pub some : length (parts_spelling after) < length (bytes ++ parts_spelling before)
