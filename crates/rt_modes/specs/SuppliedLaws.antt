-- Laws of the supplied bricks.
use Rattle.std.specs.Prelude.{◌≡◌, ℕ, suc, List, map, take, Some, slice_get}
use Rattle.rt_modes.specs.Bricks.{SuppliedBrick, supplied_names, supplied_bricks, brick_numbered, is_of, number_of, name_of, text_of, supplied_by}
use Rattle.rt_modes.specs.declared.supplied.Supplied.{Supplied}
use Rattle.rt_modes.specs.declared.supplied.TheConstants.{SUPPLIED}

-- the names of the procedures are those of the first ten bricks
abbrev pub NamesAgree : Type 0
NamesAgree = map (λ b. b.name) (take 10 supplied_bricks) ≡ supplied_names

-- each brick has its number, by which it has its name and its full mode, and its place is one below it
abbrev pub NumbersAgree : Type 0
NumbersAgree = (s : Supplied) → (brick_numbered (number_of s) ≡ Some (is_of (name_of s) (text_of s))) × ((k : ℕ) × (number_of s ≡ suc k) × (slice_get SUPPLIED k ≡ Some s))

-- no two bricks have one name
abbrev pub NamesTell : Type 0
NamesTell = (s t : Supplied) → name_of s ≡ name_of t → s ≡ t

-- each brick is found by its name
abbrev pub AreFound : Type 0
AreFound = (s : Supplied) → supplied_by (name_of s) ≡ Some s

-- what is found by a name has it
abbrev pub AreOfTheirNames : Type 0
AreOfTheirNames = (name : List ℕ) (s : Supplied) → supplied_by name ≡ Some s → name_of s ≡ name

-- what has a number is found by its name, and is that brick
abbrev pub AreNumbered : Type 0
AreNumbered = (k : ℕ) (b : SuppliedBrick) → brick_numbered k ≡ Some b → (s : Supplied) × (supplied_by b.name ≡ Some s) × (number_of s ≡ k) × (is_of (name_of s) (text_of s) ≡ b)
