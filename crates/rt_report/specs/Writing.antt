-- What was appended while a listing is written.
use Rattle.std.specs.Prelude.{◌≡◌, ℕ, ◌<◌, ◌≤◌, List, ◌++◌, length}
use Rattle.rt_object.specs.declared.object.BrickKind.{BrickKind}
use Rattle.rt_object.specs.declared.object.BrickKind.TheVariants as kind
use Rattle.rt_object.specs.declared.object.Content.{Content}
use Rattle.rt_object.specs.declared.object.Content.TheVariants as content
use Rattle.rt_modes.specs.declared.mode.ModeTable.{ModeTable}
use Rattle.rt_object.specs.declared.object.Brick.{Brick}
use Rattle.rt_report.specs.Listing.{ListsFrom, ListsBricks}

-- a text of which this holds was appended
pub record Puts (Lists : List ℕ → Type 0) (old new : List ℕ) : Type 0 where
  pub text : List ℕ
  pub lists : Lists text
  pub all : new ≡ old ++ text

-- one line of a code was appended, and the next begins at a word further on
pub record PutsLine (words marks : List ℕ) (at : ℕ) (old new : List ℕ) (next : ℕ) : Type 0 where
  pub line : List ℕ
  pub all : new ≡ old ++ line
  pub further : at < next
  pub within : next ≤ length words
  pub lists : (rest : List ℕ) → ListsFrom words marks next rest → ListsFrom words marks at (line ++ rest)

-- the lines of a code up to a word were appended
pub record PutsUpTo (words marks : List ℕ) (at : ℕ) (old new : List ℕ) : Type 0 where
  pub text : List ℕ
  pub all : new ≡ old ++ text
  pub within : at ≤ length words
  pub lists : (rest : List ℕ) → ListsFrom words marks at rest → ListsFrom words marks 0 (text ++ rest)

-- a code of a length that a procedure may have, with a mark for each word
abbrev pub IsCode : Content → Type 0
IsCode (content.Proc p) = (length p.words ≤ 16383) × (length p.marks ≡ length p.words)
IsCode _ = Unit {0}

abbrev pub MayStand : BrickKind → Type 0
MayStand (kind.Own c) = IsCode c
MayStand (kind.Ent c) = IsCode c
MayStand _ = Unit {0}

-- the lines of bricks were appended, but for those of the bricks that are left
pub record PutsBricks (t : ModeTable) (all left : List Brick) (old new : List ℕ) : Type 0 where
  pub text : List ℕ
  pub appended : new ≡ old ++ text
  pub lists : (rest : List ℕ) → ListsBricks t left rest → ListsBricks t all (text ++ rest)
