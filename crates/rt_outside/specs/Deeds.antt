-- What a command is to do to the store and the output, and what was done of it.
use Rattle.std.specs.Prelude.{◌≡◌, ℕ, ◌≤◌, Bool, true, false, List, [], ◌∷◌, map, Option}
use Rattle.std.specs.Io.KnownBytes.{Appends}
use Rattle.rt_words.specs.Causes.{Rose}
use Rattle.rt_outside.specs.Appending.{AppendsStart}
use Rattle.rt_outside.specs.Files.{Files, WhereTold, Has, ChangesOnly}
use Rattle.rt_outside.specs.declared.deed.Deed.{Deed as DeedNode}
use Rattle.rt_outside.specs.declared.deed.Deed.TheVariants as node

pub data Deed : Type 0 where
  Writes : (name bytes : List ℕ) → Deed  -- the file of this name gets just these bytes
  Puts : (bytes : List ℕ) → Deed  -- these bytes go to the output

abbrev pub deed_of : DeedNode → Deed
deed_of (node.Write name bytes) = Writes name.now bytes
deed_of (node.Put bytes) = Puts bytes

abbrev pub deeds_of : List DeedNode → List Deed
deeds_of = map deed_of

-- what the store and the output hold, where they tell it, and how often writes of each name and puts have failed
pub record Outside : Type 0 where
  pub files : Option Files
  pub writes : List ℕ → ℕ
  pub written : Option (List ℕ)
  pub faults : ℕ

-- no count has fallen
pub record IsLater (a b : Outside) : Type 0 where
  pub writes : (n : List ℕ) → a.writes n ≤ b.writes n
  pub faults : a.faults ≤ b.faults

-- the deed was done, and nothing else
abbrev pub IsDone : Deed → Outside → Outside → Type 0
IsDone (Writes name bytes) a b = WhereTold b.files (Has name bytes) × ChangesOnly name a.files b.files × (b.written ≡ a.written) × IsLater a b
IsDone (Puts bytes) a b = Appends a.written b.written bytes × (b.files ≡ a.files) × IsLater a b

-- The deed failed, and the count of its very object rose: of a file that is written no more is known, of the output a proper
-- start of the bytes was put.
abbrev pub HasFailed : Deed → Outside → Outside → Type 0
HasFailed (Writes name bytes) a b = Rose (a.writes name) (b.writes name) × ChangesOnly name a.files b.files × (b.written ≡ a.written) × IsLater a b
HasFailed (Puts bytes) a b = Rose a.faults b.faults × AppendsStart a.written b.written bytes × (b.files ≡ a.files) × IsLater a b

-- All deeds were done in their order; or one failed, those before it were done, and none behind it was begun.
pub data Performed : List Deed → Outside → Outside → Bool → Type 0 where
  nothing : {a : Outside} → Performed [] a a true
  done : {d : Deed} {ds : List Deed} {a b c : Outside} {all : Bool} → IsDone d a b → Performed ds b c all → Performed (d ∷ ds) a c all
  failed : {d : Deed} {ds : List Deed} {a b : Outside} → HasFailed d a b → Performed (d ∷ ds) a b false
