-- What follows from deeds that were performed: which files change, and what stands where one failed.
use Rattle.std.specs.Prelude.{◌≡◌, ◌⊎◌, ℕ, Bool, true, false, if◌then◌else◌, List, [], ◌∷◌, ◌++◌, Option, Some, None}
use Rattle.std.specs.Str.{bytes_eq}
use Rattle.rt_outside.specs.Files.{Files}
use Rattle.rt_outside.specs.Deeds.{Deed, Writes, Puts, Outside, IsLater, HasFailed, Performed}

-- files with one more of a name
abbrev pub with_file : List ℕ → List ℕ → Files → Files
with_file name bytes files n = if bytes_eq n name then Some bytes else files n

-- files with the writes applied in their order
abbrev pub applied : List Deed → Files → Files
applied [] files = files
applied (Writes name bytes ∷ ds) files = applied ds (with_file name bytes files)
applied (Puts bytes ∷ ds) files = applied ds files

-- what is put, all of it
abbrev pub all_put : List Deed → List ℕ
all_put [] = []
all_put (Writes name bytes ∷ ds) = all_put ds
all_put (Puts bytes ∷ ds) = bytes ++ all_put ds

-- the names that are written
abbrev pub names_in : List Deed → List (List ℕ)
names_in [] = []
names_in (Writes name bytes ∷ ds) = name ∷ names_in ds
names_in (Puts bytes ∷ ds) = names_in ds

-- the name is one of them
abbrev pub Among : List (List ℕ) → List ℕ → Type 0
Among [] n = ⊥
Among (m ∷ ms) n = (n ≡ m) ⊎ Among ms n

-- told files stay told, and this holds of the files before and after
abbrev pub Both : Option Files → Option Files → (Files → Files → Type 0) → Type 0
Both None new P = Unit {0}
Both (Some old) None P = ⊥
Both (Some old) (Some new) P = P old new

-- Where all deeds were done, the files after are those before with the writes applied in their order.
abbrev pub FilesAreApplied : Type 0
FilesAreApplied = (ds : List Deed) (a b : Outside) → Performed ds a b true → Both a.files b.files (λ old new. (n : List ℕ) → new n ≡ applied ds old n)

-- Done or not, files of other names than those that are written stay as they were.
abbrev pub OthersAreKept : Type 0
OthersAreKept = (ds : List Deed) (a b : Outside) (all : Bool) → Performed ds a b all → Both a.files b.files (λ old new. (n : List ℕ) → (Among (names_in ds) n → ⊥) → new n ≡ old n)

-- Where not all were done, one failed: those before it were done, and nothing followed it.
pub record Stopped (ds : List Deed) (a c : Outside) : Type 0 where
  pub before : List Deed
  pub deed : Deed
  pub behind : List Deed
  pub parts : ds ≡ before ++ deed ∷ behind
  pub middle : Outside
  pub done : Performed before a middle true
  pub failed : HasFailed deed middle c

abbrev pub NothingFollows : Type 0
NothingFollows = (ds : List Deed) (a c : Outside) → Performed ds a c false → Stopped ds a c

-- no count falls
abbrev pub CountsNeverFall : Type 0
CountsNeverFall = (ds : List Deed) (a b : Outside) (all : Bool) → Performed ds a b all → IsLater a b

-- Deeds that were done, and others behind them, are one stretch of deeds.
abbrev pub StretchesJoin : Type 0
StretchesJoin = (ds es : List Deed) (a b c : Outside) (all : Bool) → Performed ds a b true → Performed es b c all → Performed (ds ++ es) a c all

-- the same is held, and no count was higher
pub record IsEarlier (a b : Outside) : Type 0 where
  pub files : a.files ≡ b.files
  pub written : a.written ≡ b.written
  pub later : IsLater a b

-- Deeds that were performed were performed from every earlier moment at which the same was held.
abbrev pub BeginsEarlier : Type 0
BeginsEarlier = (d : Deed) (ds : List Deed) (a b c : Outside) (all : Bool) → IsEarlier a b → Performed (d ∷ ds) b c all → Performed (d ∷ ds) a c all
