-- What a store holds, where it tells it: a file, or none, for each name.
use Rattle.std.specs.Prelude.{◌≡◌, ◌≢◌, ℕ, ◌<◌, List, length, Option, Some, None}

-- the most bytes that a file may have to be read
abbrev pub longest : ℕ
longest = 4194304

-- the bytes of the file of each name, or none where there is no such file
abbrev pub Files : Type 0
Files = List ℕ → Option (List ℕ)

-- where the files are told, this holds of them; where they aren't, nothing is said
abbrev pub WhereTold : Option Files → (Files → Type 0) → Type 0
WhereTold None P = Unit {0}
WhereTold (Some files) P = P files

-- the files are told, and this holds of them
abbrev pub IsTold : Option Files → (Files → Type 0) → Type 0
IsTold None P = ⊥
IsTold (Some files) P = P files

-- the name's file has these bytes
abbrev pub Has : List ℕ → List ℕ → Files → Type 0
Has name bytes files = files name ≡ Some bytes

-- there is no file of the name
abbrev pub Lacks : List ℕ → Files → Type 0
Lacks name files = files name ≡ None

-- the name's file is too long to be read
abbrev pub HasTooLong : List ℕ → Files → Type 0
HasTooLong name files = (bytes : List ℕ) × (files name ≡ Some bytes) × (longest < length bytes)

-- told files stay told, and those of all other names stay as they were
abbrev pub ChangesOnly : List ℕ → Option Files → Option Files → Type 0
ChangesOnly name None now = Unit {0}
ChangesOnly name (Some files) None = ⊥
ChangesOnly name (Some files) (Some now) = (other : List ℕ) → other ≢ name → now other ≡ files other
