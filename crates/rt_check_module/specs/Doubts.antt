-- What is kept of records while it is found which have a start though nothing is written for them.
use Rattle.std.specs.Prelude.{◌≡◌, ℕ, ◌+◌, ◌-◌, Bool, true, false, List, [], ◌∷◌, length, slice_get}
use Rattle.rt_modes.specs.declared.mode.RecordDef.{RecordDef}
use Rattle.rt_check_module.specs.Defaults.{fields_have, listed, record_has}

-- how many are still said to have one
abbrev pub still : List Bool → ℕ
still [] = 0
still (true ∷ bs) = still bs + 1
still (false ∷ bs) = still bs

abbrev pub one_if : Bool → ℕ
one_if true = 1
one_if false = 0

-- A record that has one, by those that are held less deep than records were found to have none, is still said to have one.
pub record AreKept (records : List RecordDef) (known : List Bool) : Type 0 where
  pub size : length known ≡ length records
  pub kept : (r : ℕ) → record_has records (length records - still known) r ≡ true → listed known r ≡ true

-- a record that is said to have one has, by what is said of those that it holds
abbrev pub IsSettled : List RecordDef → List Bool → ℕ → Type 0
IsSettled records known k = listed known k ≡ true → fields_have (listed known) (slice_get records k) ≡ true
