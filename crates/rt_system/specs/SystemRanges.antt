-- The ranges that a system keeps.
use Rattle.std.specs.Prelude.{◌≢◌, ℕ, ◌≤◌, Bool, true, false, List, [], ◌∷◌, length, map, count_by}
use Rattle.std.specs.List.{AllByRecursion}
use Rattle.rt_system.specs.Fields.{IsFile, IsNamed}
use Rattle.rt_system.specs.declared.parts.Entry.{Entry}
use Rattle.rt_system.specs.declared.parts.Entry.TheVariants.{Module, Object, Library}
use Rattle.rt_system.specs.declared.parts.Task.{Task}
use Rattle.rt_system.specs.declared.parts.SystemParts.{SystemParts}

abbrev pub is_library : Entry → Bool
is_library (Module file) = false
is_library (Object file) = false
is_library Library = true

-- no name stands twice
abbrev pub AreDifferent : List (List ℕ) → Type 0
AreDifferent [] = Unit {0}
AreDifferent (name ∷ names) = AllByRecursion (λ other. name ≢ other) names × AreDifferent names

-- how many lines of a kind may stand in a text, and that tasks have different names
pub record IsWithinLimits (s : SystemParts) : Type 0 where
  pub few_entries : length s.entries ≤ 64
  pub one_library : count_by is_library s.entries ≤ 1
  pub few_tasks : length s.tasks ≤ 32
  pub different : AreDifferent (map (λ (t : Task). t.name) s.tasks)

abbrev pub HasFile : Entry → Type 0
HasFile (Module file) = IsFile file
HasFile (Object file) = IsFile file
HasFile Library = Unit {0}

-- names in upper case, and a priority from 1 to 255
pub record HasTaskRanges (t : Task) : Type 0 where
  pub name : IsNamed t.name t.name
  pub root : IsNamed t.root t.root
  pub stack : IsNamed t.stack t.stack
  pub least : 1 ≤ t.priority
  pub most : t.priority ≤ 255

pub record HasSystemRanges (s : SystemParts) : Type 0 where
  pub limits : IsWithinLimits s
  pub files : AllByRecursion HasFile s.entries
  pub some_task : 1 ≤ length s.tasks
  pub each_task : AllByRecursion HasTaskRanges s.tasks
