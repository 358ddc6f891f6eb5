-- What bytes a system text is.
use Rattle.std.specs.Prelude.{◌≡◌, ℕ, ◌+◌, ◌-◌, ◌≤◌, ◌⊎◌, Bool, true, false, List, [], ◌∷◌, ◌++◌, length, take, drop, flat_map, codes}
use Rattle.std.specs.List.{AllByRecursion}
use Rattle.rt_system.specs.Lines.{IsBlank, lines, Say, IsFirstBad}
use Rattle.rt_system.specs.Fields.{Names, IsFile, IsNamed, IsPriority}
use Rattle.rt_system.specs.SystemRanges.{IsWithinLimits}
use Rattle.rt_system.specs.declared.parts.Entry.{Entry}
use Rattle.rt_system.specs.declared.parts.Entry.TheVariants as entry
use Rattle.rt_system.specs.declared.parts.Task as parts
use Rattle.rt_system.specs.declared.parts.SystemParts.{SystemParts}
use Rattle.rt_system.specs.declared.fault.LineFault.{LineFault}
use Rattle.rt_system.specs.declared.fault.LineFault.TheVariants.{Memory, BadLine, ObjectLine}

-- what a TASK line says
pub record TaskWords : Type 0 where
  pub name : List ℕ
  pub root : List ℕ
  pub stack : List ℕ
  pub priority : ℕ

-- what a line says
pub data Line : Type 0 where
  Blank : Line
  Module : List ℕ → Line
  Object : List ℕ → Line
  Library : Line
  Task : TaskWords → Line

-- TASK name root stack priority
pub record IsTaskLine (line : List ℕ) (task : TaskWords) : Type 0 where
  pub name : List ℕ
  pub root : List ℕ
  pub stack : List ℕ
  pub priority : List ℕ
  pub names : Names (codes "TASK") line (name ∷ root ∷ stack ∷ priority ∷ [])
  pub name_is : IsNamed name task.name
  pub root_is : IsNamed root task.root
  pub stack_is : IsNamed stack task.stack
  pub priority_is : IsPriority priority task.priority

abbrev pub IsSystemLine : List ℕ → Line → Type 0
IsSystemLine line Blank = AllByRecursion IsBlank line
IsSystemLine line (Module file) = Names (codes "MODULE") line (file ∷ []) × IsFile file
IsSystemLine line (Object file) = Names (codes "OBJECT") line (file ∷ []) × IsFile file
IsSystemLine line Library = Names (codes "LIBRARY") line []
IsSystemLine line (Task task) = IsTaskLine line task

abbrev pub entries_of : Line → List Entry
entries_of Blank = []
entries_of (Module file) = entry.Module file ∷ []
entries_of (Object file) = entry.Object file ∷ []
entries_of Library = entry.Library ∷ []
entries_of (Task task) = []

-- the task of the line with this number
abbrev pub tasks_of : ℕ → Line → List parts.Task
tasks_of number Blank = []
tasks_of number (Module file) = []
tasks_of number (Object file) = []
tasks_of number Library = []
tasks_of number (Task task) = record { name = task.name; root = task.root; stack = task.stack; priority = task.priority; line = number } ∷ []

-- the tasks of lines, the first of which has this number
abbrev pub tasks_from : ℕ → List Line → List parts.Task
tasks_from number [] = []
tasks_from number (kind ∷ kinds) = tasks_of number kind ++ tasks_from (number + 1) kinds

-- an object stands only where objects are taken
abbrev pub IsTaken : Bool → Entry → Type 0
IsTaken objects (entry.Module file) = Unit {0}
IsTaken objects (entry.Object file) = objects ≡ true
IsTaken objects entry.Library = Unit {0}

-- lines that say these entries and tasks, in their order
pub record AreParts (objects : Bool) (lines : List (List ℕ)) (s : SystemParts) : Type 0 where
  pub kinds : List Line
  pub each : Say IsSystemLine lines kinds
  pub entries : s.entries ≡ flat_map entries_of kinds
  pub tasks : s.tasks ≡ tasks_from 1 kinds
  pub limits : IsWithinLimits s
  pub taken : AllByRecursion (IsTaken objects) s.entries

-- the bytes are the text of a system with these entries and tasks
pub record IsSystem (objects : Bool) (bytes : List ℕ) (s : SystemParts) : Type 0 where
  pub parts : AreParts objects (lines bytes) s
  pub some_task : 1 ≤ length s.tasks

-- lines that break no rule
abbrev pub AreGood : Bool → List (List ℕ) → Type 0
AreGood objects lines = (s : SystemParts) × AreParts objects lines s

-- line n, counted from 1, is an OBJECT line of the right form
pub record IsObjectAt (bytes : List ℕ) (n : ℕ) : Type 0 where
  pub line : List ℕ
  pub file : List ℕ
  pub after : List (List ℕ)
  pub at : drop (n - 1) (lines bytes) ≡ line ∷ after
  pub object : IsSystemLine line (Object file)
  pub counted : 1 ≤ n

-- objects aren't taken, and line n is the first that names one; no line before it is bad
pub record IsObjectLine (objects : Bool) (bytes : List ℕ) (n : ℕ) : Type 0 where
  pub refused : objects ≡ false
  pub before : AreGood objects (take (n - 1) (lines bytes))
  pub object : IsObjectAt bytes n

-- line n is the first that breaks a rule, and no OBJECT line that is refused as one
pub record BreaksRule (objects : Bool) (bytes : List ℕ) (n : ℕ) : Type 0 where
  pub first : IsFirstBad (AreGood objects) bytes n
  pub no_object : IsObjectLine objects bytes n → ⊥

-- no line breaks a rule and none is a TASK line; n is the number of lines plus 1
pub record LacksTask (objects : Bool) (bytes : List ℕ) (n : ℕ) : Type 0 where
  pub s : SystemParts
  pub parts : AreParts objects (lines bytes) s
  pub none : s.tasks ≡ []
  pub past : n ≡ length (lines bytes) + 1

abbrev pub IsBadSystemLine : Bool → List ℕ → ℕ → Type 0
IsBadSystemLine objects bytes n = BreaksRule objects bytes n ⊎ LacksTask objects bytes n

-- why a system text is refused
abbrev pub RefusesSystem : Bool → List ℕ → LineFault → Type 0
RefusesSystem objects bytes Memory = Unit {0}
RefusesSystem objects bytes (BadLine n) = IsBadSystemLine objects bytes n
RefusesSystem objects bytes (ObjectLine n) = IsObjectLine objects bytes n
