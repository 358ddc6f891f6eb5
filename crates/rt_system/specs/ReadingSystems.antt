-- How the lines of a system text are read.
use Rattle.std.specs.Prelude.{◌≡◌, ℕ, Bool, true, false, ◌&&◌, ◌==◌, nat_le, nat_lt, if◌then◌else◌, not, List, [], ◌∷◌, ◌++◌, length, map, codes, Option, Some, None, is_some}
use Rattle.std.specs.List.{list_all, list_any}
use Rattle.std.specs.Str.{bytes_eq}
use Rattle.rt_words.specs.Named.{IsNameLength}
use Rattle.rt_pieces.specs.Bytes.{upper, is_letter, is_letter_or_digit}
use Rattle.rt_pieces.specs.Pieces.{word_of}
use Rattle.rt_system.specs.Reading.{is_blank, run, plain_number}
use Rattle.rt_system.specs.SystemRanges.{is_library, IsWithinLimits}
use Rattle.rt_system.specs.Systems.{TaskWords, Line, Blank, Module, Object, Library, Task, entries_of, tasks_of}
use Rattle.rt_system.specs.declared.parts.SystemParts.{SystemParts}
use Rattle.rt_system.specs.declared.parts.Task as declared
use Rattle.rt_system.specs.declared.line.SystemLine.{SystemLine}
use Rattle.rt_system.specs.declared.line.SystemLine.TheVariants as found
use Rattle.rt_system.specs.declared.line.TaskLine.{TaskLine}
use Rattle.rt_system.specs.declared.fault.LineFault.{LineFault}
use Rattle.rt_system.specs.declared.fault.LineFault.TheVariants.{Memory, BadLine, ObjectLine}

-- ---- fields

abbrev pub in_field : ℕ → Bool
in_field c = not (is_blank c)

abbrev pub is_file_byte : ℕ → Bool
is_file_byte c = nat_le 33 c && nat_le c 126

-- the first field, and what stands behind the blanks after it
unfoldable pub next_field : List ℕ → Option (List ℕ × List ℕ)
next_field line =
    let field = run in_field line in
    let blanks = run is_blank field.1 in
    if length blanks.0 == 0 then None else Some (field.0, blanks.1)

abbrev pub is_spelled : List ℕ → List ℕ → Bool
is_spelled word text = bytes_eq word (map upper text)

abbrev pub is_file : List ℕ → Bool
is_file text = not (length text == 0) && list_all is_file_byte text

abbrev pub is_reserved : List ℕ → Bool
is_reserved text = is_some (word_of (map upper text))

unfoldable pub is_name : List ℕ → Bool
is_name [] = false
is_name (c ∷ cs) = is_letter c && (list_all is_letter_or_digit cs && (nat_le (length (c ∷ cs)) 32 && not (is_reserved (c ∷ cs))))

-- ---- lines

abbrev pub and_then : {A B : Type 0} → Option A → (A → Option B) → Option B
and_then (Some a) f = f a
and_then None f = None

abbrev pub Fields : Type 0
Fields = List ℕ × (List ℕ × (List ℕ × List ℕ))

-- the four fields behind TASK
unfoldable pub task_fields : List ℕ → Option Fields
task_fields text =
    and_then (next_field text) (λ name. and_then (next_field name.1) (λ root. and_then (next_field root.1) (λ stack.
    Some (name.0, (root.0, (stack.0, stack.1))))))

abbrev pub task_words : Fields → ℕ → TaskWords
task_words f priority = record { name = map upper f.0; root = map upper f.1.0; stack = map upper f.1.1.0; priority = priority }

abbrev pub are_names : Fields → Bool
are_names f = is_name f.0 && (is_name f.1.0 && is_name f.1.1.0)

unfoldable pub task_of : Fields → Option TaskWords
task_of f = if are_names f then and_then (plain_number 255 f.1.1.1) (λ priority. Some (task_words f priority)) else None

unfoldable pub task_line : List ℕ → Option TaskWords
task_line text = and_then (task_fields text) task_of

unfoldable pub file : List ℕ → Option (List ℕ)
file text = if is_file text then Some text else None

-- a line that begins by this word, with this text behind it
unfoldable pub line_of : List ℕ → List ℕ → Option Line
line_of word text =
    if is_spelled (codes "MODULE") word then and_then (file text) (λ it. Some (Module it))
    else (if is_spelled (codes "OBJECT") word then and_then (file text) (λ it. Some (Object it))
    else (if is_spelled (codes "TASK") word then and_then (task_line text) (λ it. Some (Task it)) else None))

unfoldable pub system_line : List ℕ → Option Line
system_line line =
    if list_all is_blank line then Some Blank
    else (if is_spelled (codes "LIBRARY") line then Some Library
    else and_then (next_field line) (λ it. line_of it.0 it.1))

abbrev pub said_task : TaskLine → TaskWords
said_task t = record { name = map upper t.name.now; root = map upper t.root.now; stack = map upper t.stack.now; priority = t.priority }

abbrev pub said : SystemLine → Line
said found.Blank = Blank
said (found.Module file) = Module file.now
said (found.Object file) = Object file.now
said found.Library = Library
said (found.Task task) = Task (said_task task)

-- ---- what a line adds

abbrev pub is_taken : Bool → Line → Bool
is_taken objects Blank = true
is_taken objects (Module file) = true
is_taken objects (Object file) = objects
is_taken objects Library = true
is_taken objects (Task task) = true

abbrev pub has_task : SystemParts → List ℕ → Bool
has_task s name = list_any (λ (t : declared.Task). bytes_eq t.name name) s.tasks

-- the line passes no limit
abbrev pub has_room : SystemParts → Line → Bool
has_room s Blank = true
has_room s (Module file) = nat_lt (length s.entries) 64
has_room s (Object file) = nat_lt (length s.entries) 64
has_room s Library = nat_lt (length s.entries) 64 && not (list_any is_library s.entries)
has_room s (Task task) = nat_lt (length s.tasks) 32 && not (has_task s task.name)

abbrev pub with_line : ℕ → SystemParts → Line → SystemParts
with_line number s kind = record { entries = s.entries ++ entries_of kind; tasks = s.tasks ++ tasks_of number kind }

-- names of 1 to 32 bytes
abbrev pub HasNames : Line → Type 0
HasNames Blank = Unit {0}
HasNames (Module file) = Unit {0}
HasNames (Object file) = Unit {0}
HasNames Library = Unit {0}
HasNames (Task task) = IsNameLength (length task.name) × (IsNameLength (length task.root) × IsNameLength (length task.stack))

-- the line's entry or task comes behind the others
pub record Adds (objects : Bool) (was : SystemParts) (line : List ℕ) (number : ℕ) (now : SystemParts) : Type 0 where
  pub kind : Line
  pub is : system_line line ≡ Some kind
  pub added : now ≡ with_line number was kind
  pub limits : IsWithinLimits now
  pub taken : is_taken objects kind ≡ true

-- the line says nothing, or passes a limit
abbrev pub IsBad : Bool → SystemParts → List ℕ → ℕ → Type 0
IsBad objects was line number = (kind : Line) → system_line line ≡ Some kind → (is_taken objects kind ≡ true) × (IsWithinLimits (with_line number was kind) → ⊥)

abbrev pub Refuses : Bool → SystemParts → List ℕ → ℕ → LineFault → Type 0
Refuses objects was line number Memory = Unit {0}
Refuses objects was line number (BadLine n) = (n ≡ number) × IsBad objects was line number
Refuses objects was line number (ObjectLine n) = (n ≡ number) × (objects ≡ false) × ((file : List ℕ) × (system_line line ≡ Some (Object file)))
