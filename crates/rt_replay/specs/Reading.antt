-- How the lines of a report are read.
use Rattle.std.specs.Prelude.{ℕ, ◌+◌, ◌-◌, ◌*◌, ◌%◌, Bool, true, false, ◌&&◌, ◌||◌, ◌==◌, nat_eq, nat_le, nat_lt, if◌then◌else◌, not, List, [], ◌∷◌, ◌++◌, length, fold, take, drop, take_while, slice_index, option_map, Option, Some, None, codes, ◌≡◌}
use Rattle.std.specs.List.{list_all, starts_with}
use Rattle.std.specs.Str.{bytes_eq}
use Rattle.rt_words.specs.Operators.{octal6}
use Rattle.rt_rules.specs.declared.task.State.{State}
use Rattle.rt_rules.specs.declared.task.State.TheVariants as state
use Rattle.rt_system.specs.Numbers.{digits_value}
use Rattle.rt_system.specs.Reading.{inside, is_digit}
use Rattle.rt_system.specs.ReadingSystems.{and_then}
use Rattle.rt_replay.specs.declared.report.Report.{Report}
use Rattle.rt_replay.specs.declared.report.ReportedTask.{ReportedTask}
use Rattle.rt_replay.specs.declared.fault.ReportFault.{ReportFault}
use Rattle.rt_replay.specs.declared.fault.ReportFault.TheVariants.{Memory, BadReport}
use Rattle.rt_replay.specs.declared.draft.Draft.{Draft}
use Rattle.rt_replay.specs.declared.draft.Next.{Next}
use Rattle.rt_replay.specs.declared.draft.Next.TheVariants as next

-- ---- lines

unfoldable pub first_line : List ℕ → List ℕ
first_line text = if inside text == length text then text else take (inside text + 1) text

-- the text before the line feed with which a line ends
unfoldable pub unended : List ℕ → Option (List ℕ)
unended line = if slice_index line (length line - 1) == 10 then Some (take (length line - 1) line) else None

-- ---- words

abbrev pub is_in_word : ℕ → Bool
is_in_word c = not (c == 32)

unfoldable pub cut : List ℕ → Option (List ℕ × List ℕ)
cut text = let n = length (take_while is_in_word text) in if n == length text then None else Some (take n text, drop (n + 1) text)

unfoldable pub behind : List ℕ → List ℕ → Option (List ℕ)
behind front text = if starts_with nat_eq text front then Some (drop (length front) text) else None

abbrev pub is_inside_name : ℕ → Bool
is_inside_name c = not (c == 32) && not (c == 10)

unfoldable pub is_name : List ℕ → Bool
is_name text = nat_le 1 (length text) && (nat_le (length text) 32 && list_all is_inside_name text)

-- ---- numbers

abbrev pub is_decimal : List ℕ → Bool
is_decimal text = nat_le 1 (length text) && (list_all is_digit text && (length text == 1 || not (slice_index text 0 == 48)))

unfoldable pub number : ℕ → List ℕ → Option ℕ
number most text = if is_decimal text && nat_le (digits_value text) most then Some (digits_value text) else None

unfoldable pub counted_in : List ℕ → ℕ → List ℕ → Option ℕ
counted_in front most line = and_then (and_then (behind front line) unended) (number most)

abbrev pub below_zero : Option ℕ → Option ℕ
below_zero None = None
below_zero (Some n) = if n == 0 then None else Some (65536 - n)

abbrev pub signed_by : List ℕ → Option (List ℕ) → Option ℕ
signed_by text None = number 32767 text
signed_by text (Some digits) = below_zero (number 32768 digits)

unfoldable pub signed_number : List ℕ → Option ℕ
signed_number text = signed_by text (behind (codes "-") text)

abbrev pub octal_value : List ℕ → ℕ
octal_value = fold (λ n c. (8 * n + (c - 48)) % 65536) 0

abbrev pub is_octal : List ℕ → Bool
is_octal text = bytes_eq (octal6 (octal_value text)) text

-- ---- tasks

abbrev pub or_else : {A : Type 0} → Option A → Option A → Option A
or_else (Some a) o = Some a
or_else None o = o

unfoldable pub signed_in : List ℕ → Option ℕ
signed_in text = and_then (and_then (behind (codes "ERROR ") text) unended) signed_number

-- a condition with a number
unfoldable pub numbered : List ℕ → Option State
numbered text =
    or_else (option_map (λ n. state.Delayed n) (counted_in (codes "DELAYED ") 65535 text))
    (or_else (option_map (λ n. state.Event n) (counted_in (codes "EVENT ") 255 text))
    (or_else (option_map (λ n. state.Facility n) (counted_in (codes "FACILITY ") 255 text))
    (option_map (λ n. state.Failed n) (signed_in text))))

-- a condition, up to the line's end
unfoldable pub state_in : List ℕ → Option State
state_in text =
    if bytes_eq text (codes "READY\n") then Some state.Ready else
    if bytes_eq text (codes "ENDED\n") then Some state.Ended else
    numbered text

abbrev pub task_of : List ℕ → State → ReportedTask
task_of name s = record { name = name; state = s }

abbrev pub with_state : List ℕ × List ℕ → Option ReportedTask
with_state x = if is_name x.0 then option_map (λ s. task_of x.0 s) (state_in x.1) else None

unfoldable pub task_in : List ℕ → Option ReportedTask
task_in line = and_then (and_then (behind (codes "TASK ") line) cut) with_state

-- ---- the fault line

unfoldable pub kind_behind : List ℕ → Option (List ℕ)
kind_behind text =
    or_else (behind (codes "ODD ") text)
    (or_else (behind (codes "RESERVED ") text)
    (or_else (behind (codes "ACCESS ") text)
    (behind (codes "BADJUMP ") text)))

abbrev pub place_of : List ℕ × List ℕ → Option (List ℕ)
place_of x = if is_name x.0 then and_then (kind_behind x.1) unended else None

-- the digits of the place
unfoldable pub place_in : List ℕ → Option (List ℕ)
place_in line = and_then (and_then (behind (codes "FAULT 4 ") line) cut) place_of

abbrev pub is_place : Option (List ℕ) → Bool
is_place (Some digits) = is_octal digits
is_place None = false

-- whether it is the fault line of this status
unfoldable pub is_fault : ℕ → List ℕ → Bool
is_fault status line =
    if status == 4 then is_place (place_in line) else
    if status == 20 then bytes_eq line (codes "FAULT 20 INPUT\n") else
    if status == 21 then bytes_eq line (codes "FAULT 21 OUTPUT\n") else
    false

-- ---- the lines in their places

abbrev pub is_status : ℕ → Bool
is_status s = nat_le s 4 || nat_le 20 s

abbrev pub with_status : Draft → Option ℕ → Option Draft
with_status d None = None
with_status d (Some s) = if is_status s then Some (record d { status = s; next = next.Instructions }) else None

abbrev pub with_instructions : Draft → Option ℕ → Option Draft
with_instructions d None = None
with_instructions d (Some n) = Some (record d { next = next.Steps })

abbrev pub with_steps : Draft → Option ℕ → Option Draft
with_steps d None = None
with_steps d (Some n) = Some (record d { steps = n; next = next.Tasks })

abbrev pub with_ticks : Draft → Option ℕ → Option Draft
with_ticks d None = None
with_ticks d (Some n) = Some (record d { next = next.Ticks n })

-- a task, or else the number of ticks
abbrev pub with_task : Draft → List ℕ → Option ReportedTask → Option Draft
with_task d line (Some t) = if nat_lt (length d.tasks) 32 then Some (record d { tasks = d.tasks ++ t ∷ [] }) else None
with_task d line None = if nat_le 1 (length d.tasks) then with_ticks d (counted_in (codes "TICKS ") 200000 line) else None

abbrev pub with_tick : Draft → ℕ → Option ℕ → Option Draft
with_tick d left None = None
with_tick d left (Some p) = if nat_le d.least p then Some (record d { least = p; placements = d.placements ++ p ∷ []; next = next.Ticks left }) else None

abbrev pub with_fault : Draft → Bool → Option Draft
with_fault d test = if test then Some (record d { next = next.Nothing }) else None

abbrev pub take_fault : Draft → List ℕ → Option Draft
take_fault d line = with_fault d (is_fault d.status line)

abbrev pub take_tick : ℕ → Draft → List ℕ → Option Draft
take_tick left d line = with_tick d left (counted_in (codes "TICK ") d.steps line)

abbrev pub take_by : Next → Draft → List ℕ → Option Draft
take_by next.Status d line = with_status d (counted_in (codes "STATUS ") 21 line)
take_by next.Instructions d line = with_instructions d (counted_in (codes "INSTRUCTIONS ") 4000000000 line)
take_by next.Steps d line = with_steps d (counted_in (codes "STEPS ") 8000000000 line)
take_by next.Tasks d line = with_task d line (task_in line)
take_by (next.Ticks left) d line = if left == 0 then take_fault d line else take_tick (left - 1) d line
take_by next.Nothing d line = None

-- what was read with one line more, where that is in its place
unfoldable pub take_line : Draft → List ℕ → Option Draft
take_line d line = take_by d.next d line

abbrev pub is_complete_by : Next → ℕ → Bool
is_complete_by (next.Ticks left) status = left == 0 && nat_le status 3
is_complete_by next.Nothing status = true
is_complete_by _ status = false

-- whether the report may end here
abbrev pub is_complete : Draft → Bool
is_complete d = is_complete_by d.next d.status

abbrev pub report_of : Draft → Report
report_of d = record { steps = d.steps; tasks = d.tasks; placements = d.placements }

-- nothing was read
abbrev pub start : Draft
start = record { status = 0; steps = 0; tasks = []; placements = []; least = 0; next = next.Status }

-- ---- what functions ensure

-- the line was taken, or isn't in its place
abbrev pub Takes : Option Draft → Bool → Draft → Type 0
Takes (Some d) took new = (took ≡ true) × (new ≡ d)
Takes None took new = took ≡ false

-- the line isn't in its place
abbrev pub Refuses : Draft → List ℕ → ℕ → ReportFault → Type 0
Refuses d line number Memory = Unit {0}
Refuses d line number (BadReport n) = (n ≡ number) × (take_line d line ≡ None)
