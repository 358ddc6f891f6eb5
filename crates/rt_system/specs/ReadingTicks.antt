-- How the lines of a tick text are read.
use Rattle.std.specs.Prelude.{◌≡◌, ℕ, ◌+◌, ◌≤◌, Bool, ◌==◌, nat_le, if◌then◌else◌, not, List, ◌++◌, length, take, drop, take_while, Option, Some, None}
use Rattle.std.specs.List.{list_all}
use Rattle.rt_system.specs.Reading.{is_blank, number, plain_number}
use Rattle.rt_system.specs.Ticks.{ticks_of}
use Rattle.rt_system.specs.declared.ticks.TickLine.{TickLine}
use Rattle.rt_system.specs.declared.ticks.TickLine.TheVariants.{Blank, Gap, Gaps}
use Rattle.rt_system.specs.declared.fault.LineFault.{LineFault}
use Rattle.rt_system.specs.declared.fault.LineFault.TheVariants.{Memory, BadLine, ObjectLine}

abbrev pub is_no_star : ℕ → Bool
is_no_star c = not (c == 42)

unfoldable pub gap : List ℕ → Option ℕ
gap text = if nat_le (length text) 10 then number 4000000000 text else None

abbrev pub counted : ℕ → Option ℕ → Option TickLine
counted gap (Some count) = Some (Gaps gap count)
counted gap None = None

abbrev pub with_count : Option ℕ → Option ℕ → Option TickLine
with_count (Some gap) count = counted gap count
with_count None count = None

unfoldable pub repeated : ℕ → List ℕ → Option TickLine
repeated star line = if star == length line then None else with_count (gap (take star line)) (plain_number 200000 (drop (star + 1) line))

abbrev pub one_or : Option ℕ → Option TickLine → Option TickLine
one_or (Some gap) kind = Some (Gap gap)
one_or None kind = kind

unfoldable pub tick_line : List ℕ → Option TickLine
tick_line line = if list_all is_blank line then Some Blank else one_or (gap line) (repeated (length (take_while is_no_star line)) line)

-- the line's ticks come behind the others, and they aren't too many
pub record Adds (was line now : List ℕ) : Type 0 where
  pub kind : TickLine
  pub is : tick_line line ≡ Some kind
  pub added : now ≡ was ++ ticks_of kind
  pub few : length now ≤ 200000

-- the line has no ticks, or too many
abbrev pub Refuses : List ℕ → List ℕ → ℕ → LineFault → Type 0
Refuses was line number Memory = Unit {0}
Refuses was line number (BadLine n) = (n ≡ number) × ((kind : TickLine) → tick_line line ≡ Some kind → length (was ++ ticks_of kind) ≤ 200000 → ⊥)
Refuses was line number (ObjectLine n) = ⊥
