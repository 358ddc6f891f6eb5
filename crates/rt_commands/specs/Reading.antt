-- How the words of the commands are read.
use Rattle.std.specs.Prelude.{ℕ, Bool, ◌&&◌, ◌==◌, nat_le, if◌then◌else◌, not, List, [], ◌∷◌, length, codes, Option, Some, None}
use Rattle.std.specs.Str.{bytes_eq}
use Rattle.rt_system.specs.Reading.{number}
use Rattle.rt_system.specs.ReadingSystems.{is_file, and_then}
use Rattle.rt_commands.specs.declared.command.Command.{Command}
use Rattle.rt_commands.specs.declared.command.Command.TheVariants.{Go, Compile, Link, Stacks, Run, Show, Gen}
use Rattle.rt_commands.specs.declared.lent.CommandWords.{CommandWords}
use Rattle.rt_commands.specs.declared.lent.TimedWords.{TimedWords}
use Rattle.rt_commands.specs.declared.lent.CommandWords.TheVariants as lent

abbrev pub is_named : List ℕ → Bool
is_named word = not (length word == 0)

unfoldable pub limit : List ℕ → Option ℕ
limit digits = if nat_le (length digits) 10 then number 4000000000 digits else None

abbrev pub positive : ℕ → Option ℕ
positive n = if nat_le 1 n then Some n else None

unfoldable pub count : List ℕ → Option ℕ
count digits = if nat_le (length digits) 5 then and_then (number 10000 digits) positive else None

-- ---- by the number of words behind the first

unfoldable pub with_one : List ℕ → List ℕ → Option Command
with_one word file =
    if is_named file then
    (if bytes_eq word (codes "stacks") then Some (Stacks file) else (if bytes_eq word (codes "show") then Some (Show file) else None))
    else None

unfoldable pub generate : List ℕ → List ℕ → Option Command
generate digits name = and_then (count digits) (λ n. if is_file name then Some (Gen n name) else None)

unfoldable pub compile : List ℕ → List ℕ → Option Command
compile source object = if is_named source && is_named object then Some (Compile source object) else None

unfoldable pub with_two : List ℕ → List ℕ → List ℕ → Option Command
with_two word first second =
    if bytes_eq word (codes "compile") then compile first second else (if bytes_eq word (codes "gen") then generate first second else None)

unfoldable pub with_three : List ℕ → List ℕ → List ℕ → List ℕ → Option Command
with_three word system image map =
    if bytes_eq word (codes "link") && (is_named system && (is_named image && is_named map)) then Some (Link system image map) else None

abbrev pub timed : List ℕ → List ℕ → List ℕ → List ℕ → ℕ → Option Command
timed word first second last n =
    if bytes_eq word (codes "go") then Some (Go first second n last) else (if bytes_eq word (codes "run") then Some (Run first second n last) else None)

unfoldable pub with_four : List ℕ → List ℕ → List ℕ → List ℕ → List ℕ → Option Command
with_four word first second digits last =
    if is_named first && (is_named second && is_named last) then and_then (limit digits) (timed word first second last) else None

unfoldable pub command_of : List (List ℕ) → Option Command
command_of (word ∷ a ∷ []) = with_one word a
command_of (word ∷ a ∷ b ∷ []) = with_two word a b
command_of (word ∷ a ∷ b ∷ c ∷ []) = with_three word a b c
command_of (word ∷ a ∷ b ∷ c ∷ d ∷ []) = with_four word a b c d
command_of _ = None

abbrev pub go_of : TimedWords → Command
go_of it = Go it.first.now it.second.now it.limit it.last.now

abbrev pub run_of : TimedWords → Command
run_of it = Run it.first.now it.second.now it.limit it.last.now

-- the command that these words say
abbrev pub said : CommandWords → Command
said (lent.Go it) = go_of it
said (lent.Compile source object) = Compile source.now object.now
said (lent.Link system image map) = Link system.now image.now map.now
said (lent.Stacks system) = Stacks system.now
said (lent.Run it) = run_of it
said (lent.Show object) = Show object.now
said (lent.Gen n name) = Gen n name.now
