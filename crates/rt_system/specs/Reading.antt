-- How lines and numbers are read.
use Rattle.std.specs.Prelude.{ℕ, ◌+◌, ◌-◌, Bool, ◌&&◌, ◌||◌, ◌==◌, nat_le, if◌then◌else◌, not, List, [], ◌∷◌, length, take, drop, take_while, slice_index, Option, Some, None, ◌≡◌}
use Rattle.std.specs.List.{list_all}
use Rattle.rt_system.specs.Numbers.{digits_value}

abbrev pub is_inside : ℕ → Bool
is_inside c = not (c == 10)

abbrev pub is_blank : ℕ → Bool
is_blank c = c == 32 || c == 9

abbrev pub is_digit : ℕ → Bool
is_digit c = nat_le 48 c && nat_le c 57

-- the bytes before the first LF
abbrev pub inside : List ℕ → ℕ
inside text = length (take_while is_inside text)

abbrev pub without_return : List ℕ → List ℕ
without_return line = if slice_index line (length line - 1) == 13 then take (length line - 1) line else line

unfoldable pub first_line : List ℕ → List ℕ
first_line text = if inside text == length text then text else without_return (take (inside text) text)

unfoldable pub after_line : List ℕ → List ℕ
after_line text = drop (inside text + 1) text

unfoldable pub number : ℕ → List ℕ → Option ℕ
number most text = if nat_le 1 (length text) && list_all is_digit text && nat_le (digits_value text) most then Some (digits_value text) else None

unfoldable pub plain_number : ℕ → List ℕ → Option ℕ
plain_number most [] = None
plain_number most (c ∷ cs) = if c == 48 then None else number most (c ∷ cs)

-- the bytes at the front of a text that pass a test, and the rest
abbrev pub run : (ℕ → Bool) → List ℕ → List ℕ × List ℕ
run test text = let n = length (take_while test text) in (take n text, drop n text)

-- what a function that reads ensures: the outcome, as lists
abbrev pub Gives : {X Y : Type 0} → (X → Y) → Option X → Option Y → Type 0
Gives view (Some x) read = read ≡ Some (view x)
Gives view None read = read ≡ None
