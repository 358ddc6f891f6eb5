-- The bytes of a text.
use Rattle.std.specs.Prelude.{◌≡◌, ℕ, ◌+◌, ◌-◌, ◌*◌, Bool, true, false, not, ◌&&◌, ◌||◌, ◌==◌, nat_le, if◌then◌else◌, List, [], ◌∷◌, count_by, fold}

-- layout: tab, line end, carriage return, space
abbrev pub is_blank : ℕ → Bool
is_blank b = b == 9 || b == 10 || b == 13 || b == 32

abbrev pub is_capital : ℕ → Bool
is_capital b = nat_le 65 b && nat_le b 90

abbrev pub is_small : ℕ → Bool
is_small b = nat_le 97 b && nat_le b 122

abbrev pub is_letter : ℕ → Bool
is_letter b = is_capital b || is_small b

abbrev pub is_digit : ℕ → Bool
is_digit b = nat_le 48 b && nat_le b 57

abbrev pub is_letter_or_digit : ℕ → Bool
is_letter_or_digit b = is_letter b || is_digit b

abbrev pub is_printable : ℕ → Bool
is_printable b = nat_le 32 b && nat_le b 126

-- a byte inside a comment
abbrev pub in_comment : ℕ → Bool
in_comment b = not (b == 37)

-- a byte that ends no string: neither a quotation mark nor a line end
abbrev pub in_string : ℕ → Bool
in_string b = not (b == 34 || b == 10)

-- a letter in upper case; any other byte as it is
abbrev pub upper : ℕ → ℕ
upper b = if is_small b then b - 32 else b

-- what a digit stands for, from 0 to 9 and from A to Z
abbrev pub digit_value : ℕ → ℕ
digit_value b = if is_digit b then b - 48 else upper b - 55

-- a digit of this base
abbrev pub is_digit_of : ℕ → ℕ → Bool
is_digit_of base b = is_letter_or_digit b && nat_le (digit_value b + 1) base

abbrev pub number_of : ℕ → List ℕ → ℕ
number_of base = fold (λ n b. base * n + digit_value b) 0

-- the line ends among these bytes
abbrev pub lines_in : List ℕ → ℕ
lines_in = count_by (λ b. b == 10)

-- every byte passes the test
abbrev pub Each : (ℕ → Bool) → List ℕ → Type 0
Each p [] = Unit {0}
Each p (b ∷ bs) = (p b ≡ true) × Each p bs

-- the first byte, if there is one, does not pass the test
abbrev pub Ends : (ℕ → Bool) → List ℕ → Type 0
Ends p [] = Unit {0}
Ends p (b ∷ bs) = p b ≡ false
