-- Numbers in decimal digits.
use Rattle.std.specs.Prelude.{◌≡◌, ◌≢◌, ℕ, ◌+◌, ◌-◌, ◌*◌, ◌≤◌, List, length, fold, slice_index}
use Rattle.std.specs.List.{AllByRecursion}

abbrev pub IsDigit : ℕ → Type 0
IsDigit c = (48 ≤ c) × (c ≤ 57)

abbrev pub digits_value : List ℕ → ℕ
digits_value = fold (λ n c. 10 * n + (c - 48)) 0

-- one or more digits of this value, which may begin by zeros
pub record IsNumber (text : List ℕ) (n : ℕ) : Type 0 where
  pub some : 1 ≤ length text
  pub digits : AllByRecursion IsDigit text
  pub value : digits_value text ≡ n

-- digits without a leading zero, so that the value is 1 or more
pub record IsPlainNumber (text : List ℕ) (n : ℕ) : Type 0 where
  pub number : IsNumber text n
  pub plain : slice_index text 0 ≢ 48
