-- Names have 1 to 32 bytes.
use Rattle.std.specs.Prelude.{ℕ, ◌≤◌}

abbrev pub IsNameLength : ℕ → Type 0
IsNameLength n = (1 ≤ n) × (n ≤ 32)
