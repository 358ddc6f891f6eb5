-- The ranges that a list of ticks keeps.
use Rattle.std.specs.Prelude.{ℕ, ◌≤◌, List, length}
use Rattle.std.specs.List.{AllByRecursion}

pub record HasTickRanges (gaps : List ℕ) : Type 0 where
  pub few : length gaps ≤ 200000
  pub short : AllByRecursion (λ gap. gap ≤ 4000000000) gaps
