-- The calls of a form in memory: which of them fail, and how many were made and failed.
use Rattle.std.specs.Prelude.{ℕ, ◌+◌, ◌-◌, ◌^◌, ◌==◌, min, Bool, if◌then◌else◌, List}
use Rattle.std.specs.List.{list_any}

-- the numbers of the calls that fail, how many calls were made, and how many of them failed
pub record Calls : Type 0 where
  pub fails : List ℕ
  pub made : ℕ
  pub faults : ℕ

-- one more, where a number stands still at 2^64 - 1
abbrev pub one_more : ℕ → ℕ
one_more n = min (n + 1) (2 ^ 64 - 1)

-- before the first call
abbrev pub no_calls : List ℕ → Calls
no_calls fails = record { fails = fails; made = 0; faults = 0 }

-- whether the next call's number is one of those that fail
abbrev pub next_fails : Calls → Bool
next_fails c = list_any (λ n. n == one_more c.made) c.fails

-- after one more call, which failed or didn't
abbrev pub after_call : Bool → Calls → Calls
after_call failed c = record {
  fails = c.fails;
  made = one_more c.made;
  faults = if failed then one_more c.faults else c.faults;
}
