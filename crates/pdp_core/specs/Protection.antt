-- What a task may use of the memory.
use Rattle.std.specs.Prelude.{ℕ, ◌+◌, Bool, nat_le, nat_lt, ◌&&◌, ◌||◌}
use Rattle.pdp_core.specs.declared.memory.Protection.{Protection}
use Rattle.pdp_core.specs.World.{World}

-- from an address up to another, without it
abbrev pub within : ℕ → ℕ → ℕ → Bool
within low end a = nat_le low a && nat_lt a end

-- it fetches from the code
abbrev pub fetchable : Protection → ℕ → Bool
fetchable p a = nat_lt a p.code_end

-- it reads and writes the data, its own block and its own brick
abbrev pub usable : Protection → ℕ → Bool
usable p a = within p.code_end p.data_end a || within p.block (p.block + 16) a || within p.brick p.brick_end a

-- a memory as the task meets it
abbrev pub protected : Protection → (ℕ → ℕ) → World
protected p m = record { bytes = m; fetches = fetchable p; touches = usable p }
