-- The whole memory, put together from its parts.
use Rattle.std.specs.Prelude.{ℕ, ◌-◌, ◌/◌, ◌%◌, ◌==◌, nat_lt, if◌then◌else◌, List, slice_index}
use Rattle.pdp_core.specs.declared.memory.Protection.{Protection}
use Rattle.pdp_core.specs.Protection.{within}
use Rattle.rt_tasks.specs.Parts.{Sharing}

-- the byte of the code at an address
abbrev pub code_byte : List ℕ → ℕ → ℕ
code_byte words a = if a % 2 == 0 then slice_index words (a / 2) % 256 else slice_index words (a / 2) / 256

-- the byte at an address: of the code, of the data, of the block and brick of one task, or else of other tasks
unfoldable pub memory_of : List ℕ → List ℕ → List ℕ → Protection → (ℕ → ℕ) → ℕ → ℕ
memory_of code bytes own p others a =
    if nat_lt a p.code_end then code_byte code a
    else if nat_lt a p.data_end then slice_index bytes (a - p.code_end)
    else if within p.block p.brick_end a then slice_index own (a - p.block)
    else others a

-- the whole memory while a task runs: what all share, what is its own, and these bytes of others
abbrev pub whole : Sharing → (ℕ → ℕ) → ℕ → ℕ
whole s others = memory_of s.code s.bytes s.own s.places others
