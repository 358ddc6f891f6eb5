-- Behind the memory.
use Rattle.std.specs.Prelude.{ℕ, ◌-◌, List, ◌∷◌, length, slice_index}
use Rattle.pdp_core.specs.declared.memory.Protection.{Protection}

-- numbers that stand behind all addresses of the machine: they say how the parts of the memory lie, and which marks the words of the
-- code have; no instruction changes them
abbrev pub ledger : List ℕ → List ℕ → Protection → ℕ → ℕ
ledger marks own p a = slice_index (p.code_end ∷ p.data_end ∷ p.block ∷ p.brick ∷ p.brick_end ∷ length own ∷ marks) (a - 65536)
