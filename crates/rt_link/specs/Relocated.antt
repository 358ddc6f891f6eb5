-- Words and bytes with their relocations applied: at its place stands the address and offset, whatever stood there.
use Rattle.std.specs.Prelude.{ℕ, ◌+◌, ◌/◌, ◌%◌, ◌==◌, if◌then◌else◌, List, [], ◌∷◌, ◌++◌, length, slice_set}
use Rattle.rt_object.specs.declared.object.Relocation.{Relocation}

-- rounded up to an even number of bytes
abbrev pub padded : List ℕ → List ℕ
padded bytes = if length bytes % 2 == 0 then bytes else bytes ++ 0 ∷ []

module _ (word : Relocation → ℕ) where
  -- places count words
  abbrev pub patched : List Relocation → List ℕ → List ℕ
  patched [] words = words
  patched (r ∷ rs) words = patched rs (slice_set words r.place (word r))

  -- places count bytes; the low byte stands first
  abbrev pub patched_bytes : List Relocation → List ℕ → List ℕ
  patched_bytes [] bytes = bytes
  patched_bytes (r ∷ rs) bytes = patched_bytes rs (slice_set (slice_set bytes r.place (word r % 256)) (r.place + 1) (word r / 256))
