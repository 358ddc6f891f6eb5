-- What is written of data, with its relocations applied.
use Rattle.std.specs.Prelude.{ℕ, ◌+◌, ◌*◌, ◌%◌, ◌<◌, List, [], ◌∷◌, slice_index}
use Rattle.rt_object.specs.declared.object.Relocation.{Relocation}
use Rattle.rt_link.specs.Relocated.{patched_bytes}
use Rattle.rt_compile.specs.declared.data.written.Data.{Data}

-- by the word of each relocation
abbrev pub view : (Relocation → ℕ) → Data → List ℕ
view word d = patched_bytes word d.relocations d.bytes

-- each place lies in so many bytes
abbrev pub AllIn : ℕ → List Relocation → Type 0
AllIn n [] = Unit {0}
AllIn n (r ∷ rs) = (r.place + 1 < n) × AllIn n rs

-- the word at a place of some bytes, and the byte there
abbrev pub word_in : List ℕ → ℕ → ℕ
word_in xs p = slice_index xs p % 256 + 256 * (slice_index xs (p + 1) % 256)

abbrev pub byte_in : List ℕ → ℕ → ℕ
byte_in xs p = slice_index xs p % 256
