-- Where the running task's words stand.
use Rattle.std.specs.Prelude.{◌≡◌, ℕ, ◌+◌, ◌*◌, ◌/◌, ◌%◌, ◌<◌, ◌==◌, if◌then◌else◌, List, length, false}
use Rattle.rt_words.specs.Word.{is_odd}
use Rattle.pdp_core.specs.declared.cpu.Refused.{Refused}
use Rattle.pdp_core.specs.declared.cpu.Refused.TheVariants.{Odd, Access}
use Rattle.pdp_core.specs.declared.memory.Protection.{Protection}
use Rattle.pdp_core.specs.World.{may}
use Rattle.pdp_core.specs.Protection.{usable}
use Rattle.rt_tasks.specs.declared.memory.Found.{Found}
use Rattle.rt_tasks.specs.declared.memory.Found.TheVariants.{InData, InOwn, Nowhere}

-- why a word at an address isn't there to use
abbrev pub refusal : ℕ → Refused
refusal a = if is_odd a then Odd a else Access a

-- the word at an address stands there, of these words of data, and of a block and brick of these words; neither of its bytes may be used
-- where it stands nowhere at an even address
abbrev pub IsFound : List ℕ → List ℕ → Protection → ℕ → Found → Type 0
IsFound words own p a (InData k) = (p.code_end + 2 * k ≡ a) × (k < length words)
IsFound words own p a (InOwn k) = (p.block + 2 * k ≡ a) × (k < length own)
IsFound words own p a Nowhere = a % 2 ≡ 0 → (may (usable p) a ≡ false) × (may (usable p) (a + 1) ≡ false)

-- the byte of a word at an even or odd address
abbrev pub half_at : ℕ → ℕ → ℕ
half_at word a = if a % 2 == 0 then word % 256 else word / 256

-- a word with another byte there
abbrev pub with_half : ℕ → ℕ → ℕ → ℕ
with_half word a byte = if a % 2 == 0 then word / 256 * 256 + byte else word % 256 + 256 * byte
