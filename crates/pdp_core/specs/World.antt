-- The memory as an instruction meets it.
use Rattle.std.specs.Prelude.{ℕ, ◌+◌, ◌*◌, ◌/◌, ◌%◌, Bool, ◌==◌, ◌&&◌, nat_lt, if◌then◌else◌, Result, Ok, Err}
use Rattle.rt_words.specs.Word.{is_odd}
use Rattle.pdp_core.specs.declared.cpu.Refused.{Refused}
use Rattle.pdp_core.specs.declared.cpu.Refused.TheVariants.{Odd, Access}

-- the bytes by address, and where they may be fetched, and read and written
pub record World : Type 0 where
  pub bytes : ℕ → ℕ
  pub fetches : ℕ → Bool
  pub touches : ℕ → Bool

-- the byte at an address
abbrev pub byte_at : (ℕ → ℕ) → ℕ → ℕ
byte_at m a = m a % 256

-- the word at an even address
unfoldable pub word_at : (ℕ → ℕ) → ℕ → ℕ
word_at m a = byte_at m a + 256 * byte_at m (a + 1)

-- the memory with another byte
unfoldable pub put_byte : (ℕ → ℕ) → ℕ → ℕ → ℕ → ℕ
put_byte m a b x = if x == a then b else m x

-- the memory with another word
unfoldable pub put_word : (ℕ → ℕ) → ℕ → ℕ → ℕ → ℕ
put_word m a w x = if x == a then w % 256 else if x == a + 1 then w / 256 else m x

-- whether an address is the task's to use: none is from 160000 octal on
abbrev pub may : (ℕ → Bool) → ℕ → Bool
may allowed a = nat_lt a 0o160000 && allowed a

-- whether a word may be used there: both its bytes
abbrev pub word_use : (ℕ → Bool) → ℕ → Result (Unit {0}) Refused
word_use allowed a = if is_odd a then Err (Odd a) else if may allowed a && may allowed (a + 1) then Ok tt else Err (Access a)

-- whether a byte may be used there
abbrev pub byte_use : (ℕ → Bool) → ℕ → Result (Unit {0}) Refused
byte_use allowed a = if may allowed a then Ok tt else Err (Access a)

-- a value, where the use is allowed
abbrev pub where_ok : {A : Type 0} → Result (Unit {0}) Refused → A → Result A Refused
where_ok (Ok u) x = Ok x
where_ok (Err e) x = Err e

-- the ways to read
abbrev pub fetched : World → ℕ → Result ℕ Refused
fetched w a = where_ok (word_use w.fetches a) (word_at w.bytes a)

abbrev pub word_read : World → ℕ → Result ℕ Refused
word_read w a = where_ok (word_use w.touches a) (word_at w.bytes a)

abbrev pub byte_read : World → ℕ → Result ℕ Refused
byte_read w a = where_ok (byte_use w.touches a) (byte_at w.bytes a)

-- the two ways to write
abbrev pub word_written : World → ℕ → ℕ → Result World Refused
word_written w a v = where_ok (word_use w.touches a) (record w { bytes = put_word w.bytes a v })

abbrev pub byte_written : World → ℕ → ℕ → Result World Refused
byte_written w a v = where_ok (byte_use w.touches a) (record w { bytes = put_byte w.bytes a v })
