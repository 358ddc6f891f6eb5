-- What a source answers and what it has left, where it tells that.
use Rattle.std.specs.Prelude.{◌≡◌, ◌≢◌, ℕ, Bool, true, List, [], ◌∷◌, Option}
use Rattle.std.specs.Io.KnownBytes.{Keeps, Consumes, IsAtEnd}
use Rattle.rt_outside.specs.declared.source.Next.{Next}
use Rattle.rt_outside.specs.declared.source.Next.TheVariants.{Byte, End, Failed}

-- a byte is the first of those left and is taken; the end comes where none is left; a failure takes nothing
abbrev pub TakesNext : Option (List ℕ) → Next → Option (List ℕ) → Type 0
TakesNext left (Byte b) now = Consumes left now (b ∷ [])
TakesNext left End now = IsAtEnd left × Keeps left now
TakesNext left Failed now = Keeps left now

-- once the end was answered no byte comes any more
abbrev pub KeepsEnd : Bool → Next → Bool → Type 0
KeepsEnd ended (Byte b) now = ended ≢ true
KeepsEnd ended End now = now ≡ true
KeepsEnd ended Failed now = ended ≡ true → now ≡ true
