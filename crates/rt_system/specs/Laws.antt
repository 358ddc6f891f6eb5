-- The laws of the texts.
use Rattle.std.specs.Prelude.{◌≡◌, ℕ, Bool, List}
use Rattle.rt_system.specs.Ticks.{IsTicks, IsBadTickLine}
use Rattle.rt_system.specs.Systems.{IsSystem, IsBadSystemLine, IsObjectLine}
use Rattle.rt_system.specs.declared.parts.SystemParts.{SystemParts}

-- what a system text is read as
pub data Reading : Type 0 where
  System : SystemParts → Reading
  Bad : ℕ → Reading
  Object : ℕ → Reading

abbrev pub Reads : Bool → List ℕ → Reading → Type 0
Reads objects bytes (System s) = IsSystem objects bytes s
Reads objects bytes (Bad n) = IsBadSystemLine objects bytes n
Reads objects bytes (Object n) = IsObjectLine objects bytes n

abbrev pub HaveOneReading : Type 0
HaveOneReading = (objects : Bool) (bytes : List ℕ) (r q : Reading) → Reads objects bytes r → Reads objects bytes q → r ≡ q

abbrev pub HaveSomeReading : Type 0
HaveSomeReading = (objects : Bool) (bytes : List ℕ) → (r : Reading) × Reads objects bytes r

-- what a tick text is read as
pub data TickReading : Type 0 where
  Ticks : List ℕ → TickReading
  BadTicks : ℕ → TickReading

abbrev pub ReadsTicks : List ℕ → TickReading → Type 0
ReadsTicks bytes (Ticks gaps) = IsTicks bytes gaps
ReadsTicks bytes (BadTicks n) = IsBadTickLine bytes n

abbrev pub HaveOneTickReading : Type 0
HaveOneTickReading = (bytes : List ℕ) (r q : TickReading) → ReadsTicks bytes r → ReadsTicks bytes q → r ≡ q

abbrev pub HaveSomeTickReading : Type 0
HaveSomeTickReading = (bytes : List ℕ) → (r : TickReading) × ReadsTicks bytes r
