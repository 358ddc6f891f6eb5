-- What bytes a tick text is.
use Rattle.std.specs.Prelude.{◌≡◌, ℕ, ◌≤◌, List, [], ◌∷◌, ◌++◌, length, replicate, flat_map}
use Rattle.std.specs.List.{AllByRecursion}
use Rattle.rt_system.specs.Lines.{IsBlank, lines, Say, IsFirstBad}
use Rattle.rt_system.specs.Numbers.{IsNumber, IsPlainNumber}
use Rattle.rt_system.specs.declared.ticks.TickLine.{TickLine}
use Rattle.rt_system.specs.declared.ticks.TickLine.TheVariants.{Blank, Gap, Gaps}
use Rattle.rt_system.specs.declared.fault.LineFault.{LineFault}
use Rattle.rt_system.specs.declared.fault.LineFault.TheVariants.{Memory, BadLine, ObjectLine}

-- 1 to 10 digits with a value up to 4,000,000,000
pub record IsGap (text : List ℕ) (gap : ℕ) : Type 0 where
  pub number : IsNumber text gap
  pub short : length text ≤ 10
  pub most : gap ≤ 4000000000

-- 1 to 200,000, without a leading zero
pub record IsCount (text : List ℕ) (count : ℕ) : Type 0 where
  pub number : IsPlainNumber text count
  pub most : count ≤ 200000

-- gap*count
pub record IsRepeated (line : List ℕ) (gap count : ℕ) : Type 0 where
  pub left : List ℕ
  pub right : List ℕ
  pub parts : line ≡ left ++ 42 ∷ right
  pub gap_is : IsGap left gap
  pub count_is : IsCount right count

-- what the line says
abbrev pub IsTickLine : List ℕ → TickLine → Type 0
IsTickLine line Blank = AllByRecursion IsBlank line
IsTickLine line (Gap gap) = IsGap line gap
IsTickLine line (Gaps gap count) = IsRepeated line gap count

abbrev pub ticks_of : TickLine → List ℕ
ticks_of Blank = []
ticks_of (Gap gap) = gap ∷ []
ticks_of (Gaps gap count) = replicate count gap

-- lines that say these ticks, in their order
pub record AreTicks (lines : List (List ℕ)) (gaps : List ℕ) : Type 0 where
  pub kinds : List TickLine
  pub each : Say IsTickLine lines kinds
  pub are : gaps ≡ flat_map ticks_of kinds
  pub few : length gaps ≤ 200000

-- the bytes are a tick text with these gaps
abbrev pub IsTicks : List ℕ → List ℕ → Type 0
IsTicks bytes gaps = AreTicks (lines bytes) gaps

-- line n, counted from 1, is the first that breaks a rule
abbrev pub IsBadTickLine : List ℕ → ℕ → Type 0
IsBadTickLine bytes n = IsFirstBad (λ lines. (gaps : List ℕ) × AreTicks lines gaps) bytes n

-- why a tick text is refused
abbrev pub RefusesTicks : List ℕ → LineFault → Type 0
RefusesTicks bytes Memory = Unit {0}
RefusesTicks bytes (BadLine n) = IsBadTickLine bytes n
RefusesTicks bytes (ObjectLine n) = ⊥
