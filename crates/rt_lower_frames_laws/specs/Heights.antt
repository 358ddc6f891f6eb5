-- How many values intermediate code holds on its stack at each instruction, and where it calls.
use Rattle.std.specs.Prelude.{◌≡◌, ℕ, ◌+◌, ◌-◌, ◌≤◌, Bool, true, if◌then◌else◌, List, [], ◌∷◌, ◌++◌, length, Some, slice_get}
use Rattle.rt_frames.specs.declared.frame.CallPoint.{CallPoint}
use Rattle.rt_frames.specs.declared.frame.Target.{Target}
use Rattle.rt_frames.specs.declared.frame.Target.TheVariants as target
use Rattle.rt_icode.specs.declared.ins.Ins.{Ins}
use Rattle.rt_icode.specs.declared.ins.Ins.TheVariants as ins
use Rattle.rt_icode.specs.Within.{leads, goes_on}

-- ---- instructions

-- how many values it takes off the stack, where the next one comes after it and where it leads elsewhere
abbrev pub takes : Ins → ℕ
takes (ins.SaveLocal i) = 1
takes ins.Discard = 1
takes (ins.Save z f) = 1
takes (ins.SaveOwn k) = 1
takes (ins.ElementAt f n s) = 1
takes (ins.Into k o) = 1
takes (ins.IntoRow k o n) = 1
takes (ins.Element n s) = 2
takes (ins.ElementRow s) = 2
takes (ins.Fetch z) = 1
takes (ins.Store z) = 2
takes (ins.Tell n) = 1
takes ins.Length = 1
takes (ins.Alter a) = 1
takes (ins.Merge m) = 2
takes (ins.Divide d) = 2
takes (ins.DivideOr d) = 2
takes ins.Report = 2
takes (ins.Test r w more) = 2
takes (ins.Case to) = 1
takes (ins.CountFor i more) = 1
takes (ins.CountTo i more) = 1
takes (ins.Invoke b n gives) = n
takes (ins.InvokeBy n gives) = n + 1
takes ins.GiveUp = 1
takes _ = 0

abbrev pub kept : Bool → ℕ
kept gives = if gives then 1 else 0

-- How many it puts there instead, where the next one comes after it. A division that failed leaves the error's number, and its report
-- the 0 that is stated for the result.
abbrev pub leaves : Ins → ℕ
leaves (ins.Const n) = 1
leaves (ins.Text n) = 1
leaves (ins.Routine b) = 1
leaves (ins.LoadLocal i) = 1
leaves (ins.Reach f) = 1
leaves (ins.ReachRow f n) = 1
leaves (ins.Load z f) = 1
leaves (ins.LoadOwn k) = 1
leaves (ins.ElementAt f n s) = 1
leaves (ins.Into k o) = 1
leaves (ins.IntoRow k o n) = 1
leaves (ins.Element n s) = 1
leaves (ins.ElementRow s) = 1
leaves (ins.Fetch z) = 1
leaves (ins.Tell n) = 1
leaves ins.Length = 1
leaves (ins.Alter a) = 1
leaves (ins.Merge m) = 1
leaves (ins.Divide d) = 1
leaves (ins.DivideOr d) = 1
leaves ins.Report = 1
leaves (ins.Case to) = 1
leaves (ins.Invoke b n gives) = kept gives
leaves (ins.InvokeBy n gives) = kept gives
leaves _ = 0

-- How many it puts there where it leads elsewhere: a division its result; the number of a SWITCH is gone where a label is met.
abbrev pub brings : Ins → ℕ
brings (ins.DivideOr d) = 1
brings _ = 0

-- ---- the values held at each instruction

-- how many are held behind an instruction with so many before it
abbrev pub behind : Ins → ℕ → ℕ
behind i held = held - takes i + leaves i

-- so many before each instruction, as if each went on to the next
abbrev pub heights : ℕ → List Ins → List ℕ
heights held [] = []
heights held (i ∷ is) = held ∷ heights (behind i held) is

-- These are the values held, by whichever way an instruction is come to: none at the first; there are as many as it takes; and what it
-- leaves, or brings where it leads elsewhere, is what the one that comes after it finds.
pub record Holds (code : List Ins) (held : List ℕ) : Type 0 where
  pub long : length held ≡ length code
  pub begins : slice_get held 0 ≡ Some 0
  pub enough : (k h : ℕ) (i : Ins) → slice_get code k ≡ Some i → slice_get held k ≡ Some h → takes i ≤ h
  pub next : (k h : ℕ) (i : Ins) → slice_get code k ≡ Some i → slice_get held k ≡ Some h → goes_on i ≡ true → slice_get held (k + 1) ≡ Some (h - takes i + leaves i)
  pub ways : (k h to : ℕ) (i : Ins) → slice_get code k ≡ Some i → slice_get held k ≡ Some h → leads k i ≡ Some to → slice_get held to ≡ Some (h - takes i + brings i)

-- ---- the points where code calls

-- what is called: a brick; a value on the stack; or, by the report of an error, what ERP holds
pub data Callee : Type 0 where
  Brick : (b : ℕ) → Callee
  Variable : Callee
  Error : Callee

-- the values that wait below the call, that of the variable which is called not among them, and its arguments
pub record Point : Type 0 where
  pub depth : ℕ
  pub arguments : ℕ
  pub callee : Callee

abbrev pub point : ℕ → ℕ → Callee → Point
point depth count callee = record { depth = depth; arguments = count; callee = callee }

-- the point of an instruction with so many values before it, if it calls
abbrev pub points_at : Ins → ℕ → List Point
points_at (ins.Invoke b n gives) held = point (held - n) n (Brick b) ∷ []
points_at (ins.InvokeBy n gives) held = point (held - n - 1) n Variable ∷ []
points_at ins.Report held = point (held - 2) 1 Error ∷ []
points_at _ held = []

-- in the order of the code
abbrev pub points_of : List Ins → List ℕ → List Point
points_of (i ∷ is) (h ∷ hs) = points_at i h ++ points_of is hs
points_of _ _ = []

-- what a frame says of a point, but for the mode of a variable
abbrev pub callee_of : Target → Callee
callee_of (target.Brick b) = Brick b
callee_of (target.Variable m) = Variable
callee_of target.Error = Error

abbrev pub told : CallPoint → Point
told c = point c.depth c.args (callee_of c.target)
