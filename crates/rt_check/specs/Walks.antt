-- What is found on the way over the declarations.
use Rattle.std.specs.Prelude.{ℕ, List, [], ◌∷◌, ◌++◌, replicate, Option, Some, None, Result, Ok, Err}
use Rattle.rt_check_faults.specs.declared.fault.CheckFault.{CheckFault}
use Rattle.rt_check_faults.specs.declared.fault.CheckFault.TheVariants as fault
use Rattle.rt_check_declared.specs.Verdicts.{with_fault}
use Rattle.rt_check_module.specs.declared.filling.Filling.{Filling}
use Rattle.rt_check_module.specs.Tree.{nothing}
use Rattle.rt_check.specs.declared.contents.Contents.{Contents}

-- what so many bricks hold
abbrev pub fillings_by : ℕ → Option Filling → List Filling
fillings_by n None = replicate n nothing
fillings_by n (Some f) = f ∷ []

-- with what so many bricks hold, or with the fault that stands in them
abbrev pub added : ℕ → Contents → Result (Option Filling) CheckFault → Contents
added n c (Ok f) = record { fillings = c.fillings ++ fillings_by n f; fault = c.fault }
added n c (Err g) = record { fillings = c.fillings; fault = with_fault c.fault g }

-- memory didn't run out
abbrev pub IsJudged : {A : Type 0} → Result A CheckFault → Type 0
IsJudged (Ok x) = Unit {0}
IsJudged (Err fault.Memory) = ⊥
IsJudged (Err _) = Unit {0}
