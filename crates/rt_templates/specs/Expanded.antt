-- The machine's code of procedures.
use Rattle.std.specs.Prelude.{◌≡◌, ℕ, ◌<◌, ◌≤◌, List, map, sum, Some, slice_get}
use Rattle.rt_icode.specs.declared.ins.Ins.{Ins}
use Rattle.rt_icode.specs.declared.procedure.IProc.{IProc}
use Rattle.rt_icode.specs.declared.procedure.IModule.{IModule}
use Rattle.rt_icode.specs.Weights.{words_of}
use Rattle.rt_templates.specs.declared.fault.ExpandFault.{ExpandFault}
use Rattle.rt_templates.specs.declared.fault.ExpandFault.TheVariants as fault
use Rattle.rt_templates.specs.declared.code.Code.{Code}
use Rattle.rt_templates.specs.declared.code.ProcCode.{ProcCode}
use Rattle.rt_templates.specs.declared.line.Line.{Line}
use Rattle.rt_templates.specs.Lines.{after, none}
use Rattle.rt_templates.specs.Layouts.{layout_of}
use Rattle.rt_templates.specs.Templates.{templates}

-- the most words of a procedure's code
abbrev pub most : ℕ
most = 16383

abbrev pub lines_of : List Ins → List Line
lines_of code = templates (layout_of code) 0 code

abbrev pub code_of : List Ins → ProcCode
code_of code = after none (lines_of code)

abbrev pub proc_of : IProc → ProcCode
proc_of p = code_of p.code

abbrev pub size_of : List Ins → ℕ
size_of code = sum (map words_of code)

-- the code of each procedure of a module, none of which is too long
pub record IsCodeOf (m : IModule) (c : Code) : Type 0 where
  pub procs : c.procs ≡ map proc_of m.procs
  pub each : (k : ℕ) (p : IProc) → slice_get m.procs k ≡ Some p → size_of p.code ≤ most

-- the first procedure whose code is too long
pub record IsTooLong (m : IModule) (name : List ℕ) : Type 0 where
  pub number : ℕ
  pub proc : IProc
  pub at : slice_get m.procs number ≡ Some proc
  pub named : proc.name ≡ name
  pub long : most < size_of proc.code
  pub before : (k : ℕ) (p : IProc) → k < number → slice_get m.procs k ≡ Some p → size_of p.code ≤ most

-- a procedure's name, as far as there was memory for it
abbrev pub IsNamed : List ℕ → ExpandFault → Type 0
IsNamed name (fault.ProcTooLong n) = n ≡ name
IsNamed name fault.Memory = Unit {0}

-- the code of this procedure is too long
abbrev pub RefusesProc : IProc → ExpandFault → Type 0
RefusesProc p (fault.ProcTooLong n) = (p.name ≡ n) × (most < size_of p.code)
RefusesProc p fault.Memory = Unit {0}

abbrev pub Faults : IModule → ExpandFault → Type 0
Faults m (fault.ProcTooLong name) = IsTooLong m name
Faults m fault.Memory = Unit {0}
