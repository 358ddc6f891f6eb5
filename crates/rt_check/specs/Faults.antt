-- The faults of a module's text. Want of memory is one, whichever call met it.
use Rattle.std.specs.Prelude.{◌≡◌, ◌⊎◌, Result, Ok, Err}
use Rattle.rt_pieces.specs.declared.fault.TextFault.{TextFault}
use Rattle.rt_pieces.specs.declared.fault.TextFault.TheVariants as text
use Rattle.rt_syntax.specs.declared.fault.SyntaxFault.{SyntaxFault}
use Rattle.rt_syntax.specs.declared.fault.SyntaxFault.TheVariants as syntax
use Rattle.rt_check_faults.specs.declared.fault.CheckFault.{CheckFault}
use Rattle.rt_check_faults.specs.declared.fault.CheckFault.TheVariants as check
use Rattle.rt_check.specs.declared.fault.ModuleFault.{ModuleFault}
use Rattle.rt_check.specs.declared.fault.ModuleFault.TheVariants.{Memory, Text, Syntax, Check}

abbrev pub of_text : TextFault → ModuleFault
of_text text.Memory = Memory
of_text f = Text f

abbrev pub of_syntax : SyntaxFault → ModuleFault
of_syntax syntax.Memory = Memory
of_syntax (syntax.Syntax item line) = Syntax line

abbrev pub of_check : CheckFault → ModuleFault
of_check check.Memory = Memory
of_check f = Check f

-- what holds is answered, unless memory runs out
abbrev pub IsAnswered : {A : Type 0} → A → Result A ModuleFault → Type 0
IsAnswered x r = (r ≡ Ok x) ⊎ (r ≡ Err Memory)
