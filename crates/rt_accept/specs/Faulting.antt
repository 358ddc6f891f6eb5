-- The fault lines of modules whose texts aren't accepted.
use Rattle.std.specs.Prelude.{◌≡◌, ℕ, nat_eq, if◌then◌else◌, List, Option, Some, None, option_map}
use Rattle.rt_pieces.specs.declared.fault.TextFault.{TextFault as ItemFault}
use Rattle.rt_pieces.specs.declared.fault.TextFault.TheVariants as items
use Rattle.rt_tree_nodes.specs.declared.brick.ModuleParts.{ModuleParts}
use Rattle.rt_check.specs.Texts.{IsTree}
use Rattle.rt_check_faults.specs.declared.fault.CheckFault.{CheckFault}
use Rattle.rt_check_faults.specs.declared.fault.CheckFault.TheVariants as check
use Rattle.rt_compile.specs.declared.fault.CompileFault.{CompileFault}
use Rattle.rt_compile.specs.declared.fault.CompileFault.TheVariants as compile
use Rattle.rt_compile.specs.Texts.{IsOfCode}
use Rattle.rt_report.specs.declared.fault.FaultLine.{FaultLine}
use Rattle.rt_report.specs.declared.fault.FaultLine.TheVariants as fault
use Rattle.rt_report.specs.declared.fault.Form.{Form}
use Rattle.rt_report.specs.declared.fault.Form.TheVariants as form
use Rattle.rt_report.specs.declared.fault.TextFault.TheVariants as text
use Rattle.rt_accept.specs.declared.faulting.Told.{Told}
use Rattle.rt_accept.specs.declared.faulting.Told.TheVariants as told
use Rattle.rt_accept.specs.declared.reading.Unaccepted.{Unaccepted}
use Rattle.rt_accept.specs.declared.reading.Unaccepted.TheVariants.{Memory, Refused, Failed}

-- what is told of a fault of items
abbrev pub items_told : ItemFault → Option Told
items_told items.Memory = None
items_told (items.BadCharacter l) = Some (told.Text text.BadCharacter l)
items_told (items.NumberTooLarge l) = Some (told.Text text.NumberTooLarge l)
items_told (items.OpenString l) = Some (told.Text text.OpenString l)
items_told (items.OpenComment l) = Some (told.Text text.OpenComment l)
items_told (items.BadInsert l) = Some (told.Text text.BadInsert l)
items_told (items.BadLet l) = Some (told.Text text.BadLet l)
items_told (items.TooManyItems l) = Some (told.Text text.TooManyItems l)
items_told (items.LeftOutWord l) = Some (told.Text text.LeftOutWord l)

-- the form of the language of this number
abbrev pub form_numbered : ℕ → Option Form
form_numbered k = if nat_eq k 1 then Some form.Label else if nat_eq k 2 then Some form.Recovery else if nat_eq k 3 then Some form.Whole else if nat_eq k 4 then Some form.Array else None

-- what is told of a fault of the checker
abbrev pub check_told : CheckFault → Option Told
check_told check.Memory = None
check_told check.Unknown = None
check_told (check.UnknownName at) = Some (told.Text text.UnknownName at.line)
check_told (check.WrongMode at) = Some (told.Text text.WrongMode at.line)
check_told (check.NotAssignable at) = Some (told.Text text.NotAssignable at.line)
check_told (check.WrongCount at) = Some (told.Text text.WrongCount at.line)
check_told (check.RefOfLocal at) = Some (told.Text text.ReferenceOfLocal at.line)
check_told (check.LeftOut k at) = option_map (λ f. told.LeftOut f at.line) (form_numbered k)
check_told (check.DeclaredTwice at) = Some (told.Text text.DeclaredTwice at.line)
check_told (check.BadStart at) = Some (told.Text text.BadStart at.line)
check_told (check.UnknownLabel at) = Some (told.Text text.UnknownLabel at.line)
check_told (check.NoResult at) = Some (told.Text text.NoResult at.line)

abbrev pub told_line : List ℕ → Told → FaultLine
told_line file (told.Text f l) = fault.Text file f l
told_line file (told.LeftOut f l) = fault.LeftOut file l f

-- the fault line of a file whose text has this fault; want of memory has none
abbrev pub line_of : List ℕ → CompileFault → Option FaultLine
line_of file compile.Memory = None
line_of file (compile.Text f) = option_map (told_line file) (items_told f)
line_of file (compile.Syntax l) = Some (fault.Text file text.Syntax l)
line_of file (compile.Check f) = option_map (told_line file) (check_told f)
line_of file (compile.ProcTooLong name) = Some (fault.ProcTooLong file name)
line_of file compile.Beyond = None

-- a text that has a typed tree is refused for its code alone
abbrev pub IsForItsCode : List ℕ → CompileFault → Type 0
IsForItsCode text why = (tree : ModuleParts) → IsTree text tree → IsOfCode why

-- why the file isn't accepted: by its fault line, or since memory was wanted
abbrev pub IsToldBy : Option FaultLine → Unaccepted → Type 0
IsToldBy line Memory = Unit {0}
IsToldBy line (Refused f) = line ≡ Some f
IsToldBy line (Failed f) = ⊥
