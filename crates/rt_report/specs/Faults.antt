-- The fault lines: FAULT, the status, and what is said of it.
use Rattle.std.specs.Prelude.{ℕ, List, [], ◌∷◌, codes, decimal, map, Option, Some, None}
use Rattle.pdp_core.specs.declared.cpu.Kind.{Kind}
use Rattle.pdp_core.specs.declared.cpu.Kind.TheVariants as kind
use Rattle.rt_words.specs.Operators.{octal6}
use Rattle.rt_report.specs.declared.fault.FaultLine.{FaultLine}
use Rattle.rt_report.specs.declared.fault.FaultLine.TheVariants as fault
use Rattle.rt_report.specs.declared.fault.FileKind.{FileKind}
use Rattle.rt_report.specs.declared.fault.FileKind.TheVariants as file
use Rattle.rt_report.specs.declared.fault.Form.{Form}
use Rattle.rt_report.specs.declared.fault.Form.TheVariants as form
use Rattle.rt_report.specs.declared.fault.ProcName.{ProcName}
use Rattle.rt_report.specs.declared.fault.TextFault.{TextFault}
use Rattle.rt_report.specs.declared.fault.TextFault.TheVariants as text
use Rattle.rt_report.specs.Lines.{line, lines, dotted}

abbrev pub number_of : TextFault → ℕ
number_of text.BadCharacter = 1
number_of text.NumberTooLarge = 2
number_of text.OpenString = 3
number_of text.OpenComment = 4
number_of text.BadInsert = 5
number_of text.BadLet = 6
number_of text.TooManyItems = 7
number_of text.LeftOutWord = 8
number_of text.Syntax = 10
number_of text.UnknownName = 20
number_of text.WrongMode = 21
number_of text.NotAssignable = 22
number_of text.WrongCount = 23
number_of text.ReferenceOfLocal = 24
number_of text.DeclaredTwice = 26
number_of text.BadStart = 27
number_of text.UnknownLabel = 28
number_of text.NoResult = 29

abbrev pub form_number : Form → ℕ
form_number form.Label = 1
form_number form.Recovery = 2
form_number form.Whole = 3
form_number form.Array = 4

-- the status of a file that isn't taken
abbrev pub file_status : FileKind → ℕ
file_status file.Module = 11
file_status file.Object = 12
file_status file.Lines = 13
file_status file.Image = 15

abbrev pub kind_text : Kind → List ℕ
kind_text kind.Odd = codes "ODD"
kind_text kind.Reserved = codes "RESERVED"
kind_text kind.Access = codes "ACCESS"
kind_text kind.BadJump = codes "BADJUMP"

-- a procedure of a module behind the module's title; a supplied one has none
abbrev pub name_by : Option (List ℕ) → List ℕ → List ℕ
name_by None name = name
name_by (Some title) name = dotted title name

abbrev pub name_of : ProcName → List ℕ
name_of p = name_by p.title p.name

abbrev pub status_of : FaultLine → ℕ
status_of fault.Words = 10
status_of (fault.Text f t l) = 11
status_of (fault.LeftOut f l k) = 11
status_of (fault.ProcTooLong f p) = 11
status_of (fault.TooLong k f) = file_status k
status_of (fault.BadObject f at) = 12
status_of (fault.ObjectVersion f v) = 12
status_of (fault.BadLine f l) = 13
status_of (fault.ObjectLine f l) = 13
status_of (fault.BadImage f at) = 15
status_of (fault.Duplicate b) = 14
status_of (fault.Missing f b) = 14
status_of (fault.Mismatch f b w found) = 14
status_of (fault.NotSupplied f b) = 14
status_of (fault.Recursion ps) = 14
status_of (fault.SmallStack t n h) = 14
status_of (fault.BadTask l) = 14
status_of (fault.NoRoom n) = 14
status_of (fault.Unread f) = 20
status_of fault.Input = 20
status_of fault.Output = 21
status_of (fault.Machine t k at) = 4

-- what stands behind the status
abbrev pub details : FaultLine → List (List ℕ)
details fault.Words = []
details (fault.Text f t l) = f ∷ decimal (number_of t) ∷ codes "LINE" ∷ decimal l ∷ []
details (fault.LeftOut f l k) = f ∷ decimal 25 ∷ codes "LINE" ∷ decimal l ∷ codes "FORM" ∷ decimal (form_number k) ∷ []
details (fault.ProcTooLong f p) = f ∷ decimal 30 ∷ codes "PROC" ∷ p ∷ []
details (fault.TooLong k f) = f ∷ decimal 80 ∷ []
details (fault.BadObject f at) = f ∷ decimal 40 ∷ codes "AT" ∷ decimal at ∷ []
details (fault.ObjectVersion f v) = f ∷ decimal 41 ∷ codes "FOUND" ∷ decimal v ∷ []
details (fault.BadLine f l) = f ∷ decimal 50 ∷ codes "LINE" ∷ decimal l ∷ []
details (fault.ObjectLine f l) = f ∷ decimal 51 ∷ codes "LINE" ∷ decimal l ∷ []
details (fault.BadImage f at) = f ∷ decimal 70 ∷ codes "AT" ∷ decimal at ∷ []
details (fault.Duplicate b) = decimal 60 ∷ b ∷ []
details (fault.Missing f b) = decimal 61 ∷ f ∷ b ∷ []
details (fault.Mismatch f b w found) = decimal 62 ∷ f ∷ b ∷ codes "WANTED" ∷ w ∷ codes "FOUND" ∷ found ∷ []
details (fault.NotSupplied f b) = decimal 63 ∷ f ∷ b ∷ []
details (fault.Recursion ps) = decimal 64 ∷ map name_of ps
details (fault.SmallStack t n h) = decimal 65 ∷ t ∷ codes "NEED" ∷ decimal n ∷ codes "HAS" ∷ decimal h ∷ []
details (fault.BadTask l) = decimal 66 ∷ codes "LINE" ∷ decimal l ∷ []
details (fault.NoRoom n) = decimal 67 ∷ codes "BYTES" ∷ decimal n ∷ []
details (fault.Unread f) = f ∷ []
details fault.Input = codes "INPUT" ∷ []
details fault.Output = codes "OUTPUT" ∷ []
details (fault.Machine t k at) = t ∷ kind_text k ∷ octal6 at ∷ []

-- the words of a fault of the console, and of one of the machine
abbrev pub console_words : ℕ → List ℕ → List (List ℕ)
console_words status stream = codes "FAULT" ∷ decimal status ∷ stream ∷ []

abbrev pub machine_words : List ℕ → Kind → ℕ → List (List ℕ)
machine_words task k at = codes "FAULT" ∷ decimal 4 ∷ task ∷ kind_text k ∷ octal6 at ∷ []

abbrev pub fault_words : FaultLine → List (List ℕ)
fault_words f = codes "FAULT" ∷ decimal (status_of f) ∷ details f

abbrev pub fault_text : FaultLine → List ℕ
fault_text f = line (fault_words f)

-- the report of a refusal: the status, and the fault line
abbrev pub refusal_text : FaultLine → List ℕ
refusal_text f = lines ((codes "STATUS" ∷ decimal (status_of f) ∷ []) ∷ fault_words f ∷ [])
