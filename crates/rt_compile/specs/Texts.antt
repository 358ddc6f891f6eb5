-- What is compiled of a text: its object, or its fault.
use Rattle.std.specs.Prelude.{◌≡◌, ◌⊎◌, ℕ, List, Result, Ok, Err}
use Rattle.rt_tree_nodes.specs.declared.brick.ModuleParts.{ModuleParts}
use Rattle.rt_object.specs.declared.object.ObjectParts.{ObjectParts}
use Rattle.rt_object.specs.Ranges.{HasObjectRanges}
use Rattle.rt_check.specs.declared.fault.ModuleFault.{ModuleFault}
use Rattle.rt_check.specs.declared.fault.ModuleFault.TheVariants as module_fault
use Rattle.rt_check.specs.Texts.{IsTree, IsFaultOf}
use Rattle.rt_lower.specs.declared.layouts.Layouts.{Layouts}
use Rattle.rt_lower.specs.Code.{intermediate}
use Rattle.rt_templates.specs.Expanded.{IsTooLong}
use Rattle.rt_templates.specs.declared.fault.ExpandFault.{ExpandFault}
use Rattle.rt_templates.specs.declared.fault.ExpandFault.TheVariants as expand_fault
use Rattle.rt_compile.specs.declared.fault.CompileFault.{CompileFault}
use Rattle.rt_compile.specs.declared.fault.CompileFault.TheVariants.{Memory, Text, Syntax, Check, ProcTooLong, Beyond}
use Rattle.rt_compile.specs.Objects.{IsObjectOf, HasLongProc}

-- the text has a typed tree, of which this is the object
pub record IsObjectOfText (text : List ℕ) (o : ObjectParts) : Type 0 where
  pub tree : ModuleParts
  pub is_tree : IsTree text tree
  pub object : IsObjectOf tree o

-- the text has a typed tree, in which this procedure is the first whose code is too long
pub record HasLongCode (text : List ℕ) (name : List ℕ) : Type 0 where
  pub tree : ModuleParts
  pub is_tree : IsTree text tree
  pub long : HasLongProc tree name

-- the text has an object that doesn't keep the ranges of objects; it isn't known whether there is such a text
pub record IsBeyond (text : List ℕ) : Type 0 where
  pub parts : ObjectParts
  pub object : IsObjectOfText text parts
  pub beyond : HasObjectRanges parts → ⊥

-- ---- faults

-- the fault of a text as that of its compilation; want of memory is one, whichever call met it
abbrev pub of_module : ModuleFault → CompileFault
of_module module_fault.Memory = Memory
of_module (module_fault.Text f) = Text f
of_module (module_fault.Syntax line) = Syntax line
of_module (module_fault.Check f) = Check f

abbrev pub of_code : ExpandFault → CompileFault
of_code (expand_fault.ProcTooLong name) = ProcTooLong name
of_code expand_fault.Memory = Memory

abbrev pub IsFault : List ℕ → CompileFault → Type 0
IsFault text Memory = Unit {0}
IsFault text (Text f) = IsFaultOf text (module_fault.Text f)
IsFault text (Syntax line) = IsFaultOf text (module_fault.Syntax line)
IsFault text (Check f) = IsFaultOf text (module_fault.Check f)
IsFault text (ProcTooLong name) = HasLongCode text name
IsFault text Beyond = IsBeyond text

-- a fault of a text that has a typed tree
abbrev pub IsOfCode : CompileFault → Type 0
IsOfCode (Text f) = ⊥
IsOfCode (Syntax line) = ⊥
IsOfCode (Check f) = ⊥
IsOfCode _ = Unit {0}

-- ---- answers

abbrev pub Answer : Type 0
Answer = Result ObjectParts CompileFault

-- the object is answered, unless memory runs out
abbrev pub IsAnswered : ObjectParts → Answer → Type 0
IsAnswered o r = (r ≡ Ok o) ⊎ (r ≡ Err Memory)

-- this procedure is told, unless memory runs out
abbrev pub IsRefused : List ℕ → Answer → Type 0
IsRefused name r = (r ≡ Err (ProcTooLong name)) ⊎ (r ≡ Err Memory)

-- ---- faults of code

-- a fault of a module's code, by how its data lie
abbrev pub IsCodeFaultWith : Layouts → ModuleParts → CompileFault → Type 0
IsCodeFaultWith l p Memory = Unit {0}
IsCodeFaultWith l p (ProcTooLong name) = IsTooLong (intermediate l p) name
IsCodeFaultWith l p _ = ⊥

abbrev pub IsCodeFault : ModuleParts → CompileFault → Type 0
IsCodeFault p Memory = Unit {0}
IsCodeFault p (ProcTooLong name) = HasLongProc p name
IsCodeFault p _ = ⊥
