-- A text has one fault line.
use Rattle.std.proofs.Common.{◌≡◌, ℕ, List, Option, Some, None, option_map, refl, sym, ◌∙◌, subst}
use Rattle.rt_check_faults.specs.declared.fault.CheckFault.{CheckFault}
use Rattle.rt_check_faults.specs.declared.fault.CheckFault.TheVariants as check
use Rattle.rt_compile.specs.declared.fault.CompileFault.{CompileFault}
use Rattle.rt_compile.specs.declared.fault.CompileFault.TheVariants as compile
use Rattle.rt_compile_laws.specs.Faults.{AreOne, HasPlace, IsOfText}
use Rattle.rt_report.specs.declared.fault.FaultLine.{FaultLine}
use Rattle.rt_report.specs.declared.fault.FaultLine.TheVariants as fault
use Rattle.rt_report.specs.declared.fault.Form.{Form}
use Rattle.rt_accept.specs.declared.faulting.Told.TheVariants as told
use Rattle.rt_accept.specs.Faulting.{check_told, told_line, form_numbered, line_of}
use Rattle.rt_headline.specs.Determined.{SameLine}

pub as_same : (f f2 : FaultLine) → f ≡ f2 → SameLine f f2
as_same f f2 e = subst (SameLine f) e SameLine.same

has_place : (name : List ℕ) (t : CheckFault) (f : FaultLine) → option_map (told_line name) (check_told t) ≡ Some f → HasPlace t
has_place name check.Memory f e = absurd cc
has_place name check.Unknown f e = absurd cc
has_place name (check.UnknownName at) f e = tt
has_place name (check.WrongMode at) f e = tt
has_place name (check.NotAssignable at) f e = tt
has_place name (check.WrongCount at) f e = tt
has_place name (check.RefOfLocal at) f e = tt
has_place name (check.LeftOut k at) f e = tt
has_place name (check.DeclaredTwice at) f e = tt
has_place name (check.BadStart at) f e = tt
has_place name (check.UnknownLabel at) f e = tt
has_place name (check.NoResult at) f e = tt

pub is_of_text : (name : List ℕ) (why : CompileFault) (f : FaultLine) → line_of name why ≡ Some f → IsOfText why
is_of_text name compile.Memory f e = absurd cc
is_of_text name compile.Beyond f e = absurd cc
is_of_text name (compile.Text t) f e = tt
is_of_text name (compile.Syntax l) f e = tt
is_of_text name (compile.Check t) f e = has_place name t f e
is_of_text name (compile.ProcTooLong p) f e = tt

form_line : (name : List ℕ) (l : ℕ) (o : Option Form) (f : FaultLine) → option_map (told_line name) (option_map (λ x. told.LeftOut x l) o) ≡ Some f → (x : Form) × (fault.LeftOut name l x ≡ f)
form_line name l None f e = absurd cc
form_line name l (Some x) f e = (x, cc)

pub one_line : (name : List ℕ) (why why2 : CompileFault) (f f2 : FaultLine) → AreOne why why2 → line_of name why ≡ Some f → line_of name why2 ≡ Some f2 → SameLine f f2
one_line name why why2 f f2 AreOne.same e i = let same : Some f ≡ Some f2 = sym e ∙ i in as_same f f2 cc
one_line name why why2 f f2 (AreOne.forms {j = j} {k = k} {at = at}) e i =
    let a = form_line name at.line (form_numbered j) f e in
    let b = form_line name at.line (form_numbered k) f2 i in
    subst (λ (x : FaultLine). SameLine x f2) a.1 (subst (SameLine (fault.LeftOut name at.line a.0)) b.1 SameLine.forms)
