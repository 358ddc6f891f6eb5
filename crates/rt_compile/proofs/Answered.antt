-- What is answered of a text that has an object, or a procedure whose code is too long.
use Rattle.std.proofs.Common.{◌≡◌, inl, inr, List, ℕ, Option, Some, None, Result, Ok, Err, IfOk, IfErr, refl, sym, ap, ◌∙◌, subst}
use Rattle.rt_tree_nodes.specs.declared.brick.ModuleParts.{ModuleParts}
use Rattle.rt_check.specs.declared.fault.ModuleFault.{ModuleFault}
use Rattle.rt_check.specs.declared.fault.ModuleFault.TheVariants as module_fault
use Rattle.rt_check.specs.Faults.{IsAnswered as AnsweredAs}
use Rattle.rt_check.specs.Texts.{IsTree}
use Rattle.rt_object.specs.declared.object.ObjectParts.{ObjectParts}
use Rattle.rt_object.specs.Ranges.{HasObjectRanges}
use Rattle.rt_object_ranges.specs.Within.{IsWithin, within, beyond}
use Rattle.rt_compile.specs.declared.fault.CompileFault.{CompileFault}
use Rattle.rt_compile.specs.declared.fault.CompileFault.TheVariants.{Memory, Text, Syntax, Check, ProcTooLong, Beyond}
use Rattle.rt_compile.specs.Laws.{OneObject, NoneWithLongCode, OneLongCode}
use Rattle.rt_compile.specs.Texts.{Answer, IsObjectOfText, HasLongCode, IsFault, IsOfCode, IsAnswered, IsRefused, of_module}

abbrev made : ObjectParts → Answer
made o = Ok o

abbrev refused : CompileFault → Answer
refused f = Err f

-- what is answered of a text
pub record IsAnswerTo (text : List ℕ) (r : Answer) : Type 0 where
  pub object : IfOk r (IsObjectOfText text)
  pub fault : IfErr r (IsFault text)
  pub only : (tree : ModuleParts) → IsTree text tree → IfErr r IsOfCode

pub answered : OneObject → NoneWithLongCode → (text : List ℕ) (o : ObjectParts) (r : Answer) → IsAnswerTo text r → IsObjectOfText text o → HasObjectRanges o → IsAnswered o r
answered one none text o (Ok q) a is ranges = inl (ap made (one text q o a.object is))
answered one none text o (Err Memory) a is ranges = inr refl
answered one none text o (Err (Text f)) a is ranges = absurd (a.only is.tree is.is_tree)
answered one none text o (Err (Syntax line)) a is ranges = absurd (a.only is.tree is.is_tree)
answered one none text o (Err (Check f)) a is ranges = absurd (a.only is.tree is.is_tree)
answered one none text o (Err (ProcTooLong name)) a is ranges = absurd (none text o name is a.fault)
answered one none text o (Err Beyond) a is ranges =
    let b = a.fault in
    absurd (b.beyond (subst HasObjectRanges (one text o b.parts is b.object) ranges))

pub told : NoneWithLongCode → OneLongCode → (text name : List ℕ) (r : Answer) → IsAnswerTo text r → HasLongCode text name → IsRefused name r
told none one text name (Ok o) a is = absurd (none text o name a.object is)
told none one text name (Err Memory) a is = inr refl
told none one text name (Err (Text f)) a is = absurd (a.only is.tree is.is_tree)
told none one text name (Err (Syntax line)) a is = absurd (a.only is.tree is.is_tree)
told none one text name (Err (Check f)) a is = absurd (a.only is.tree is.is_tree)
told none one text name (Err (ProcTooLong other)) a is = inl (ap (λ (n : List ℕ). refused (ProcTooLong n)) (one text other name a.fault is))
told none one text name (Err Beyond) a is = let b = a.fault in absurd (none text b.parts name b.object is)

-- ---- from one call to the next

abbrev no_tree : ModuleFault → Result ModuleParts ModuleFault
no_tree f = Err f

is_memory : (f : ModuleFault) → no_tree f ≡ Err module_fault.Memory → f ≡ module_fault.Memory
is_memory f e = cc

-- where the text has a typed tree, it is want of memory alone that the checker passes on
pub passed_on : (t : ModuleParts) (r : Answer) (y : CompileFault) (f : ModuleFault) → r ≡ Err y → y ≡ of_module f → AnsweredAs t (no_tree f) → IfErr r IsOfCode
passed_on t r y f is from (inl e) = absurd cc
passed_on t r y f is from (inr e) = subst (λ (x : Answer). IfErr x IsOfCode) (sym (is ∙ ap refused (from ∙ ap of_module (is_memory f e)))) tt

pub same_fault : (r : Answer) (y f : CompileFault) → r ≡ Err y → y ≡ f → IsOfCode f → IfErr r IsOfCode
same_fault r y f is from h = subst (λ (x : Answer). IfErr x IsOfCode) (sym (is ∙ ap refused from)) h

-- the object of parts has these parts
pub same_parts : (parts o : ObjectParts) (x : Option ObjectParts) → IsWithin parts x → x ≡ Some o → parts ≡ o
same_parts parts o (Some q) within e = cc
same_parts parts o None (beyond h) e = absurd cc
