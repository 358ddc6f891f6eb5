-- A module without fault is a typed module within what procedures may take.
use Rattle.std.proofs.Common.{◌≡◌, inl, inr, ℕ, ◌+◌, length, Bool, true, false, [], ◌∷◌, Result, Ok, Err, sym, ap, ◌∙◌, subst}
use Rattle.rt_bricks.specs.declared.tree.Module.{Module}
use Rattle.rt_bricks_laws.specs.Strings.{Rise as Rises}
use Rattle.rt_check_module_laws.proofs.Reading.{module_within}
use Rattle.rt_check_module_laws.proofs.Whole.{module_fits}
use Rattle.rt_tree_nodes.specs.declared.brick.ModuleParts.{ModuleParts}
use Rattle.rt_check_faults.specs.declared.fault.CheckFault.{CheckFault}
use Rattle.rt_check_faults.specs.declared.fault.CheckFault.TheVariants as fault
use Rattle.rt_check_faults.specs.Outcomes.{IsAnswered}
use Rattle.rt_syntax.specs.Strings.{Texts}
use Rattle.rt_tree.specs.Modules.{every_node_fits}
use Rattle.rt_tree.specs.Within.{Within}
use Rattle.rt_check_module.specs.Typed.{IsTyped}
use Rattle.rt_check_module.specs.Tree.{texts_from, records}
use Rattle.rt_check.specs.Whole.{Rise, StringsRise}
use Rattle.rt_check.specs.Derived.{IsDerived}
use Rattle.rt_check.proofs.Chosen.{texts_rise}

rise_alone : (low high : ℕ) (ts : Texts) → Rises low high ts → Rise low ts
rise_alone low high [] r = tt
rise_alone low high (t ∷ ts) r = (r.0, rise_alone (t.0 + 1) high ts r.2)

module _ (m : Module) (d : IsDerived m) where
  pub strings_rise : StringsRise m.declarations
  strings_rise = λ hs. rise_alone 0 (length d.items) (texts_from (records m.declarations).records [] hs m.declarations) (texts_rise (records m.declarations).records d.items m hs d.is_text)

  pub fits : (p : ModuleParts) → IsTyped m p → every_node_fits p ≡ true
  fits p t = ap every_node_fits t.is ∙ module_fits d.items m d.is_text t.fit

  pub within : (p : ModuleParts) → IsTyped m p → Within p
  within p t = subst Within (sym t.is) (module_within d.items m d.is_text t.fit)

pub not_both : {A : Type 0} (b : Bool) → b ≡ true → b ≡ false → A
not_both b e f = absurd (let bad : true ≡ false = sym e ∙ f in cc)

abbrev ok_of : ModuleParts → Result ModuleParts CheckFault
ok_of x = Ok x

abbrev err_of : CheckFault → Result ModuleParts CheckFault
err_of g = Err g

same_parts : (p q : ModuleParts) → ok_of p ≡ Ok q → p ≡ q
same_parts p q e = cc

never_err : {A : Type 0} (p : ModuleParts) (g : CheckFault) → ok_of p ≡ Err g → A
never_err p g e = absurd cc

pub as_answered : (x p : ModuleParts) → IsAnswered x (ok_of p) → p ≡ x
as_answered x p (inl e) = same_parts p x e
as_answered x p (inr e) = never_err p fault.Memory e
