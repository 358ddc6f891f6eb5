-- The linker binds each procedure brick to the procedure to which the meaning leads.
use Rattle.std.proofs.Common.{true, ◌≡◌, ℕ, suc, List, Option, Some, option_map, refl, sym, ap, ◌∙◌}
use Rattle.rt_modes.specs.declared.mode.Mode.{Mode}
use Rattle.rt_modes.specs.Bricks.{brick_numbered}
use Rattle.rt_tree_nodes.specs.declared.brick.Brick.{Brick}
use Rattle.rt_tree_nodes.specs.declared.brick.BrickSort.{BrickSort}
use Rattle.rt_tree_nodes.specs.declared.brick.BrickSort.TheVariants as sort
use Rattle.rt_tree_nodes.specs.declared.brick.Kind.{Kind}
use Rattle.rt_tree_nodes.specs.declared.brick.Kind.TheVariants as kind
use Rattle.rt_tree_nodes.specs.declared.brick.ModuleParts.{ModuleParts}
use Rattle.rt_tree_nodes.specs.declared.brick.ProcBody.{ProcBody}
use Rattle.rt_tree_nodes.specs.declared.store.Proc.{Proc}
use Rattle.rt_tree.specs.Modules.{is_here}
use Rattle.rt_tree.specs.Opened.{FullModesOpen}
use Rattle.rt_tree.specs.Stored.{System, HasBrick, itself, entry, supplied, brick}
use Rattle.rt_resolve.specs.Starting.{home_of, lead}
use Rattle.rt_meaning_laws.proofs.Grounding.{proc_there}
use Rattle.rt_meaning_laws.proofs.Soundness.{proc_sort}
use Rattle.rt_object.specs.declared.object.ObjectParts.{ObjectParts}
use Rattle.rt_match.specs.Matching as matching
use Rattle.rt_match.specs.Matching.{Signature, Match, AreBound, supplied_sort}
use Rattle.rt_match.specs.declared.bindings.Bound.{Bound}
use Rattle.rt_match.specs.declared.bindings.Bound.TheVariants as bound_to
use Rattle.rt_match.specs.Signatures.{sort_of as form_sort, system_of}
use Rattle.rt_graph.specs.Calls.{numbered, bound_in, stands_for, leads}
use Rattle.rt_system.specs.declared.parts.Task.{Task}
use Rattle.rt_image.specs.declared.image.ImageParts.{ImageParts}
use Rattle.rt_image.specs.declared.map.Map.{Map}
use Rattle.rt_lower.specs.declared.layouts.Layouts.{Layouts}
use Rattle.rt_imaged.specs.Whole.{IsSystem}
use Rattle.rt_bound.specs.Signed.{tree_kind, tree_form, tree_signature}
use Rattle.rt_bound.specs.Laws.{BindingsLead, ItemsTell}
use Rattle.rt_bound.proofs.Signing.{same_signatures}
use Rattle.rt_bound.proofs.Matching.{is_ent, there, in_it, numbered_proc}
use Rattle.rt_bound.proofs.Alike.{lead_is}
use Rattle.rt_bound.proofs.Binding.{same_binding, bound_here}
use Rattle.rt_bound.specs.Leads.{ProcsLead, ProcsAreLed}

module _ (opens : FullModesOpen) (lead_laws : BindingsLead) (ps : System) (ls : List Layouts) (os : List ObjectParts) (tasks : List Task) (image : ImageParts) (mapped : Map) (s : IsSystem ps ls os tasks image mapped) (tell : ItemsTell ps) where
  abbrev of : List (List Bound)
  of = s.linked.known.bindings.of

  bindings : AreBound (system_of os) of
  bindings = s.linked.judged.deep.ordered.rooted.matched.bound

  matches : Match (system_of os)
  matches = s.linked.judged.deep.ordered.rooted.matched.match

  signed : (m b : ℕ) (p : ModuleParts) (d : Brick) → HasBrick ps m b p d → matching.HasBrick (system_of os) m b (tree_signature p d)
  signed m b p d h = (same_signatures ps ls os tasks image mapped s).of_trees m b p d h

  -- where the linker leads, by what a brick is bound to
  led : (m b : ℕ) (to : Bound) (f : Proc) → bound_in (numbered of m) b ≡ Some to → leads m b to ≡ f → stands_for of m b ≡ Some f
  led m b to f e is = ap (option_map (leads m b)) e ∙ ap (λ (z : Proc). Some z) is

  abbrev IsLed : ℕ → ℕ → ModuleParts → Type 0
  IsLed m b p = stands_for of m b ≡ Some (lead (home_of ps m p) b)

  led_here : (m b : ℕ) (p : ModuleParts) (d : Brick) → HasBrick ps m b p d → is_here d.kind ≡ true → IsLed m b p
  led_here m b p d h here =
      led m b bound_to.Own (lead (home_of ps m p) b) (bound_here opens lead_laws ps ls os tasks image mapped s tell m b p d h here) (sym (lead_is opens ps tell m b p d (brick m b) h (itself h here)))

  led_ext : (m b : ℕ) (p : ModuleParts) (d : Brick) → HasBrick ps m b p d → d.kind ≡ kind.Ext → IsLed m b p
  led_ext m b p d h e =
      let x = lead_laws.entries (system_of os) of m b (tree_signature p d) matches bindings (signed m b p d h) (ap tree_kind e) in
      let g = (same_signatures ps ls os tasks image mapped s).of_objects x.0 x.1 x.2 x.4.is in
      let ent = is_ent g.brick.kind (ap (λ (z : Signature). z.kind) g.is ∙ x.4.kind) in
      let name = ap (λ (z : Signature). z.name) g.is ∙ x.5 in
      led m b (bound_to.Brick x.0 x.1) (lead (home_of ps m p) b) (same_binding of m b ∙ x.3) (sym (lead_is opens ps tell m b p d (brick x.0 x.1) h (entry h e g.has ent name)))

  led_svc : (m b : ℕ) (p : ModuleParts) (d : Brick) (v : Mode) (body : Option ProcBody) → HasBrick ps m b p d → d.kind ≡ kind.Svc → d.sort ≡ sort.Proc v body → IsLed m b p
  led_svc m b p d v body h e is =
      let x = lead_laws.supplied (system_of os) of m b (tree_signature p d) matches bindings (signed m b p d h) (ap tree_kind e) in
      let i = in_it x.0 (brick_numbered x.0) x.1 x.3 in
      let sorts : supplied_sort x.0 ≡ matching.Proc = sym i.0 ∙ sym x.5.sort ∙ ap (λ (z : BrickSort). form_sort (tree_form z)) is in
      let r = numbered_proc x.0 d.name (there x.0 (brick_numbered x.0) x.1 refl x.3) sorts (sym x.4 ∙ i.1) in
      led m b (bound_to.Supplied x.0) (lead (home_of ps m p) b) (same_binding of m b ∙ x.2) (ap (λ (k : ℕ). brick 0 k) r.2 ∙ sym (lead_is opens ps tell m b p d (brick 0 (suc r.0)) h (supplied h e r.3)))

  procs_lead : ProcsLead ps of
  procs_lead m b p v e h =
      let t = proc_there p.bricks b v h in
      let d = t.0 in
      let z = proc_sort p.bricks b d v t.1 h in
      by_kind d d.kind refl (record { of = e; at = t.1 }) z.0 z.1
    where
      by_kind : (d : Brick) (w : Kind) → d.kind ≡ w → HasBrick ps m b p d → (body : Option ProcBody) → d.sort ≡ sort.Proc v body → IsLed m b p
      by_kind d kind.Own e has body is = led_here m b p d has (ap is_here e)
      by_kind d kind.Ent e has body is = led_here m b p d has (ap is_here e)
      by_kind d kind.Ext e has body is = led_ext m b p d has e
      by_kind d kind.Svc e has body is = led_svc m b p d v body has e is

pub procs_are_led : FullModesOpen → ProcsAreLed
procs_are_led opens lead_laws ps ls os tasks image mapped s tell = procs_lead opens lead_laws ps ls os tasks image mapped s tell
