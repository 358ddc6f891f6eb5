use Rattle.std.proofs.Common.{◌≡◌, refl, sym, ap, ◌∙◌, arith}
use Rattle.rt_tree_nodes.specs.Scopes.{supplied_of}
use Rattle.rt_tree.specs.Modules.{every_node_fits, with_most, bricks_with}
use Rattle.rt_tree_nodes.specs.declared.brick.ModuleParts.{ModuleParts}
use Rattle.rt_tree.proofs.module.TypedModule.bound.Goals as goal
use Rattle.rt_tree.proofs.module.TypedModule.bound.Goals.{in-Some, in_default}
use Rattle.rt_tree.proofs.Bounding.{fits_still, supplied_still, put_there, left_there}

taken : (c : goal.After-drop-self-inside) → c.into_vec-bricks.result.items ≡ c.self.inside.parts.bricks
taken c = c.into_vec-bricks.ensures ∙ c.take.ensures.taken

left : (c : goal.After-drop-self-inside) → c.match-get_mut.bricks.items ≡ bricks_with c.self.inside.parts.bricks c.args.brick c.args.most
left c = elim c.match-get_mut.branch [
  | in-Some w ↦ ap (λ v. v.items) w.bricks-is ∙ put_there c.into_vec-bricks.result c.args.most _ c.from.result c.args.brick w.in-Some.found.now w.set_most.new.sort (taken c) c.from.ensures (w.in-Some.ensures.variant.0 refl) w.in-Some.ensures.value w.set_most.ensures
  | in_default w ↦ ap (λ v. v.items) w.bricks-is ∙ left_there c.into_vec-bricks.result c.args.most _ c.from.result c.args.brick (taken c) c.from.ensures (grind (arith, w.in_default.ensures.variant))
]

parts_left : (c : goal.After-drop-self-inside) → record { title = c.self.inside.parts.title; modes = c.self.inside.parts.modes; bricks = c.from_vec.result; strings = c.self.inside.parts.strings } ≡ with_most c.self.inside.parts c.args.brick c.args.most
parts_left c = rw (c.from_vec.ensures, left c) refl

pub returns : goal.returns
returns c = parts_left c ∙ ap (λ (p : ModuleParts). with_most p c.args.brick c.args.most) c.self.view_is

pub invariant_of-self : goal.invariant_of-self
invariant_of-self c = (
  ap every_node_fits (parts_left c) ∙ fits_still c.self.inside.parts c.args.brick c.args.most ∙ c.self.invariant.0,
  c.self.invariant.1 ∙ sym (ap supplied_of (c.from_vec.ensures ∙ left c) ∙ supplied_still c.args.most c.self.inside.parts.bricks c.args.brick),
)
