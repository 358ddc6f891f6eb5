use Rattle.std.proofs.Common.{List, [], ◌∷◌, ◌++◌, length, sym, ap, subst, ◌∙◌}
use Rattle.rt_items.specs.declared.rope.Node.{Node}
use Rattle.rt_items.specs.Ropes.{Kinds, node_text, grown, IsBuilt, AreBuilt}
use Rattle.rt_items.proofs.Ropes.{grown_more, built_more, all_length}
use Rattle.rt_items.proofs.rope.Texts.add.Goals as goal

pub invariant_of-self-2 : goal.invariant_of-self-2
invariant_of-self-2 c =
    subst (λ (t : List Node). AreBuilt [] t) (sym c.in_ok-push.ensures.ok)
    (built_more [] c.self.inside.nodes c.args.node c.self.invariant (subst (λ (t : List Kinds). IsBuilt t c.args.node) (sym c.self.view_is) c.requires))

pub returns-clause-number : goal.returns-clause-number
returns-clause-number c = c.len-at.ensures ∙ sym (all_length c.self.inside.nodes) ∙ ap length c.self.view_is

pub returns-clause-text : goal.returns-clause-text
returns-clause-text c =
    ap (grown []) c.in_ok-push.ensures.ok ∙ grown_more [] c.self.inside.nodes c.args.node ∙ ap (λ (t : List Kinds). t ++ node_text t c.args.node ∷ []) c.self.view_is
