use Rattle.std.proofs.Common.{ℕ, Option, sym, subst, ◌∙◌}
use Rattle.rt_items.specs.Table.{Known, IsNamed}
use Rattle.rt_items.proofs.table.text_of.Goals as goal

pub returns-clause-root : goal.returns-clause-root
returns-clause-root c =
    let is = sym (c.copied.ensures ∙ c.get.ensures.value) in
    subst (λ (t : Known). IsNamed t.texts c.copied.result) c.table.view_is (subst (λ (t : Option (Option ℕ)). IsNamed c.table.inside.texts t) is (c.table.invariant.0 c.args.name.now))
