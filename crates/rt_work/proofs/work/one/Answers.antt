use Rattle.rt_work_state.specs.Nodes.{item, path, term}
use Rattle.rt_work.specs.Steps.{Does, Lightens}
use Rattle.rt_work.proofs.Calls.{after_ok}
use Rattle.rt_work.proofs.work.one.Goals as goal

pub returns-in-Into-clause-does : goal.returns-in-Into-clause-does
returns-in-Into-clause-does c =
    after_ok _ _ (λ o. Does c.args.env.now (item c.args.item) c.args.scene.now c.into.new.scene o) c.into.ensures.does (λ o does. rw c.in-Into.is (does c.args.env.now (path c.in-Into.field-0.value)))

pub returns-in-Into-clause-lighter : goal.returns-in-Into-clause-lighter
returns-in-Into-clause-lighter c = after_ok _ _ (λ o. Lightens (item c.args.item) c.args.scene.now c.into.new.scene o) c.into.ensures.lighter (λ o lighter. rw c.in-Into.is (lighter (path c.in-Into.field-0.value)))

pub returns-in-Pick-clause-does : goal.returns-in-Pick-clause-does
returns-in-Pick-clause-does c =
    after_ok _ _ (λ o. Does c.args.env.now (item c.args.item) c.args.scene.now c.pick.new.scene o) c.pick.ensures.does (λ o does. rw c.in-Pick.is (does c.args.env.now (path c.in-Pick.field-0.value)))

pub returns-in-Pick-clause-lighter : goal.returns-in-Pick-clause-lighter
returns-in-Pick-clause-lighter c = after_ok _ _ (λ o. Lightens (item c.args.item) c.args.scene.now c.pick.new.scene o) c.pick.ensures.lighter (λ o lighter. rw c.in-Pick.is (lighter (path c.in-Pick.field-0.value)))

pub returns-in-Save-clause-does : goal.returns-in-Save-clause-does
returns-in-Save-clause-does c =
    after_ok _ _ (λ o. Does c.args.env.now (item c.args.item) c.args.scene.now c.save.new.scene o) c.save.ensures.does (λ o does. rw c.in-Save.is (does c.args.env.now (path c.in-Save.field-0.value) (term c.in-Save.field-1.value)))

pub returns-in-Save-clause-lighter : goal.returns-in-Save-clause-lighter
returns-in-Save-clause-lighter c = after_ok _ _ (λ o. Lightens (item c.args.item) c.args.scene.now c.save.new.scene o) c.save.ensures.lighter (λ o lighter. rw c.in-Save.is (lighter (path c.in-Save.field-0.value) (term c.in-Save.field-1.value)))

pub returns-in-Compare-clause-does : goal.returns-in-Compare-clause-does
returns-in-Compare-clause-does c =
    after_ok _ _ (λ o. Does c.args.env.now (item c.args.item) c.args.scene.now c.compare.new.scene o) c.compare.ensures.does (λ o does. rw c.in-Compare.is (does c.args.env.now (term c.in-Compare.field-1.value) (term c.in-Compare.field-2.value)))

pub returns-in-Compare-clause-lighter : goal.returns-in-Compare-clause-lighter
returns-in-Compare-clause-lighter c = after_ok _ _ (λ o. Lightens (item c.args.item) c.args.scene.now c.compare.new.scene o) c.compare.ensures.lighter (λ o lighter. rw c.in-Compare.is (lighter (term c.in-Compare.field-1.value) (term c.in-Compare.field-2.value)))
