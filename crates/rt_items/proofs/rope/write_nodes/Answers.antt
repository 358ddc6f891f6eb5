use Rattle.std.proofs.Common.{ℕ, List, [], ◌∷◌, ◌++◌, Some, sym, ap, ◌∙◌}
use Rattle.rt_items.specs.Ropes.{grown}
use Rattle.rt_items.proofs.Ropes.{none_is, run_text, join_text, join_some, fewer, fewer_joined, goes_none, goes_run, goes_joined}
use Rattle.rt_items.proofs.rope.write_nodes.Goals as goal

pub loop-at-smaller-in-None : goal.loop-at-smaller-in-None
loop-at-smaller-in-None c = fewer (grown [] c.args.nodes.now) c.loop-at.rest c.pop.new.self c.in-Some.at c.in-Some.ensures

pub loop-at-preserved-in-None : goal.loop-at-preserved-in-None
loop-at-preserved-in-None c =
    goes_none (grown [] c.args.nodes.now) c.loop-at.rest c.pop.new.self c.in-Some.at c.in-Some.ensures c.args.span.line c.args.span.from c.args.span.to c.loop-at.out _ c.loop-at.invariant
    (none_is c.args.nodes.now c.in-Some.at (sym c.in-None.ensures.value))

pub loop-at-smaller-in-Continue-branch-3 : goal.loop-at-smaller-in-Continue-branch-3
loop-at-smaller-in-Continue-branch-3 c = fewer (grown [] c.args.nodes.now) c.loop-at.rest c.pop.new.self c.in-Some.at c.in-Some.ensures

pub loop-at-preserved-in-Continue-branch-3 : goal.loop-at-preserved-in-Continue-branch-3
loop-at-preserved-in-Continue-branch-3 c =
    goes_run (grown [] c.args.nodes.now) c.loop-at.rest c.pop.new.self c.in-Some.at c.in-Some.ensures c.args.span.line c.args.span.from c.args.span.to c.loop-at.out _ c.loop-at.invariant c.as_slice.result.now c.push_items.new.out
    (run_text c.args.nodes.now c.in-Some.at c.requires c.in-Some-Run.run' (ap Some (sym c.in-Some-Run.field-0-is) ∙ c.in-Some-Run.ensures.value) ∙ sym c.as_slice.ensures) c.in_ok-push_items-in-Some-Run.ensures

pub loop-at-smaller : goal.loop-at-smaller
loop-at-smaller c =
    let found = ap Some (sym c.in-Some-Join.field-0-is) ∙ c.in-Some-Join.ensures.value in
    let some = join_some c.args.nodes.now c.in-Some.at c.requires c.in-Some-Join.join found in
    let last = c.in_ok-push-in-Some-Join-2.ensures.ok ∙ ap (λ (t : List ℕ). t ++ c.in-Some-Join.join.left ∷ []) c.in_ok-push-in-Some-Join.ensures.ok in
    fewer_joined (grown [] c.args.nodes.now) c.loop-at.rest c.pop.new.self c.in-Some.at c.in-Some.ensures c.in-Some-Join.join.left c.in-Some-Join.join.right _ last
    (join_text c.args.nodes.now c.in-Some.at c.requires c.in-Some-Join.join found) some.0 some.1

pub loop-at-preserved : goal.loop-at-preserved
loop-at-preserved c =
    let found = ap Some (sym c.in-Some-Join.field-0-is) ∙ c.in-Some-Join.ensures.value in
    let last = c.in_ok-push-in-Some-Join-2.ensures.ok ∙ ap (λ (t : List ℕ). t ++ c.in-Some-Join.join.left ∷ []) c.in_ok-push-in-Some-Join.ensures.ok in
    goes_joined (grown [] c.args.nodes.now) c.loop-at.rest c.pop.new.self c.in-Some.at c.in-Some.ensures c.args.span.line c.args.span.from c.args.span.to c.loop-at.out _ c.loop-at.invariant c.in-Some-Join.join.left c.in-Some-Join.join.right _ last
    (join_text c.args.nodes.now c.in-Some.at c.requires c.in-Some-Join.join found)
