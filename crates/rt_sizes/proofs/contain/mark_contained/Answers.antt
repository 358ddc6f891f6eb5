use Rattle.rt_sizes.specs.Reaching.{reach}
use Rattle.rt_sizes.proofs.Reaching.{begun_at, gone_at, less_left, ends_at}
use Rattle.rt_sizes.proofs.contain.mark_contained.Goals as goal

pub loop-next-init : goal.loop-next-init
loop-next-init c = begun_at c.args.records.now c.args.number c.args.marks.now c.in_ok-waiting.waiting c.fields_of.result.now (reach c.visit_fields.new.marks c.visit_fields.new.waiting) c.requires c.in_ok-waiting.ensures c.fields_of.ensures c.in_ok-visit_fields.ensures

pub loop-next-preserved : goal.loop-next-preserved
loop-next-preserved c =
    gone_at c.args.records.now c.args.number c.loop-next.marks c.loop-next.waiting c.pop.new.self c.in-Some.next c.fields_of-in-Some.result.now (reach c.visit_fields-in-Some.new.marks c.visit_fields-in-Some.new.waiting) c.in-Some.ensures c.fields_of-in-Some.ensures
    c.in_ok-visit_fields-2.ensures c.loop-next.invariant

pub loop-next-smaller : goal.loop-next-smaller
loop-next-smaller c =
    less_left c.loop-next.marks c.loop-next.waiting c.pop.new.self c.in-Some.next c.fields_of-in-Some.result.now (reach c.visit_fields-in-Some.new.marks c.visit_fields-in-Some.new.waiting) c.in-Some.ensures c.in_ok-visit_fields-2.ensures

pub returns : goal.returns
returns c = ends_at c.args.records.now c.loop-next.marks c.loop-next.waiting c.args.number c.loop-next.invariant c.in_default.ensures.0
