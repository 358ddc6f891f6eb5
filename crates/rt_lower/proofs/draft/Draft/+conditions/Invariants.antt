use Rattle.std.proofs.Common.{◌≡◌, ◌+◌, ◌*◌, ◌≤◌}
use Rattle.rt_work_state.specs.Nodes as n
use Rattle.rt_lower.specs.Drafts as drafts
use Rattle.rt_work_state.proofs.Sizes.{size_c}
use Rattle.rt_lower.proofs.draft.Draft.+conditions.Given as goal

abbrev pub decreases-condition : goal.decreases-condition
decreases-condition l = 2 * size_c (n.cond l.test.now)

abbrev pub decreases-side : goal.decreases-side
decreases-side l = 2 * size_c (n.cond l.test.now) + 1

abbrev pub invariant-condition-loop-rest : goal.invariant-condition-loop-rest
invariant-condition-loop-rest l = record {
  left : drafts.condition l.layouts (n.cond l.rest) l.when l.to l.end l.self ≡ drafts.condition l.layouts (n.cond l.initial.test) l.when l.to l.end l.initial.self;
  size : size_c (n.cond l.rest) ≤ size_c (n.cond l.initial.test);
}
