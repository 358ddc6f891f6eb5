use Rattle.std.proofs.Common.{◌≡◌, ◌+◌, ◌*◌, ◌≤◌}
use Rattle.rt_compile.specs.Marks.{all_marked}
use Rattle.rt_tree.specs.Taken.{in_condition}
use Rattle.rt_work_state.specs.Nodes as n
use Rattle.rt_work_state.proofs.Sizes.{size_c}
use Rattle.rt_compile.proofs.taken.conditions.+conditions.Given as goal

abbrev pub decreases-condition : goal.decreases-condition
decreases-condition l = 2 * size_c (n.cond l.test.now)

abbrev pub decreases-side : goal.decreases-side
decreases-side l = 2 * size_c (n.cond l.test.now) + 1

abbrev pub invariant-condition-loop-rest : goal.invariant-condition-loop-rest
invariant-condition-loop-rest l = record {
  left : all_marked (in_condition (n.cond l.rest)) l.marks ≡ all_marked (in_condition (n.cond l.initial.test)) l.initial.marks;
  size : size_c (n.cond l.rest) ≤ size_c (n.cond l.initial.test);
}
