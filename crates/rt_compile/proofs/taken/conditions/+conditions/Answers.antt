use Rattle.std.proofs.Common.{◌∙◌, arith}
use Rattle.rt_tree.specs.Taken.{in_condition}
use Rattle.rt_work_state.specs.Nodes as n
use Rattle.rt_compile.proofs.Marking.{left_over}
use Rattle.rt_compile.proofs.taken.conditions.+conditions.Goals as goal

pub condition-loop-rest-preserved-in-Both : goal.condition-loop-rest-preserved-in-Both
condition-loop-rest-preserved-in-Both t c = record {
  left = rw c.deref-rest.ensures (left_over (in_condition (n.cond c.in-Both.left.value)) (in_condition (n.cond c.in-Both.right.value)) c.loop-rest.marks c.side.new.marks (rw c.deref-in-Both.ensures at c.in_ok-side-in-Both.ensures) ∙ rw c.in-Both.is at c.loop-rest.invariant.left);
  size = rw c.deref-rest.ensures (let h = rw c.in-Both.is at c.loop-rest.invariant.size in omega (arith, h));
}

pub condition-loop-rest-preserved : goal.condition-loop-rest-preserved
condition-loop-rest-preserved t c = record {
  left = rw c.deref-rest-in-Either.ensures (left_over (in_condition (n.cond c.in-Either.left.value)) (in_condition (n.cond c.in-Either.right.value)) c.loop-rest.marks c.side-in-Either.new.marks (rw c.deref-in-Either.ensures at c.in_ok-side-in-Either.ensures) ∙ rw c.in-Either.is at c.loop-rest.invariant.left);
  size = rw c.deref-rest-in-Either.ensures (let h = rw c.in-Either.is at c.loop-rest.invariant.size in omega (arith, h));
}
