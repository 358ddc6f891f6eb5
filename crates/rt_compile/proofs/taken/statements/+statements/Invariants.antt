use Rattle.std.proofs.Common.{◌≡◌, ◌*◌, ◌≤◌}
use Rattle.rt_compile.specs.Marks.{all_marked}
use Rattle.rt_tree.specs.Taken.{in_sequence}
use Rattle.rt_work_state.specs.Nodes as n
use Rattle.rt_work_state.proofs.Sizes.{size_s, size_q}
use Rattle.rt_compile.proofs.taken.statements.+statements.Given as goal

abbrev pub decreases-sequence : goal.decreases-sequence
decreases-sequence l = 2 * size_q (n.seq l.q.now)

abbrev pub decreases-statement : goal.decreases-statement
decreases-statement l = 2 * size_s (n.stmt l.s.now)

abbrev pub invariant-sequence-loop-rest : goal.invariant-sequence-loop-rest
invariant-sequence-loop-rest l = record {
  left : all_marked (in_sequence (n.seq l.rest)) l.marks ≡ all_marked (in_sequence (n.seq l.initial.q)) l.initial.marks;
  size : size_q (n.seq l.rest) ≤ size_q (n.seq l.initial.q);
}
