use Rattle.std.proofs.Common.{◌≡◌, ◌+◌, ◌*◌, ◌≤◌}
use Rattle.rt_work_state.specs.Nodes as n
use Rattle.rt_lower.specs.Drafts as drafts
use Rattle.rt_work_state.proofs.Sizes.{size_s, size_q}
use Rattle.rt_lower.proofs.draft.Draft.+statements.Given as goal

abbrev pub decreases-sequence : goal.decreases-sequence
decreases-sequence l = 4 * size_q (n.seq l.q.now)

abbrev pub decreases-statement : goal.decreases-statement
decreases-statement l = 4 * size_s (n.stmt l.s.now)

abbrev pub decreases-arm : goal.decreases-arm
decreases-arm l = 4 * size_q (n.seq l.taken.now) + 1

abbrev pub decreases-otherwise : goal.decreases-otherwise
decreases-otherwise l = 4 * size_q (n.seq l.q.now) + 1

abbrev pub invariant-sequence-loop-rest : goal.invariant-sequence-loop-rest
invariant-sequence-loop-rest l = record {
  left : drafts.sequence l.layouts (n.seq l.rest) l.self ≡ drafts.sequence l.layouts (n.seq l.initial.q) l.initial.self;
  size : size_q (n.seq l.rest) ≤ size_q (n.seq l.initial.q);
}

abbrev pub invariant-otherwise-loop-inner : goal.invariant-otherwise-loop-inner
invariant-otherwise-loop-inner l = record {
  left : drafts.otherwise l.layouts l.end (n.seq l.rest) l.self ≡ drafts.otherwise l.layouts l.end (n.seq l.initial.q) l.initial.self;
  size : size_q (n.seq l.rest) ≤ size_q (n.seq l.initial.q);
}

abbrev pub decreases-otherwise-loop-inner : goal.decreases-otherwise-loop-inner
decreases-otherwise-loop-inner l = size_q (n.seq l.rest)
