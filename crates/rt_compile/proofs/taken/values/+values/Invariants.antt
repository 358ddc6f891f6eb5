use Rattle.std.proofs.Common.{◌+◌, ◌*◌}
use Rattle.rt_work_state.specs.Nodes as n
use Rattle.rt_work_state.proofs.Sizes.{size_t, size_p, size_ts}
use Rattle.rt_compile.proofs.taken.values.+values.Given as goal

abbrev pub decreases-term : goal.decreases-term
decreases-term l = 2 * size_t (n.term l.v.now)

abbrev pub decreases-both : goal.decreases-both
decreases-both l = 2 * size_t (n.term l.left.now) + 2 * size_t (n.term l.right.now) + 1

abbrev pub decreases-path : goal.decreases-path
decreases-path l = 2 * size_p (n.path l.at.now)

abbrev pub decreases-terms : goal.decreases-terms
decreases-terms l = 2 * size_ts (n.terms l.arguments.now)
