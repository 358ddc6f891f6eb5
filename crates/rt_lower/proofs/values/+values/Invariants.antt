use Rattle.std.proofs.Common.{◌≡◌, ◌+◌, ◌*◌, ◌≤◌, ◌++◌}
use Rattle.rt_work_state.specs.Nodes as n
use Rattle.rt_work_state.specs.Items.{how_many}
use Rattle.rt_lower.specs.Values as values
use Rattle.rt_lower.specs.Drafts.{whole}
use Rattle.rt_work_state.proofs.Sizes.{size_t, size_p, size_ts}
use Rattle.rt_lower.proofs.values.+values.Given as goal

abbrev pub decreases-term : goal.decreases-term
decreases-term l = 2 * size_t (n.term l.term.now)

abbrev pub decreases-address : goal.decreases-address
decreases-address l = 2 * size_p (n.path l.path.now)

abbrev pub decreases-wanted : goal.decreases-wanted
decreases-wanted l = 2 * size_p (n.path l.path.now) + 1

abbrev pub decreases-terms : goal.decreases-terms
decreases-terms l = 2 * size_ts (n.terms l.arguments.now)

abbrev pub invariant-terms-loop-rest : goal.invariant-terms-loop-rest
invariant-terms-loop-rest l = record {
  code : l.code ++ whole (values.values l.layouts (n.terms l.rest)) ≡ l.initial.code ++ whole (values.values l.layouts (n.terms l.initial.arguments));
  count : l.count + how_many (n.terms l.rest) ≡ how_many (n.terms l.initial.arguments);
  size : size_ts (n.terms l.rest) ≤ size_ts (n.terms l.initial.arguments);
}
