use Rattle.std.proofs.Common.{◌≡◌, [], ◌++◌}
use Rattle.rt_items.specs.Lets.{items_at}
use Rattle.rt_items.specs.Ropes.{grown, nth_text, rest_text, steps_left}
use Rattle.rt_items.proofs.rope.write_nodes.Given as goal

abbrev pub invariant-loop-at : goal.invariant-loop-at
invariant-loop-at l = l.out ++ items_at l.span.line l.span.from l.span.to (rest_text (grown [] l.nodes) l.rest) ≡ l.fn.out ++ items_at l.span.line l.span.from l.span.to (nth_text (grown [] l.nodes) l.fn.at)

abbrev pub decreases-loop-at : goal.decreases-loop-at
decreases-loop-at l = steps_left (grown [] l.nodes) l.rest
