use Rattle.std.proofs.Common.{◌≡◌, ◌++◌, take}
use Rattle.rt_items.specs.Lets.{items_at}
use Rattle.rt_items.proofs.rope.push_items.Given as goal

abbrev pub invariant-loop-kind : goal.invariant-loop-kind
invariant-loop-kind l = l.out ≡ l.fn.out ++ items_at l.span.line l.span.from l.span.to (take l.kind-index l.kinds)
