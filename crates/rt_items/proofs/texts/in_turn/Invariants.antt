use Rattle.std.proofs.Common.{◌≡◌, length}
use Rattle.rt_items.specs.Texts.{with_bytes, in_turn, parts}
use Rattle.rt_items.specs.Table.{lets_of}
use Rattle.rt_items.proofs.texts.in_turn.Given as goal

abbrev pub invariant-loop-fault : goal.invariant-loop-fault
invariant-loop-fault l = with_bytes l.fn.out.items (in_turn (lets_of l.table) l.line l.closed (parts 35 l.body)) ≡ with_bytes l.out.items (in_turn (lets_of l.table) l.line l.closed (parts 35 l.rest))

abbrev pub decreases-loop-fault : goal.decreases-loop-fault
decreases-loop-fault l = length l.rest
