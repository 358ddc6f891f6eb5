use Rattle.std.proofs.Common.{◌≡◌, ◌≤◌, length}
use Rattle.rt_items.specs.Texts.{with_bytes, values, parts}
use Rattle.rt_items.specs.Table.{lets_of}
use Rattle.rt_items.proofs.texts.values.Given as goal

abbrev pub invariant-loop-rest : goal.invariant-loop-rest
invariant-loop-rest l = (with_bytes l.fn.out.items (values (lets_of l.table) l.line l.closed (parts 44 l.inside)) ≡ with_bytes l.out.items (values (lets_of l.table) l.line l.closed (parts 44 l.rest))) × (length l.rest ≤ length l.inside)

abbrev pub decreases-loop-rest : goal.decreases-loop-rest
decreases-loop-rest l = length l.rest
