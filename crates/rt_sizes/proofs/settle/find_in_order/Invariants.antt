use Rattle.rt_sizes.specs.Capped.{AreRight, table}
use Rattle.rt_sizes.proofs.settle.find_in_order.Given as goal

abbrev pub invariant-loop-number : goal.invariant-loop-number
invariant-loop-number l = AreRight (table l.records l.known) l.sizes
