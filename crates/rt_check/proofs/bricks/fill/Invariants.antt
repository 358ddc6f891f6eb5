use Rattle.std.proofs.Common.{◌≡◌, ◌++◌}
use Rattle.rt_check_module.specs.Tree as spec
use Rattle.rt_check.proofs.bricks.fill.Given as goal

abbrev pub invariant-loop-heading : goal.invariant-loop-heading
invariant-loop-heading l = l.bricks ++ spec.filled l.heading-iterator.rest.items l.left.rest.items ≡ spec.filled l.fn.headings l.fn.fillings
