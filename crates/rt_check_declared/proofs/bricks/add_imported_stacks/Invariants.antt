use Rattle.std.proofs.Common.{◌≡◌, ◌++◌, drop, map}
use Rattle.rt_check_declared.specs.Bricks.{imported_stack}
use Rattle.rt_check_declared.proofs.bricks.add_imported_stacks.Given as goal

abbrev pub invariant-loop-name : goal.invariant-loop-name
invariant-loop-name l = l.bricks ++ map imported_stack (drop l.name-index l.names) ≡ l.initial.bricks ++ map imported_stack l.names
