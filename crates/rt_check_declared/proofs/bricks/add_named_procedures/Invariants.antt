use Rattle.std.proofs.Common.{◌≡◌, ◌++◌, drop, map}
use Rattle.rt_check_declared.specs.Bricks.{imported_procedure}
use Rattle.rt_check_declared.proofs.bricks.add_named_procedures.Given as goal

abbrev pub invariant-loop-name : goal.invariant-loop-name
invariant-loop-name l = l.bricks ++ map (imported_procedure l.kind l.line) (drop l.name-index l.names) ≡ l.initial.bricks ++ map (imported_procedure l.kind l.line) l.names
