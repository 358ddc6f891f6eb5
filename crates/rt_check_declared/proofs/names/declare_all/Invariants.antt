use Rattle.std.proofs.Common.{◌≡◌, drop}
use Rattle.rt_check_declared.specs.Names as spec
use Rattle.rt_check_declared.specs.Naming.{state, add_all}
use Rattle.rt_check_declared.proofs.names.declare_all.Given as goal

abbrev pub invariant-loop-declaration : goal.invariant-loop-declaration
invariant-loop-declaration l = add_all (state l.names) (spec.names_from l.numbers.records l.numbers.bricks (drop l.declaration-index l.declarations)) ≡ add_all (state l.fn.names) (spec.names l.declarations)
