use Rattle.std.proofs.Common.{◌≡◌, drop}
use Rattle.rt_check_declared.specs.Names as spec
use Rattle.rt_check_declared.specs.Naming.{state, add_all}
use Rattle.rt_check_declared.proofs.names.add_fields.Given as goal

abbrev pub invariant-loop-line : goal.invariant-loop-line
invariant-loop-line l = add_all (state l.names) (spec.fields_names l.brick l.number (drop l.line-index l.lines)) ≡ add_all (state l.fn.names) (spec.fields_names l.brick 0 l.lines)
