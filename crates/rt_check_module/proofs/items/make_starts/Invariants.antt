use Rattle.std.proofs.Common.{◌≡◌, ◌++◌, drop}
use Rattle.rt_check_module.specs.Items as spec
use Rattle.rt_check_module.proofs.items.make_starts.Given as goal

abbrev pub invariant-loop-line : goal.invariant-loop-line
invariant-loop-line l = l.made ++ spec.brick_starts l.scope (drop l.line-index l.lines) l.left ≡ spec.brick_starts l.scope l.lines l.parts
