use Rattle.std.proofs.Common.{◌≡◌, None, drop}
use Rattle.rt_check_declared.specs.Verdicts.{with_faults}
use Rattle.rt_check_module.specs.Items as spec
use Rattle.rt_check_module.proofs.items.judge_lines.Given as goal

abbrev pub invariant-loop-line : goal.invariant-loop-line
invariant-loop-line l = with_faults l.faults (spec.brick_faults l.scope (drop l.line-index l.lines) l.left) ≡ with_faults None (spec.brick_faults l.scope l.lines l.parts)
