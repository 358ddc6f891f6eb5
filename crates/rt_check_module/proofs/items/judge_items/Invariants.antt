use Rattle.std.proofs.Common.{◌≡◌, drop}
use Rattle.rt_check_declared.specs.Verdicts.{with_faults}
use Rattle.rt_check_module.specs.Items as spec
use Rattle.rt_check_module.proofs.items.judge_items.Given as goal

abbrev pub invariant-loop-item : goal.invariant-loop-item
invariant-loop-item l = with_faults l.faults (spec.items_faults l.scope (drop l.item-index l.items) l.left) ≡ with_faults l.initial.faults (spec.items_faults l.scope l.items l.parts)
