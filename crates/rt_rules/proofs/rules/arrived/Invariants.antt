use Rattle.std.proofs.Common.{◌≡◌, ◌++◌, length, drop}
use Rattle.rt_rules.specs.Rules.{rows_from}
use Rattle.rt_rules.proofs.rules.arrived.Given as goal

abbrev pub invariant-loop-priority : goal.invariant-loop-priority
invariant-loop-priority l =
    (length l.rows ≡ l.priority-index) × (l.rows ++ rows_from l.priority-index (drop l.priority-index l.priorities) ≡ rows_from 0 l.priorities)
