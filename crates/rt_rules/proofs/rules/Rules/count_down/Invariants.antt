use Rattle.std.proofs.Common.{◌≡◌, ◌≤◌, ◌+◌, ◌-◌, length}
use Rattle.rt_rules.proofs.Counting.{Counting}
use Rattle.rt_rules.proofs.rules.Rules.count_down.Given as goal

abbrev pub invariant-loop-task : goal.invariant-loop-task
invariant-loop-task l =
    (l.task-end ≡ length l.fn.self.tasks + 1) × (length l.fn.self.tasks ≤ 32) × Counting l.fn.self l.self (l.task - 1)
