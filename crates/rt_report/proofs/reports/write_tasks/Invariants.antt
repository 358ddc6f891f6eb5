use Rattle.std.proofs.Common.{◌≡◌, ◌++◌, ◌+◌, ◌≤◌, drop}
use Rattle.rt_report.specs.Lines.{lines}
use Rattle.rt_report.specs.Reports.{task_lines, names_room}
use Rattle.rt_report.proofs.reports.write_tasks.Given as goal

abbrev pub invariant-loop-at : goal.invariant-loop-at
invariant-loop-at l =
    (l.out.items ++ lines (task_lines (drop l.at l.names) (drop l.at l.run.rules.tasks)) ≡ l.initial.out.items ++ lines (task_lines l.names l.run.rules.tasks))
    × (l.initial.out.spare + names_room (drop l.at l.names) ≤ l.out.spare + names_room l.names)
