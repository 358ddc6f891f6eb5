use Rattle.std.proofs.Common.{◌≡◌, ◌++◌, ◌+◌, ◌*◌, ◌≤◌, drop}
use Rattle.rt_report.specs.Lines.{lines}
use Rattle.rt_report.specs.Reports.{tick_lines}
use Rattle.rt_report.proofs.reports.write_each_tick.Given as goal

abbrev pub invariant-loop-placement : goal.invariant-loop-placement
invariant-loop-placement l =
    (l.out.items ++ lines (tick_lines (drop l.placement-index l.placements)) ≡ l.initial.out.items ++ lines (tick_lines l.placements))
    × (l.initial.out.spare ≤ l.out.spare + 27 * l.placement-index)
