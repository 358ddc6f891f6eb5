use Rattle.std.proofs.Common.{◌≡◌, ◌≤◌, ◌+◌, ◌*◌, drop}
use Rattle.rt_report.specs.Reports.{names_room, room_for}
use Rattle.rt_report.proofs.reports.report_room.Given as goal

abbrev pub invariant-loop-name : goal.invariant-loop-name
invariant-loop-name l =
    (l.room + 2 * names_room (drop l.name-index l.names) ≡ room_for l.names l.ticks) × (l.room ≤ 200 + 27 * l.ticks + 108 * l.name-index)
