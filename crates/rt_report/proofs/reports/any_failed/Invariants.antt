use Rattle.std.proofs.Common.{◌≡◌, drop}
use Rattle.rt_report.specs.Reports.{any_failed}
use Rattle.rt_report.proofs.reports.any_failed.Given as goal

-- what is left tells whether any has failed
abbrev pub invariant-loop-at : goal.invariant-loop-at
invariant-loop-at l = any_failed (drop l.at l.run.rules.tasks) ≡ any_failed l.run.rules.tasks
