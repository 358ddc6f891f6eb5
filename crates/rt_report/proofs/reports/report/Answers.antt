use Rattle.std.proofs.Common.{◌++◌, ◌∷◌, List, ℕ, codes, length, ap, ◌∙◌}
use Rattle.rt_report.specs.Lines.{lines}
use Rattle.rt_report.specs.Reports.{counted, count_lines, task_lines, tick_lines, end_lines, run_status}
use Rattle.rt_report.proofs.Rooms.{four_parts}
use Rattle.rt_report.proofs.reports.report.Goals as goal

pub returns-clause-items : goal.returns-clause-items
returns-clause-items c =
    four_parts c.args.out.now.items (lines (count_lines (run_status c.args.end.now c.args.run.now.rules.tasks) c.args.run.now)) (lines (task_lines c.args.names.now c.args.run.now.rules.tasks))
    (lines (counted (codes "TICKS") (length c.args.run.now.ticking.placements) ∷ tick_lines c.args.run.now.ticking.placements)) (lines (end_lines c.args.names.now c.args.end.now))
    c.write_counts.new.out.items c.write_tasks.new.out.items c.write_ticks.new.out.items c.write_end.new.out.items
    (c.write_counts.ensures.items ∙ ap (λ (n : ℕ). c.args.out.now.items ++ lines (count_lines n c.args.run.now)) c.run_status-status.ensures)
    c.write_tasks.ensures.items
    (c.write_ticks.ensures.items ∙ ap (λ (ps : List ℕ). c.write_tasks.new.out.items ++ lines (counted (codes "TICKS") (length ps) ∷ tick_lines ps)) c.placements.ensures)
    c.write_end.ensures.items
