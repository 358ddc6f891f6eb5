use Rattle.std.proofs.Common.{◌++◌, ℕ, codes, ap, ◌∙◌}
use Rattle.rt_report.specs.Lines.{line}
use Rattle.rt_report.specs.Reports.{counted}
use Rattle.rt_report.proofs.Rooms.{three_parts}
use Rattle.rt_report.proofs.reports.write_counts.Goals as goal

pub returns-clause-items : goal.returns-clause-items
returns-clause-items c =
    three_parts c.args.out.now.items (line (counted (codes "STATUS") c.args.status)) (line (counted (codes "INSTRUCTIONS") c.args.run.now.count)) (line (counted (codes "STEPS") c.args.run.now.marks))
    c.write_count.new.out.items c.write_count-2.new.out.items c.write_count-3.new.out.items
    (c.write_count.ensures.items ∙ ap (λ (n : ℕ). c.args.out.now.items ++ line (counted (codes "STATUS") n)) c.from.ensures)
    (c.write_count-2.ensures.items ∙ ap (λ (n : ℕ). c.write_count.new.out.items ++ line (counted (codes "INSTRUCTIONS") n)) c.instructions.ensures)
    (c.write_count-3.ensures.items ∙ ap (λ (n : ℕ). c.write_count-2.new.out.items ++ line (counted (codes "STEPS") n)) c.steps.ensures)
