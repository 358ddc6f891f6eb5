use Rattle.std.proofs.Common.{◌≡◌, ◌++◌}
use Rattle.rt_templates.specs.Lines as lines
use Rattle.rt_templates.specs.Supported.{all_lines}
use Rattle.rt_link.specs.Imaged.{entries_marks}
use Rattle.rt_link.proofs.code.image_marks.Given as goal

abbrev pub invariant-loop-task : goal.invariant-loop-task
invariant-loop-task l = l.out.items ≡ lines.marks all_lines ++ entries_marks l._task
