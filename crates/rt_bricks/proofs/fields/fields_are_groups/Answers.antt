use Rattle.rt_syntax_exprs.specs.Modes.{written_mode}
use Rattle.rt_bricks.proofs.GroupLines.{same_groups}
use Rattle.rt_bricks.proofs.fields.fields_are_groups.Goals as goal

pub returns : goal.returns
returns g = λ c modes parentheses. same_groups c (written_mode c modes parentheses)
