use Rattle.std.proofs.Common.{◌∙◌}
use Rattle.rt_check_declared.proofs.Tables.{has_by}
use Rattle.rt_check_declared.proofs.names.has_name.Goals as goal

pub returns : goal.returns
returns c = c.is_some.ensures ∙ has_by c.args.table.now.entries c.args.name.now c.get.result c.get.ensures.value
