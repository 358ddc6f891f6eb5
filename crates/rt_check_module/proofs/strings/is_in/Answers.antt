use Rattle.std.proofs.Common.{◌∙◌}
use Rattle.rt_check_module.proofs.Sets.{is_any}
use Rattle.rt_check_module.proofs.strings.is_in.Goals as goal

pub returns : goal.returns
returns c = c.contains.ensures ∙ is_any c.args.item c.args.items.now.keys
