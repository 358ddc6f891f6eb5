use Rattle.std.proofs.Common.{◌∙◌}
use Rattle.rt_exprs.proofs.modes.same_mode.Goals as goal
use Rattle.rt_exprs.proofs.Same.{as_in_trees}

pub returns : goal.returns
returns c = c.same_mode.ensures ∙ as_in_trees c.args.left.now c.args.right.now
