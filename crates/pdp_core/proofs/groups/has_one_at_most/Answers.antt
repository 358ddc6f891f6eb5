use Rattle.pdp_core.proofs.Branches.{begins_single}
use Rattle.pdp_core.proofs.groups.has_one_at_most.Goals as goal

pub returns : goal.returns
returns c = begins_single c.args.w c.requires.no_double c.requires.no_sum
