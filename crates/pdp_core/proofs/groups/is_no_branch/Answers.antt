use Rattle.pdp_core.proofs.Branches.{no_branch}
use Rattle.pdp_core.proofs.groups.is_no_branch.Goals as goal

pub returns : goal.returns
returns c = no_branch c.args.w c.requires
