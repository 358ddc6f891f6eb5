use Rattle.pdp_core.proofs.Branches.{begins_register}
use Rattle.pdp_core.proofs.groups.has_a_register.Goals as goal

pub returns : goal.returns
returns c = begins_register c.args.w c.requires
