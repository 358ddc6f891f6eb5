use Rattle.pdp_core.proofs.Branches.{is_branch}
use Rattle.pdp_core.proofs.groups.branch_begins.Goals as goal

pub returns : goal.returns
returns c = is_branch c.first_words.ensures.begin c.args.w c.args.c c.requires
