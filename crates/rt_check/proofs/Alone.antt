-- A module has one typed tree at most, and none where a fault stands.
use Rattle.std.proofs.Common.{sym, ◌∙◌}
use Rattle.rt_check.specs.Laws.{OneTree, NoTreeWithFaults}

pub one_tree : OneTree
one_tree m t u h g = h.is ∙ sym g.is

pub no_tree : NoTreeWithFaults
no_tree m t g h r = h.fit g r.stands
