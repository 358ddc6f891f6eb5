use Rattle.std.proofs.Common.{subst}
use Rattle.rt_link.specs.Linked.{IsLinked}
use Rattle.rt_top.proofs.accepting.linked.Goals as goal

pub returns-in-Ok-clause-ok : goal.returns-in-Ok-clause-ok
returns-in-Ok-clause-ok c = (c.in-Ok._map, subst (λ objects. IsLinked objects c.args.modules.now.system.tasks c.in-Ok.image c.in-Ok._map) c.as_slice.ensures c.in-Ok.ensures.linked)
