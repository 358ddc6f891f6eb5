use Rattle.std.proofs.Common.{subst}
use Rattle.rt_link.specs.Linked.{IsLinked}
use Rattle.rt_top.proofs.linking.make.Goals as goal

pub returns-in-Ok-spell-clause-ok : goal.returns-in-Ok-spell-clause-ok
returns-in-Ok-spell-clause-ok c = record {
  image = c.in-Ok.image;
  map = c.in-Ok.map;
  linked = subst (λ objects. IsLinked objects c.args.modules.now.system.tasks c.in-Ok.image c.in-Ok.map) c.as_slice.ensures c.in-Ok.ensures.linked;
  spelled = c.in-Ok-spell.ensures.image;
  told = c.in-Ok-spell.ensures.map;
}
