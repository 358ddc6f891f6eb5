use Rattle.std.proofs.Common.{ap, ◌∙◌}
use Rattle.rt_exprs.specs.Sights.{Names, holds}
use Rattle.rt_exprs.proofs.Kept.{has_by}
use Rattle.rt_exprs.proofs.level.Level.has.Goals as goal

pub returns : goal.returns
returns c = c.is_some.ensures ∙ has_by c.self.inside.names.entries c.args.name.now c.get.result c.get.ensures.value ∙ ap (λ (l : Names). holds l c.args.name.now) c.self.view_is
