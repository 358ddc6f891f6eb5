use Rattle.std.proofs.Common.{ap, ◌∙◌}
use Rattle.std.specs.Map.{lookup}
use Rattle.std.specs.Str.{bytes_eq}
use Rattle.rt_exprs.specs.Sights.{Names}
use Rattle.rt_exprs.proofs.Kept.{kept_lookup}
use Rattle.rt_exprs.proofs.level.Level.get.Goals as goal

pub returns : goal.returns
returns c = c.get.ensures.value ∙ kept_lookup c.args.name.now c.self.inside.names.entries ∙ ap (λ (l : Names). lookup (bytes_eq c.args.name.now) l) c.self.view_is
