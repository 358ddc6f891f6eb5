use Rattle.std.proofs.Common.{List, ap, ◌∙◌}
use Rattle.rt_exprs.specs.Names.{find_in}
use Rattle.rt_exprs.specs.Sights.{Names, Sight}
use Rattle.rt_check_bodies.proofs.names.Names.meaning.Goals as goal

pub returns : goal.returns
returns c = c.find_name.ensures ∙ ap (λ (ls : List Names). find_in ls c.args.name.now) (c.as_slice.ensures.value ∙ ap (λ (s : Sight). s.levels) c.self.view_is)
