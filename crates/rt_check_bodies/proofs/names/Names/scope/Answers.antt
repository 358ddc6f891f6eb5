use Rattle.std.proofs.Common.{List, ap, ◌∙◌}
use Rattle.rt_exprs.specs.Sights.{Names}
use Rattle.rt_check_bodies.proofs.names.Names.scope.Goals as goal

pub returns : goal.returns
returns c =
    c.new.ensures ∙ ap (λ (ls : List Names). record { records = c.self.inside.modes.now.records; strings = c.self.inside.strings.now.keys; levels = ls }) c.as_slice.ensures.value ∙ c.self.view_is
