use Rattle.std.proofs.Common.{List, ap, subst, ◌∙◌}
use Rattle.rt_exprs.specs.Names.{find_in}
use Rattle.rt_exprs.specs.Sights.{Names, Sight}
use Rattle.rt_check_declared.specs.declared.site.Site.TheVariants as site
use Rattle.rt_check_declared.specs.Verdicts.{Answers}
use Rattle.rt_check_declared.specs.Written.{written}
use Rattle.rt_check_bodies.proofs.names.Names.resolved.Goals as goal

pub returns : goal.returns
returns c = subst (λ (ls : List Names). Answers (λ r. r) c.resolve.result (written (find_in ls) c.args.written.now site.Variable)) (c.as_slice.ensures.value ∙ ap (λ (s : Sight). s.levels) c.self.view_is) c.resolve.ensures.value
