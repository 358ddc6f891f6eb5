use Rattle.std.proofs.Common.{◌≡◌, false, ◌∷◌, [], ◌++◌, refl, ap, map, sym, subst, ◌∙◌}
use Rattle.rt_exprs.specs.Sights.{Names, holds}
use Rattle.rt_exprs.specs.Kept.{shown}
use Rattle.rt_exprs.proofs.Kept.{insert_shown}
use Rattle.rt_exprs.proofs.level.Level.insert_new.Goals as goal

pub returns-in-Ok : goal.returns-in-Ok
returns-in-Ok c =
    ap (map shown) c.in-Ok.ensures.entries
    ∙ insert_shown _ c.args.name c.args.meaning (λ e. refl) c.self.inside.names.entries (subst (λ (l : Names). holds l c.args.name.now ≡ false) (sym c.self.view_is) c.requires)
    ∙ ap (λ (l : Names). l ++ (c.args.name.now, c.args.meaning) ∷ []) c.self.view_is
