-- One declaration after the other.
use Rattle.std.proofs.Common.{◌≡◌, ℕ, ◌+◌, ◌<◌, List, ◌∷◌, length, get_or, drop, refl, sym, ap, ◌∙◌, add-one}
use Rattle.std.proofs.Math.Seq.{drop-cons}
use Rattle.rt_tree_nodes.specs.declared.statement.LocalStart.{LocalStart}
use Rattle.rt_syntax.specs.declared.tree.Locals.{Locals}
use Rattle.rt_check_bodies.specs.declared.tally.Tally.{Tally}
use Rattle.rt_exprs.specs.Sights.{Sight}
use Rattle.rt_check_bodies.specs.Statements.{Declared, declared_by, line_more, declarations, Behind}

drop_next : (xs : List Locals) (i : ℕ) (x : Locals) → i < length xs → x ≡ get_or xs i x → drop i xs ≡ x ∷ drop (i + 1) xs
drop_next xs i x h e = rw (add-one, drop-cons xs i x, ← e) refl

pub line_step : (d : Declared) (xs : List Locals) (i : ℕ) (x : Locals) (s : Sight) (starts : List LocalStart) (t u : Tally) → i < length xs → x ≡ get_or xs i x
    → Behind s starts u (line_more d x t) → declarations (declared_by s starts) (drop (i + 1) xs) u ≡ declarations d (drop i xs) t
line_step d xs i x s starts t u h e g =
    (λ j. declarations (declared_by (g.0 j) (g.1 j)) (drop (i + 1) xs) (g.2 j))
    ∙ ap (λ (ys : List Locals). declarations d ys t) (sym (drop_next xs i x h e))
