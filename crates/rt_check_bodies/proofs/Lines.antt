-- The labels of lines are those of their statements.
use Rattle.std.proofs.Common.{◌≡◌, List, [], ◌∷◌, map, refl, ap, ◌∙◌}
use Rattle.rt_grammar.specs.declared.at.Ident.{Ident}
use Rattle.rt_syntax.specs.declared.tree.Simple.TheFolds.{fold_out-Stmt}
use Rattle.rt_syntax.specs.declared.tree.Stmt.{Stmt}
use Rattle.rt_check_bodies.specs.declared.answer.Answer.{Answer}
use Rattle.rt_check_bodies.specs.Statements.{labels_at, own_labels, line}

line_labels : (r : Answer) (x : Stmt) → own_labels x ≡ labels_at (line r x)
line_labels r x = rw fold_out-Stmt refl

pub all_labels : (r : Answer) (xs : List Stmt) → map own_labels xs ≡ map labels_at (map (line r) xs)
all_labels r [] = refl
all_labels r (x ∷ xs) =
    ap (λ (ns : List Ident). ns ∷ map own_labels xs) (line_labels r x)
    ∙ ap (λ (nss : List (List Ident)). labels_at (line r x) ∷ nss) (all_labels r xs)
