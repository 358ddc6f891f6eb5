-- Which parts of an expression, a link, a chain and a condition hold its numbers.
use Rattle.std.proofs.Common.{◌≡◌, ℕ, ◌&&◌, Bool, List, map, refl, ◌∙◌}
use Rattle.rt_grammar.specs.declared.at.At.{At}
use Rattle.rt_syntax_exprs.specs.declared.tree.Chain.{Chain, out-Chain}
use Rattle.rt_syntax_exprs.specs.declared.tree.Cond.{Cond, out-Cond}
use Rattle.rt_syntax_exprs.specs.declared.tree.Cond.TheFolds.{fold_out-Cond}
use Rattle.rt_syntax_exprs.specs.declared.tree.Cond.TheOpen.{Cond-F}
use Rattle.rt_syntax_exprs.specs.declared.tree.Expr.{Expr, out-Expr}
use Rattle.rt_syntax_exprs.specs.declared.tree.Expr.TheFolds.{fold_out-Expr, fold_out-Link, fold_out-Chain}
use Rattle.rt_syntax_exprs.specs.declared.tree.Expr.TheOpen.{Expr-F, Link-F}
use Rattle.rt_syntax_exprs.specs.declared.tree.Link.{Link, out-Link}
use Rattle.rt_syntax_exprs.specs.declared.tree.Op1.{Op1}
use Rattle.rt_syntax_exprs.specs.declared.tree.Op2.{Op2}
use Rattle.rt_syntax_exprs.specs.declared.tree.Rel.{Rel}
use Rattle.rt_bricks_laws.specs.Bodies.{all}
use Rattle.rt_bricks_laws.specs.Numbers.{is_word, expr_words, link_words, chain_words as by_links, words_in_expr, words_in_link, words_in_chain, words_in_cond}

pub number_words : (e : Expr) (n : ℕ) (at : At) → out-Expr e ≡ Expr-F.Number n at → words_in_expr e ≡ is_word n
number_words e n at o = rw (fold_out-Expr, o) refl

pub chain_words : (e : Expr) (h : Chain) → out-Expr e ≡ Expr-F.Chain h → words_in_expr e ≡ words_in_chain h
chain_words e h o = rw (fold_out-Expr, o) refl

pub val_words : (e : Expr) (h : Chain) (at : At) → out-Expr e ≡ Expr-F.Val h at → words_in_expr e ≡ words_in_chain h
val_words e h at o = rw (fold_out-Expr, o) refl

pub monadic_words : (e a : Expr) (op : Op1) (at : At) → out-Expr e ≡ Expr-F.Monadic op a at → words_in_expr e ≡ words_in_expr a
monadic_words e a op at o = fold_out-Expr Bool Bool Bool expr_words link_words by_links e ∙ rw o refl

pub dyadic_words : (e a b : Expr) (op : Op2) (at : At) → out-Expr e ≡ Expr-F.Dyadic op a b at → words_in_expr e ≡ words_in_expr a && words_in_expr b
dyadic_words e a b op at o = fold_out-Expr Bool Bool Bool expr_words link_words by_links e ∙ rw o refl

pub apply_words : (l : Link) (es : List Expr) (at : At) → out-Link l ≡ Link-F.Apply es at → words_in_link l ≡ all (map words_in_expr es)
apply_words l es at o = rw (fold_out-Link, o) refl

pub links_words : (h : Chain) → words_in_chain h ≡ all (map words_in_link (out-Chain h).links)
links_words h = rw fold_out-Chain refl

pub or_words : (d : Cond) (cs : List Cond) (at : At) → out-Cond d ≡ Cond-F.Or cs at → words_in_cond d ≡ all (map words_in_cond cs)
or_words d cs at o = rw (fold_out-Cond, o) refl

pub and_words : (d : Cond) (cs : List Cond) (at : At) → out-Cond d ≡ Cond-F.And cs at → words_in_cond d ≡ all (map words_in_cond cs)
and_words d cs at o = rw (fold_out-Cond, o) refl

pub compare_words : (d : Cond) (r : Rel) (a b : Expr) (at : At) → out-Cond d ≡ Cond-F.Compare r a b at → words_in_cond d ≡ words_in_expr a && words_in_expr b
compare_words d r a b at o = rw (fold_out-Cond, o) refl
