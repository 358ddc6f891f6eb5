-- How many items each form of expression, link and chain has.
use Rattle.std.proofs.Common.{◌≡◌, ℕ, ◌+◌, List, map, refl}
use Rattle.rt_grammar.specs.declared.at.At.{At}
use Rattle.rt_grammar.specs.declared.at.Ident.{Ident}
use Rattle.rt_syntax_exprs.specs.declared.tree.Chain.{Chain, out-Chain}
use Rattle.rt_syntax_exprs.specs.declared.tree.Cond.{Cond, out-Cond}
use Rattle.rt_syntax_exprs.specs.declared.tree.Cond.TheFolds.{fold_out-Cond}
use Rattle.rt_syntax_exprs.specs.declared.tree.Cond.TheOpen.{Cond-F}
use Rattle.rt_syntax_exprs.specs.declared.tree.Expr.{Expr, out-Expr}
use Rattle.rt_syntax_exprs.specs.declared.tree.Expr.TheFolds.{fold_out-Expr, fold_out-Link, fold_out-Chain}
use Rattle.rt_syntax_exprs.specs.declared.tree.Expr.TheOpen.{Expr-F, Link-F}
use Rattle.rt_syntax_exprs.specs.declared.tree.Link.{Link, out-Link}
use Rattle.rt_syntax_exprs.specs.declared.tree.Op1.{Op1}
use Rattle.rt_syntax_exprs.specs.declared.tree.Op2.{Op2}
use Rattle.rt_syntax_exprs.specs.declared.tree.Rel.{Rel}
use Rattle.rt_bricks_laws.specs.Counts.{sum, listed, in_expr, in_link, in_chain, in_cond}

pub number_items : (e : Expr) (n : ℕ) (at : At) → out-Expr e ≡ Expr-F.Number n at → in_expr e ≡ 1
number_items e n at o = rw (fold_out-Expr, o) refl

pub text_items : (e : Expr) (t : List ℕ) (at : At) → out-Expr e ≡ Expr-F.Text t at → in_expr e ≡ 1
text_items e t at o = rw (fold_out-Expr, o) refl

pub chain_items_in : (e : Expr) (h : Chain) → out-Expr e ≡ Expr-F.Chain h → in_expr e ≡ in_chain h
chain_items_in e h o = rw (fold_out-Expr, o) refl

pub val_items : (e : Expr) (h : Chain) (at : At) → out-Expr e ≡ Expr-F.Val h at → in_expr e ≡ 1 + in_chain h
val_items e h at o = rw (fold_out-Expr, o) refl

pub monadic_items : (e a : Expr) (op : Op1) (at : At) → out-Expr e ≡ Expr-F.Monadic op a at → in_expr e ≡ 1 + in_expr a
monadic_items e a op at o = rw (fold_out-Expr, o) refl

pub dyadic_items : (e a b : Expr) (op : Op2) (at : At) → out-Expr e ≡ Expr-F.Dyadic op a b at → in_expr e ≡ in_expr a + (1 + in_expr b)
dyadic_items e a b op at o = rw (fold_out-Expr, o) refl

pub dot_items : (l : Link) (n : Ident) (at : At) → out-Link l ≡ Link-F.Dot n at → in_link l ≡ 2
dot_items l n at o = rw (fold_out-Link, o) refl

pub apply_items : (l : Link) (es : List Expr) (at : At) → out-Link l ≡ Link-F.Apply es at → in_link l ≡ 2 + listed (map in_expr es)
apply_items l es at o = rw (fold_out-Link, o) refl

pub links_items : (h : Chain) → in_chain h ≡ 1 + sum (map in_link (out-Chain h).links)
links_items h = rw fold_out-Chain refl

pub or_items : (d : Cond) (cs : List Cond) (at : At) → out-Cond d ≡ Cond-F.Or cs at → in_cond d ≡ listed (map in_cond cs)
or_items d cs at o = rw (fold_out-Cond, o) refl

pub and_items : (d : Cond) (cs : List Cond) (at : At) → out-Cond d ≡ Cond-F.And cs at → in_cond d ≡ listed (map in_cond cs)
and_items d cs at o = rw (fold_out-Cond, o) refl

pub compare_items : (d : Cond) (r : Rel) (a b : Expr) (at : At) → out-Cond d ≡ Cond-F.Compare r a b at → in_cond d ≡ in_expr a + (1 + in_expr b)
compare_items d r a b at o = rw (fold_out-Cond, o) refl
