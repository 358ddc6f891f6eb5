-- How many items expressions and conditions have at least, line by line.
use Rattle.std.proofs.Common.{◌≡◌, ℕ, zero, suc, ◌+◌, List, [], ◌∷◌, length, map, refl, arith}
use Rattle.rt_grammar.specs.declared.at.At.{At}
use Rattle.rt_grammar.specs.declared.at.Ident.{Ident}
use Rattle.rt_grammar.specs.Parts.{Part, push}
use Rattle.rt_syntax_exprs.specs.declared.limits.Context.{Context}
use Rattle.rt_syntax_exprs.specs.declared.table.Level.{Level}
use Rattle.rt_syntax_exprs.specs.declared.tree.Op1.{Op1}
use Rattle.rt_syntax_exprs.specs.declared.tree.Op2.{Op2}
use Rattle.rt_syntax_exprs.specs.declared.tree.Rel.{Rel}
use Rattle.rt_syntax_exprs.specs.declared.tree.Expr.{Expr, out-Expr}
use Rattle.rt_syntax_exprs.specs.declared.tree.Expr as expressions
use Rattle.rt_syntax_exprs.specs.declared.tree.Expr.TheFolds.{fold_out-Expr, fold_out-Link, fold_out-Chain}
use Rattle.rt_syntax_exprs.specs.declared.tree.Expr.TheOpen.{Expr-F, Link-F, Chain-F}
use Rattle.rt_syntax_exprs.specs.declared.tree.Expr.TheVariants as e
use Rattle.rt_syntax_exprs.specs.declared.tree.Chain.{Chain, out-Chain, roll-Chain}
use Rattle.rt_syntax_exprs.specs.declared.tree.Chain as chains
use Rattle.rt_syntax_exprs.specs.declared.tree.Link.{Link, out-Link}
use Rattle.rt_syntax_exprs.specs.declared.tree.Link as links
use Rattle.rt_syntax_exprs.specs.declared.tree.Link.TheVariants as link
use Rattle.rt_syntax_exprs.specs.declared.tree.Cond.{Cond, out-Cond}
use Rattle.rt_syntax_exprs.specs.declared.tree.Cond as conditions
use Rattle.rt_syntax_exprs.specs.declared.tree.Cond.TheFolds.{fold_out-Cond}
use Rattle.rt_syntax_exprs.specs.declared.tree.Cond.TheOpen.{Cond-F}
use Rattle.rt_syntax_exprs.specs.declared.tree.Cond.TheVariants as cond
use Rattle.rt_syntax_exprs.specs.Expressions as line
use Rattle.rt_bricks_laws.specs.Counts.{sum, listed, in_expr, in_link, in_chain, in_cond}
use Rattle.rt_bricks_laws.proofs.Lists.{sum_push, listed_push, length_push}
use Rattle.rt_bricks_laws.proofs.Parts.{Counts, done, none, one_item, thn, thn_from, counted_as, or_else, turned, limited, opened, a_word, a_mark, a_number, a_text, a_place, an_ident}

-- ---- what each counts

expr_number : (n : ℕ) (at : At) → in_expr (e.Number n at) ≡ 1
expr_number n at = let o : out-Expr (e.Number n at) ≡ Expr-F.Number n at = search expressions.the_lemmas in rw (fold_out-Expr, o) refl

expr_text : (bytes : List ℕ) (at : At) → in_expr (e.Text bytes at) ≡ 1
expr_text bytes at = let o : out-Expr (e.Text bytes at) ≡ Expr-F.Text bytes at = search expressions.the_lemmas in rw (fold_out-Expr, o) refl

expr_chain : (c : Chain) → in_expr (e.Chain c) ≡ in_chain c
expr_chain c = let o : out-Expr (e.Chain c) ≡ Expr-F.Chain c = search expressions.the_lemmas in rw (fold_out-Expr, o) refl

expr_val : (c : Chain) (at : At) → in_expr (e.Val c at) ≡ 1 + in_chain c
expr_val c at = let o : out-Expr (e.Val c at) ≡ Expr-F.Val c at = search expressions.the_lemmas in rw (fold_out-Expr, o) refl

expr_monadic : (op : Op1) (a : Expr) (at : At) → in_expr (e.Monadic op a at) ≡ 1 + in_expr a
expr_monadic op a at = let o : out-Expr (e.Monadic op a at) ≡ Expr-F.Monadic op a at = search expressions.the_lemmas in rw (fold_out-Expr, o) refl

expr_dyadic : (op : Op2) (a b : Expr) (at : At) → in_expr (e.Dyadic op a b at) ≡ in_expr a + (1 + in_expr b)
expr_dyadic op a b at = let o : out-Expr (e.Dyadic op a b at) ≡ Expr-F.Dyadic op a b at = search expressions.the_lemmas in rw (fold_out-Expr, o) refl

link_dot : (n : Ident) (at : At) → in_link (link.Dot n at) ≡ 2
link_dot n at = let o : out-Link (link.Dot n at) ≡ Link-F.Dot n at = search links.the_lemmas in rw (fold_out-Link, o) refl

link_apply : (es : List Expr) (at : At) → in_link (link.Apply es at) ≡ 2 + listed (map in_expr es)
link_apply es at = let o : out-Link (link.Apply es at) ≡ Link-F.Apply es at = search links.the_lemmas in rw (fold_out-Link, o) refl

chain_by : (c : Chain) (x : Chain-F Expr Link Chain) → out-Chain c ≡ x → in_chain c ≡ 1 + sum (map in_link x.links)
chain_by c x o = rw (fold_out-Chain, o) refl

chain_of : (x : Chain-F Expr Link Chain) → in_chain (roll-Chain x) ≡ 1 + sum (map in_link x.links)
chain_of x = chain_by (roll-Chain x) x (search chains.the_lemmas)

cond_compare : (r : Rel) (a b : Expr) (at : At) → in_cond (cond.Compare r a b at) ≡ in_expr a + (1 + in_expr b)
cond_compare r a b at = let o : out-Cond (cond.Compare r a b at) ≡ Cond-F.Compare r a b at = search conditions.the_lemmas in rw (fold_out-Cond, o) refl

cond_and : (cs : List Cond) (at : At) → in_cond (cond.And cs at) ≡ listed (map in_cond cs)
cond_and cs at = let o : out-Cond (cond.And cs at) ≡ Cond-F.And cs at = search conditions.the_lemmas in rw (fold_out-Cond, o) refl

cond_or : (cs : List Cond) (at : At) → in_cond (cond.Or cs at) ≡ listed (map in_cond cs)
cond_or cs at = let o : out-Cond (cond.Or cs at) ≡ Cond-F.Or cs at = search conditions.the_lemmas in rw (fold_out-Cond, o) refl

applied_counts : (ops : List (Op1 × At)) (a : Expr) → in_expr (line.applied ops a) ≡ length ops + in_expr a
applied_counts [] a = omega arith
applied_counts (o ∷ ops) a = let h = applied_counts ops a in let g = expr_monadic o.0 (line.applied ops a) o.1 in omega arith

-- ---- the lines

literal_counts : (c : Context) → Counts 0 (line.literal c) in_expr
literal_counts c = thn (a_place c.total) (λ at. thn a_number (λ n. done (let e = expr_number n at in omega arith)))

string_counts : (c : Context) → Counts 0 (line.string c) in_expr
string_counts c = thn (a_place c.total) (λ at. thn a_text (λ s. done (let e = expr_text s at in omega arith)))

dot_counts : (c : Context) → Counts 0 (line.dot c) in_link
dot_counts c = thn (a_place c.total) (λ at. thn (a_mark _) (λ _. thn (an_ident c.total) (λ n. done (let e = link_dot n at in omega arith))))

operator_counts : (c : Context) → Counts 0 (line.operator c) (λ _. 1)
operator_counts c = thn (a_place c.total) (λ at. thn one_item (λ op. done (omega arith)))

module _ (c : Context) (levels : ℕ) (inner : Part Expr) (h : Counts 0 inner in_expr) where
  listed_counts : Counts 0 (line.listed c levels inner) (λ es. listed (map in_expr es))
  listed_counts = thn h (λ first. turned push _ (λ es. listed (map in_expr es)) (λ x. 1 + in_expr x) (thn (a_mark _) (λ _. counted_as h (λ x. omega arith))) (λ es x. listed_push in_expr es x) (omega arith))

  apply_counts : Counts 0 (line.apply c levels inner) in_link
  apply_counts = thn (a_place c.total) (λ at. thn (opened levels (a_mark _)) (λ _. thn (or_else listed_counts (done (omega arith))) (λ es. thn (a_mark _) (λ _. done (let e = link_apply es at in omega arith)))))

  pub chain_counts : Counts 0 (line.chain c levels inner) in_chain
  chain_counts = thn (an_ident c.total) (λ n. thn (turned push _ (λ ls. sum (map in_link ls)) in_link (or_else (dot_counts c) apply_counts) (λ ls x. let e = sum_push in_link ls x in omega arith) (omega arith))
      (λ ls. done (let e = chain_of (record { name = n.name; links = ls; at = n.at }) in omega arith)))

  chained_counts : Counts 0 (line.chained c levels inner) in_expr
  chained_counts = thn chain_counts (λ found. done (let e = expr_chain found in omega arith))

  valued_counts : Counts 0 (line.valued c levels inner) in_expr
  valued_counts = thn (a_place c.total) (λ at. thn (a_word _) (λ _. thn chain_counts (λ found. done (let e = expr_val found at in omega arith))))

  parenthesized_counts : Counts 0 (line.parenthesized c levels inner) in_expr
  parenthesized_counts = thn (opened levels (a_mark _)) (λ _. thn h (λ a. thn (a_mark _) (λ _. done (omega arith))))

  operand_counts : Counts 0 (line.operand c levels inner) in_expr
  operand_counts = or_else chained_counts (or_else (literal_counts c) (or_else (string_counts c) (or_else valued_counts parenthesized_counts)))

  primary_counts : Counts 0 (line.primary c levels inner) in_expr
  primary_counts = thn (turned push _ length (λ _. 1) (operator_counts c) (λ ops x. let e = length_push ops x in omega arith) (omega arith))
      (λ ops. thn operand_counts (λ a. done (let e = applied_counts ops a in omega arith)))

  dyadics_count : (lv : Level) (lower : Part Expr) → Counts 0 lower in_expr → Counts 0 (line.dyadics c levels inner lv lower) in_expr
  dyadics_count lv lower g = thn (a_place c.total) (λ at. thn g (λ a. turned _ _ in_expr (λ x. 1 + in_expr x.1)
      (thn one_item (λ op. thn g (λ b. done (omega arith)))) (λ a x. let e = expr_dyadic x.0 a x.1 at in omega arith) (omega arith)))

  pub sums_count : Counts 0 (line.sums c levels inner) in_expr
  sums_count = dyadics_count _ _ (dyadics_count _ _ (dyadics_count _ _ (dyadics_count _ _ primary_counts)))

inside_counts : (c : Context) (levels : ℕ) → Counts 0 (line.inside c levels) in_expr
unfolding line.inside
inside_counts c zero = none
inside_counts c (suc levels) = limited c.limits.items (sums_count c levels (line.inside c levels) (inside_counts c levels))

pub expression_counts : (c : Context) → Counts 0 (line.expression c) in_expr
expression_counts c = limited c.limits.items (sums_count c c.limits.parentheses (line.inside c c.limits.parentheses) (inside_counts c c.limits.parentheses))

pub place_counts : (c : Context) → Counts 0 (line.place c) in_chain
place_counts c = chain_counts c c.limits.parentheses (line.inside c c.limits.parentheses) (inside_counts c c.limits.parentheses)

-- ---- conditions

comparison_counts : (c : Context) → Counts 0 (line.comparison c) in_cond
comparison_counts c = thn (a_place c.total) (λ at. thn (expression_counts c) (λ a. thn one_item (λ r. thn (expression_counts c) (λ b. done (let e = cond_compare r a b at in omega arith)))))

and_comparison_counts : (c : Context) → Counts 0 (line.and_comparison c) (λ x. 1 + in_cond x)
and_comparison_counts c = thn (a_word _) (λ _. counted_as (comparison_counts c) (λ x. omega arith))

conjunction_counts : (c : Context) → Counts 0 (line.conjunction c) in_cond
conjunction_counts c = thn (a_place c.total) (λ at. thn (comparison_counts c) (λ first. or_else
    (thn (and_comparison_counts c) (λ second. thn_from (turned push _ (λ cs. listed (map in_cond cs)) (λ x. 1 + in_cond x) (and_comparison_counts c) (λ cs x. listed_push in_cond cs x) (omega arith))
    (λ all. done (let e = cond_and all at in omega arith))))
    (done (omega arith))))

or_conjunction_counts : (c : Context) → Counts 0 (line.or_conjunction c) (λ x. 1 + in_cond x)
or_conjunction_counts c = thn (a_word _) (λ _. counted_as (conjunction_counts c) (λ x. omega arith))

pub condition_counts : (c : Context) → Counts 0 (line.condition c) in_cond
condition_counts c = thn (a_place c.total) (λ at. thn (conjunction_counts c) (λ first. or_else
    (thn (or_conjunction_counts c) (λ second. thn_from (turned push _ (λ cs. listed (map in_cond cs)) (λ x. 1 + in_cond x) (or_conjunction_counts c) (λ cs x. listed_push in_cond cs x) (omega arith))
    (λ all. done (let e = cond_or all at in omega arith))))
    (done (omega arith))))
