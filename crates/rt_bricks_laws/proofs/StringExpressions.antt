-- The strings of expressions and conditions rise.
use Rattle.std.proofs.Common.{◌≡◌, ℕ, zero, suc, ◌<◌, List, [], ◌∷◌, map, refl, ◌∙◌}
use Rattle.rt_grammar.specs.declared.at.At.{At}
use Rattle.rt_grammar.specs.declared.at.Ident.{Ident}
use Rattle.rt_grammar.specs.Parts.{Part, push}
use Rattle.rt_syntax_exprs.specs.declared.limits.Context.{Context}
use Rattle.rt_syntax_exprs.specs.declared.table.Level.{Level}
use Rattle.rt_syntax_exprs.specs.declared.tree.Op1.{Op1}
use Rattle.rt_syntax_exprs.specs.declared.tree.Op2.{Op2}
use Rattle.rt_syntax_exprs.specs.declared.tree.Rel.{Rel}
use Rattle.rt_syntax_exprs.specs.declared.tree.Expr.{Expr, out-Expr}
use Rattle.rt_syntax_exprs.specs.declared.tree.Expr as expressions
use Rattle.rt_syntax_exprs.specs.declared.tree.Expr.TheFolds.{fold_out-Expr, fold_out-Link, fold_out-Chain}
use Rattle.rt_syntax_exprs.specs.declared.tree.Expr.TheOpen.{Expr-F, Link-F, Chain-F}
use Rattle.rt_syntax_exprs.specs.declared.tree.Expr.TheVariants as e
use Rattle.rt_syntax_exprs.specs.declared.tree.Chain.{Chain, out-Chain, roll-Chain}
use Rattle.rt_syntax_exprs.specs.declared.tree.Chain as chains
use Rattle.rt_syntax_exprs.specs.declared.tree.Link.{Link, out-Link}
use Rattle.rt_syntax_exprs.specs.declared.tree.Link as links
use Rattle.rt_syntax_exprs.specs.declared.tree.Link.TheVariants as link
use Rattle.rt_syntax_exprs.specs.declared.tree.Cond.{Cond, out-Cond}
use Rattle.rt_syntax_exprs.specs.declared.tree.Cond as conditions
use Rattle.rt_syntax_exprs.specs.declared.tree.Cond.TheFolds.{fold_out-Cond}
use Rattle.rt_syntax_exprs.specs.declared.tree.Cond.TheOpen.{Cond-F}
use Rattle.rt_syntax_exprs.specs.declared.tree.Cond.TheVariants as cond
use Rattle.rt_syntax_exprs.specs.Expressions as line
use Rattle.rt_syntax.specs.Strings.{Texts, Finds, one, all, in_expr, in_link, in_chain, in_cond}
use Rattle.rt_bricks_laws.proofs.Parts.{one_item, opened, a_word, a_mark, a_number, a_place, an_ident}
use Rattle.rt_bricks_laws.proofs.Strings.{Strung, it, not, thn, behind, or_else, turned, limited, a_string}

-- ---- those of each

expr_number : (n : ℕ) (at : At) (found : Texts) → in_expr (e.Number n at) found ≡ found
expr_number n at found = let o : out-Expr (e.Number n at) ≡ Expr-F.Number n at = search expressions.the_lemmas in rw (fold_out-Expr, o) refl

expr_text : (bytes : List ℕ) (at : At) (found : Texts) → in_expr (e.Text bytes at) found ≡ one at.item bytes found
expr_text bytes at found = let o : out-Expr (e.Text bytes at) ≡ Expr-F.Text bytes at = search expressions.the_lemmas in rw (fold_out-Expr, o) refl

expr_chain : (c : Chain) (found : Texts) → in_expr (e.Chain c) found ≡ in_chain c found
expr_chain c found = let o : out-Expr (e.Chain c) ≡ Expr-F.Chain c = search expressions.the_lemmas in rw (fold_out-Expr, o) refl

expr_val : (c : Chain) (at : At) (found : Texts) → in_expr (e.Val c at) found ≡ in_chain c found
expr_val c at found = let o : out-Expr (e.Val c at) ≡ Expr-F.Val c at = search expressions.the_lemmas in rw (fold_out-Expr, o) refl

expr_monadic : (op : Op1) (a : Expr) (at : At) (found : Texts) → in_expr (e.Monadic op a at) found ≡ in_expr a found
expr_monadic op a at found = let o : out-Expr (e.Monadic op a at) ≡ Expr-F.Monadic op a at = search expressions.the_lemmas in rw (fold_out-Expr, o) refl

expr_dyadic : (op : Op2) (a b : Expr) (at : At) (found : Texts) → in_expr (e.Dyadic op a b at) found ≡ in_expr b (in_expr a found)
expr_dyadic op a b at found = let o : out-Expr (e.Dyadic op a b at) ≡ Expr-F.Dyadic op a b at = search expressions.the_lemmas in rw (fold_out-Expr, o) refl

link_dot : (n : Ident) (at : At) (found : Texts) → in_link (link.Dot n at) found ≡ found
link_dot n at found = let o : out-Link (link.Dot n at) ≡ Link-F.Dot n at = search links.the_lemmas in rw (fold_out-Link, o) refl

link_apply : (es : List Expr) (at : At) (found : Texts) → in_link (link.Apply es at) found ≡ all (map in_expr es) found
link_apply es at found = let o : out-Link (link.Apply es at) ≡ Link-F.Apply es at = search links.the_lemmas in rw (fold_out-Link, o) refl

chain_by : (c : Chain) (x : Chain-F Expr Link Chain) (found : Texts) → out-Chain c ≡ x → in_chain c found ≡ all (map in_link x.links) found
chain_by c x found o = rw (fold_out-Chain, o) refl

chain_of : (x : Chain-F Expr Link Chain) (found : Texts) → in_chain (roll-Chain x) found ≡ all (map in_link x.links) found
chain_of x found = chain_by (roll-Chain x) x found (search chains.the_lemmas)

cond_compare : (r : Rel) (a b : Expr) (at : At) (found : Texts) → in_cond (cond.Compare r a b at) found ≡ in_expr b (in_expr a found)
cond_compare r a b at found = let o : out-Cond (cond.Compare r a b at) ≡ Cond-F.Compare r a b at = search conditions.the_lemmas in rw (fold_out-Cond, o) refl

cond_and : (cs : List Cond) (at : At) (found : Texts) → in_cond (cond.And cs at) found ≡ all (map in_cond cs) found
cond_and cs at found = let o : out-Cond (cond.And cs at) ≡ Cond-F.And cs at = search conditions.the_lemmas in rw (fold_out-Cond, o) refl

cond_or : (cs : List Cond) (at : At) (found : Texts) → in_cond (cond.Or cs at) found ≡ all (map in_cond cs) found
cond_or cs at found = let o : out-Cond (cond.Or cs at) ≡ Cond-F.Or cs at = search conditions.the_lemmas in rw (fold_out-Cond, o) refl

applied_finds : (ops : List (Op1 × At)) (a : Expr) (found : Texts) → in_expr (line.applied ops a) found ≡ in_expr a found
applied_finds [] a found = refl
applied_finds (o ∷ ops) a found = expr_monadic o.0 (line.applied ops a) o.1 found ∙ applied_finds ops a found

pub all_push : {A : Type 0} (f : A → Finds) (xs : List A) (x : A) (found : Texts) → all (map f (push xs x)) found ≡ f x (all (map f xs) found)
all_push f [] x found = refl
all_push f (y ∷ ys) x found = all_push f ys x (f y found)

-- ---- the lines

module _ (c : Context) (few : c.total < 65536) where
  literal_rises : (found : Texts) → Strung c.total (line.literal c) found (λ x. in_expr x found)
  literal_rises found = behind (a_place c.total) (λ at. behind a_number (λ n. it (expr_number n at found)))

  string_rises : (found : Texts) → Strung c.total (line.string c) found (λ x. in_expr x found)
  string_rises found = a_string (λ bytes at. e.Text bytes at) (λ x. in_expr x found) few (λ bytes at. expr_text bytes at found)

  dot_rises : (found : Texts) → Strung c.total (line.dot c) found (λ x. in_link x found)
  dot_rises found = behind (a_place c.total) (λ at. behind (a_mark _) (λ _. behind (an_ident c.total) (λ n. it (link_dot n at found))))

  operator_plain : (found : Texts) → Strung c.total (line.operator c) found (λ _. found)
  operator_plain found = behind (a_place c.total) (λ at. behind one_item (λ op. it refl))

  module _ (levels : ℕ) (inner : Part Expr) (h : (found : Texts) → Strung c.total inner found (λ x. in_expr x found)) where
    listed_rise : (found : Texts) → Strung c.total (line.listed c levels inner) found (λ es. all (map in_expr es) found)
    listed_rise found = thn (h found) (λ first. turned c.total push _ (λ es. all (map in_expr es) found) in_expr (λ so_far. behind (a_mark _) (λ _. h so_far)) (λ es x. all_push in_expr es x found) refl)

    apply_rises : (found : Texts) → Strung c.total (line.apply c levels inner) found (λ x. in_link x found)
    apply_rises found = behind (a_place c.total) (λ at. behind (opened levels (a_mark _)) (λ _. thn (or_else (listed_rise found) (it refl)) (λ es. behind (a_mark _) (λ _. it (link_apply es at found)))))

    chain_rises : (found : Texts) → Strung c.total (line.chain c levels inner) found (λ x. in_chain x found)
    chain_rises found = behind (an_ident c.total) (λ n. thn (turned c.total push _ (λ ls. all (map in_link ls) found) in_link (λ so_far. or_else (dot_rises so_far) (apply_rises so_far)) (λ ls x. all_push in_link ls x found) refl)
        (λ ls. it (chain_of (record { name = n.name; links = ls; at = n.at }) found)))

    chained_rises : (found : Texts) → Strung c.total (line.chained c levels inner) found (λ x. in_expr x found)
    chained_rises found = thn (chain_rises found) (λ x. it (expr_chain x found))

    valued_rises : (found : Texts) → Strung c.total (line.valued c levels inner) found (λ x. in_expr x found)
    valued_rises found = behind (a_place c.total) (λ at. behind (a_word _) (λ _. thn (chain_rises found) (λ x. it (expr_val x at found))))

    parenthesized_rises : (found : Texts) → Strung c.total (line.parenthesized c levels inner) found (λ x. in_expr x found)
    parenthesized_rises found = behind (opened levels (a_mark _)) (λ _. thn (h found) (λ a. behind (a_mark _) (λ _. it refl)))

    operand_rises : (found : Texts) → Strung c.total (line.operand c levels inner) found (λ x. in_expr x found)
    operand_rises found = or_else (chained_rises found) (or_else (literal_rises found) (or_else (string_rises found) (or_else (valued_rises found) (parenthesized_rises found))))

    primary_rises : (found : Texts) → Strung c.total (line.primary c levels inner) found (λ x. in_expr x found)
    primary_rises found = thn (turned c.total push _ (λ _. found) (λ _ so_far. so_far) operator_plain (λ ops x. refl) refl) (λ ops. thn (operand_rises found) (λ a. it (applied_finds ops a found)))

    dyadics_rise : (lv : Level) (lower : Part Expr) → ((found : Texts) → Strung c.total lower found (λ x. in_expr x found)) → (found : Texts) → Strung c.total (line.dyadics c levels inner lv lower) found (λ x. in_expr x found)
    dyadics_rise lv lower g found = behind (a_place c.total) (λ at. thn (g found) (λ a. turned c.total _ _ (λ x. in_expr x found) (λ x. in_expr x.1)
        (λ so_far. behind one_item (λ op. thn (g so_far) (λ b. it refl))) (λ a x. expr_dyadic x.0 a x.1 at found) refl))

    sums_rise : (found : Texts) → Strung c.total (line.sums c levels inner) found (λ x. in_expr x found)
    sums_rise = dyadics_rise _ _ (dyadics_rise _ _ (dyadics_rise _ _ (dyadics_rise _ _ primary_rises)))

  inside_rises : (levels : ℕ) (found : Texts) → Strung c.total (line.inside c levels) found (λ x. in_expr x found)
  unfolding line.inside
  inside_rises zero found = not
  inside_rises (suc levels) found = limited c.limits.items (sums_rise levels (line.inside c levels) (inside_rises levels) found)

  pub expression_rises : (found : Texts) → Strung c.total (line.expression c) found (λ x. in_expr x found)
  expression_rises found = limited c.limits.items (sums_rise c.limits.parentheses (line.inside c c.limits.parentheses) (inside_rises c.limits.parentheses) found)

  pub place_rises : (found : Texts) → Strung c.total (line.place c) found (λ x. in_chain x found)
  place_rises found = chain_rises c.limits.parentheses (line.inside c c.limits.parentheses) (inside_rises c.limits.parentheses) found

  -- ---- conditions

  comparison_rises : (found : Texts) → Strung c.total (line.comparison c) found (λ x. in_cond x found)
  comparison_rises found = behind (a_place c.total) (λ at. thn (expression_rises found) (λ a. behind one_item (λ r. thn (expression_rises (in_expr a found)) (λ b. it (cond_compare r a b at found)))))

  conjunction_rises : (found : Texts) → Strung c.total (line.conjunction c) found (λ x. in_cond x found)
  conjunction_rises found = behind (a_place c.total) (λ at. thn (comparison_rises found) (λ first. or_else
      (thn (behind (a_word _) (λ _. comparison_rises (in_cond first found))) (λ second.
      thn (turned c.total push _ (λ cs. all (map in_cond cs) found) in_cond (λ so_far. behind (a_word _) (λ _. comparison_rises so_far)) (λ cs x. all_push in_cond cs x found) refl) (λ cs. it (cond_and cs at found))))
      (it refl)))

  pub condition_rises : (found : Texts) → Strung c.total (line.condition c) found (λ x. in_cond x found)
  condition_rises found = behind (a_place c.total) (λ at. thn (conjunction_rises found) (λ first. or_else
      (thn (behind (a_word _) (λ _. conjunction_rises (in_cond first found))) (λ second.
      thn (turned c.total push _ (λ cs. all (map in_cond cs) found) in_cond (λ so_far. behind (a_word _) (λ _. conjunction_rises so_far)) (λ cs x. all_push in_cond cs x found) refl) (λ cs. it (cond_or cs at found))))
      (it refl)))
