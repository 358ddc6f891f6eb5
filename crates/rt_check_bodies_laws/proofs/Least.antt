-- Each expression has an item at least, and each condition three.
use Rattle.std.proofs.Common.{◌≡◌, ℕ, ◌+◌, ◌*◌, ◌≤◌, ◌&&◌, Bool, true, false, List, [], ◌∷◌, length, map, arith, refl, sym, ◌∙◌}
use Rattle.std.specs.Prelude.{nat_le}
use Rattle.rt_grammar.specs.declared.at.At.{At}
use Rattle.rt_grammar.specs.declared.at.Ident.{Ident}
use Rattle.rt_syntax_exprs.specs.declared.tree.Chain.{Chain}
use Rattle.rt_syntax_exprs.specs.declared.tree.Cond.{Cond, out-Cond, roll-Cond, map-Cond}
use Rattle.rt_syntax_exprs.specs.declared.tree.Cond as cond_lemmas
use Rattle.rt_syntax_exprs.specs.declared.tree.Cond.TheFolds.{ind-Cond, fold_out-Cond}
use Rattle.rt_syntax_exprs.specs.declared.tree.Cond.TheOpen.{Cond-F}
use Rattle.rt_syntax_exprs.specs.declared.tree.Expr.{Expr, out-Expr}
use Rattle.rt_syntax_exprs.specs.declared.tree.Expr.TheOpen.{Expr-F}
use Rattle.rt_syntax_exprs.specs.declared.tree.Link.{Link}
use Rattle.rt_bricks_laws.specs.Counts.{sum, further, listed, names, in_expr, in_chain, in_cond}
use Rattle.rt_syntax_exprs.specs.Joins.{joins_two, all_true}
use Rattle.rt_check_bodies_laws.proofs.Items.{number_items, text_items, chain_items_in, val_items, monadic_items, dyadic_items, links_items, or_items, and_items, compare_items}

-- ---- lists of parts

pub sum_listed : (ns : List ℕ) → sum ns ≤ listed ns
sum_listed [] = omega arith
sum_listed (n ∷ ns) = omega (arith, sum_further ns) where
  sum_further : (ns : List ℕ) → sum ns ≤ further ns
  sum_further [] = omega arith
  sum_further (n ∷ ns) = omega (arith, sum_further ns)

pub as_many_names : (is : List Ident) → length is ≤ names is
as_many_names [] = omega arith
as_many_names (i ∷ is) = omega (arith, as_many_further is) where
  as_many_further : (is : List Ident) → length is ≤ further (map (λ i. 1) is)
  as_many_further [] = omega arith
  as_many_further (i ∷ is) = omega (arith, as_many_further is)

-- with the items between them they are twice as many, but for one
pub twice_as_many_names : (is : List Ident) → 2 * length is ≤ names is + 1
twice_as_many_names [] = omega arith
twice_as_many_names (i ∷ is) = omega (arith, twice_further is) where
  twice_further : (is : List Ident) → 2 * length is ≤ further (map (λ i. 1) is)
  twice_further [] = omega arith
  twice_further (i ∷ is) = omega (arith, twice_further is)

-- ---- expressions

expr_level : (e : Expr) (l : Expr-F Expr Link Chain) → out-Expr e ≡ l → 1 ≤ in_expr e
expr_level e (Expr-F.Number n at) o = omega (arith, number_items e n at o)
expr_level e (Expr-F.Text t at) o = omega (arith, text_items e t at o)
expr_level e (Expr-F.Chain h) o = omega (arith, chain_items_in e h o, links_items h)
expr_level e (Expr-F.Val h at) o = omega (arith, val_items e h at o)
expr_level e (Expr-F.Monadic op a at) o = omega (arith, monadic_items e a op at o)
expr_level e (Expr-F.Dyadic op a b at) o = omega (arith, dyadic_items e a b op at o)

pub expr_some : (e : Expr) → 1 ≤ in_expr e
expr_some e = expr_level e (out-Expr e) refl

pub chain_some : (h : Chain) → 1 ≤ in_chain h
chain_some h = omega (arith, links_items h)

-- ---- conditions

left_of : (a b : Bool) → a && b ≡ true → a ≡ true
left_of true b e = refl
left_of false b e = e

right_of : (a b : Bool) → a && b ≡ true → b ≡ true
right_of true b e = e
right_of false b e = absurd cc

abbrev HasThree : Cond → Type 0
HasThree d = joins_two d ≡ true → 3 ≤ in_cond d

abbrev Pair : Type 0
Pair = (d : Cond) × HasThree d

joins_at : (d : Cond) (cs : List Cond) (at : At) → out-Cond d ≡ Cond-F.Or cs at → joins_two d ≡ nat_le 2 (length (map joins_two cs)) && all_true (map joins_two cs)
unfolding joins_two
joins_at d cs at o = rw (fold_out-Cond, o) refl

joins_both : (d : Cond) (cs : List Cond) (at : At) → out-Cond d ≡ Cond-F.And cs at → joins_two d ≡ nat_le 2 (length (map joins_two cs)) && all_true (map joins_two cs)
unfolding joins_two
joins_both d cs at o = rw (fold_out-Cond, o) refl

joined_some : (ps : List Pair) → nat_le 2 (length (map joins_two (map (λ (e : Pair). e.0) ps))) && all_true (map joins_two (map (λ (e : Pair). e.0) ps)) ≡ true → 3 ≤ listed (map in_cond (map (λ (e : Pair). e.0) ps))
joined_some [] h = absurd cc
joined_some (p ∷ ps) h =
    let all_join = right_of (nat_le 2 (length (map joins_two (map (λ (e : Pair). e.0) (p ∷ ps))))) (all_true (map joins_two (map (λ (e : Pair). e.0) (p ∷ ps)))) h in
    omega (arith, p.1 (left_of (joins_two p.0) (all_true (map joins_two (map (λ (e : Pair). e.0) ps))) all_join))

opened : (d : Cond) (y : Cond-F Pair) → out-Cond d ≡ map-Cond Pair Cond (λ e. e.0) y → HasThree d
opened d (Cond-F.Or ps at) o h =
    let cs : List Cond = map (λ (e : Pair). e.0) ps in
    omega (arith, or_items d cs at o, joined_some ps (sym (joins_at d cs at o) ∙ h))
opened d (Cond-F.And ps at) o h =
    let cs : List Cond = map (λ (e : Pair). e.0) ps in
    omega (arith, and_items d cs at o, joined_some ps (sym (joins_both d cs at o) ∙ h))
opened d (Cond-F.Compare r a b at) o h = omega (arith, compare_items d r a b at o, expr_some a, expr_some b)

rolled : (l : Cond-F Cond) → out-Cond (roll-Cond l) ≡ l
rolled l = search cond_lemmas.the_lemmas

pub cond_some : (d : Cond) → HasThree d
cond_some = ind-Cond HasThree (λ x y is. opened (roll-Cond x) y (rolled x ∙ sym is))
