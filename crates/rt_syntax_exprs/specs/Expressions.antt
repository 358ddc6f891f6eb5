-- The grammar of expressions and conditions, one part for each line.
use Rattle.std.specs.Prelude.{ℕ, zero, suc, List, [], ◌∷◌}
use Rattle.rt_pieces.specs.declared.item.Mark.TheVariants as m
use Rattle.rt_pieces.specs.declared.item.Word.TheVariants as w
use Rattle.rt_grammar.specs.declared.at.At.{At}
use Rattle.rt_grammar.specs.Parts.{Part, nothing, never, either, ◌>>=◌, turns, at_most, within, here, mark, word, number, text, ident, listed_in, push}
use Rattle.rt_syntax_exprs.specs.declared.limits.Context.{Context}
use Rattle.rt_syntax_exprs.specs.declared.table.Level.{Level}
use Rattle.rt_syntax_exprs.specs.declared.table.Level.TheVariants as level
use Rattle.rt_syntax_exprs.specs.declared.tree.Op1.{Op1}
use Rattle.rt_syntax_exprs.specs.declared.tree.Op2.{Op2}
use Rattle.rt_syntax_exprs.specs.declared.tree.Expr.{Expr}
use Rattle.rt_syntax_exprs.specs.declared.tree.Expr.TheVariants as e
use Rattle.rt_syntax_exprs.specs.declared.tree.Chain.{Chain, roll-Chain}
use Rattle.rt_syntax_exprs.specs.declared.tree.Link.{Link}
use Rattle.rt_syntax_exprs.specs.declared.tree.Link.TheVariants as link
use Rattle.rt_syntax_exprs.specs.declared.tree.Cond.{Cond}
use Rattle.rt_syntax_exprs.specs.declared.tree.Cond.TheVariants as cond
use Rattle.rt_syntax_exprs.specs.Tables.{monadic_of, dyadic_of, relation_of}

-- number
abbrev pub literal : Context → Part Expr
literal c = do
  at ← here c.total
  n ← number
  nothing (e.Number n at)

-- string
abbrev pub string : Context → Part Expr
string c = do
  at ← here c.total
  s ← text
  nothing (e.Text s at)

-- . name
abbrev pub dot : Context → Part Link
dot c = do
  at ← here c.total
  _ ← mark m.Dot
  n ← ident c.total
  nothing (link.Dot n at)

-- a monadic operator and where it stands
abbrev pub operator : Context → Part (Op1 × At)
operator c = do
  at ← here c.total
  op ← listed_in monadic_of
  nothing (op, at)

-- the operators, the first one outermost, over an operand
abbrev pub applied : List (Op1 × At) → Expr → Expr
applied [] a = a
applied (o ∷ ops) a = e.Monadic o.0 (applied ops a) o.1

-- So many more parentheses may open, and inner is an expression that stands in one.
module _ (c : Context) (levels : ℕ) (inner : Part Expr) where
  -- expr {, expr}
  abbrev pub listed : Part (List Expr)
  listed = do
    first ← inner
    turns push (first ∷ []) (do _ ← mark m.Comma; inner)

  -- ( [expr {, expr}] )
  abbrev pub apply : Part Link
  apply = do
    at ← here c.total
    _ ← within levels (mark m.Open)
    es ← either listed (nothing [])
    _ ← mark m.Close
    nothing (link.Apply es at)

  -- name {. name | ( [expr {, expr}] )}
  abbrev pub chain : Part Chain
  chain = do
    n ← ident c.total
    links ← turns push [] (either (dot c) apply)
    nothing (roll-Chain (record { name = n.name; links = links; at = n.at }))

  abbrev pub chained : Part Expr
  chained = do
    found ← chain
    nothing (e.Chain found)

  -- VAL chain
  abbrev pub valued : Part Expr
  valued = do
    at ← here c.total
    _ ← word w.Val
    found ← chain
    nothing (e.Val found at)

  -- ( expr )
  abbrev pub parenthesized : Part Expr
  parenthesized = do
    _ ← within levels (mark m.Open)
    a ← inner
    _ ← mark m.Close
    nothing a

  abbrev pub operand : Part Expr
  operand = either chained (either (literal c) (either (string c) (either valued parenthesized)))

  -- an operand, or a monadic operator with a primary
  abbrev pub primary : Part Expr
  primary = do
    ops ← turns push [] (operator c)
    a ← operand
    nothing (applied ops a)

  -- an operator of the level and its right operand
  abbrev pub right_of : Level → Part Expr → Part (Op2 × Expr)
  right_of lv lower = do
    op ← listed_in (dyadic_of lv)
    b ← lower
    nothing (op, b)

  -- operands with operators of one level between them, from the left
  abbrev pub dyadics : Level → Part Expr → Part Expr
  dyadics lv lower = do
    at ← here c.total
    a ← lower
    turns (λ a x. e.Dyadic x.0 a x.1 at) a (right_of lv lower)

  -- SLL SRL SLA SRA
  abbrev pub shifts : Part Expr
  shifts = dyadics level.Shift primary

  -- * :/ MOD
  abbrev pub products : Part Expr
  products = dyadics level.Product shifts

  -- LAND
  abbrev pub lands : Part Expr
  lands = dyadics level.Land products

  -- + - LOR NEV
  abbrev pub sums : Part Expr
  sums = dyadics level.Sum lands

-- An expression in which fewer than so many parentheses open. The limit on its items is stated of each
-- expression: one that stands in another has fewer items than that one.
unfoldable pub inside : Context → ℕ → Part Expr
inside c zero = never
inside c (suc levels) = at_most c.limits.items (sums c levels (inside c levels))

-- expr
abbrev pub expression : Context → Part Expr
expression c = at_most c.limits.items (sums c c.limits.parentheses (inside c c.limits.parentheses))

-- the chain of a statement
abbrev pub place : Context → Part Chain
place c = chain c c.limits.parentheses (inside c c.limits.parentheses)

-- expr relation expr
abbrev pub comparison : Context → Part Cond
comparison c = do
  at ← here c.total
  a ← expression c
  r ← listed_in relation_of
  b ← expression c
  nothing (cond.Compare r a b at)

-- AND comp
abbrev pub and_comparison : Context → Part Cond
and_comparison c = do _ ← word w.And; comparison c

-- comp {AND comp}; one comparison alone is that comparison
abbrev pub conjunction : Context → Part Cond
conjunction c = do
  at ← here c.total
  first ← comparison c
  either
      (do
        second ← and_comparison c
        all ← turns push (first ∷ second ∷ []) (and_comparison c)
        nothing (cond.And all at))
      (nothing first)

-- OR conj
abbrev pub or_conjunction : Context → Part Cond
or_conjunction c = do _ ← word w.Or; conjunction c

-- conj {OR conj}; one conj alone is that conj
abbrev pub condition : Context → Part Cond
condition c = do
  at ← here c.total
  first ← conjunction c
  either
      (do
        second ← or_conjunction c
        all ← turns push (first ∷ second ∷ []) (or_conjunction c)
        nothing (cond.Or all at))
      (nothing first)
