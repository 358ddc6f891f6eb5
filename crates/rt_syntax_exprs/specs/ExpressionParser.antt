-- The parsers of expressions and conditions as functions, which decide by what comes next.
use Rattle.std.specs.Prelude.{ℕ, zero, suc, Bool, List, [], ◌∷◌}
use Rattle.rt_pieces.specs.declared.item.Item.{Item}
use Rattle.rt_pieces.specs.declared.item.Mark.TheVariants as m
use Rattle.rt_pieces.specs.declared.item.Word.TheVariants as w
use Rattle.rt_grammar.specs.declared.at.At.{At}
use Rattle.rt_grammar.specs.declared.at.Ident.{Ident}
use Rattle.rt_grammar.specs.declared.next.Next.{Next}
use Rattle.rt_grammar.specs.declared.next.Next.TheVariants as next
use Rattle.rt_grammar.specs.Parts.{next_of, push}
use Rattle.rt_grammar.specs.Parsing.{Parser, ◌>>=◌, pure, refuse, here, by_next, choose, mark, word, number, text, ident, listed_in, in_table, mark_comes, is_word, word_comes, within, turns, turns_from, counted}
use Rattle.rt_syntax_exprs.specs.declared.limits.Context.{Context}
use Rattle.rt_syntax_exprs.specs.declared.table.Level.{Level}
use Rattle.rt_syntax_exprs.specs.declared.table.Level.TheVariants as level
use Rattle.rt_syntax_exprs.specs.declared.tree.Op1.{Op1}
use Rattle.rt_syntax_exprs.specs.declared.tree.Op2.{Op2}
use Rattle.rt_syntax_exprs.specs.declared.tree.Expr.{Expr}
use Rattle.rt_syntax_exprs.specs.declared.tree.Expr.TheVariants as e
use Rattle.rt_syntax_exprs.specs.declared.tree.Chain.{Chain, roll-Chain}
use Rattle.rt_syntax_exprs.specs.declared.tree.Link.{Link}
use Rattle.rt_syntax_exprs.specs.declared.tree.Link.TheVariants as link
use Rattle.rt_syntax_exprs.specs.declared.tree.Cond.{Cond}
use Rattle.rt_syntax_exprs.specs.declared.tree.Cond.TheVariants as cond
use Rattle.rt_syntax_exprs.specs.Tables.{monadic_of, dyadic_of, relation_of, begins_expression, is_link}
use Rattle.rt_syntax_exprs.specs.Expressions.{applied}

unfoldable pub literal : Context → Parser Expr
literal c = do
  at ← here c.total
  n ← number
  pure (e.Number n at)

unfoldable pub string : Context → Parser Expr
string c = do
  at ← here c.total
  s ← text
  pure (e.Text s at)

unfoldable pub dot : Context → Parser Link
dot c = do
  at ← here c.total
  _ ← mark m.Dot
  n ← ident c.total
  pure (link.Dot n at)

abbrev pub operator_comes : List Item → Bool
operator_comes l = in_table monadic_of (next_of l)

unfoldable pub operator : Context → Parser (Op1 × At)
operator c = do
  at ← here c.total
  op ← listed_in monadic_of
  pure (op, at)

-- what more comes of a list, in at most n turns, and so for the lines below
abbrev pub more_operators : Context → ℕ → List (Op1 × At) → Parser (List (Op1 × At))
more_operators c n ops = turns_from n operator_comes push (operator c) ops

unfoldable pub operators : Context → Parser (List (Op1 × At))
operators c = turns operator_comes push (operator c) []

abbrev pub link_comes : List Item → Bool
link_comes l = is_link (next_of l)

abbrev pub dyadic_comes : Level → List Item → Bool
dyadic_comes lv l = in_table (dyadic_of lv) (next_of l)

-- a chain of this name and these links
abbrev pub chain_as : Ident → List Link → Chain
chain_as n ls = roll-Chain (record { name = n.name; links = ls; at = n.at })

module _ (c : Context) (levels : ℕ) (inner : Parser Expr) where
  unfoldable pub another : Parser Expr
  another = do _ ← mark m.Comma; inner

  abbrev pub more_listed : ℕ → List Expr → Parser (List Expr)
  more_listed n es = turns_from n (mark_comes m.Comma) push another es

  unfoldable pub listed : Parser (List Expr)
  listed = do
    first ← inner
    turns (mark_comes m.Comma) push another (first ∷ [])

  unfoldable pub arguments : Parser (List Expr)
  arguments = choose begins_expression listed (pure [])

  unfoldable pub apply : Parser Link
  apply = do
    at ← here c.total
    _ ← within levels (mark m.Open)
    es ← arguments
    _ ← mark m.Close
    pure (link.Apply es at)

  abbrev pub link_by : Next → Parser Link
  link_by (next.Mark m.Dot) = dot c
  link_by _ = apply

  unfoldable pub link_of : Parser Link
  link_of = by_next link_by

  abbrev pub more_links : ℕ → List Link → Parser (List Link)
  more_links n ls = turns_from n link_comes push link_of ls

  unfoldable pub chain : Parser Chain
  chain = do
    n ← ident c.total
    links ← turns link_comes push link_of []
    pure (chain_as n links)

  unfoldable pub chained : Parser Expr
  chained = do
    found ← chain
    pure (e.Chain found)

  unfoldable pub valued : Parser Expr
  valued = do
    at ← here c.total
    _ ← word w.Val
    found ← chain
    pure (e.Val found at)

  unfoldable pub parenthesized : Parser Expr
  parenthesized = do
    _ ← within levels (mark m.Open)
    a ← inner
    _ ← mark m.Close
    pure a

  abbrev pub operand_by : Next → Parser Expr
  operand_by next.Name = chained
  operand_by next.Number = literal c
  operand_by next.Text = string c
  operand_by (next.Word w.Val) = valued
  operand_by _ = parenthesized

  unfoldable pub operand : Parser Expr
  operand = by_next operand_by

  unfoldable pub primary : Parser Expr
  primary = do
    ops ← operators c
    a ← operand
    pure (applied ops a)

  unfoldable pub right_of : Level → Parser Expr → Parser (Op2 × Expr)
  right_of lv lower = do
    op ← listed_in (dyadic_of lv)
    b ← lower
    pure (op, b)

  abbrev pub joined : At → Expr → Op2 × Expr → Expr
  joined at a x = e.Dyadic x.0 a x.1 at

  abbrev pub more_dyadics : Level → Parser Expr → At → ℕ → Expr → Parser Expr
  more_dyadics lv lower at n a = turns_from n (dyadic_comes lv) (joined at) (right_of lv lower) a

  unfoldable pub dyadics : Level → Parser Expr → Parser Expr
  dyadics lv lower = do
    at ← here c.total
    a ← lower
    turns (dyadic_comes lv) (joined at) (right_of lv lower) a

  -- what stands between the operators of a level
  abbrev pub below : Level → Parser Expr
  below level.Shift = primary
  below level.Product = dyadics level.Shift primary
  below level.Land = dyadics level.Product (dyadics level.Shift primary)
  below level.Sum = dyadics level.Land (dyadics level.Product (dyadics level.Shift primary))

  abbrev pub sums : Parser Expr
  sums = dyadics level.Sum (below level.Sum)

unfoldable pub inside : Context → ℕ → Parser Expr
inside c zero = refuse
inside c (suc levels) = counted c.limits.items (sums c levels (inside c levels))

-- where so many parentheses may still open
unfoldable pub nested : Context → ℕ → Parser Expr
nested c levels = counted c.limits.items (sums c levels (inside c levels))

unfoldable pub expression : Context → Parser Expr
expression c = nested c c.limits.parentheses

unfoldable pub place : Context → Parser Chain
place c = chain c c.limits.parentheses (inside c c.limits.parentheses)

-- ---- conditions

unfoldable pub comparison : Context → Parser Cond
comparison c = do
  at ← here c.total
  a ← expression c
  r ← listed_in relation_of
  b ← expression c
  pure (cond.Compare r a b at)

unfoldable pub and_comparison : Context → Parser Cond
and_comparison c = do _ ← word w.And; comparison c

abbrev pub more_comparisons : Context → ℕ → List Cond → Parser (List Cond)
more_comparisons c n cs = turns_from n (word_comes w.And) push (and_comparison c) cs

abbrev pub conjoined : At → List Cond → Parser Cond
conjoined at all = pure (cond.And all at)

unfoldable pub conjunction_from : Context → At → List Cond → Parser Cond
conjunction_from c at found = do
  second ← and_comparison c
  all ← turns (word_comes w.And) push (and_comparison c) (push found second)
  conjoined at all

unfoldable pub conjunction : Context → Parser Cond
conjunction c = do
  at ← here c.total
  first ← comparison c
  choose (is_word w.And) (conjunction_from c at (first ∷ [])) (pure first)

unfoldable pub or_conjunction : Context → Parser Cond
or_conjunction c = do _ ← word w.Or; conjunction c

abbrev pub more_conjunctions : Context → ℕ → List Cond → Parser (List Cond)
more_conjunctions c n cs = turns_from n (word_comes w.Or) push (or_conjunction c) cs

abbrev pub disjoined : At → List Cond → Parser Cond
disjoined at all = pure (cond.Or all at)

unfoldable pub condition_from : Context → At → List Cond → Parser Cond
condition_from c at found = do
  second ← or_conjunction c
  all ← turns (word_comes w.Or) push (or_conjunction c) (push found second)
  disjoined at all

unfoldable pub condition : Context → Parser Cond
condition c = do
  at ← here c.total
  first ← conjunction c
  choose (is_word w.Or) (condition_from c at (first ∷ [])) (pure first)
