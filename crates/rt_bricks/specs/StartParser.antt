-- The parsers of starts as functions, which decide by what comes next.
use Rattle.std.specs.Prelude.{ℕ, zero, suc, List, [], ◌∷◌, Option}
use Rattle.rt_pieces.specs.declared.item.Mark.TheVariants as m
use Rattle.rt_grammar.specs.declared.next.Next.{Next}
use Rattle.rt_grammar.specs.declared.next.Next.TheVariants as next
use Rattle.rt_grammar.specs.Parts.{push}
use Rattle.rt_grammar.specs.Parsing.{Parser, ◌>>=◌, pure, refuse, here, by_next, optional, mark, number, text, ident, listed_in, in_table, is_mark, mark_comes, within, turns, turns_from}
use Rattle.rt_syntax_exprs.specs.declared.limits.Context.{Context}
use Rattle.rt_syntax_exprs.specs.ExpressionParser.{link_comes}
use Rattle.rt_bricks.specs.declared.tree.Sign.{Sign}
use Rattle.rt_bricks.specs.declared.tree.Parenthesized.{Parenthesized}
use Rattle.rt_bricks.specs.declared.tree.Selector.{Selector}
use Rattle.rt_bricks.specs.declared.tree.Selector.TheVariants as selector
use Rattle.rt_bricks.specs.declared.tree.Start.{Start}
use Rattle.rt_bricks.specs.declared.tree.Start.TheVariants as s
use Rattle.rt_bricks.specs.Tables.{sign_of}

unfoldable pub parenthesized : Context → ℕ → Parser Parenthesized
parenthesized c levels = do
  at ← here c.total
  _ ← within levels (mark m.Open)
  n ← number
  _ ← mark m.Close
  pure (record { number = n; at = at })

unfoldable pub any_copies : Context → ℕ → Parser (Option Parenthesized)
any_copies c levels = optional (is_mark m.Open) (parenthesized c levels)

unfoldable pub any_sign : Parser (Option Sign)
any_sign = optional (in_table sign_of) (listed_in sign_of)

unfoldable pub numeral : Context → ℕ → Parser Start
numeral c levels = do
  at ← here c.total
  sign ← any_sign
  n ← number
  copies ← any_copies c levels
  pure (s.Number sign n copies at)

unfoldable pub string : Context → Parser Start
string c = do
  at ← here c.total
  bytes ← text
  pure (s.Text bytes at)

unfoldable pub dot : Context → Parser Selector
dot c = do
  at ← here c.total
  _ ← mark m.Dot
  n ← ident c.total
  pure (selector.Dot n at)

unfoldable pub subscript : Context → ℕ → Parser Selector
subscript c levels = do
  n ← parenthesized c levels
  pure (selector.Subscript n)

abbrev pub selector_by : Context → ℕ → Next → Parser Selector
selector_by c levels (next.Mark m.Dot) = dot c
selector_by c levels _ = subscript c levels

unfoldable pub selector_of : Context → ℕ → Parser Selector
selector_of c levels = by_next (selector_by c levels)

-- what more comes of a list, in at most n turns, and so for the lines below
abbrev pub more_selectors : Context → ℕ → ℕ → List Selector → Parser (List Selector)
more_selectors c levels n all = turns_from n link_comes push (selector_of c levels) all

unfoldable pub selectors : Context → ℕ → Parser (List Selector)
selectors c levels = turns link_comes push (selector_of c levels) []

unfoldable pub place : Context → ℕ → Parser Start
place c levels = do
  n ← ident c.total
  all ← selectors c levels
  pure (s.Place n all)

module _ (c : Context) (levels : ℕ) (inner : Parser Start) where
  unfoldable pub next_start : Parser Start
  next_start = do _ ← mark m.Comma; inner

  abbrev pub more_starts : ℕ → List Start → Parser (List Start)
  more_starts n all = turns_from n (mark_comes m.Comma) push next_start all

  unfoldable pub listed : Parser (List Start)
  listed = do
    first ← inner
    turns (mark_comes m.Comma) push next_start (first ∷ [])

  unfoldable pub list : Parser Start
  list = do
    at ← here c.total
    _ ← within levels (mark m.Open)
    all ← listed
    _ ← mark m.Close
    copies ← any_copies c levels
    pure (s.List all copies at)

  abbrev pub start_by : Next → Parser Start
  start_by next.Name = place c levels
  start_by next.Text = string c
  start_by (next.Mark m.Open) = list
  start_by _ = numeral c levels

  unfoldable pub start_of : Parser Start
  start_of = by_next start_by

unfoldable pub inside : Context → ℕ → Parser Start
inside c zero = refuse
inside c (suc levels) = start_of c levels (inside c levels)

unfoldable pub start : Context → Parser Start
start c = start_of c c.limits.parentheses (inside c c.limits.parentheses)
