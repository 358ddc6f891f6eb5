-- The grammar of starts, one part for each line.
use Rattle.std.specs.Prelude.{ℕ, zero, suc, List, [], ◌∷◌}
use Rattle.rt_pieces.specs.declared.item.Mark.TheVariants as m
use Rattle.rt_grammar.specs.Parts.{Part, nothing, never, either, ◌>>=◌, optional, turns, within, here, mark, number, text, ident, listed_in, push}
use Rattle.rt_syntax_exprs.specs.declared.limits.Context.{Context}
use Rattle.rt_bricks.specs.declared.tree.Parenthesized.{Parenthesized}
use Rattle.rt_bricks.specs.declared.tree.Selector.{Selector}
use Rattle.rt_bricks.specs.declared.tree.Selector.TheVariants as selector
use Rattle.rt_bricks.specs.declared.tree.Start.{Start}
use Rattle.rt_bricks.specs.declared.tree.Start.TheVariants as s
use Rattle.rt_bricks.specs.Tables.{sign_of}

-- So many more parentheses may open, here and below.
-- ( number )
abbrev pub parenthesized : Context → ℕ → Part Parenthesized
parenthesized c levels = do
  at ← here c.total
  _ ← within levels (mark m.Open)
  n ← number
  _ ← mark m.Close
  nothing (record { number = n; at = at })

-- [+ | -] number [( number )]
abbrev pub numeral : Context → ℕ → Part Start
numeral c levels = do
  at ← here c.total
  sign ← optional (listed_in sign_of)
  n ← number
  copies ← optional (parenthesized c levels)
  nothing (s.Number sign n copies at)

-- string
abbrev pub string : Context → Part Start
string c = do
  at ← here c.total
  bytes ← text
  nothing (s.Text bytes at)

-- . name
abbrev pub dot : Context → Part Selector
dot c = do
  at ← here c.total
  _ ← mark m.Dot
  n ← ident c.total
  nothing (selector.Dot n at)

-- ( number ), as a subscript
abbrev pub subscript : Context → ℕ → Part Selector
subscript c levels = do
  n ← parenthesized c levels
  nothing (selector.Subscript n)

-- name {. name | ( number )}
abbrev pub place : Context → ℕ → Part Start
place c levels = do
  n ← ident c.total
  selectors ← turns push [] (either (dot c) (subscript c levels))
  nothing (s.Place n selectors)

-- inner is a start that stands in parentheses.
module _ (c : Context) (levels : ℕ) (inner : Part Start) where
  -- start {, start}
  abbrev pub listed : Part (List Start)
  listed = do
    first ← inner
    turns push (first ∷ []) (do _ ← mark m.Comma; inner)

  -- ( start {, start} ) [( number )]
  abbrev pub list : Part Start
  list = do
    at ← here c.total
    _ ← within levels (mark m.Open)
    all ← listed
    _ ← mark m.Close
    copies ← optional (parenthesized c levels)
    nothing (s.List all copies at)

  abbrev pub start_of : Part Start
  start_of = either (place c levels) (either (string c) (either list (numeral c levels)))

-- a start in which fewer than so many parentheses open
unfoldable pub inside : Context → ℕ → Part Start
inside c zero = never
inside c (suc levels) = start_of c levels (inside c levels)

-- start
abbrev pub start : Context → Part Start
start c = start_of c c.limits.parentheses (inside c c.limits.parentheses)
