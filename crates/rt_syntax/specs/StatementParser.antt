-- The parsers of statements and bodies as functions, which decide by what comes next.
use Rattle.std.specs.Prelude.{ℕ, zero, suc, Bool, List, [], ◌∷◌, Option, Some, None, Result, Ok, Err}
use Rattle.rt_pieces.specs.declared.item.Item.{Item}
use Rattle.rt_pieces.specs.declared.item.Mark.TheVariants as m
use Rattle.rt_pieces.specs.declared.item.Word.{Word}
use Rattle.rt_pieces.specs.declared.item.Word.TheVariants as w
use Rattle.rt_grammar.specs.declared.at.At.{At}
use Rattle.rt_grammar.specs.declared.at.Ident.{Ident}
use Rattle.rt_grammar.specs.declared.next.Next.{Next}
use Rattle.rt_grammar.specs.declared.next.Next.TheVariants as next
use Rattle.rt_grammar.specs.Parts.{next_of, push}
use Rattle.rt_grammar.specs.Parsing.{Parser, ◌>>=◌, pure, refuse, here, by_next, choose, optional, mark, word, ident, label, label_comes, is_word, is_mark, mark_comes, word_comes, within, turns, turns_from}
use Rattle.rt_syntax_exprs.specs.declared.limits.Context.{Context}
use Rattle.rt_syntax_exprs.specs.declared.tree.Expr.{Expr}
use Rattle.rt_syntax_exprs.specs.declared.tree.Chain.{Chain}
use Rattle.rt_syntax_exprs.specs.declared.tree.Cond.{Cond}
use Rattle.rt_syntax.specs.declared.tree.Local.{Local}
use Rattle.rt_syntax.specs.declared.tree.Locals.{Locals}
use Rattle.rt_syntax.specs.declared.tree.Control.{Control}
use Rattle.rt_syntax.specs.declared.tree.Branch.{Branch, roll-Branch}
use Rattle.rt_syntax.specs.declared.tree.Simple.{Simple}
use Rattle.rt_syntax.specs.declared.tree.Simple.TheVariants as s
use Rattle.rt_syntax.specs.declared.tree.Stmt.{Stmt, roll-Stmt}
use Rattle.rt_syntax.specs.declared.tree.Body.{Body, roll-Body}
use Rattle.rt_syntax_exprs.specs.Tables.{begins_expression, begins_mode_by_word}
use Rattle.rt_syntax.specs.Tables.{begins_simple}
use Rattle.rt_syntax_exprs.specs.ExpressionParser.{expression, place, condition}
use Rattle.rt_syntax_exprs.specs.ModeParser.{mode_by_word}

-- what was read, and a word behind it
abbrev pub up_to : {A : Type 0} → Word → A → Parser A
up_to w a = do _ ← word w; pure a

-- what was read before, and what was read behind it
abbrev pub beside : {A B C E : Type 0} → A → Result (B × C) E → Result ((A × B) × C) E
beside a (Ok x) = Ok ((a, x.0), x.1)
beside a (Err e) = Err e

unfoldable pub becomes : Context → Parser Expr
becomes c = do _ ← mark m.Becomes; expression c

unfoldable pub any_start : Context → Parser (Option Expr)
any_start c = optional (is_mark m.Becomes) (becomes c)

unfoldable pub local : Context → Parser Local
local c = do
  n ← ident c.total
  start ← any_start c
  pure (record { name = n; start = start })

unfoldable pub next_local : Context → Parser Local
next_local c = do _ ← mark m.Comma; local c

-- what more comes of a list, in at most n turns, and so for the lines below
abbrev pub more_locals : Context → ℕ → List Local → Parser (List Local)
more_locals c n ls = turns_from n (mark_comes m.Comma) push (next_local c) ls

unfoldable pub local_list : Context → Parser (List Local)
local_list c = do
  first ← local c
  turns (mark_comes m.Comma) push (next_local c) (first ∷ [])

unfoldable pub locals : Context → Parser Locals
locals c = do
  at ← here c.total
  mode ← mode_by_word c
  all ← local_list c
  _ ← mark m.Semicolon
  pure (record { mode = mode; names = all; at = at })

abbrev pub locals_come : List Item → Bool
locals_come l = begins_mode_by_word (next_of l)

abbrev pub more_declarations : Context → ℕ → List Locals → Parser (List Locals)
more_declarations c n ls = turns_from n locals_come push (locals c) ls

unfoldable pub declarations : Context → Parser (List Locals)
declarations c = turns locals_come push (locals c) []

unfoldable pub assigned : Context → At → Chain → Parser Simple
assigned c at to = do
  a ← becomes c
  pure (s.Assign to a at)

unfoldable pub chained : Context → Parser Simple
chained c = do
  at ← here c.total
  to ← place c
  choose (is_mark m.Becomes) (assigned c at to) (pure (s.Call to))

unfoldable pub assignment_by_val : Context → Parser Simple
assignment_by_val c = do
  at ← here c.total
  _ ← word w.Val
  to ← place c
  a ← becomes c
  pure (s.AssignVal to a at)

unfoldable pub jump : Context → Parser Simple
jump c = do
  at ← here c.total
  _ ← word w.Goto
  n ← ident c.total
  pure (s.Goto n at)

unfoldable pub any_expression : Context → Parser (Option Expr)
any_expression c = optional begins_expression (expression c)

unfoldable pub returned : Context → Parser Simple
returned c = do
  at ← here c.total
  _ ← word w.Return
  a ← any_expression c
  pure (s.Return a at)

unfoldable pub next_name : Context → Parser Ident
next_name c = do _ ← mark m.Comma; ident c.total

abbrev pub more_names : Context → ℕ → List Ident → Parser (List Ident)
more_names c n ns = turns_from n (mark_comes m.Comma) push (next_name c) ns

unfoldable pub names : Context → Parser (List Ident)
names c = do
  first ← ident c.total
  turns (mark_comes m.Comma) push (next_name c) (first ∷ [])

unfoldable pub switch : Context → Parser Simple
switch c = do
  at ← here c.total
  _ ← word w.Switch
  a ← expression c
  _ ← word w.Of
  ns ← names c
  pure (s.Switch a ns at)

unfoldable pub any_step : Context → Parser (Option Expr)
any_step c = optional (is_word w.By) (do _ ← word w.By; expression c)

-- a body of these declarations and statements
abbrev pub body_as : At → List Locals → List Stmt → Body
body_as at ls ss = roll-Body (record { locals = ls; statements = ss; at = at })

abbrev pub branch_as : Cond → List Stmt → At → Branch
branch_as test taken at = roll-Branch (record { test = test; taken = taken; at = at })

abbrev pub stmt_as : List Ident → Option Simple → At → Stmt
stmt_as ls it at = roll-Stmt (record { labels = ls; simple = it; at = at })

abbrev pub more_labels : Context → ℕ → List Ident → Parser (List Ident)
more_labels c n ls = turns_from n label_comes push (label c.total) ls

unfoldable pub labels : Context → Parser (List Ident)
labels c = turns label_comes push (label c.total) []

unfoldable pub control : Context → ℕ → Parser Control
control c levels = do
  at ← here c.total
  _ ← within levels (word w.For)
  n ← ident c.total
  start ← becomes c
  step ← any_step c
  pure (record { name = n; start = start; step = step; at = at })

unfoldable pub control_head : Context → ℕ → Parser (Option Control)
control_head c levels = do
  k ← control c levels
  _ ← word w.To
  pure (Some k)

unfoldable pub to_head : ℕ → Parser (Option Control)
to_head levels = do
  _ ← within levels (word w.To)
  pure None

unfoldable pub loop_head : Context → ℕ → Parser (Option Control)
loop_head c levels = choose (is_word w.For) (control_head c levels) (to_head levels)

-- what of a loop stands before what it repeats
unfoldable pub for_head : Context → ℕ → Parser (Option Control × Expr)
for_head c levels = do
  k ← loop_head c levels
  limit ← expression c
  _ ← word w.Do
  pure (k, limit)

unfoldable pub condition_up_to : Context → Word → Parser Cond
condition_up_to c w = do
  test ← condition c
  up_to w test

module _ (c : Context) (levels : ℕ) (inner : Parser (List Stmt)) where
  unfoldable pub body_of : Parser Body
  body_of = do
    at ← here c.total
    ls ← declarations c
    ss ← inner
    pure (body_as at ls ss)

  unfoldable pub block : Parser Simple
  block = do
    at ← here c.total
    _ ← within levels (word w.Block)
    b ← body_of
    _ ← word w.EndBlock
    pure (s.Block b at)

  unfoldable pub branch_from : At → Parser Branch
  branch_from at = do
    test ← condition c
    _ ← word w.Then
    taken ← inner
    pure (branch_as test taken at)

  unfoldable pub first_branch : Parser Branch
  first_branch = do
    at ← here c.total
    _ ← within levels (word w.If)
    branch_from at

  unfoldable pub next_branch : Parser Branch
  next_branch = do
    at ← here c.total
    _ ← word w.ElseIf
    branch_from at

  abbrev pub more_branches : ℕ → List Branch → Parser (List Branch)
  more_branches n bs = turns_from n (word_comes w.ElseIf) push next_branch bs

  unfoldable pub branches : Parser (List Branch)
  branches = do
    first ← first_branch
    turns (word_comes w.ElseIf) push next_branch (first ∷ [])

  unfoldable pub any_otherwise : Parser (Option (List Stmt))
  any_otherwise = optional (is_word w.Else) (do _ ← word w.Else; inner)

  unfoldable pub conditional : Parser Simple
  conditional = do
    at ← here c.total
    all ← branches
    other ← any_otherwise
    _ ← word w.End
    pure (s.If all other at)

  unfoldable pub for_loop : Parser Simple
  for_loop = do
    at ← here c.total
    k ← loop_head c levels
    limit ← expression c
    _ ← word w.Do
    ss ← inner
    _ ← word w.Rep
    pure (s.For k limit ss at)

  unfoldable pub while_loop : Parser Simple
  while_loop = do
    at ← here c.total
    _ ← within levels (word w.While)
    test ← condition c
    _ ← word w.Do
    ss ← inner
    _ ← word w.Rep
    pure (s.While test ss at)

  abbrev pub simple_by : Next → Parser Simple
  simple_by next.Name = chained c
  simple_by (next.Word w.Val) = assignment_by_val c
  simple_by (next.Word w.Goto) = jump c
  simple_by (next.Word w.Return) = returned c
  simple_by (next.Word w.Switch) = switch c
  simple_by (next.Word w.Block) = block
  simple_by (next.Word w.If) = conditional
  simple_by (next.Word w.While) = while_loop
  simple_by _ = for_loop

  unfoldable pub simple : Parser Simple
  simple = by_next simple_by

  unfoldable pub any_simple : Parser (Option Simple)
  any_simple = optional begins_simple simple

  -- what a statement is, behind its labels
  unfoldable pub unlabelled : At → List Ident → Parser Stmt
  unlabelled at ls = do
    it ← any_simple
    pure (stmt_as ls it at)

  unfoldable pub statement : Parser Stmt
  statement = do
    at ← here c.total
    ls ← labels c
    unlabelled at ls

  unfoldable pub next_statement : Parser Stmt
  next_statement = do _ ← mark m.Semicolon; statement

  abbrev pub more_statements : ℕ → List Stmt → Parser (List Stmt)
  more_statements n all = turns_from n (mark_comes m.Semicolon) push next_statement all

  unfoldable pub sequence_of : Parser (List Stmt)
  sequence_of = do
    first ← statement
    turns (mark_comes m.Semicolon) push next_statement (first ∷ [])

unfoldable pub inside : Context → ℕ → Parser (List Stmt)
inside c zero = refuse
inside c (suc levels) = sequence_of c levels (inside c levels)

unfoldable pub sequence : Context → Parser (List Stmt)
sequence c = sequence_of c c.limits.statements (inside c c.limits.statements)

unfoldable pub body : Context → Parser Body
body c = body_of c c.limits.statements (sequence c)

unfoldable pub ending : Parser (Unit {0})
ending = choose (is_word w.EndProc) (word w.EndProc) (word w.EndBlock)

unfoldable pub closed : Context → Parser Body
closed c = do
  b ← body c
  _ ← ending
  pure b
