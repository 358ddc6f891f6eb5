-- The grammar of statements and bodies, one part for each line.
use Rattle.std.specs.Prelude.{ℕ, zero, suc, List, [], ◌∷◌, Option, Some, None}
use Rattle.rt_pieces.specs.declared.item.Mark.TheVariants as m
use Rattle.rt_pieces.specs.declared.item.Word.TheVariants as w
use Rattle.rt_grammar.specs.declared.at.Ident.{Ident}
use Rattle.rt_grammar.specs.Parts.{Part, nothing, never, either, ◌>>=◌, optional, turns, within, here, mark, word, ident, label, push}
use Rattle.rt_syntax_exprs.specs.declared.limits.Context.{Context}
use Rattle.rt_syntax_exprs.specs.declared.tree.Expr.{Expr}
use Rattle.rt_syntax.specs.declared.tree.Local.{Local}
use Rattle.rt_syntax.specs.declared.tree.Locals.{Locals}
use Rattle.rt_syntax.specs.declared.tree.Control.{Control}
use Rattle.rt_syntax.specs.declared.tree.Branch.{Branch, roll-Branch}
use Rattle.rt_syntax.specs.declared.tree.Simple.{Simple}
use Rattle.rt_syntax.specs.declared.tree.Simple.TheVariants as s
use Rattle.rt_syntax.specs.declared.tree.Stmt.{Stmt, roll-Stmt}
use Rattle.rt_syntax.specs.declared.tree.Body.{Body, roll-Body}
use Rattle.rt_syntax_exprs.specs.Expressions.{expression, place, condition}
use Rattle.rt_syntax_exprs.specs.Modes.{mode_by_word}

-- := expr
abbrev pub becomes : Context → Part Expr
becomes c = do _ ← mark m.Becomes; expression c

-- name [:= expr]
abbrev pub local : Context → Part Local
local c = do
  n ← ident c.total
  start ← optional (becomes c)
  nothing (record { name = n; start = start })

-- name [:= expr] {, name [:= expr]}
abbrev pub local_list : Context → Part (List Local)
local_list c = do
  first ← local c
  turns push (first ∷ []) (do _ ← mark m.Comma; local c)

-- mode name [:= expr] {, name [:= expr]} ;
abbrev pub locals : Context → Part Locals
locals c = do
  at ← here c.total
  mode ← mode_by_word c
  all ← local_list c
  _ ← mark m.Semicolon
  nothing (record { mode = mode; names = all; at = at })

-- chain [:= expr]
abbrev pub chained : Context → Part Simple
chained c = do
  at ← here c.total
  to ← place c
  either (do a ← becomes c; nothing (s.Assign to a at)) (nothing (s.Call to))

-- VAL chain := expr
abbrev pub assignment_by_val : Context → Part Simple
assignment_by_val c = do
  at ← here c.total
  _ ← word w.Val
  to ← place c
  a ← becomes c
  nothing (s.AssignVal to a at)

-- GOTO name
abbrev pub jump : Context → Part Simple
jump c = do
  at ← here c.total
  _ ← word w.Goto
  n ← ident c.total
  nothing (s.Goto n at)

-- RETURN [expr]
abbrev pub returned : Context → Part Simple
returned c = do
  at ← here c.total
  _ ← word w.Return
  a ← optional (expression c)
  nothing (s.Return a at)

-- name {, name}
abbrev pub names : Context → Part (List Ident)
names c = do
  first ← ident c.total
  turns push (first ∷ []) (do _ ← mark m.Comma; ident c.total)

-- SWITCH expr OF name {, name}
abbrev pub switch : Context → Part Simple
switch c = do
  at ← here c.total
  _ ← word w.Switch
  a ← expression c
  _ ← word w.Of
  ns ← names c
  nothing (s.Switch a ns at)

-- So many more statements may open, here and below.
-- FOR name := expr [BY expr]
abbrev pub control : Context → ℕ → Part Control
control c levels = do
  at ← here c.total
  _ ← within levels (word w.For)
  n ← ident c.total
  start ← becomes c
  step ← optional (do _ ← word w.By; expression c)
  nothing (record { name = n; start = start; step = step; at = at })

-- FOR name := expr [BY expr] TO, or TO alone
abbrev pub loop_head : Context → ℕ → Part (Option Control)
loop_head c levels = either
    (do k ← control c levels; _ ← word w.To; nothing (Some k))
    (do _ ← within levels (word w.To); nothing None)

-- inner is a sequence that stands in one of these.
module _ (c : Context) (levels : ℕ) (inner : Part (List Stmt)) where
  -- {mode name [:= expr] {, name [:= expr]} ;} sequence
  abbrev pub body_of : Part Body
  body_of = do
    at ← here c.total
    ls ← turns push [] (locals c)
    ss ← inner
    nothing (roll-Body (record { locals = ls; statements = ss; at = at }))

  -- BLOCK body ENDBLOCK
  abbrev pub block : Part Simple
  block = do
    at ← here c.total
    _ ← within levels (word w.Block)
    b ← body_of
    _ ← word w.EndBlock
    nothing (s.Block b at)

  -- IF or ELSEIF, cond THEN sequence
  abbrev pub branch : Part (Unit {0}) → Part Branch
  branch first = do
    at ← here c.total
    _ ← first
    test ← condition c
    _ ← word w.Then
    taken ← inner
    nothing (roll-Branch (record { test = test; taken = taken; at = at }))

  -- ELSE sequence
  abbrev pub otherwise : Part (List Stmt)
  otherwise = do _ ← word w.Else; inner

  -- IF cond THEN sequence {ELSEIF cond THEN sequence}
  abbrev pub branches : Part (List Branch)
  branches = do
    first ← branch (within levels (word w.If))
    turns push (first ∷ []) (branch (word w.ElseIf))

  -- IF cond THEN sequence {ELSEIF cond THEN sequence} [ELSE sequence] END
  abbrev pub conditional : Part Simple
  conditional = do
    at ← here c.total
    all ← branches
    other ← optional otherwise
    _ ← word w.End
    nothing (s.If all other at)

  -- [FOR name := expr [BY expr]] TO expr DO sequence REP
  abbrev pub for_loop : Part Simple
  for_loop = do
    at ← here c.total
    k ← loop_head c levels
    limit ← expression c
    _ ← word w.Do
    ss ← inner
    _ ← word w.Rep
    nothing (s.For k limit ss at)

  -- WHILE cond DO sequence REP
  abbrev pub while_loop : Part Simple
  while_loop = do
    at ← here c.total
    _ ← within levels (word w.While)
    test ← condition c
    _ ← word w.Do
    ss ← inner
    _ ← word w.Rep
    nothing (s.While test ss at)

  abbrev pub simple : Part Simple
  simple = either (chained c) (either (assignment_by_val c) (either (jump c) (either (returned c) (either (switch c)
      (either block (either conditional (either while_loop for_loop)))))))

  -- {name :} [simple]
  abbrev pub statement : Part Stmt
  statement = do
    at ← here c.total
    ls ← turns push [] (label c.total)
    it ← optional simple
    nothing (roll-Stmt (record { labels = ls; simple = it; at = at }))

  -- statement {; statement}
  abbrev pub sequence_of : Part (List Stmt)
  sequence_of = do
    first ← statement
    turns push (first ∷ []) (do _ ← mark m.Semicolon; statement)

-- a sequence in which fewer than so many statements open
unfoldable pub inside : Context → ℕ → Part (List Stmt)
inside c zero = never
inside c (suc levels) = sequence_of c levels (inside c levels)

-- sequence
abbrev pub sequence : Context → Part (List Stmt)
sequence c = sequence_of c c.limits.statements (inside c c.limits.statements)

-- body
abbrev pub body : Context → Part Body
body c = body_of c c.limits.statements (sequence c)

-- the word that ends a body
abbrev pub ending : Part (Unit {0})
ending = either (word w.EndProc) (word w.EndBlock)

-- a body and the word that ends it
abbrev pub closed : Context → Part Body
closed c = do
  b ← body c
  _ ← ending
  nothing b
