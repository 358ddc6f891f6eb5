-- The grammar of modules, one part for each line.
use Rattle.std.specs.Prelude.{[]}
use Rattle.rt_pieces.specs.declared.item.Mark.TheVariants as m
use Rattle.rt_pieces.specs.declared.item.Word.TheVariants as w
use Rattle.rt_grammar.specs.Parts.{Part, nothing, ◌>>=◌, turns, within, here, mark, word, number, ident, listed_in, push}
use Rattle.rt_syntax_exprs.specs.declared.limits.Context.{Context}
use Rattle.rt_bricks.specs.declared.tree.Module.{Module}
use Rattle.rt_bricks.specs.Tables.{but_semicolon}
use Rattle.rt_bricks.specs.Declarations.{declaration}

-- a part any number of times, which leaves nothing
abbrev pub skipped : Part (Unit {0}) → Part (Unit {0})
skipped p = turns (λ _ _. tt) tt p

-- {item but ;} ;
abbrev pub to_semicolon : Part (Unit {0})
to_semicolon = do
  _ ← skipped (listed_in but_semicolon)
  mark m.Semicolon

-- number {, number}
abbrev pub numbers : Part (Unit {0})
numbers = do
  _ ← number
  skipped (do _ ← mark m.Comma; _ ← number; nothing tt)

-- OPTION ( number {, number} ) {item but ;} ;
abbrev pub option : Context → Part (Unit {0})
option c = do
  _ ← word w.Option
  _ ← within c.limits.parentheses (mark m.Open)
  _ ← numbers
  _ ← mark m.Close
  to_semicolon

-- TITLE name {item but ;} ; {OPTION ( number {, number} ) {item but ;} ;} {decl}
abbrev pub module_of : Context → Part Module
module_of c = do
  at ← here c.total
  _ ← word w.Title
  n ← ident c.total
  _ ← to_semicolon
  _ ← skipped (option c)
  ds ← turns push [] (declaration c)
  nothing (record { title = n.name; title_at = n.at; declarations = ds; at = at })
