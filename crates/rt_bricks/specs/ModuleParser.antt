-- The parsers of modules as functions, which decide by what comes next.
use Rattle.std.specs.Prelude.{ℕ, Bool, List, []}
use Rattle.rt_pieces.specs.declared.item.Item.{Item}
use Rattle.rt_pieces.specs.declared.item.Mark.TheVariants as m
use Rattle.rt_pieces.specs.declared.item.Word.TheVariants as w
use Rattle.rt_grammar.specs.Parts.{next_of, push}
use Rattle.rt_grammar.specs.Parsing.{Parser, ◌>>=◌, pure, here, mark, word, number, ident, listed_in, in_table, mark_comes, word_comes, within, turns, turns_from}
use Rattle.rt_syntax_exprs.specs.declared.limits.Context.{Context}
use Rattle.rt_bricks.specs.declared.tree.Declaration.{Declaration}
use Rattle.rt_bricks.specs.declared.tree.Module.{Module}
use Rattle.rt_bricks.specs.Tables.{but_semicolon, begins_declaration}
use Rattle.rt_bricks.specs.DeclarationParser.{declaration}

abbrev pub no_step : Unit {0} → Unit {0} → Unit {0}
no_step _ _ = tt

abbrev pub but_semicolon_comes : List Item → Bool
but_semicolon_comes l = in_table but_semicolon (next_of l)

-- what more is skipped, in at most n turns, and so for the lines below
abbrev pub skip_more : ℕ → Parser (Unit {0})
skip_more n = turns_from n but_semicolon_comes no_step (listed_in but_semicolon) tt

abbrev pub semicolon : Unit {0} → Parser (Unit {0})
semicolon _ = mark m.Semicolon

unfoldable pub to_semicolon : Parser (Unit {0})
to_semicolon = turns but_semicolon_comes no_step (listed_in but_semicolon) tt >>= semicolon

unfoldable pub next_number : Parser (Unit {0})
next_number = do
  _ ← mark m.Comma
  _ ← number
  pure tt

abbrev pub more_numbers : ℕ → Parser (Unit {0})
more_numbers n = turns_from n (mark_comes m.Comma) no_step next_number tt

unfoldable pub numbers : Parser (Unit {0})
numbers = do
  _ ← number
  turns (mark_comes m.Comma) no_step next_number tt

unfoldable pub option : Context → Parser (Unit {0})
option c = do
  _ ← word w.Option
  _ ← within c.limits.parentheses (mark m.Open)
  _ ← numbers
  _ ← mark m.Close
  to_semicolon

abbrev pub more_options : Context → ℕ → Parser (Unit {0})
more_options c n = turns_from n (word_comes w.Option) no_step (option c) tt

unfoldable pub options : Context → Parser (Unit {0})
options c = turns (word_comes w.Option) no_step (option c) tt

abbrev pub declaration_comes : List Item → Bool
declaration_comes l = begins_declaration (next_of l)

abbrev pub more_declarations : Context → ℕ → List Declaration → Parser (List Declaration)
more_declarations c n all = turns_from n declaration_comes push (declaration c) all

unfoldable pub declarations : Context → Parser (List Declaration)
declarations c = turns declaration_comes push (declaration c) []

unfoldable pub module_of : Context → Parser Module
module_of c = do
  at ← here c.total
  _ ← word w.Title
  n ← ident c.total
  _ ← to_semicolon
  _ ← options c
  ds ← declarations c
  pure (record { title = n.name; title_at = n.at; declarations = ds; at = at })
