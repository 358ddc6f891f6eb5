-- The parsers of modes as functions, which decide by what comes next.
use Rattle.std.specs.Prelude.{ℕ, zero, suc, ◌-◌, List, [], ◌∷◌, Option}
use Rattle.rt_pieces.specs.declared.item.Mark.TheVariants as m
use Rattle.rt_pieces.specs.declared.item.Word.TheVariants as w
use Rattle.rt_grammar.specs.declared.next.Next.{Next}
use Rattle.rt_grammar.specs.declared.next.Next.TheVariants as next
use Rattle.rt_grammar.specs.declared.at.At.{At}
use Rattle.rt_grammar.specs.Parts.{push}
use Rattle.rt_grammar.specs.Parsing.{Parser, ◌>>=◌, pure, refuse, here, by_next, choose, optional, starting, mark, word, number, ident, listed_in, is_word, mark_comes, within, turns_from}
use Rattle.rt_syntax_exprs.specs.declared.limits.Context.{Context}
use Rattle.rt_syntax_exprs.specs.declared.tree.WrittenMode.{WrittenMode}
use Rattle.rt_syntax_exprs.specs.declared.tree.WrittenMode.TheVariants as mode
use Rattle.rt_syntax_exprs.specs.Tables.{basic_of, begins_result, begins_mode_by_word, begins_mode}

unfoldable pub named : Context → Parser WrittenMode
named c = do
  n ← ident c.total
  pure (mode.Name n)

unfoldable pub basic : Context → Parser WrittenMode
basic c = do
  at ← here c.total
  b ← listed_in basic_of
  pure (mode.Basic b at)

module _ (c : Context) (modes parentheses : ℕ) (inner : ℕ → ℕ → Parser WrittenMode) where
  unfoldable pub array : Parser WrittenMode
  array = do
    at ← here c.total
    _ ← within modes (word w.Array)
    _ ← within parentheses (mark m.Open)
    n ← number
    _ ← mark m.Close
    of ← inner parentheses c.limits.references
    pure (mode.Array n of at)

  unfoldable pub array_reference : At → Parser WrittenMode
  array_reference at = do
    _ ← word w.Array
    of ← inner parentheses c.limits.references
    pure (mode.RefArray of at)

  unfoldable pub parameter : Parser WrittenMode
  parameter = inner (parentheses - 1) c.limits.references

  unfoldable pub next_parameter : Parser WrittenMode
  next_parameter = do _ ← mark m.Comma; parameter

  -- what more comes of the parameters, in at most n turns
  abbrev pub more_parameters : ℕ → List WrittenMode → Parser (List WrittenMode)
  more_parameters n ps = turns_from n (mark_comes m.Comma) push next_parameter ps

  unfoldable pub parameters : Parser (List WrittenMode)
  parameters = do
    first ← parameter
    more_parameters (c.limits.parameters - 1) (first ∷ [])

  unfoldable pub any_parameters : Parser (List WrittenMode)
  any_parameters = choose begins_mode parameters (pure [])

  unfoldable pub result_inside : Parser WrittenMode
  result_inside = starting begins_result (inner parentheses c.limits.references)

  unfoldable pub any_result : Parser (Option WrittenMode)
  any_result = optional begins_result result_inside

  unfoldable pub procedure : Parser WrittenMode
  procedure = do
    at ← here c.total
    _ ← within modes (word w.Proc)
    _ ← within parentheses (mark m.Open)
    ps ← any_parameters
    _ ← mark m.Close
    r ← any_result
    pure (mode.Proc ps r at)

  module _ (references : ℕ) where
    unfoldable pub plain_reference : At → Parser WrittenMode
    plain_reference at = do
      to ← inner parentheses (references - 1)
      pure (mode.Ref to at)

    unfoldable pub reference : Parser WrittenMode
    reference = do
      at ← here c.total
      _ ← within modes (within references (word w.Ref))
      choose (is_word w.Array) (array_reference at) (plain_reference at)

    abbrev pub mode_by : Next → Parser WrittenMode
    mode_by next.Name = named c
    mode_by (next.Word w.Array) = array
    mode_by (next.Word w.Ref) = reference
    mode_by (next.Word w.Proc) = procedure
    mode_by _ = basic c

    unfoldable pub mode_of : Parser WrittenMode
    mode_of = by_next mode_by

unfoldable pub inside : Context → ℕ → ℕ → ℕ → Parser WrittenMode
inside c zero parentheses references = refuse
inside c (suc modes) parentheses references = mode_of c modes parentheses (inside c modes) references

unfoldable pub written_mode : Context → ℕ → ℕ → Parser WrittenMode
written_mode c modes parentheses = mode_of c modes parentheses (inside c modes) c.limits.references

unfoldable pub mode_by_word : Context → Parser WrittenMode
mode_by_word c = starting begins_mode_by_word (written_mode c c.limits.modes c.limits.parentheses)
