-- The grammar of modes, one part for each line.
use Rattle.std.specs.Prelude.{ℕ, zero, suc, ◌-◌, List, [], ◌∷◌}
use Rattle.rt_pieces.specs.declared.item.Mark.TheVariants as m
use Rattle.rt_pieces.specs.declared.item.Word.TheVariants as w
use Rattle.rt_grammar.specs.Parts.{Part, nothing, never, either, ◌>>=◌, optional, up_to, starting, within, here, mark, word, number, ident, listed_in, push}
use Rattle.rt_syntax_exprs.specs.declared.limits.Context.{Context}
use Rattle.rt_syntax_exprs.specs.declared.tree.WrittenMode.{WrittenMode}
use Rattle.rt_syntax_exprs.specs.declared.tree.WrittenMode.TheVariants as mode
use Rattle.rt_syntax_exprs.specs.Tables.{basic_of, begins_result, begins_mode_by_word, is_no_array}

-- a record's name
abbrev pub named : Context → Part WrittenMode
named c = do
  n ← ident c.total
  nothing (mode.Name n)

-- BYTE | INT | FRAC | LABEL
abbrev pub basic : Context → Part WrittenMode
basic c = do
  at ← here c.total
  b ← listed_in basic_of
  nothing (mode.Basic b at)

-- So many more modes and parentheses may open. inner is a mode that stands in this one, with so many
-- parentheses and REF in a row left.
module _ (c : Context) (modes parentheses : ℕ) (inner : ℕ → ℕ → Part WrittenMode) where
  -- ARRAY ( number ) mode
  abbrev pub array : Part WrittenMode
  array = do
    at ← here c.total
    _ ← within modes (word w.Array)
    _ ← within parentheses (mark m.Open)
    n ← number
    _ ← mark m.Close
    of ← inner parentheses c.limits.references
    nothing (mode.Array n of at)

  -- a parameter's mode
  abbrev pub parameter : Part WrittenMode
  parameter = inner (parentheses - 1) c.limits.references

  -- mode {, mode}
  abbrev pub parameters : Part (List WrittenMode)
  parameters = do
    first ← parameter
    up_to (c.limits.parameters - 1) push (first ∷ []) (do _ ← mark m.Comma; parameter)

  -- result
  abbrev pub result_inside : Part WrittenMode
  result_inside = starting begins_result (inner parentheses c.limits.references)

  -- PROC ( [mode {, mode}] ) [result]
  abbrev pub procedure : Part WrittenMode
  procedure = do
    at ← here c.total
    _ ← within modes (word w.Proc)
    _ ← within parentheses (mark m.Open)
    ps ← either parameters (nothing [])
    _ ← mark m.Close
    r ← optional result_inside
    nothing (mode.Proc ps r at)

  -- So many more REF may stand in this row.
  module _ (references : ℕ) where
    -- REF ARRAY mode, or REF and a mode that does not begin with ARRAY
    abbrev pub reference : Part WrittenMode
    reference = do
      at ← here c.total
      _ ← within modes (within references (word w.Ref))
      either
          (do
            _ ← word w.Array
            of ← inner parentheses c.limits.references
            nothing (mode.RefArray of at))
          (do
            to ← starting is_no_array (inner parentheses (references - 1))
            nothing (mode.Ref to at))

    -- name | ARRAY ( number ) mode | LABEL | BYTE | INT | FRAC | REF mode | REF ARRAY mode | procmode
    abbrev pub mode_of : Part WrittenMode
    mode_of = either (named c) (either array (either reference (either procedure (basic c))))

-- a mode in which fewer than so many modes open
unfoldable pub inside : Context → ℕ → ℕ → ℕ → Part WrittenMode
inside c zero parentheses references = never
inside c (suc modes) parentheses references = mode_of c modes parentheses (inside c modes) references

-- mode, where so many modes and parentheses may open
abbrev pub written_mode : Context → ℕ → ℕ → Part WrittenMode
written_mode c modes parentheses = mode_of c modes parentheses (inside c modes) c.limits.references

-- a mode that begins with a reserved word
abbrev pub mode_by_word : Context → Part WrittenMode
mode_by_word c = starting begins_mode_by_word (written_mode c c.limits.modes c.limits.parentheses)
