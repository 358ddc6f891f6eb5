-- The parsers of declarations as functions, which decide by what comes next.
use Rattle.std.specs.Prelude.{ℕ, ◌-◌, Bool, true, false, List, [], ◌∷◌, length, Option, Some, None}
use Rattle.rt_pieces.specs.declared.item.Item.{Item}
use Rattle.rt_pieces.specs.declared.item.Mark.TheVariants as m
use Rattle.rt_pieces.specs.declared.item.Word.{Word}
use Rattle.rt_pieces.specs.declared.item.Word.TheVariants as w
use Rattle.rt_grammar.specs.declared.at.At.{At}
use Rattle.rt_grammar.specs.declared.next.Next.{Next}
use Rattle.rt_grammar.specs.declared.next.Next.TheVariants as next
use Rattle.rt_grammar.specs.Parts.{next_of, push}
use Rattle.rt_grammar.specs.Parsing.{Parser, ◌>>=◌, pure, here, by_next, choose, optional, starting, mark, word, number, ident, is_mark, is_word, is_name, mark_comes, within, turns, turns_from}
use Rattle.rt_syntax_exprs.specs.declared.limits.Context.{Context}
use Rattle.rt_syntax_exprs.specs.declared.tree.WrittenMode.{WrittenMode}
use Rattle.rt_syntax_exprs.specs.declared.tree.WrittenMode.TheVariants as written
use Rattle.rt_syntax_exprs.specs.Tables.{begins_result, begins_mode, begins_mode_by_word}
use Rattle.rt_syntax_exprs.specs.ModeParser.{written_mode, procedure}
use Rattle.rt_syntax_exprs.specs.ModeParser.{inside as modes_inside}
use Rattle.rt_syntax.specs.declared.tree.Body.{Body}
use Rattle.rt_syntax.specs.StatementParser.{names, body}
use Rattle.rt_bricks.specs.declared.tree.Fields.{Fields}
use Rattle.rt_bricks.specs.declared.tree.Start.{Start}
use Rattle.rt_bricks.specs.declared.tree.DataItem.{DataItem}
use Rattle.rt_bricks.specs.declared.tree.DataLine.{DataLine}
use Rattle.rt_bricks.specs.declared.tree.Import.{Import}
use Rattle.rt_bricks.specs.declared.tree.Import.TheVariants as import
use Rattle.rt_bricks.specs.declared.tree.Declaration.{Declaration}
use Rattle.rt_bricks.specs.declared.tree.Declaration.TheVariants as d
use Rattle.rt_bricks.specs.declared.fields.Field.{Field}
use Rattle.rt_bricks.specs.declared.fields.Collected.{Collected}
use Rattle.rt_bricks.specs.Declarations.{with_field, all_fields}
use Rattle.rt_bricks.specs.StartParser.{start}

-- ---- fields

-- a name, which is a mode where another name follows
unfoldable pub field_by_name : Context → At → Parser Field
field_by_name c at = do
  n ← ident c.total
  choose is_name (do f ← ident c.total; pure (record { mode = Some (written.Name n); name = f; at = at }))
      (pure (record { mode = None; name = n; at = at }))

-- where so many modes and parentheses may open
module _ (c : Context) (modes parentheses : ℕ) where
  unfoldable pub first_field : Parser Collected
  first_field = do
    at ← here c.total
    md ← written_mode c modes parentheses
    n ← ident c.total
    pure (record { before = []; last = record { mode = md; names = n ∷ []; at = at } })

  unfoldable pub field_by_mode : At → Parser Field
  field_by_mode at = do
    md ← starting begins_mode_by_word (written_mode c modes parentheses)
    n ← ident c.total
    pure (record { mode = Some md; name = n; at = at })

  unfoldable pub next_field : Parser Field
  next_field = do
    _ ← mark m.Comma
    at ← here c.total
    choose is_name (field_by_name c at) (field_by_mode at)

  -- what more comes of a list, in at most n turns, and so for the lines below
  unfoldable pub more_fields : ℕ → Collected → Parser Collected
  more_fields n x = turns_from n (mark_comes m.Comma) with_field next_field x

  unfoldable pub fields : Parser (List Fields)
  fields = do
    first ← first_field
    all ← λ l. more_fields (length l) first l
    pure (all_fields all)

  unfoldable pub fields_up_to : ℕ → Parser (List Fields)
  fields_up_to n = do
    first ← first_field
    all ← more_fields (n - 1) first
    pure (all_fields all)

-- ---- MODE

unfoldable pub record_mode : Context → Parser Declaration
record_mode c = do
  at ← here c.total
  _ ← word w.Mode
  n ← ident c.total
  _ ← within c.limits.parentheses (mark m.Open)
  fs ← fields c c.limits.modes (c.limits.parentheses - 1)
  _ ← mark m.Close
  _ ← mark m.Semicolon
  pure (d.Record (record { name = n; fields = fs; at = at }))

-- ---- bricks of the module

unfoldable pub entry : Parser Bool
entry = choose (is_word w.Ent) (do _ ← word w.Ent; pure true) (pure false)

unfoldable pub own : Context → Parser (At × Bool)
own c = do
  at ← here c.total
  ent ← entry
  pure (at, ent)

unfoldable pub mode : Context → Parser WrittenMode
mode c = written_mode c c.limits.modes c.limits.parentheses

unfoldable pub any_start : Context → Parser (Option Start)
any_start c = optional (is_mark m.Becomes) (do _ ← mark m.Becomes; start c)

unfoldable pub data_item : Context → Parser DataItem
data_item c = do
  n ← ident c.total
  st ← any_start c
  pure (record { name = n; start = st })

unfoldable pub next_data_item : Context → Parser DataItem
next_data_item c = do _ ← mark m.Comma; data_item c

abbrev pub more_data_items : Context → ℕ → List DataItem → Parser (List DataItem)
more_data_items c n all = turns_from n (mark_comes m.Comma) push (next_data_item c) all

unfoldable pub data_items : Context → Parser (List DataItem)
data_items c = do
  first ← data_item c
  turns (mark_comes m.Comma) push (next_data_item c) (first ∷ [])

unfoldable pub data_line : Context → Parser DataLine
data_line c = do
  at ← here c.total
  md ← mode c
  all ← data_items c
  _ ← mark m.Semicolon
  pure (record { mode = md; items = all; at = at })

abbrev pub mode_comes : List Item → Bool
mode_comes l = begins_mode (next_of l)

abbrev pub more_data_lines : Context → ℕ → List DataLine → Parser (List DataLine)
more_data_lines c n all = turns_from n mode_comes push (data_line c) all

unfoldable pub data_lines : Context → Parser (List DataLine)
data_lines c = turns mode_comes push (data_line c) []

unfoldable pub data_brick : Context → At × Bool → Parser Declaration
data_brick c x = do
  _ ← word w.Data
  n ← ident c.total
  _ ← mark m.Semicolon
  ls ← data_lines c
  _ ← word w.EndData
  _ ← mark m.Semicolon
  pure (d.Data (record { entry = x.1; name = n; lines = ls; at = x.0 }))

unfoldable pub stack_brick : Context → At × Bool → Parser Declaration
stack_brick c x = do
  _ ← word w.Stack
  n ← ident c.total
  words ← number
  _ ← mark m.Semicolon
  pure (d.Stack (record { entry = x.1; name = n; length = words; at = x.0 }))

unfoldable pub any_parameters : Context → Parser (List Fields)
any_parameters c = choose begins_mode (fields_up_to c (c.limits.modes - 1) (c.limits.parentheses - 1) c.limits.parameters) (pure [])

unfoldable pub parameters : Context → Parser (List Fields)
parameters c = do
  _ ← within c.limits.parentheses (mark m.Open)
  fs ← any_parameters c
  _ ← mark m.Close
  pure fs

unfoldable pub answer : Context → Parser WrittenMode
answer c = starting begins_result (written_mode c (c.limits.modes - 1) c.limits.parentheses)

unfoldable pub any_answer : Context → Parser (Option WrittenMode)
any_answer c = optional begins_result (answer c)

unfoldable pub closing : Context → Parser (Body × At)
closing c = do
  _ ← mark m.Semicolon
  b ← body c
  at ← here c.total
  _ ← word w.EndProc
  _ ← mark m.Semicolon
  pure (b, at)

unfoldable pub result_first : Context → At × Bool → At → Parser Declaration
result_first c x at = do
  r ← answer c
  n ← ident c.total
  fs ← parameters c
  b ← closing c
  pure (d.Procedure (record { entry = x.1; name = n; fields = fs; result = Some r; body = b.0; opens = at; ends = b.1; at = x.0 }))

unfoldable pub name_first : Context → At × Bool → At → Parser Declaration
name_first c x at = do
  n ← ident c.total
  fs ← parameters c
  r ← any_answer c
  b ← closing c
  pure (d.Procedure (record { entry = x.1; name = n; fields = fs; result = r; body = b.0; opens = at; ends = b.1; at = x.0 }))

unfoldable pub opens : Context → Parser At
opens c = do
  at ← here c.total
  _ ← within c.limits.modes (word w.Proc)
  pure at

unfoldable pub procedure_brick : Context → At × Bool → Parser Declaration
procedure_brick c x = do
  at ← opens c
  choose begins_result (result_first c x at) (name_first c x at)

abbrev pub own_by : Context → At × Bool → Next → Parser Declaration
own_by c x (next.Word w.Data) = data_brick c x
own_by c x (next.Word w.Stack) = stack_brick c x
own_by c x _ = procedure_brick c x

unfoldable pub own_brick : Context → Parser Declaration
own_brick c = do
  x ← own c
  by_next (own_by c x)

-- ---- bricks of other modules

unfoldable pub at_word : Context → Word → Parser At
at_word c k = do
  at ← here c.total
  _ ← word k
  pure at

unfoldable pub imported_procedures : Context → Import → At → Parser Declaration
imported_procedures c from at = do
  md ← procedure c c.limits.modes c.limits.parentheses (modes_inside c c.limits.modes)
  ns ← names c
  _ ← mark m.Semicolon
  pure (d.ImportedProcedures (record { import = from; mode = md; names = ns; at = at }))

unfoldable pub imported_line : Context → Parser Fields
imported_line c = do
  at ← here c.total
  md ← mode c
  ns ← names c
  _ ← mark m.Semicolon
  pure (record { mode = md; names = ns; at = at })

abbrev pub more_imported_lines : Context → ℕ → List Fields → Parser (List Fields)
more_imported_lines c n all = turns_from n mode_comes push (imported_line c) all

unfoldable pub imported_lines : Context → Parser (List Fields)
imported_lines c = turns mode_comes push (imported_line c) []

unfoldable pub imported_data : Context → Import → At → Parser Declaration
imported_data c from at = do
  _ ← word w.Data
  n ← ident c.total
  _ ← mark m.Semicolon
  ls ← imported_lines c
  _ ← word w.EndData
  _ ← mark m.Semicolon
  pure (d.ImportedData (record { import = from; name = n; lines = ls; at = at }))

unfoldable pub imported_stacks : Context → At → Parser Declaration
imported_stacks c at = do
  _ ← word w.Stack
  ns ← names c
  _ ← mark m.Semicolon
  pure (d.ImportedStacks (record { names = ns; at = at }))

abbrev pub external_by : Context → At → Next → Parser Declaration
external_by c at (next.Word w.Proc) = imported_procedures c import.External at
external_by c at (next.Word w.Data) = imported_data c import.External at
external_by c at _ = imported_stacks c at

unfoldable pub external_bricks : Context → Parser Declaration
external_bricks c = do
  at ← at_word c w.Ext
  by_next (external_by c at)

unfoldable pub service_bricks : Context → Parser Declaration
service_bricks c = do
  at ← at_word c w.Svc
  choose (is_word w.Proc) (imported_procedures c import.Service at) (imported_data c import.Service at)

-- ---- the lines

abbrev pub declaration_by : Context → Next → Parser Declaration
declaration_by c (next.Word w.Mode) = record_mode c
declaration_by c (next.Word w.Ext) = external_bricks c
declaration_by c (next.Word w.Svc) = service_bricks c
declaration_by c _ = own_brick c

unfoldable pub declaration : Context → Parser Declaration
declaration c = by_next (declaration_by c)
