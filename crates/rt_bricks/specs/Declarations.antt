-- The grammar of declarations, one part for each line.
use Rattle.std.specs.Prelude.{ℕ, ◌-◌, Bool, true, false, List, [], ◌∷◌, Option, Some, None}
use Rattle.rt_pieces.specs.declared.item.Mark.TheVariants as m
use Rattle.rt_pieces.specs.declared.item.Word.{Word}
use Rattle.rt_pieces.specs.declared.item.Word.TheVariants as w
use Rattle.rt_grammar.specs.declared.at.At.{At}
use Rattle.rt_grammar.specs.declared.at.Ident.{Ident}
use Rattle.rt_grammar.specs.Parts.{Part, nothing, either, ◌>>=◌, optional, turns, up_to, starting, within, here, mark, word, number, ident, push}
use Rattle.rt_syntax_exprs.specs.declared.limits.Context.{Context}
use Rattle.rt_syntax_exprs.specs.declared.tree.WrittenMode.{WrittenMode}
use Rattle.rt_syntax_exprs.specs.Tables.{begins_result}
use Rattle.rt_syntax_exprs.specs.Modes.{written_mode, procedure}
use Rattle.rt_syntax_exprs.specs.Modes.{inside as modes_inside}
use Rattle.rt_syntax.specs.declared.tree.Body.{Body}
use Rattle.rt_syntax.specs.Statements.{names, body}
use Rattle.rt_bricks.specs.declared.tree.Fields.{Fields}
use Rattle.rt_bricks.specs.declared.tree.DataItem.{DataItem}
use Rattle.rt_bricks.specs.declared.tree.DataLine.{DataLine}
use Rattle.rt_bricks.specs.declared.tree.Import.{Import}
use Rattle.rt_bricks.specs.declared.tree.Import.TheVariants as import
use Rattle.rt_bricks.specs.declared.tree.Declaration.{Declaration}
use Rattle.rt_bricks.specs.declared.tree.Declaration.TheVariants as d
use Rattle.rt_bricks.specs.declared.fields.Field.{Field}
use Rattle.rt_bricks.specs.declared.fields.Collected.{Collected}
use Rattle.rt_bricks.specs.Starts.{start}

-- ---- fields

-- mode name
abbrev pub first_field : Context → Part WrittenMode → Part Collected
first_field c mode = do
  at ← here c.total
  md ← mode
  n ← ident c.total
  nothing (record { before = []; last = record { mode = md; names = n ∷ []; at = at } })

-- [mode] name
abbrev pub next_field : Context → Part WrittenMode → Part Field
next_field c mode = do
  at ← here c.total
  md ← optional mode
  n ← ident c.total
  nothing (record { mode = md; name = n; at = at })

-- a further name of the last mode, or the first name of another mode
abbrev pub with_name : Collected → Option WrittenMode → Ident → At → Collected
with_name x (Some md) n at = record { before = push x.before x.last; last = record { mode = md; names = n ∷ []; at = at } }
with_name x None n at = record { before = x.before; last = record { mode = x.last.mode; names = push x.last.names n; at = x.last.at } }

abbrev pub with_field : Collected → Field → Collected
with_field x f = with_name x f.mode f.name f.at

abbrev pub all_fields : Collected → List Fields
all_fields x = push x.before x.last

-- mode name {, [mode] name}, which is mode name {, name} {, mode name {, name}}: two names in a row behind
-- a comma are a mode and a name
abbrev pub fields : Context → Part WrittenMode → Part (List Fields)
fields c mode = do
  first ← first_field c mode
  all ← turns with_field first (do _ ← mark m.Comma; next_field c mode)
  nothing (all_fields all)

-- the same, with at most so many names
abbrev pub fields_up_to : Context → ℕ → Part WrittenMode → Part (List Fields)
fields_up_to c n mode = do
  first ← first_field c mode
  all ← up_to (n - 1) with_field first (do _ ← mark m.Comma; next_field c mode)
  nothing (all_fields all)

-- ---- MODE

-- MODE name ( fields ) ;
abbrev pub record_mode : Context → Part Declaration
record_mode c = do
  at ← here c.total
  _ ← word w.Mode
  n ← ident c.total
  _ ← within c.limits.parentheses (mark m.Open)
  fs ← fields c (written_mode c c.limits.modes (c.limits.parentheses - 1))
  _ ← mark m.Close
  _ ← mark m.Semicolon
  nothing (d.Record (record { name = n; fields = fs; at = at }))

-- ---- bricks of the module

-- [ENT], and where it stands
abbrev pub own : Context → Part (At × Bool)
own c = do
  at ← here c.total
  entry ← either (do _ ← word w.Ent; nothing true) (nothing false)
  nothing (at, entry)

-- mode
abbrev pub mode : Context → Part WrittenMode
mode c = written_mode c c.limits.modes c.limits.parentheses

-- name [:= start]
abbrev pub data_item : Context → Part DataItem
data_item c = do
  n ← ident c.total
  st ← optional (do _ ← mark m.Becomes; start c)
  nothing (record { name = n; start = st })

-- name [:= start] {, name [:= start]}
abbrev pub data_items : Context → Part (List DataItem)
data_items c = do
  first ← data_item c
  turns push (first ∷ []) (do _ ← mark m.Comma; data_item c)

-- mode name [:= start] {, name [:= start]} ;
abbrev pub data_line : Context → Part DataLine
data_line c = do
  at ← here c.total
  md ← mode c
  all ← data_items c
  _ ← mark m.Semicolon
  nothing (record { mode = md; items = all; at = at })

-- DATA name ; {mode name [:= start] {, name [:= start]} ;} ENDDATA ;
abbrev pub data_brick : Context → At × Bool → Part Declaration
data_brick c x = do
  _ ← word w.Data
  n ← ident c.total
  _ ← mark m.Semicolon
  ls ← turns push [] (data_line c)
  _ ← word w.EndData
  _ ← mark m.Semicolon
  nothing (d.Data (record { entry = x.1; name = n; lines = ls; at = x.0 }))

-- STACK name number ;
abbrev pub stack_brick : Context → At × Bool → Part Declaration
stack_brick c x = do
  _ ← word w.Stack
  n ← ident c.total
  words ← number
  _ ← mark m.Semicolon
  nothing (d.Stack (record { entry = x.1; name = n; length = words; at = x.0 }))

-- PROC, which opens one mode for the parameters and the result
abbrev pub opens : Context → Part At
opens c = do
  at ← here c.total
  _ ← within c.limits.modes (word w.Proc)
  nothing at

-- ( [fields] )
abbrev pub parameters : Context → Part (List Fields)
parameters c = do
  _ ← within c.limits.parentheses (mark m.Open)
  fs ← either (fields_up_to c c.limits.parameters (written_mode c (c.limits.modes - 1) (c.limits.parentheses - 1))) (nothing [])
  _ ← mark m.Close
  nothing fs

-- result
abbrev pub answer : Context → Part WrittenMode
answer c = starting begins_result (written_mode c (c.limits.modes - 1) c.limits.parentheses)

-- ; body ENDPROC ;
abbrev pub closing : Context → Part (Body × At)
closing c = do
  _ ← mark m.Semicolon
  b ← body c
  at ← here c.total
  _ ← word w.EndProc
  _ ← mark m.Semicolon
  nothing (b, at)

-- result name ( [fields] ) ; body ENDPROC ;
abbrev pub result_first : Context → At × Bool → At → Part Declaration
result_first c x at = do
  r ← answer c
  n ← ident c.total
  fs ← parameters c
  b ← closing c
  nothing (d.Procedure (record { entry = x.1; name = n; fields = fs; result = Some r; body = b.0; opens = at; ends = b.1; at = x.0 }))

-- name ( [fields] ) [result] ; body ENDPROC ;
abbrev pub name_first : Context → At × Bool → At → Part Declaration
name_first c x at = do
  n ← ident c.total
  fs ← parameters c
  r ← optional (answer c)
  b ← closing c
  nothing (d.Procedure (record { entry = x.1; name = n; fields = fs; result = r; body = b.0; opens = at; ends = b.1; at = x.0 }))

-- ---- bricks of other modules

-- a word, and where it stands
abbrev pub at_word : Context → Word → Part At
at_word c k = do
  at ← here c.total
  _ ← word k
  nothing at

-- procmode name {, name} ;
abbrev pub imported_procedures : Context → Import → At → Part Declaration
imported_procedures c from at = do
  md ← procedure c c.limits.modes c.limits.parentheses (modes_inside c c.limits.modes)
  ns ← names c
  _ ← mark m.Semicolon
  nothing (d.ImportedProcedures (record { import = from; mode = md; names = ns; at = at }))

-- mode name {, name} ;
abbrev pub imported_line : Context → Part Fields
imported_line c = do
  at ← here c.total
  md ← mode c
  ns ← names c
  _ ← mark m.Semicolon
  nothing (record { mode = md; names = ns; at = at })

-- DATA name ; {mode name {, name} ;} ENDDATA ;
abbrev pub imported_data : Context → Import → At → Part Declaration
imported_data c from at = do
  _ ← word w.Data
  n ← ident c.total
  _ ← mark m.Semicolon
  ls ← turns push [] (imported_line c)
  _ ← word w.EndData
  _ ← mark m.Semicolon
  nothing (d.ImportedData (record { import = from; name = n; lines = ls; at = at }))

-- STACK name {, name} ;
abbrev pub imported_stacks : Context → At → Part Declaration
imported_stacks c at = do
  _ ← word w.Stack
  ns ← names c
  _ ← mark m.Semicolon
  nothing (d.ImportedStacks (record { names = ns; at = at }))

-- ---- the lines

-- [ENT] DATA .. | [ENT] STACK .. | [ENT] PROC result name .. | [ENT] PROC name ..
abbrev pub own_brick : Context → Part Declaration
own_brick c = either (do x ← own c; data_brick c x)
    (either (do x ← own c; stack_brick c x)
    (either (do x ← own c; at ← opens c; result_first c x at)
    (do x ← own c; at ← opens c; name_first c x at)))

-- EXT procmode .. | EXT DATA .. | EXT STACK ..
abbrev pub external_bricks : Context → Part Declaration
external_bricks c = either (do at ← at_word c w.Ext; imported_procedures c import.External at)
    (either (do at ← at_word c w.Ext; imported_data c import.External at)
    (do at ← at_word c w.Ext; imported_stacks c at))

-- SVC procmode .. | SVC DATA ..
abbrev pub service_bricks : Context → Part Declaration
service_bricks c = either (do at ← at_word c w.Svc; imported_procedures c import.Service at)
    (do at ← at_word c w.Svc; imported_data c import.Service at)

-- decl
abbrev pub declaration : Context → Part Declaration
declaration c = either (record_mode c) (either (external_bricks c) (either (service_bricks c) (own_brick c)))
