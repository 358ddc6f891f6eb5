-- The numbers that a module writes are words of 16 bits.
use Rattle.std.specs.Prelude.{◌≡◌, ℕ, nat_lt, Bool, true, ◌&&◌, List, map, Option, Some, None}
use Rattle.std.specs.List.{AllByRecursion}
use Rattle.rt_pieces.specs.declared.item.Item.{Item}
use Rattle.rt_syntax_exprs.specs.declared.tree.Chain.{Chain}
use Rattle.rt_syntax_exprs.specs.declared.tree.Cond.{Cond}
use Rattle.rt_syntax_exprs.specs.declared.tree.Cond.TheFolds.{fold-Cond}
use Rattle.rt_syntax_exprs.specs.declared.tree.Cond.TheOpen.{Cond-F}
use Rattle.rt_syntax_exprs.specs.declared.tree.Expr.{Expr}
use Rattle.rt_syntax_exprs.specs.declared.tree.Expr.TheFolds.{fold-Expr, fold-Link, fold-Chain}
use Rattle.rt_syntax_exprs.specs.declared.tree.Expr.TheOpen.{Expr-F, Link-F, Chain-F}
use Rattle.rt_syntax_exprs.specs.declared.tree.Link.{Link}
use Rattle.rt_syntax_exprs.specs.declared.tree.WrittenMode.{WrittenMode}
use Rattle.rt_syntax_exprs.specs.declared.tree.WrittenMode.TheFolds.{fold-WrittenMode}
use Rattle.rt_syntax_exprs.specs.declared.tree.WrittenMode.TheOpen.{WrittenMode-F}
use Rattle.rt_syntax.specs.declared.tree.Body.{Body}
use Rattle.rt_syntax.specs.declared.tree.Branch.{Branch}
use Rattle.rt_syntax.specs.declared.tree.Control.{Control}
use Rattle.rt_syntax.specs.declared.tree.Local.{Local}
use Rattle.rt_syntax.specs.declared.tree.Locals.{Locals}
use Rattle.rt_syntax.specs.declared.tree.Simple.{Simple}
use Rattle.rt_syntax.specs.declared.tree.Simple.TheFolds.{fold-Simple, fold-Body, fold-Branch, fold-Stmt}
use Rattle.rt_syntax.specs.declared.tree.Simple.TheOpen.{Simple-F, Body-F, Branch-F, Stmt-F}
use Rattle.rt_syntax.specs.declared.tree.Stmt.{Stmt}
use Rattle.rt_bricks.specs.declared.tree.DataItem.{DataItem}
use Rattle.rt_bricks.specs.declared.tree.DataLine.{DataLine}
use Rattle.rt_bricks.specs.declared.tree.Declaration.{Declaration}
use Rattle.rt_bricks.specs.declared.tree.Declaration.TheVariants as declaration
use Rattle.rt_bricks.specs.declared.tree.Fields.{Fields}
use Rattle.rt_bricks.specs.declared.tree.Module.{Module}
use Rattle.rt_bricks.specs.declared.tree.Parenthesized.{Parenthesized}
use Rattle.rt_bricks.specs.declared.tree.Selector.{Selector}
use Rattle.rt_bricks.specs.declared.tree.Selector.TheVariants as selector
use Rattle.rt_bricks.specs.declared.tree.Start.{Start}
use Rattle.rt_bricks.specs.declared.tree.Start.TheFolds.{fold-Start}
use Rattle.rt_bricks.specs.declared.tree.Start.TheOpen.{Start-F}
use Rattle.rt_bricks.specs.Derives.{Derives}
use Rattle.rt_items.specs.Ranges.{InRange}
use Rattle.rt_bricks_laws.specs.Bodies.{all, all_if, true_if}

abbrev pub is_word : ℕ → Bool
is_word n = nat_lt n 65536

-- ---- expressions, conditions and modes

abbrev pub expr_words : Expr-F Bool Bool Bool → Bool
expr_words (Expr-F.Number n at) = is_word n
expr_words (Expr-F.Text bytes at) = true
expr_words (Expr-F.Chain c) = c
expr_words (Expr-F.Val c at) = c
expr_words (Expr-F.Monadic op a at) = a
expr_words (Expr-F.Dyadic op a b at) = a && b

abbrev pub link_words : Link-F Bool Bool Bool → Bool
link_words (Link-F.Dot n at) = true
link_words (Link-F.Apply es at) = all es

abbrev pub chain_words : Chain-F Bool Bool Bool → Bool
chain_words c = all c.links

abbrev pub words_in_expr : Expr → Bool
words_in_expr = fold-Expr Bool Bool Bool expr_words link_words chain_words

abbrev pub words_in_link : Link → Bool
words_in_link = fold-Link Bool Bool Bool expr_words link_words chain_words

abbrev pub words_in_chain : Chain → Bool
words_in_chain = fold-Chain Bool Bool Bool expr_words link_words chain_words

abbrev pub words_in_any : Option Expr → Bool
words_in_any None = true
words_in_any (Some e) = words_in_expr e

abbrev pub cond_words : Cond-F Bool → Bool
cond_words (Cond-F.Or cs at) = all cs
cond_words (Cond-F.And cs at) = all cs
cond_words (Cond-F.Compare r a b at) = words_in_expr a && words_in_expr b

abbrev pub words_in_cond : Cond → Bool
words_in_cond = fold-Cond Bool cond_words

abbrev pub mode_words : WrittenMode-F Bool → Bool
mode_words (WrittenMode-F.Name n) = true
mode_words (WrittenMode-F.Basic b at) = true
mode_words (WrittenMode-F.Array n m at) = is_word n && m
mode_words (WrittenMode-F.Ref m at) = m
mode_words (WrittenMode-F.RefArray m at) = m
mode_words (WrittenMode-F.Proc ms r at) = all ms && true_if r

abbrev pub words_in_mode : WrittenMode → Bool
words_in_mode = fold-WrittenMode Bool mode_words

-- ---- bodies

abbrev pub words_in_local : Local → Bool
words_in_local l = words_in_any l.start

abbrev pub words_in_locals : Locals → Bool
words_in_locals l = words_in_mode l.mode && all (map words_in_local l.names)

abbrev pub words_in_control : Option Control → Bool
words_in_control None = true
words_in_control (Some c) = words_in_expr c.start && words_in_any c.step

abbrev pub simple_words : Simple-F Bool Bool Bool Bool → Bool
simple_words (Simple-F.Call c) = words_in_chain c
simple_words (Simple-F.Assign c e at) = words_in_chain c && words_in_expr e
simple_words (Simple-F.AssignVal c e at) = words_in_chain c && words_in_expr e
simple_words (Simple-F.Goto n at) = true
simple_words (Simple-F.Return e at) = words_in_any e
simple_words (Simple-F.Switch e ns at) = words_in_expr e
simple_words (Simple-F.Block b at) = b
simple_words (Simple-F.If bs e at) = all bs && all_if e
simple_words (Simple-F.For c limit xs at) = words_in_control c && (words_in_expr limit && all xs)
simple_words (Simple-F.While c xs at) = words_in_cond c && all xs

abbrev pub body_words : Body-F Bool Bool Bool Bool → Bool
body_words b = all (map words_in_locals b.locals) && all b.statements

abbrev pub branch_words : Branch-F Bool Bool Bool Bool → Bool
branch_words b = words_in_cond b.test && all b.taken

abbrev pub line_words : Stmt-F Bool Bool Bool Bool → Bool
line_words x = true_if x.simple

abbrev pub words_in_simple : Simple → Bool
words_in_simple = fold-Simple Bool Bool Bool Bool simple_words body_words branch_words line_words

abbrev pub words_in_body : Body → Bool
words_in_body = fold-Body Bool Bool Bool Bool simple_words body_words branch_words line_words

abbrev pub words_in_branch : Branch → Bool
words_in_branch = fold-Branch Bool Bool Bool Bool simple_words body_words branch_words line_words

abbrev pub words_in_statement : Stmt → Bool
words_in_statement = fold-Stmt Bool Bool Bool Bool simple_words body_words branch_words line_words

-- ---- starts

-- a number of copies, or one in parentheses
abbrev pub words_in_copies : Option Parenthesized → Bool
words_in_copies None = true
words_in_copies (Some p) = is_word p.number

abbrev pub words_in_selector : Selector → Bool
words_in_selector (selector.Dot n at) = true
words_in_selector (selector.Subscript p) = is_word p.number

abbrev pub start_words : Start-F Bool → Bool
start_words (Start-F.Number sign n copies at) = is_word n && words_in_copies copies
start_words (Start-F.Text bytes at) = true
start_words (Start-F.Place n selectors) = all (map words_in_selector selectors)
start_words (Start-F.List ss copies at) = all ss && words_in_copies copies

abbrev pub words_in_start : Start → Bool
words_in_start = fold-Start Bool start_words

abbrev pub words_if_started : Option Start → Bool
words_if_started None = true
words_if_started (Some s) = words_in_start s

abbrev pub words_in_item : DataItem → Bool
words_in_item i = words_if_started i.start

abbrev pub words_in_line : DataLine → Bool
words_in_line l = words_in_mode l.mode && all (map words_in_item l.items)

-- ---- declarations

abbrev pub words_in_fields : Fields → Bool
words_in_fields g = words_in_mode g.mode

abbrev pub words_in_result : Option WrittenMode → Bool
words_in_result None = true
words_in_result (Some w) = words_in_mode w

abbrev pub words_in_declaration : Declaration → Bool
words_in_declaration (declaration.Record r) = all (map words_in_fields r.fields)
words_in_declaration (declaration.Data b) = all (map words_in_line b.lines)
words_in_declaration (declaration.Stack b) = is_word b.length
words_in_declaration (declaration.Procedure b) = all (map words_in_fields b.fields) && (words_in_result b.result && words_in_body b.body)
words_in_declaration (declaration.ImportedProcedures x) = words_in_mode x.mode
words_in_declaration (declaration.ImportedData x) = all (map words_in_fields x.lines)
words_in_declaration (declaration.ImportedStacks x) = true

-- Where each item is in range, each number of each declaration is a word.
abbrev pub NumbersAreWords : Type 0
NumbersAreWords = (items : List Item) (it : Module) → AllByRecursion InRange items → Derives items it → AllByRecursion (λ d. words_in_declaration d ≡ true) it.declarations
