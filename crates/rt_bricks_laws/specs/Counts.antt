-- How many items each part has at least. Parentheses around an operand leave no node, so that a text may have more.
use Rattle.std.specs.Prelude.{ℕ, ◌+◌, ◌*◌, List, [], ◌∷◌, length, map, Option, Some, None}
use Rattle.rt_grammar.specs.declared.at.Ident.{Ident}
use Rattle.rt_syntax_exprs.specs.declared.tree.Chain.{Chain}
use Rattle.rt_syntax_exprs.specs.declared.tree.Cond.{Cond}
use Rattle.rt_syntax_exprs.specs.declared.tree.Cond.TheFolds.{fold-Cond}
use Rattle.rt_syntax_exprs.specs.declared.tree.Cond.TheOpen.{Cond-F}
use Rattle.rt_syntax_exprs.specs.declared.tree.Expr.{Expr}
use Rattle.rt_syntax_exprs.specs.declared.tree.Expr.TheFolds.{fold-Expr, fold-Link, fold-Chain}
use Rattle.rt_syntax_exprs.specs.declared.tree.Expr.TheOpen.{Expr-F, Link-F, Chain-F}
use Rattle.rt_syntax_exprs.specs.declared.tree.Link.{Link}
use Rattle.rt_syntax_exprs.specs.declared.tree.WrittenMode.{WrittenMode}
use Rattle.rt_syntax.specs.declared.tree.Body.{Body}
use Rattle.rt_syntax.specs.declared.tree.Branch.{Branch}
use Rattle.rt_syntax.specs.declared.tree.Control.{Control}
use Rattle.rt_syntax.specs.declared.tree.Local.{Local}
use Rattle.rt_syntax.specs.declared.tree.Locals.{Locals}
use Rattle.rt_syntax.specs.declared.tree.Simple.{Simple}
use Rattle.rt_syntax.specs.declared.tree.Simple.TheFolds.{fold-Simple, fold-Body, fold-Branch, fold-Stmt}
use Rattle.rt_syntax.specs.declared.tree.Simple.TheOpen.{Simple-F, Body-F, Branch-F, Stmt-F}
use Rattle.rt_syntax.specs.declared.tree.Stmt.{Stmt}
use Rattle.rt_bricks.specs.declared.tree.Fields.{Fields}
use Rattle.rt_bricks.specs.declared.tree.ProcedureBrick.{ProcedureBrick}

abbrev pub sum : List ℕ → ℕ
sum [] = 0
sum (n ∷ ns) = n + sum ns

-- one part more, with the item that stands between
abbrev pub further : List ℕ → ℕ
further [] = 0
further (n ∷ ns) = (1 + n) + further ns

-- parts with one item between each two
abbrev pub listed : List ℕ → ℕ
listed [] = 0
listed (n ∷ ns) = n + further ns

abbrev pub names : List Ident → ℕ
names is = listed (map (λ i. 1) is)

-- ---- expressions and conditions

abbrev pub expr_items : Expr-F ℕ ℕ ℕ → ℕ
expr_items (Expr-F.Number n at) = 1
expr_items (Expr-F.Text bytes at) = 1
expr_items (Expr-F.Chain c) = c
expr_items (Expr-F.Val c at) = 1 + c
expr_items (Expr-F.Monadic op a at) = 1 + a
expr_items (Expr-F.Dyadic op a b at) = a + (1 + b)

abbrev pub link_items : Link-F ℕ ℕ ℕ → ℕ
link_items (Link-F.Dot n at) = 2
link_items (Link-F.Apply es at) = 2 + listed es

abbrev pub chain_items : Chain-F ℕ ℕ ℕ → ℕ
chain_items c = 1 + sum c.links

abbrev pub in_expr : Expr → ℕ
in_expr = fold-Expr ℕ ℕ ℕ expr_items link_items chain_items

abbrev pub in_link : Link → ℕ
in_link = fold-Link ℕ ℕ ℕ expr_items link_items chain_items

abbrev pub in_chain : Chain → ℕ
in_chain = fold-Chain ℕ ℕ ℕ expr_items link_items chain_items

abbrev pub cond_items : Cond-F ℕ → ℕ
cond_items (Cond-F.Or cs at) = listed cs
cond_items (Cond-F.And cs at) = listed cs
cond_items (Cond-F.Compare r a b at) = in_expr a + (1 + in_expr b)

abbrev pub in_cond : Cond → ℕ
in_cond = fold-Cond ℕ cond_items

-- ---- bodies

-- what stands behind one item, where anything does
abbrev pub behind_one : Option Expr → ℕ
behind_one None = 0
behind_one (Some e) = 1 + in_expr e

abbrev pub in_local : Local → ℕ
in_local l = 1 + behind_one l.start

-- a mode, names with their starts, and a semicolon
abbrev pub in_locals : Locals → ℕ
in_locals l = 2 + listed (map in_local l.names)

-- FOR, a name, a start and a step
abbrev pub in_control : Option Control → ℕ
in_control None = 0
in_control (Some c) = 3 + (in_expr c.start + behind_one c.step)

abbrev pub in_others : Option (List ℕ) → ℕ
in_others None = 0
in_others (Some ns) = 1 + listed ns

abbrev pub stat_items : Simple-F ℕ ℕ ℕ ℕ → ℕ
stat_items (Simple-F.Call c) = in_chain c
stat_items (Simple-F.Assign c e at) = in_chain c + (1 + in_expr e)
stat_items (Simple-F.AssignVal c e at) = 1 + (in_chain c + (1 + in_expr e))
stat_items (Simple-F.Goto n at) = 2
stat_items (Simple-F.Return None at) = 1
stat_items (Simple-F.Return (Some e) at) = 1 + in_expr e
stat_items (Simple-F.Switch e ns at) = 2 + (in_expr e + names ns)
stat_items (Simple-F.Block b at) = 2 + b
stat_items (Simple-F.If bs e at) = 1 + (sum bs + in_others e)
stat_items (Simple-F.For c limit xs at) = 3 + (in_control c + (in_expr limit + listed xs))
stat_items (Simple-F.While c xs at) = 3 + (in_cond c + listed xs)

abbrev pub body_items : Body-F ℕ ℕ ℕ ℕ → ℕ
body_items b = sum (map in_locals b.locals) + listed b.statements

-- IF or ELSEIF, a condition, THEN and a sequence
abbrev pub branch_items : Branch-F ℕ ℕ ℕ ℕ → ℕ
branch_items b = 2 + (in_cond b.test + listed b.taken)

abbrev pub if_any : Option ℕ → ℕ
if_any None = 0
if_any (Some n) = n

-- each label with its colon, and a statement
abbrev pub line_items : Stmt-F ℕ ℕ ℕ ℕ → ℕ
line_items x = 2 * length x.labels + if_any x.simple

abbrev pub in_stat : Simple → ℕ
in_stat = fold-Simple ℕ ℕ ℕ ℕ stat_items body_items branch_items line_items

abbrev pub in_body : Body → ℕ
in_body = fold-Body ℕ ℕ ℕ ℕ stat_items body_items branch_items line_items

abbrev pub in_branch : Branch → ℕ
in_branch = fold-Branch ℕ ℕ ℕ ℕ stat_items body_items branch_items line_items

abbrev pub in_line : Stmt → ℕ
in_line = fold-Stmt ℕ ℕ ℕ ℕ stat_items body_items branch_items line_items

-- ---- procedures

-- a mode and names
abbrev pub in_fields : Fields → ℕ
in_fields g = 1 + names g.names

abbrev pub in_result : Option WrittenMode → ℕ
in_result None = 0
in_result (Some w) = 1

-- from PROC to ENDPROC
abbrev pub in_procedure : ProcedureBrick → ℕ
in_procedure p = 6 + (listed (map in_fields p.fields) + (in_result p.result + in_body p.body))
