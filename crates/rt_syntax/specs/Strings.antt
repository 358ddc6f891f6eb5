-- The strings of a body, in the order of their items: those found so far, and then those of each part in its turn.
use Rattle.std.specs.Prelude.{ℕ, List, [], ◌∷◌, ◌++◌, Option, Some, None}
use Rattle.rt_syntax_exprs.specs.declared.tree.Expr.{Expr}
use Rattle.rt_syntax_exprs.specs.declared.tree.Expr.TheFolds.{fold-Expr, fold-Link, fold-Chain}
use Rattle.rt_syntax_exprs.specs.declared.tree.Expr.TheOpen.{Expr-F, Link-F, Chain-F}
use Rattle.rt_syntax_exprs.specs.declared.tree.Chain.{Chain}
use Rattle.rt_syntax_exprs.specs.declared.tree.Link.{Link}
use Rattle.rt_syntax_exprs.specs.declared.tree.Cond.{Cond}
use Rattle.rt_syntax_exprs.specs.declared.tree.Cond.TheFolds.{fold-Cond}
use Rattle.rt_syntax_exprs.specs.declared.tree.Cond.TheOpen.{Cond-F}
use Rattle.rt_syntax.specs.declared.tree.Body.{Body}
use Rattle.rt_syntax.specs.declared.tree.Branch.{Branch}
use Rattle.rt_syntax.specs.declared.tree.Control.{Control}
use Rattle.rt_syntax.specs.declared.tree.Local.{Local}
use Rattle.rt_syntax.specs.declared.tree.Locals.{Locals}
use Rattle.rt_syntax.specs.declared.tree.Simple.{Simple}
use Rattle.rt_syntax.specs.declared.tree.Simple.TheFolds.{fold-Simple, fold-Body, fold-Branch, fold-Stmt}
use Rattle.rt_syntax.specs.declared.tree.Simple.TheOpen.{Simple-F, Body-F, Branch-F, Stmt-F}
use Rattle.rt_syntax.specs.declared.tree.Stmt.{Stmt}
use Rattle.rt_syntax.specs.declared.strings.Text.{Text}

-- strings: of each the number of its item, and its bytes
abbrev pub Texts : Type 0
Texts = List (ℕ × List ℕ)

abbrev pub text_of : Text → ℕ × List ℕ
text_of t = (t.item, t.bytes.now)

-- what is found behind a part, by what is found before it
abbrev pub Finds : Type 0
Finds = Texts → Texts

abbrev pub one : ℕ → List ℕ → Finds
one item bytes found = found ++ (item, bytes) ∷ []

abbrev pub all : List Finds → Finds
all [] found = found
all (f ∷ fs) found = all fs (f found)

abbrev pub if_any : Option Finds → Finds
if_any None found = found
if_any (Some f) found = f found

-- ---- expressions and conditions

abbrev pub expr_finds : Expr-F Finds Finds Finds → Finds
expr_finds (Expr-F.Number n at) found = found
expr_finds (Expr-F.Text bytes at) found = one at.item bytes found
expr_finds (Expr-F.Chain c) found = c found
expr_finds (Expr-F.Val c at) found = c found
expr_finds (Expr-F.Monadic op a at) found = a found
expr_finds (Expr-F.Dyadic op a b at) found = b (a found)

abbrev pub link_finds : Link-F Finds Finds Finds → Finds
link_finds (Link-F.Dot n at) found = found
link_finds (Link-F.Apply es at) found = all es found

abbrev pub chain_finds : Chain-F Finds Finds Finds → Finds
chain_finds c = all c.links

abbrev pub in_expr : Expr → Finds
in_expr = fold-Expr Finds Finds Finds expr_finds link_finds chain_finds

abbrev pub in_link : Link → Finds
in_link = fold-Link Finds Finds Finds expr_finds link_finds chain_finds

abbrev pub in_chain : Chain → Finds
in_chain = fold-Chain Finds Finds Finds expr_finds link_finds chain_finds

abbrev pub cond_finds : Cond-F Finds → Finds
cond_finds (Cond-F.Or cs at) found = all cs found
cond_finds (Cond-F.And cs at) found = all cs found
cond_finds (Cond-F.Compare r a b at) found = in_expr b (in_expr a found)

abbrev pub in_cond : Cond → Finds
in_cond = fold-Cond Finds cond_finds

abbrev pub in_any : Option Expr → Finds
in_any None found = found
in_any (Some e) found = in_expr e found

-- ---- bodies

abbrev pub in_locals : List Local → Finds
in_locals [] found = found
in_locals (l ∷ ls) found = in_locals ls (in_any l.start found)

abbrev pub in_lines : List Locals → Finds
in_lines [] found = found
in_lines (l ∷ ls) found = in_lines ls (in_locals l.names found)

abbrev pub in_control : Option Control → Finds
in_control None found = found
in_control (Some c) found = in_any c.step (in_expr c.start found)

abbrev pub in_others : Option (List Finds) → Finds
in_others None found = found
in_others (Some fs) found = all fs found

abbrev pub stat_finds : Simple-F Finds Finds Finds Finds → Finds
stat_finds (Simple-F.Call c) found = in_chain c found
stat_finds (Simple-F.Assign c e at) found = in_expr e (in_chain c found)
stat_finds (Simple-F.AssignVal c e at) found = in_expr e (in_chain c found)
stat_finds (Simple-F.Goto n at) found = found
stat_finds (Simple-F.Return e at) found = in_any e found
stat_finds (Simple-F.Switch e ns at) found = in_expr e found
stat_finds (Simple-F.Block b at) found = b found
stat_finds (Simple-F.If bs e at) found = in_others e (all bs found)
stat_finds (Simple-F.For c limit xs at) found = all xs (in_expr limit (in_control c found))
stat_finds (Simple-F.While c xs at) found = all xs (in_cond c found)

abbrev pub body_finds : Body-F Finds Finds Finds Finds → Finds
body_finds b found = all b.statements (in_lines b.locals found)

abbrev pub branch_finds : Branch-F Finds Finds Finds Finds → Finds
branch_finds b found = all b.taken (in_cond b.test found)

abbrev pub line_finds : Stmt-F Finds Finds Finds Finds → Finds
line_finds x = if_any x.simple

abbrev pub in_stat : Simple → Finds
in_stat = fold-Simple Finds Finds Finds Finds stat_finds body_finds branch_finds line_finds

abbrev pub in_body : Body → Finds
in_body = fold-Body Finds Finds Finds Finds stat_finds body_finds branch_finds line_finds

abbrev pub in_branch : Branch → Finds
in_branch = fold-Branch Finds Finds Finds Finds stat_finds body_finds branch_finds line_finds

abbrev pub in_line : Stmt → Finds
in_line = fold-Stmt Finds Finds Finds Finds stat_finds body_finds branch_finds line_finds
