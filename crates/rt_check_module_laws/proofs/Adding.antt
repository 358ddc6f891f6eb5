-- What is found in a part stands behind what was found before, whatever that was.
use Rattle.std.proofs.Common.{◌≡◌, ℕ, List, [], ◌∷◌, ◌++◌, map, Option, Some, None, append_assoc, refl, sym, ap, ◌∙◌, subst}
use Rattle.std.specs.List.{AllByRecursion}
use Rattle.std.proofs.lemmas.List.{append-nil}
use Rattle.rt_bricks.specs.declared.tree.DataItem.{DataItem}
use Rattle.rt_bricks.specs.declared.tree.DataLine.{DataLine}
use Rattle.rt_bricks.specs.declared.tree.Start.{Start, out-Start, roll-Start, map-Start}
use Rattle.rt_bricks.specs.declared.tree.Start as start_lemmas
use Rattle.rt_bricks.specs.declared.tree.Start.TheFolds.{ind-Start, fold_out-Start}
use Rattle.rt_bricks.specs.declared.tree.Start.TheOpen.{Start-F}
use Rattle.rt_syntax_exprs.specs.declared.tree.Chain.{Chain, out-Chain, roll-Chain, map-Chain}
use Rattle.rt_syntax_exprs.specs.declared.tree.Chain as chain_lemmas
use Rattle.rt_syntax_exprs.specs.declared.tree.Cond.{Cond, out-Cond, roll-Cond, map-Cond}
use Rattle.rt_syntax_exprs.specs.declared.tree.Cond as cond_lemmas
use Rattle.rt_syntax_exprs.specs.declared.tree.Cond.TheFolds.{ind-Cond, fold_out-Cond}
use Rattle.rt_syntax_exprs.specs.declared.tree.Cond.TheOpen.{Cond-F}
use Rattle.rt_syntax_exprs.specs.declared.tree.Expr.{Expr, out-Expr, roll-Expr, map-Expr}
use Rattle.rt_syntax_exprs.specs.declared.tree.Expr as expr_lemmas
use Rattle.rt_syntax_exprs.specs.declared.tree.Expr.TheFolds.{ind-Expr, ind-Chain, fold_out-Expr, fold_out-Link, fold_out-Chain}
use Rattle.rt_syntax_exprs.specs.declared.tree.Expr.TheOpen.{Expr-F, Link-F, Chain-F}
use Rattle.rt_syntax_exprs.specs.declared.tree.Link.{Link, out-Link, roll-Link, map-Link}
use Rattle.rt_syntax_exprs.specs.declared.tree.Link as link_lemmas
use Rattle.rt_syntax.specs.declared.tree.Body.{Body, out-Body, roll-Body, map-Body}
use Rattle.rt_syntax.specs.declared.tree.Body as body_lemmas
use Rattle.rt_syntax.specs.declared.tree.Branch.{Branch, out-Branch, roll-Branch, map-Branch}
use Rattle.rt_syntax.specs.declared.tree.Branch as branch_lemmas
use Rattle.rt_syntax.specs.declared.tree.Control.{Control}
use Rattle.rt_syntax.specs.declared.tree.Local.{Local}
use Rattle.rt_syntax.specs.declared.tree.Locals.{Locals}
use Rattle.rt_syntax.specs.declared.tree.Simple.{Simple, out-Simple, roll-Simple, map-Simple}
use Rattle.rt_syntax.specs.declared.tree.Simple as simple_lemmas
use Rattle.rt_syntax.specs.declared.tree.Simple.TheFolds.{ind-Body, fold_out-Simple, fold_out-Body, fold_out-Branch, fold_out-Stmt}
use Rattle.rt_syntax.specs.declared.tree.Simple.TheOpen.{Simple-F, Body-F, Branch-F, Stmt-F}
use Rattle.rt_syntax.specs.declared.tree.Stmt.{Stmt, out-Stmt, roll-Stmt, map-Stmt}
use Rattle.rt_syntax.specs.declared.tree.Stmt as stmt_lemmas
use Rattle.rt_syntax.specs.Strings.{Texts, Finds, one, all, expr_finds, link_finds, cond_finds, stat_finds, in_expr, in_link, in_chain, in_cond, in_any, in_control, if_any, in_stat, in_body, in_branch, in_line}
use Rattle.rt_syntax.specs.Strings.{in_locals as in_names, in_lines as in_declared}
use Rattle.rt_bricks_laws.specs.Strings.{start_finds, in_start, in_items, in_lines}
use Rattle.rt_bricks_laws.specs.Strings.{in_any as in_any_start}

-- the same is found, whatever was found before
pub record Adds (f : Finds) : Type 0 where
  pub more : Texts
  pub is : (found : Texts) → f found ≡ found ++ more

pub add_none : Adds (λ found. found)
add_none = record { more = []; is = λ found. sym (append-nil found) }

pub add_then : (f g : Finds) → Adds f → Adds g → Adds (λ found. g (f found))
add_then f g a b = record {
  more = a.more ++ b.more;
  is = λ found. b.is (f found) ∙ ap (λ (ts : Texts). ts ++ b.more) (a.is found) ∙ append_assoc found a.more b.more;
}

add_one : (item : ℕ) (bytes : List ℕ) → Adds (one item bytes)
add_one item bytes = record { more = (item, bytes) ∷ []; is = λ found. refl }

pub add_all : (fs : List Finds) → AllByRecursion Adds fs → Adds (all fs)
add_all [] h = add_none
add_all (f ∷ fs) h = add_then f (all fs) h.0 (add_all fs h.1)

as_found : (f g : Finds) → f ≡ g → Adds g → Adds f
as_found f g e h = subst Adds (sym e) h

-- ---- expressions

abbrev ExprM : Expr → Type 0
ExprM x = Adds (in_expr x)

abbrev LinkM : Link → Type 0
LinkM x = Adds (in_link x)

abbrev ChainM : Chain → Type 0
ChainM x = Adds (in_chain x)

abbrev ExprPair : Type 0
ExprPair = (x : Expr) × ExprM x

abbrev LinkPair : Type 0
LinkPair = (x : Link) × LinkM x

abbrev ChainPair : Type 0
ChainPair = (x : Chain) × ChainM x

expr_at : (x : Expr) (l : Expr-F Expr Link Chain) → out-Expr x ≡ l → in_expr x ≡ expr_finds (map-Expr Expr Link Chain Finds Finds Finds in_expr in_link in_chain l)
expr_at x l o = rw (fold_out-Expr, o) refl

expr_level : (x : Expr) (y : Expr-F ExprPair LinkPair ChainPair) → out-Expr x ≡ map-Expr ExprPair LinkPair ChainPair Expr Link Chain (λ e. e.0) (λ e. e.0) (λ e. e.0) y → ExprM x
expr_level x (Expr-F.Number n at) o = as_found (in_expr x) _ (expr_at x (Expr-F.Number n at) o) add_none
expr_level x (Expr-F.Text t at) o = as_found (in_expr x) _ (expr_at x (Expr-F.Text t at) o) (add_one at.item t)
expr_level x (Expr-F.Chain c) o = as_found (in_expr x) _ (expr_at x (Expr-F.Chain c.0) o) c.1
expr_level x (Expr-F.Val c at) o = as_found (in_expr x) _ (expr_at x (Expr-F.Val c.0 at) o) c.1
expr_level x (Expr-F.Monadic op a at) o = as_found (in_expr x) _ (expr_at x (Expr-F.Monadic op a.0 at) o) a.1
expr_level x (Expr-F.Dyadic op a b at) o = as_found (in_expr x) _ (expr_at x (Expr-F.Dyadic op a.0 b.0 at) o) (add_then (in_expr a.0) (in_expr b.0) a.1 b.1)

all_exprs : (ps : List ExprPair) → AllByRecursion Adds (map in_expr (map (λ (e : ExprPair). e.0) ps))
all_exprs [] = tt
all_exprs (p ∷ ps) = (p.1, all_exprs ps)

link_level : (x : Link) (y : Link-F ExprPair LinkPair ChainPair) → out-Link x ≡ map-Link ExprPair LinkPair ChainPair Expr Link Chain (λ e. e.0) (λ e. e.0) (λ e. e.0) y → LinkM x
link_level x (Link-F.Dot n at) o = as_found (in_link x) _ (let e : in_link x ≡ link_finds (Link-F.Dot n at) = rw (fold_out-Link, o) refl in e) add_none
link_level x (Link-F.Apply ps at) o =
    let es : List Expr = map (λ (e : ExprPair). e.0) ps in
    as_found (in_link x) _ (let e : in_link x ≡ all (map in_expr es) = rw (fold_out-Link, o) refl in e) (add_all (map in_expr es) (all_exprs ps))

all_links : (ps : List LinkPair) → AllByRecursion Adds (map in_link (map (λ (e : LinkPair). e.0) ps))
all_links [] = tt
all_links (p ∷ ps) = (p.1, all_links ps)

chain_level : (x : Chain) (y : Chain-F ExprPair LinkPair ChainPair) → out-Chain x ≡ map-Chain ExprPair LinkPair ChainPair Expr Link Chain (λ e. e.0) (λ e. e.0) (λ e. e.0) y → ChainM x
chain_level x y o =
    let ls : List Link = map (λ (e : LinkPair). e.0) y.links in
    as_found (in_chain x) _ (let e : in_chain x ≡ all (map in_link ls) = rw (fold_out-Chain, o) refl in e) (add_all (map in_link ls) (all_links y.links))

rolled_expr : (x : Expr-F Expr Link Chain) → out-Expr (roll-Expr x) ≡ x
rolled_expr x = search expr_lemmas.the_lemmas

rolled_link : (x : Link-F Expr Link Chain) → out-Link (roll-Link x) ≡ x
rolled_link x = search link_lemmas.the_lemmas

rolled_chain : (x : Chain-F Expr Link Chain) → out-Chain (roll-Chain x) ≡ x
rolled_chain x = search chain_lemmas.the_lemmas

expr_adds : (x : Expr) → Adds (in_expr x)
expr_adds = ind-Expr ExprM LinkM ChainM (λ x y is. expr_level (roll-Expr x) y (rolled_expr x ∙ sym is)) (λ x y is. link_level (roll-Link x) y (rolled_link x ∙ sym is)) (λ x y is. chain_level (roll-Chain x) y (rolled_chain x ∙ sym is))

chain_adds : (x : Chain) → Adds (in_chain x)
chain_adds = ind-Chain ExprM LinkM ChainM (λ x y is. expr_level (roll-Expr x) y (rolled_expr x ∙ sym is)) (λ x y is. link_level (roll-Link x) y (rolled_link x ∙ sym is)) (λ x y is. chain_level (roll-Chain x) y (rolled_chain x ∙ sym is))

any_adds : (o : Option Expr) → Adds (in_any o)
any_adds None = add_none
any_adds (Some e) = expr_adds e

-- ---- conditions

abbrev CondM : Cond → Type 0
CondM x = Adds (in_cond x)

abbrev CondPair : Type 0
CondPair = (x : Cond) × CondM x

all_conds : (ps : List CondPair) → AllByRecursion Adds (map in_cond (map (λ (e : CondPair). e.0) ps))
all_conds [] = tt
all_conds (p ∷ ps) = (p.1, all_conds ps)

cond_at : (x : Cond) (l : Cond-F Cond) → out-Cond x ≡ l → in_cond x ≡ cond_finds (map-Cond Cond Finds in_cond l)
cond_at x l o = rw (fold_out-Cond, o) refl

cond_level : (x : Cond) (y : Cond-F CondPair) → out-Cond x ≡ map-Cond CondPair Cond (λ e. e.0) y → CondM x
cond_level x (Cond-F.Or ps at) o = let cs : List Cond = map (λ (e : CondPair). e.0) ps in as_found (in_cond x) _ (cond_at x (Cond-F.Or cs at) o) (add_all (map in_cond cs) (all_conds ps))
cond_level x (Cond-F.And ps at) o = let cs : List Cond = map (λ (e : CondPair). e.0) ps in as_found (in_cond x) _ (cond_at x (Cond-F.And cs at) o) (add_all (map in_cond cs) (all_conds ps))
cond_level x (Cond-F.Compare r a b at) o = as_found (in_cond x) _ (cond_at x (Cond-F.Compare r a b at) o) (add_then (in_expr a) (in_expr b) (expr_adds a) (expr_adds b))

rolled_cond : (x : Cond-F Cond) → out-Cond (roll-Cond x) ≡ x
rolled_cond x = search cond_lemmas.the_lemmas

cond_adds : (x : Cond) → Adds (in_cond x)
cond_adds = ind-Cond CondM (λ x y is. cond_level (roll-Cond x) y (rolled_cond x ∙ sym is))

-- ---- declarations

names_add : (ls : List Local) → Adds (in_names ls)
names_add [] = add_none
names_add (l ∷ ls) = add_then (in_any l.start) (in_names ls) (any_adds l.start) (names_add ls)

declared_add : (ls : List Locals) → Adds (in_declared ls)
declared_add [] = add_none
declared_add (l ∷ ls) = add_then (in_names l.names) (in_declared ls) (names_add l.names) (declared_add ls)

control_adds : (c : Option Control) → Adds (in_control c)
control_adds None = add_none
control_adds (Some c) = add_then (in_expr c.start) (in_any c.step) (expr_adds c.start) (any_adds c.step)

-- ---- bodies

abbrev SimpleM : Simple → Type 0
SimpleM x = Adds (in_stat x)

abbrev BodyM : Body → Type 0
BodyM x = Adds (in_body x)

abbrev BranchM : Branch → Type 0
BranchM x = Adds (in_branch x)

abbrev LineM : Stmt → Type 0
LineM x = Adds (in_line x)

abbrev SimplePair : Type 0
SimplePair = (x : Simple) × SimpleM x

abbrev BodyPair : Type 0
BodyPair = (x : Body) × BodyM x

abbrev BranchPair : Type 0
BranchPair = (x : Branch) × BranchM x

abbrev LinePair : Type 0
LinePair = (x : Stmt) × LineM x

stat_at : (x : Simple) (l : Simple-F Simple Body Branch Stmt) → out-Simple x ≡ l → in_stat x ≡ stat_finds (map-Simple Simple Body Branch Stmt Finds Finds Finds Finds in_stat in_body in_branch in_line l)
stat_at x l o = rw (fold_out-Simple, o) refl

all_lines : (ps : List LinePair) → AllByRecursion Adds (map in_line (map (λ (e : LinePair). e.0) ps))
all_lines [] = tt
all_lines (p ∷ ps) = (p.1, all_lines ps)

all_branches : (ps : List BranchPair) → AllByRecursion Adds (map in_branch (map (λ (e : BranchPair). e.0) ps))
all_branches [] = tt
all_branches (p ∷ ps) = (p.1, all_branches ps)

lines_add : (ps : List LinePair) → Adds (all (map in_line (map (λ (e : LinePair). e.0) ps)))
lines_add ps = add_all (map in_line (map (λ (e : LinePair). e.0) ps)) (all_lines ps)

branches_add : (ps : List BranchPair) → Adds (all (map in_branch (map (λ (e : BranchPair). e.0) ps)))
branches_add ps = add_all (map in_branch (map (λ (e : BranchPair). e.0) ps)) (all_branches ps)

simple_level : (x : Simple) (y : Simple-F SimplePair BodyPair BranchPair LinePair)
    → out-Simple x ≡ map-Simple SimplePair BodyPair BranchPair LinePair Simple Body Branch Stmt (λ e. e.0) (λ e. e.0) (λ e. e.0) (λ e. e.0) y → SimpleM x
simple_level x (Simple-F.Call h) o = as_found (in_stat x) _ (stat_at x (Simple-F.Call h) o) (chain_adds h)
simple_level x (Simple-F.Assign h e at) o = as_found (in_stat x) _ (stat_at x (Simple-F.Assign h e at) o) (add_then (in_chain h) (in_expr e) (chain_adds h) (expr_adds e))
simple_level x (Simple-F.AssignVal h e at) o = as_found (in_stat x) _ (stat_at x (Simple-F.AssignVal h e at) o) (add_then (in_chain h) (in_expr e) (chain_adds h) (expr_adds e))
simple_level x (Simple-F.Goto i at) o = as_found (in_stat x) _ (stat_at x (Simple-F.Goto i at) o) add_none
simple_level x (Simple-F.Return e at) o = as_found (in_stat x) _ (stat_at x (Simple-F.Return e at) o) (any_adds e)
simple_level x (Simple-F.Switch e is at) o = as_found (in_stat x) _ (stat_at x (Simple-F.Switch e is at) o) (expr_adds e)
simple_level x (Simple-F.Block p at) o = as_found (in_stat x) _ (stat_at x (Simple-F.Block p.0 at) o) p.1
simple_level x (Simple-F.If ys None at) o = as_found (in_stat x) _ (stat_at x (Simple-F.If (map (λ (e : BranchPair). e.0) ys) None at) o) (branches_add ys)
simple_level x (Simple-F.If ys (Some xs) at) o =
    let bs : List Branch = map (λ (e : BranchPair). e.0) ys in
    let es : List Stmt = map (λ (e : LinePair). e.0) xs in
    as_found (in_stat x) _ (stat_at x (Simple-F.If bs (Some es) at) o) (add_then (all (map in_branch bs)) (all (map in_line es)) (branches_add ys) (lines_add xs))
simple_level x (Simple-F.For c limit xs at) o =
    let es : List Stmt = map (λ (e : LinePair). e.0) xs in
    as_found (in_stat x) _ (stat_at x (Simple-F.For c limit es at) o) (add_then (λ found. in_expr limit (in_control c found)) (all (map in_line es)) (add_then (in_control c) (in_expr limit) (control_adds c) (expr_adds limit)) (lines_add xs))
simple_level x (Simple-F.While c xs at) o =
    let es : List Stmt = map (λ (e : LinePair). e.0) xs in
    as_found (in_stat x) _ (stat_at x (Simple-F.While c es at) o) (add_then (in_cond c) (all (map in_line es)) (cond_adds c) (lines_add xs))

body_level : (x : Body) (y : Body-F SimplePair BodyPair BranchPair LinePair)
    → out-Body x ≡ map-Body SimplePair BodyPair BranchPair LinePair Simple Body Branch Stmt (λ e. e.0) (λ e. e.0) (λ e. e.0) (λ e. e.0) y → BodyM x
body_level x y o =
    let es : List Stmt = map (λ (e : LinePair). e.0) y.statements in
    let part : in_body x ≡ (λ found. all (map in_line es) (in_declared y.locals found)) = rw (fold_out-Body, o) refl in
    as_found (in_body x) (λ found. all (map in_line es) (in_declared y.locals found)) part (add_then (in_declared y.locals) (all (map in_line es)) (declared_add y.locals) (lines_add y.statements))

branch_level : (x : Branch) (y : Branch-F SimplePair BodyPair BranchPair LinePair)
    → out-Branch x ≡ map-Branch SimplePair BodyPair BranchPair LinePair Simple Body Branch Stmt (λ e. e.0) (λ e. e.0) (λ e. e.0) (λ e. e.0) y → BranchM x
branch_level x y o =
    let es : List Stmt = map (λ (e : LinePair). e.0) y.taken in
    let part : in_branch x ≡ (λ found. all (map in_line es) (in_cond y.test found)) = rw (fold_out-Branch, o) refl in
    as_found (in_branch x) (λ found. all (map in_line es) (in_cond y.test found)) part (add_then (in_cond y.test) (all (map in_line es)) (cond_adds y.test) (lines_add y.taken))

line_cases : (x : Stmt) (y : Stmt-F SimplePair BodyPair BranchPair LinePair) (z : Option SimplePair) → y.simple ≡ z
    → out-Stmt x ≡ map-Stmt SimplePair BodyPair BranchPair LinePair Simple Body Branch Stmt (λ e. e.0) (λ e. e.0) (λ e. e.0) (λ e. e.0) y → LineM x
line_cases x y None e o = let part : in_line x ≡ if_any None = rw (fold_out-Stmt, o, e) refl in as_found (in_line x) (if_any None) part add_none
line_cases x y (Some p) e o = let part : in_line x ≡ if_any (Some (in_stat p.0)) = rw (fold_out-Stmt, o, e) refl in as_found (in_line x) (if_any (Some (in_stat p.0))) part p.1

line_level : (x : Stmt) (y : Stmt-F SimplePair BodyPair BranchPair LinePair)
    → out-Stmt x ≡ map-Stmt SimplePair BodyPair BranchPair LinePair Simple Body Branch Stmt (λ e. e.0) (λ e. e.0) (λ e. e.0) (λ e. e.0) y → LineM x
line_level x y o = line_cases x y y.simple refl o

rolled_simple : (x : Simple-F Simple Body Branch Stmt) → out-Simple (roll-Simple x) ≡ x
rolled_simple x = search simple_lemmas.the_lemmas

rolled_body : (x : Body-F Simple Body Branch Stmt) → out-Body (roll-Body x) ≡ x
rolled_body x = search body_lemmas.the_lemmas

rolled_branch : (x : Branch-F Simple Body Branch Stmt) → out-Branch (roll-Branch x) ≡ x
rolled_branch x = search branch_lemmas.the_lemmas

rolled_line : (x : Stmt-F Simple Body Branch Stmt) → out-Stmt (roll-Stmt x) ≡ x
rolled_line x = search stmt_lemmas.the_lemmas

pub body_adds : (x : Body) → Adds (in_body x)
body_adds = ind-Body SimpleM BodyM BranchM LineM (λ x y is. simple_level (roll-Simple x) y (rolled_simple x ∙ sym is)) (λ x y is. body_level (roll-Body x) y (rolled_body x ∙ sym is))
    (λ x y is. branch_level (roll-Branch x) y (rolled_branch x ∙ sym is)) (λ x y is. line_level (roll-Stmt x) y (rolled_line x ∙ sym is))

-- ---- starts of data

abbrev StartM : Start → Type 0
StartM x = Adds (in_start x)

abbrev StartPair : Type 0
StartPair = (x : Start) × StartM x

all_starts : (ps : List StartPair) → AllByRecursion Adds (map in_start (map (λ (e : StartPair). e.0) ps))
all_starts [] = tt
all_starts (p ∷ ps) = (p.1, all_starts ps)

start_at : (x : Start) (l : Start-F Start) → out-Start x ≡ l → in_start x ≡ start_finds (map-Start Start Finds in_start l)
start_at x l o = rw (fold_out-Start, o) refl

start_level : (x : Start) (y : Start-F StartPair) → out-Start x ≡ map-Start StartPair Start (λ e. e.0) y → StartM x
start_level x (Start-F.Number sign n copies at) o = as_found (in_start x) _ (start_at x (Start-F.Number sign n copies at) o) add_none
start_level x (Start-F.Text bytes at) o = as_found (in_start x) _ (start_at x (Start-F.Text bytes at) o) (add_one at.item bytes)
start_level x (Start-F.Place i ss) o = as_found (in_start x) _ (start_at x (Start-F.Place i ss) o) add_none
start_level x (Start-F.List ps copies at) o =
    let xs : List Start = map (λ (e : StartPair). e.0) ps in
    as_found (in_start x) _ (start_at x (Start-F.List xs copies at) o) (add_all (map in_start xs) (all_starts ps))

rolled_start : (x : Start-F Start) → out-Start (roll-Start x) ≡ x
rolled_start x = search start_lemmas.the_lemmas

pub start_adds : (x : Start) → Adds (in_start x)
start_adds = ind-Start StartM (λ x y is. start_level (roll-Start x) y (rolled_start x ∙ sym is))

pub any_start_adds : (o : Option Start) → Adds (in_any_start o)
any_start_adds None = add_none
any_start_adds (Some s) = start_adds s

pub items_add : (is : List DataItem) → Adds (in_items is)
items_add [] = add_none
items_add (i ∷ is) = add_then (in_any_start i.start) (in_items is) (any_start_adds i.start) (items_add is)

pub data_lines_add : (ls : List DataLine) → Adds (in_lines ls)
data_lines_add [] = add_none
data_lines_add (l ∷ ls) = add_then (in_items l.items) (in_lines ls) (items_add l.items) (data_lines_add ls)
