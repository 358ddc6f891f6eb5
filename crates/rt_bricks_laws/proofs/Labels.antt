-- A body has no more labels than items.
use Rattle.std.proofs.Common.{◌≡◌, ℕ, ◌+◌, ◌*◌, ◌<◌, ◌≤◌, List, [], ◌∷◌, length, map, Option, Some, None, arith, refl, sym, ◌∙◌}
use Rattle.std.specs.List.{AllByRecursion}
use Rattle.rt_syntax.specs.declared.tree.Body.{Body, out-Body, roll-Body, map-Body}
use Rattle.rt_syntax.specs.declared.tree.Body as body_lemmas
use Rattle.rt_syntax.specs.declared.tree.Branch.{Branch, out-Branch, roll-Branch, map-Branch}
use Rattle.rt_syntax.specs.declared.tree.Branch as branch_lemmas
use Rattle.rt_syntax.specs.declared.tree.Simple.{Simple, out-Simple, roll-Simple, map-Simple}
use Rattle.rt_syntax.specs.declared.tree.Simple as simple_lemmas
use Rattle.rt_syntax.specs.declared.tree.Simple.TheFolds.{ind-Body, fold_out-Simple, fold_out-Body, fold_out-Branch, fold_out-Stmt}
use Rattle.rt_syntax.specs.declared.tree.Simple.TheOpen.{Simple-F, Body-F, Branch-F, Stmt-F}
use Rattle.rt_syntax.specs.declared.tree.Stmt.{Stmt, out-Stmt, roll-Stmt, map-Stmt}
use Rattle.rt_syntax.specs.declared.tree.Stmt as stmt_lemmas
use Rattle.rt_bricks.specs.declared.tree.Declaration.{Declaration}
use Rattle.rt_bricks.specs.declared.tree.Declaration.TheVariants as declaration
use Rattle.rt_bricks.specs.declared.tree.ProcedureBrick.{ProcedureBrick}
use Rattle.rt_bricks_laws.specs.Counts.{sum, further, listed, in_locals, in_cond, in_stat, in_body, in_branch, in_line, stat_items, in_procedure}
use Rattle.rt_bricks.specs.Counted.{items_of}
use Rattle.rt_bricks_laws.specs.Bodies as text
use Rattle.rt_bricks_laws.specs.Bodies.{labels_in_simple, labels_in_body, labels_in_branch, labels_in_line, simple_labels}
use Rattle.rt_bricks_laws.specs.Laws.{ItemsCounted, LabelsFew, LabelsAreFew}
use Rattle.rt_bricks_laws.proofs.Items.{items_counted}

sum_further : (ns : List ℕ) → sum ns ≤ further ns
sum_further [] = omega arith
sum_further (n ∷ ns) = omega (arith, sum_further ns)

sum_listed : (ns : List ℕ) → sum ns ≤ listed ns
sum_listed [] = omega arith
sum_listed (n ∷ ns) = omega (arith, sum_further ns)

abbrev SimpleM : Simple → Type 0
SimpleM x = labels_in_simple x ≤ in_stat x

abbrev BodyM : Body → Type 0
BodyM x = labels_in_body x ≤ in_body x

abbrev BranchM : Branch → Type 0
BranchM x = labels_in_branch x ≤ in_branch x

abbrev LineM : Stmt → Type 0
LineM x = labels_in_line x ≤ in_line x

abbrev SimplePair : Type 0
SimplePair = (x : Simple) × SimpleM x

abbrev BodyPair : Type 0
BodyPair = (x : Body) × BodyM x

abbrev BranchPair : Type 0
BranchPair = (x : Branch) × BranchM x

abbrev LinePair : Type 0
LinePair = (x : Stmt) × LineM x

-- ---- by the first level

labels_at : (x : Simple) (l : Simple-F Simple Body Branch Stmt) → out-Simple x ≡ l → labels_in_simple x ≡ simple_labels (map-Simple Simple Body Branch Stmt ℕ ℕ ℕ ℕ labels_in_simple labels_in_body labels_in_branch labels_in_line l)
labels_at x l o = rw (fold_out-Simple, o) refl

items_at : (x : Simple) (l : Simple-F Simple Body Branch Stmt) → out-Simple x ≡ l → in_stat x ≡ stat_items (map-Simple Simple Body Branch Stmt ℕ ℕ ℕ ℕ in_stat in_body in_branch in_line l)
items_at x l o = rw (fold_out-Simple, o) refl

lines_labelled : (ys : List LinePair) → text.sum (map labels_in_line (map (λ (e : LinePair). e.0) ys)) ≤ sum (map in_line (map (λ (e : LinePair). e.0) ys))
lines_labelled [] = omega arith
lines_labelled (y ∷ ys) = omega (arith, y.1, lines_labelled ys)

branches_labelled : (ys : List BranchPair) → text.sum (map labels_in_branch (map (λ (e : BranchPair). e.0) ys)) ≤ sum (map in_branch (map (λ (e : BranchPair). e.0) ys))
branches_labelled [] = omega arith
branches_labelled (y ∷ ys) = omega (arith, y.1, branches_labelled ys)

-- ---- statements

simple_level : (x : Simple) (y : Simple-F SimplePair BodyPair BranchPair LinePair)
    → out-Simple x ≡ map-Simple SimplePair BodyPair BranchPair LinePair Simple Body Branch Stmt (λ e. e.0) (λ e. e.0) (λ e. e.0) (λ e. e.0) y → SimpleM x
simple_level x (Simple-F.Call h) o = omega (arith, labels_at x (Simple-F.Call h) o)
simple_level x (Simple-F.Assign h e at) o = omega (arith, labels_at x (Simple-F.Assign h e at) o)
simple_level x (Simple-F.AssignVal h e at) o = omega (arith, labels_at x (Simple-F.AssignVal h e at) o)
simple_level x (Simple-F.Goto n at) o = omega (arith, labels_at x (Simple-F.Goto n at) o)
simple_level x (Simple-F.Return e at) o = omega (arith, labels_at x (Simple-F.Return e at) o)
simple_level x (Simple-F.Switch e ns at) o = omega (arith, labels_at x (Simple-F.Switch e ns at) o)
simple_level x (Simple-F.Block p at) o = omega (arith, labels_at x (Simple-F.Block p.0 at) o, items_at x (Simple-F.Block p.0 at) o, p.1)
simple_level x (Simple-F.If ys None at) o =
    let bs : List Branch = map (λ (e : BranchPair). e.0) ys in
    omega (arith, labels_at x (Simple-F.If bs None at) o, items_at x (Simple-F.If bs None at) o, branches_labelled ys)
simple_level x (Simple-F.If ys (Some xs) at) o =
    let bs : List Branch = map (λ (e : BranchPair). e.0) ys in
    let es : List Stmt = map (λ (e : LinePair). e.0) xs in
    omega (arith, labels_at x (Simple-F.If bs (Some es) at) o, items_at x (Simple-F.If bs (Some es) at) o, branches_labelled ys, lines_labelled xs, sum_listed (map in_line es))
simple_level x (Simple-F.For c limit xs at) o =
    let es : List Stmt = map (λ (e : LinePair). e.0) xs in
    omega (arith, labels_at x (Simple-F.For c limit es at) o, items_at x (Simple-F.For c limit es at) o, lines_labelled xs, sum_listed (map in_line es))
simple_level x (Simple-F.While d xs at) o =
    let es : List Stmt = map (λ (e : LinePair). e.0) xs in
    omega (arith, labels_at x (Simple-F.While d es at) o, items_at x (Simple-F.While d es at) o, lines_labelled xs, sum_listed (map in_line es))

body_level : (x : Body) (y : Body-F SimplePair BodyPair BranchPair LinePair)
    → out-Body x ≡ map-Body SimplePair BodyPair BranchPair LinePair Simple Body Branch Stmt (λ e. e.0) (λ e. e.0) (λ e. e.0) (λ e. e.0) y → BodyM x
body_level x y o =
    let es : List Stmt = map (λ (e : LinePair). e.0) y.statements in
    let labels : labels_in_body x ≡ text.sum (map labels_in_line es) = rw (fold_out-Body, o) refl in
    let items : in_body x ≡ sum (map in_locals y.locals) + listed (map in_line es) = rw (fold_out-Body, o) refl in
    omega (arith, labels, items, lines_labelled y.statements, sum_listed (map in_line es))

branch_level : (x : Branch) (y : Branch-F SimplePair BodyPair BranchPair LinePair)
    → out-Branch x ≡ map-Branch SimplePair BodyPair BranchPair LinePair Simple Body Branch Stmt (λ e. e.0) (λ e. e.0) (λ e. e.0) (λ e. e.0) y → BranchM x
branch_level x y o =
    let es : List Stmt = map (λ (e : LinePair). e.0) y.taken in
    let labels : labels_in_branch x ≡ text.sum (map labels_in_line es) = rw (fold_out-Branch, o) refl in
    let items : in_branch x ≡ 2 + (in_cond y.test + listed (map in_line es)) = rw (fold_out-Branch, o) refl in
    omega (arith, labels, items, lines_labelled y.taken, sum_listed (map in_line es))

line_cases : (x : Stmt) (y : Stmt-F SimplePair BodyPair BranchPair LinePair) (z : Option SimplePair) → y.simple ≡ z
    → out-Stmt x ≡ map-Stmt SimplePair BodyPair BranchPair LinePair Simple Body Branch Stmt (λ e. e.0) (λ e. e.0) (λ e. e.0) (λ e. e.0) y → LineM x
line_cases x y None e o =
    let labels : labels_in_line x ≡ length y.labels + 0 = rw (fold_out-Stmt, o, e) refl in
    let items : in_line x ≡ 2 * length y.labels + 0 = rw (fold_out-Stmt, o, e) refl in
    omega (arith, labels, items)
line_cases x y (Some p) e o =
    let labels : labels_in_line x ≡ length y.labels + labels_in_simple p.0 = rw (fold_out-Stmt, o, e) refl in
    let items : in_line x ≡ 2 * length y.labels + in_stat p.0 = rw (fold_out-Stmt, o, e) refl in
    omega (arith, labels, items, p.1)

line_level : (x : Stmt) (y : Stmt-F SimplePair BodyPair BranchPair LinePair)
    → out-Stmt x ≡ map-Stmt SimplePair BodyPair BranchPair LinePair Simple Body Branch Stmt (λ e. e.0) (λ e. e.0) (λ e. e.0) (λ e. e.0) y → LineM x
line_level x y o = line_cases x y y.simple refl o

rolled_simple : (x : Simple-F Simple Body Branch Stmt) → out-Simple (roll-Simple x) ≡ x
rolled_simple x = search simple_lemmas.the_lemmas

rolled_body : (x : Body-F Simple Body Branch Stmt) → out-Body (roll-Body x) ≡ x
rolled_body x = search body_lemmas.the_lemmas

rolled_branch : (x : Branch-F Simple Body Branch Stmt) → out-Branch (roll-Branch x) ≡ x
rolled_branch x = search branch_lemmas.the_lemmas

rolled_line : (x : Stmt-F Simple Body Branch Stmt) → out-Stmt (roll-Stmt x) ≡ x
rolled_line x = search stmt_lemmas.the_lemmas

pub body_labelled : (x : Body) → labels_in_body x ≤ in_body x
body_labelled = ind-Body SimpleM BodyM BranchM LineM (λ x y is. simple_level (roll-Simple x) y (rolled_simple x ∙ sym is)) (λ x y is. body_level (roll-Body x) y (rolled_body x ∙ sym is))
    (λ x y is. branch_level (roll-Branch x) y (rolled_branch x ∙ sym is)) (λ x y is. line_level (roll-Stmt x) y (rolled_line x ∙ sym is))

-- ---- procedures

few_labels : (y : Declaration) → ItemsCounted y → LabelsFew y
few_labels (declaration.Procedure b) h = low (labels_in_body b.body) (in_body b.body) (in_procedure b) (items_of b) (body_labelled b.body) (part b) h.0 h.1 where
  part : (b : ProcedureBrick) → in_body b.body ≤ in_procedure b
  part b = omega arith

  low : (l n i items : ℕ) → l ≤ n → n ≤ i → i ≤ items → items < 65536 → l < 65536
  low l n i items a c e h = omega (arith, a, c, e, h)
few_labels (declaration.Record x) h = tt
few_labels (declaration.Data x) h = tt
few_labels (declaration.Stack x) h = tt
few_labels (declaration.ImportedProcedures x) h = tt
few_labels (declaration.ImportedData x) h = tt
few_labels (declaration.ImportedStacks x) h = tt

each_few : (ys : List Declaration) → AllByRecursion ItemsCounted ys → AllByRecursion LabelsFew ys
each_few [] h = tt
each_few (y ∷ ys) h = (few_labels y h.0, each_few ys h.1)

pub labels_few : LabelsAreFew
labels_few items it few derived = each_few it.declarations (items_counted items it few derived)
