-- What must hold of a procedure's text for its tree to fit, where no fault stands in it.
use Rattle.std.specs.Prelude.{ℕ, ◌+◌, Bool, true, ◌&&◌, nat_lt, List, [], ◌∷◌, length, Option, Some, None}
use Rattle.rt_syntax.specs.declared.tree.Body.{Body}
use Rattle.rt_syntax.specs.declared.tree.Branch.{Branch}
use Rattle.rt_syntax.specs.declared.tree.Simple.{Simple}
use Rattle.rt_syntax.specs.declared.tree.Simple.TheFolds.{fold-Simple, fold-Body, fold-Branch, fold-Stmt}
use Rattle.rt_syntax.specs.declared.tree.Simple.TheOpen.{Simple-F, Body-F, Branch-F, Stmt-F}
use Rattle.rt_syntax.specs.declared.tree.Stmt.{Stmt}
use Rattle.rt_syntax_exprs.specs.Joins.{joins_two}

-- ---- how many labels stand in a part

abbrev pub sum : List ℕ → ℕ
sum [] = 0
sum (n ∷ ns) = n + sum ns

abbrev pub sum_if : Option (List ℕ) → ℕ
sum_if None = 0
sum_if (Some ns) = sum ns

abbrev pub number_if : Option ℕ → ℕ
number_if None = 0
number_if (Some n) = n

-- A statement that is labelled: its own labels, and those inside it.
abbrev pub simple_labels : Simple-F ℕ ℕ ℕ ℕ → ℕ
simple_labels (Simple-F.Block b at) = b
simple_labels (Simple-F.If bs e at) = sum bs + sum_if e
simple_labels (Simple-F.For c limit xs at) = sum xs
simple_labels (Simple-F.While c xs at) = sum xs
simple_labels _ = 0

abbrev pub body_labels : Body-F ℕ ℕ ℕ ℕ → ℕ
body_labels b = sum b.statements

abbrev pub branch_labels : Branch-F ℕ ℕ ℕ ℕ → ℕ
branch_labels b = sum b.taken

abbrev pub line_labels : Stmt-F ℕ ℕ ℕ ℕ → ℕ
line_labels x = length x.labels + number_if x.simple

abbrev pub labels_in_simple : Simple → ℕ
labels_in_simple = fold-Simple ℕ ℕ ℕ ℕ simple_labels body_labels branch_labels line_labels

abbrev pub labels_in_body : Body → ℕ
labels_in_body = fold-Body ℕ ℕ ℕ ℕ simple_labels body_labels branch_labels line_labels

abbrev pub labels_in_branch : Branch → ℕ
labels_in_branch = fold-Branch ℕ ℕ ℕ ℕ simple_labels body_labels branch_labels line_labels

abbrev pub labels_in_line : Stmt → ℕ
labels_in_line = fold-Stmt ℕ ℕ ℕ ℕ simple_labels body_labels branch_labels line_labels

-- ---- what the grammar gives

abbrev pub all : List Bool → Bool
all [] = true
all (b ∷ bs) = b && all bs

abbrev pub all_if : Option (List Bool) → Bool
all_if None = true
all_if (Some bs) = all bs

abbrev pub true_if : Option Bool → Bool
true_if None = true
true_if (Some b) = b

-- A SWITCH has a label, an IF a branch; what AND and OR join are two or more.
abbrev pub simple_stands : Simple-F Bool Bool Bool Bool → Bool
simple_stands (Simple-F.Switch e ns at) = nat_lt 0 (length ns)
simple_stands (Simple-F.Block b at) = b
simple_stands (Simple-F.If bs e at) = nat_lt 0 (length bs) && (all bs && all_if e)
simple_stands (Simple-F.For c limit xs at) = all xs
simple_stands (Simple-F.While c xs at) = joins_two c && all xs
simple_stands _ = true

abbrev pub body_stands : Body-F Bool Bool Bool Bool → Bool
body_stands b = all b.statements

abbrev pub branch_stands : Branch-F Bool Bool Bool Bool → Bool
branch_stands b = joins_two b.test && all b.taken

abbrev pub line_stands : Stmt-F Bool Bool Bool Bool → Bool
line_stands x = true_if x.simple

abbrev pub simple_is_broad : Simple → Bool
simple_is_broad = fold-Simple Bool Bool Bool Bool simple_stands body_stands branch_stands line_stands

abbrev pub body_is_broad : Body → Bool
body_is_broad = fold-Body Bool Bool Bool Bool simple_stands body_stands branch_stands line_stands

abbrev pub branch_is_broad : Branch → Bool
branch_is_broad = fold-Branch Bool Bool Bool Bool simple_stands body_stands branch_stands line_stands

abbrev pub line_is_broad : Stmt → Bool
line_is_broad = fold-Stmt Bool Bool Bool Bool simple_stands body_stands branch_stands line_stands
