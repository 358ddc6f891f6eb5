-- A body names locals where these have a value, whatever stands in it.
use Rattle.std.proofs.Common.{◌≡◌, ℕ, ◌+◌, ◌&&◌, Bool, true, List, [], ◌∷◌, length, map, Option, Some, None, refl, sym, ◌∙◌, subst}
use Rattle.rt_grammar.specs.declared.at.Ident.{Ident}
use Rattle.rt_syntax.specs.declared.tree.Body.{Body, out-Body, roll-Body, map-Body}
use Rattle.rt_syntax.specs.declared.tree.Body as body_lemmas
use Rattle.rt_syntax.specs.declared.tree.Branch.{Branch, out-Branch, roll-Branch, map-Branch}
use Rattle.rt_syntax.specs.declared.tree.Branch as branch_lemmas
use Rattle.rt_syntax.specs.declared.tree.Simple.{Simple, out-Simple, roll-Simple, map-Simple}
use Rattle.rt_syntax.specs.declared.tree.Simple as simple_lemmas
use Rattle.rt_syntax.specs.declared.tree.Simple.TheFolds.{ind-Body, fold_out-Simple, fold_out-Body, fold_out-Branch, fold_out-Stmt}
use Rattle.rt_syntax.specs.declared.tree.Simple.TheOpen.{Simple-F, Body-F, Branch-F, Stmt-F}
use Rattle.rt_syntax.specs.declared.tree.Stmt.{Stmt, out-Stmt, roll-Stmt, map-Stmt}
use Rattle.rt_syntax.specs.declared.tree.Stmt as stmt_lemmas
use Rattle.rt_tree_nodes.specs.Scopes.{Scope}
use Rattle.rt_check_bodies.specs.declared.answer.Answer.{Answer}
use Rattle.rt_check_bodies.specs.Statements as spec
use Rattle.rt_check_bodies.specs.Statements.{Line, JudgedStat, JudgedBody, JudgedBranch}
use Rattle.rt_bricks_laws.specs.Bodies.{sum, simple_labels, all, labels_in_simple, labels_in_body, labels_in_branch, labels_in_line}
use Rattle.rt_check_bodies_laws.proofs.Growing.{grew_same, grew_then}
use Rattle.rt_bricks_laws.specs.Numbers.{words_in_expr, words_in_cond, words_in_locals, words_in_control, simple_words, words_in_simple, words_in_body, words_in_branch, words_in_statement}
use Rattle.rt_bricks_laws.proofs.AllLists.{left_of, right_of}
use Rattle.rt_meaning_sound.proofs.Good.{StatGood, call_good, assign_good, assign_val_good, return_good, goto_good, switch_good}
use Rattle.rt_meaning_sound.proofs.Inside.{BodyGood, BranchGood, BranchesGood, block_good, body_good, while_good, to_good, for_good, branch_good, if_good, else_good}
use Rattle.rt_meaning_sound.proofs.Judged.{Around}
use Rattle.rt_meaning_sound.proofs.Lines.{LineGood, AllGood}
use Rattle.rt_meaning_sound.proofs.Sets.{made_alone}

module _ (c : Scope) (a : Around c) where
  as_stat : {p q : JudgedStat} {m n : ℕ} → p ≡ q → m ≡ n → StatGood c a q n → StatGood c a p m
  as_stat {p = p} {q = q} {m = m} {n = n} e h g = subst (λ (z : JudgedStat). StatGood c a z m) (sym e) (subst (λ (z : ℕ). StatGood c a q z) (sym h) g)

  as_body : {p q : JudgedBody} {m n : ℕ} → p ≡ q → m ≡ n → BodyGood c a q n → BodyGood c a p m
  as_body {p = p} {q = q} {m = m} {n = n} e h g = subst (λ (z : JudgedBody). BodyGood c a z m) (sym e) (subst (λ (z : ℕ). BodyGood c a q z) (sym h) g)

  as_branch : {p q : JudgedBranch} {m n : ℕ} → p ≡ q → m ≡ n → BranchGood c a q n → BranchGood c a p m
  as_branch {p = p} {q = q} {m = m} {n = n} e h g = subst (λ (z : JudgedBranch). BranchGood c a z m) (sym e) (subst (λ (z : ℕ). BranchGood c a q z) (sym h) g)

  as_line : {p q : Line} {m n : ℕ} → p ≡ q → m ≡ n → LineGood c q n → LineGood c p m
  as_line {p = p} {q = q} {m = m} {n = n} e h g = subst (λ (z : Line). LineGood c z m) (sym e) (subst (λ (z : ℕ). LineGood c q z) (sym h) g)

  module _ (r : Answer) where
    abbrev SimpleM : Simple → Type 0
    SimpleM x = words_in_simple x ≡ true → StatGood c a (spec.stat r x) (labels_in_simple x)

    abbrev BodyM : Body → Type 0
    BodyM x = words_in_body x ≡ true → BodyGood c a (spec.body r x) (labels_in_body x)

    abbrev BranchM : Branch → Type 0
    BranchM x = words_in_branch x ≡ true → BranchGood c a (spec.branch r x) (labels_in_branch x)

    abbrev LineM : Stmt → Type 0
    LineM x = words_in_statement x ≡ true → LineGood c (spec.line r x) (labels_in_line x)

    abbrev SimplePair : Type 0
    SimplePair = (x : Simple) × SimpleM x

    abbrev BodyPair : Type 0
    BodyPair = (x : Body) × BodyM x

    abbrev BranchPair : Type 0
    BranchPair = (x : Branch) × BranchM x

    abbrev LinePair : Type 0
    LinePair = (x : Stmt) × LineM x

    -- ---- by the first level

    stat_at : (x : Simple) (l : Simple-F Simple Body Branch Stmt) → out-Simple x ≡ l
        → spec.stat r x ≡ spec.one_stat r (map-Simple Simple Body Branch Stmt JudgedStat JudgedBody JudgedBranch Line (spec.stat r) (spec.body r) (spec.branch r) (spec.line r) l)
    stat_at x l o = rw (fold_out-Simple, o) refl

    count_at : (x : Simple) (l : Simple-F Simple Body Branch Stmt) → out-Simple x ≡ l
        → labels_in_simple x ≡ simple_labels (map-Simple Simple Body Branch Stmt ℕ ℕ ℕ ℕ labels_in_simple labels_in_body labels_in_branch labels_in_line l)
    count_at x l o = rw (fold_out-Simple, o) refl

    words_at : (x : Simple) (l : Simple-F Simple Body Branch Stmt) → out-Simple x ≡ l → words_in_simple x ≡ true
        → simple_words (map-Simple Simple Body Branch Stmt Bool Bool Bool Bool words_in_simple words_in_body words_in_branch words_in_statement l) ≡ true
    words_at x l o w = let is : words_in_simple x ≡ simple_words (map-Simple Simple Body Branch Stmt Bool Bool Bool Bool words_in_simple words_in_body words_in_branch words_in_statement l) = rw (fold_out-Simple, o) refl in sym is ∙ w

    abbrev lines_of : List LinePair → List Stmt
    lines_of ys = map (λ (e : LinePair). e.0) ys

    abbrev branches_of : List BranchPair → List Branch
    branches_of ys = map (λ (e : BranchPair). e.0) ys

    all_lines : (ys : List LinePair) → all (map words_in_statement (lines_of ys)) ≡ true → AllGood c (map (spec.line r) (lines_of ys)) (map labels_in_line (lines_of ys))
    all_lines [] w = tt
    all_lines (y ∷ ys) w =
        let others : Bool = all (map words_in_statement (lines_of ys)) in
        (y.1 (left_of (words_in_statement y.0) others w), all_lines ys (right_of (words_in_statement y.0) others w))

    all_branches : (ys : List BranchPair) → all (map words_in_branch (branches_of ys)) ≡ true → BranchesGood c a (map (spec.branch r) (branches_of ys)) (map labels_in_branch (branches_of ys))
    all_branches [] w = tt
    all_branches (y ∷ ys) w =
        let others : Bool = all (map words_in_branch (branches_of ys)) in
        (y.1 (left_of (words_in_branch y.0) others w), all_branches ys (right_of (words_in_branch y.0) others w))

    -- ---- statements

    simple_level : (x : Simple) (y : Simple-F SimplePair BodyPair BranchPair LinePair)
        → out-Simple x ≡ map-Simple SimplePair BodyPair BranchPair LinePair Simple Body Branch Stmt (λ e. e.0) (λ e. e.0) (λ e. e.0) (λ e. e.0) y → SimpleM x
    simple_level x (Simple-F.Call h) o w = as_stat (stat_at x (Simple-F.Call h) o) (count_at x (Simple-F.Call h) o) (call_good c a h (words_at x (Simple-F.Call h) o w))
    simple_level x (Simple-F.Assign h e at) o w = as_stat (stat_at x (Simple-F.Assign h e at) o) (count_at x (Simple-F.Assign h e at) o) (assign_good c a h e (words_at x (Simple-F.Assign h e at) o w))
    simple_level x (Simple-F.AssignVal h e at) o w = as_stat (stat_at x (Simple-F.AssignVal h e at) o) (count_at x (Simple-F.AssignVal h e at) o) (assign_val_good c a at h e (words_at x (Simple-F.AssignVal h e at) o w))
    simple_level x (Simple-F.Goto n at) o w = as_stat (stat_at x (Simple-F.Goto n at) o) (count_at x (Simple-F.Goto n at) o) (goto_good c a n)
    simple_level x (Simple-F.Return e at) o w = as_stat (stat_at x (Simple-F.Return e at) o) (count_at x (Simple-F.Return e at) o) (return_good c a r e at (words_at x (Simple-F.Return e at) o w))
    simple_level x (Simple-F.Switch e ns at) o w = as_stat (stat_at x (Simple-F.Switch e ns at) o) (count_at x (Simple-F.Switch e ns at) o) (switch_good c a e ns (words_at x (Simple-F.Switch e ns at) o w))
    simple_level x (Simple-F.Block p at) o w =
        as_stat (stat_at x (Simple-F.Block p.0 at) o) (count_at x (Simple-F.Block p.0 at) o) (block_good c a r (spec.body r p.0) (labels_in_body p.0) at (p.1 (words_at x (Simple-F.Block p.0 at) o w)))
    simple_level x (Simple-F.If ys None at) o w =
        let bs : List Branch = branches_of ys in
        let v = words_at x (Simple-F.If bs None at) o w in
        as_stat (stat_at x (Simple-F.If bs None at) o) (count_at x (Simple-F.If bs None at) o) (if_good c a r (map (spec.branch r) bs) (map labels_in_branch bs) at (all_branches ys (left_of (all (map words_in_branch bs)) true v)))
    simple_level x (Simple-F.If ys (Some xs) at) o w =
        let bs : List Branch = branches_of ys in
        let es : List Stmt = lines_of xs in
        let v = words_at x (Simple-F.If bs (Some es) at) o w in
        let all_words : Bool = all (map words_in_branch bs) in
        let else_words : Bool = all (map words_in_statement es) in
        as_stat (stat_at x (Simple-F.If bs (Some es) at) o) (count_at x (Simple-F.If bs (Some es) at) o)
        (else_good c a r (map (spec.branch r) bs) (map labels_in_branch bs) (map (spec.line r) es) (map labels_in_line es) at (all_branches ys (left_of all_words else_words v)) (all_lines xs (right_of all_words else_words v)))
    simple_level x (Simple-F.For None limit xs at) o w =
        let es : List Stmt = lines_of xs in
        let v = words_at x (Simple-F.For None limit es at) o w in
        let all_words : Bool = all (map words_in_statement es) in
        as_stat (stat_at x (Simple-F.For None limit es at) o) (count_at x (Simple-F.For None limit es at) o)
        (to_good c a limit (map (spec.line r) es) (map labels_in_line es) (left_of (words_in_expr limit) all_words v) (all_lines xs (right_of (words_in_expr limit) all_words v)))
    simple_level x (Simple-F.For (Some d) limit xs at) o w =
        let es : List Stmt = lines_of xs in
        let v = words_at x (Simple-F.For (Some d) limit es at) o w in
        let all_words : Bool = all (map words_in_statement es) in
        let rest = right_of (words_in_control (Some d)) (words_in_expr limit && all_words) v in
        as_stat (stat_at x (Simple-F.For (Some d) limit es at) o) (count_at x (Simple-F.For (Some d) limit es at) o)
        (for_good c a d limit (map (spec.line r) es) (map labels_in_line es) (left_of (words_in_control (Some d)) (words_in_expr limit && all_words) v) (left_of (words_in_expr limit) all_words rest) (all_lines xs (right_of (words_in_expr limit) all_words rest)))
    simple_level x (Simple-F.While d xs at) o w =
        let es : List Stmt = lines_of xs in
        let v = words_at x (Simple-F.While d es at) o w in
        let all_words : Bool = all (map words_in_statement es) in
        as_stat (stat_at x (Simple-F.While d es at) o) (count_at x (Simple-F.While d es at) o)
        (while_good c a r d (map (spec.line r) es) (map labels_in_line es) at (left_of (words_in_cond d) all_words v) (all_lines xs (right_of (words_in_cond d) all_words v)))

    body_level : (x : Body) (y : Body-F SimplePair BodyPair BranchPair LinePair)
        → out-Body x ≡ map-Body SimplePair BodyPair BranchPair LinePair Simple Body Branch Stmt (λ e. e.0) (λ e. e.0) (λ e. e.0) (λ e. e.0) y → BodyM x
    body_level x y o w =
        let es : List Stmt = lines_of y.statements in
        let part : spec.body r x ≡ spec.one_body r (record { locals = y.locals; statements = map (spec.line r) es; at = y.at }) = rw (fold_out-Body, o) refl in
        let count : labels_in_body x ≡ sum (map labels_in_line es) = rw (fold_out-Body, o) refl in
        let words : words_in_body x ≡ all (map words_in_locals y.locals) && all (map words_in_statement es) = rw (fold_out-Body, o) refl in
        let v = sym words ∙ w in
        let declared : Bool = all (map words_in_locals y.locals) in
        let others : Bool = all (map words_in_statement es) in
        as_body part count (body_good c a r y.locals (map (spec.line r) es) (map labels_in_line es) y.at (left_of declared others v) (all_lines y.statements (right_of declared others v)))

    branch_level : (x : Branch) (y : Branch-F SimplePair BodyPair BranchPair LinePair)
        → out-Branch x ≡ map-Branch SimplePair BodyPair BranchPair LinePair Simple Body Branch Stmt (λ e. e.0) (λ e. e.0) (λ e. e.0) (λ e. e.0) y → BranchM x
    branch_level x y o w =
        let es : List Stmt = lines_of y.taken in
        let part : spec.branch r x ≡ spec.one_branch r (record { test = y.test; taken = map (spec.line r) es; at = y.at }) = rw (fold_out-Branch, o) refl in
        let count : labels_in_branch x ≡ sum (map labels_in_line es) = rw (fold_out-Branch, o) refl in
        let words : words_in_branch x ≡ words_in_cond y.test && all (map words_in_statement es) = rw (fold_out-Branch, o) refl in
        let v = sym words ∙ w in
        let all_words : Bool = all (map words_in_statement es) in
        as_branch part count (branch_good c a r y.test (map (spec.line r) es) (map labels_in_line es) y.at (left_of (words_in_cond y.test) all_words v) (all_lines y.taken (right_of (words_in_cond y.test) all_words v)))

    -- an empty statement
    empty_line : (ls : List Ident) → LineGood c (record { labels = ls; part = spec.any_stat r None }) (length ls + 0)
    empty_line ls = record { inner = 0; count = refl; grows = λ s t. grew_same t; made = λ s t v f b z. made_alone t.labels t.labels refl (λ at k. tt) }

    full_line : (ls : List Ident) (p : JudgedStat) (n : ℕ) → StatGood c a p n → LineGood c (record { labels = ls; part = spec.any_stat r (Some p) }) (length ls + n)
    full_line ls p n h = record { inner = n; count = refl; grows = λ s t. grew_then (h.grows s t) (grew_same _); made = λ s t v f b z. h.made s t v f b z }

    line_cases : (x : Stmt) (y : Stmt-F SimplePair BodyPair BranchPair LinePair) (z : Option SimplePair) → y.simple ≡ z
        → out-Stmt x ≡ map-Stmt SimplePair BodyPair BranchPair LinePair Simple Body Branch Stmt (λ e. e.0) (λ e. e.0) (λ e. e.0) (λ e. e.0) y → LineM x
    line_cases x y None e o w =
        let part : spec.line r x ≡ record { labels = y.labels; part = spec.any_stat r None } = rw (fold_out-Stmt, o, e) refl in
        let count : labels_in_line x ≡ length y.labels + 0 = rw (fold_out-Stmt, o, e) refl in
        as_line part count (empty_line y.labels)
    line_cases x y (Some p) e o w =
        let part : spec.line r x ≡ record { labels = y.labels; part = spec.any_stat r (Some (spec.stat r p.0)) } = rw (fold_out-Stmt, o, e) refl in
        let count : labels_in_line x ≡ length y.labels + labels_in_simple p.0 = rw (fold_out-Stmt, o, e) refl in
        let words : words_in_statement x ≡ words_in_simple p.0 = rw (fold_out-Stmt, o, e) refl in
        as_line part count (full_line y.labels (spec.stat r p.0) (labels_in_simple p.0) (p.1 (sym words ∙ w)))

    line_level : (x : Stmt) (y : Stmt-F SimplePair BodyPair BranchPair LinePair)
        → out-Stmt x ≡ map-Stmt SimplePair BodyPair BranchPair LinePair Simple Body Branch Stmt (λ e. e.0) (λ e. e.0) (λ e. e.0) (λ e. e.0) y → LineM x
    line_level x y o = line_cases x y y.simple refl o

    rolled_simple : (x : Simple-F Simple Body Branch Stmt) → out-Simple (roll-Simple x) ≡ x
    rolled_simple x = search simple_lemmas.the_lemmas

    rolled_body : (x : Body-F Simple Body Branch Stmt) → out-Body (roll-Body x) ≡ x
    rolled_body x = search body_lemmas.the_lemmas

    rolled_branch : (x : Branch-F Simple Body Branch Stmt) → out-Branch (roll-Branch x) ≡ x
    rolled_branch x = search branch_lemmas.the_lemmas

    rolled_line : (x : Stmt-F Simple Body Branch Stmt) → out-Stmt (roll-Stmt x) ≡ x
    rolled_line x = search stmt_lemmas.the_lemmas

    pub body_made : (x : Body) → words_in_body x ≡ true → BodyGood c a (spec.body r x) (labels_in_body x)
    body_made = ind-Body SimpleM BodyM BranchM LineM (λ x y is. simple_level (roll-Simple x) y (rolled_simple x ∙ sym is)) (λ x y is. body_level (roll-Body x) y (rolled_body x ∙ sym is))
        (λ x y is. branch_level (roll-Branch x) y (rolled_branch x ∙ sym is)) (λ x y is. line_level (roll-Stmt x) y (rolled_line x ∙ sym is))
