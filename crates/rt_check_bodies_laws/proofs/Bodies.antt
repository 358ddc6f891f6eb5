-- A body stays within its items.
use Rattle.std.proofs.Common.{◌≡◌, ℕ, ◌+◌, ◌*◌, ◌&&◌, Bool, true, false, List, [], ◌∷◌, length, map, Option, Some, None, arith, refl, sym, ◌∙◌, subst}
use Rattle.std.specs.Prelude.{nat_lt}
use Rattle.rt_grammar.specs.declared.at.Ident.{Ident}
use Rattle.rt_bricks_laws.specs.Counts.{sum, listed, in_locals, in_stat, in_body, in_branch, in_line, in_cond, stat_items}
use Rattle.rt_syntax.specs.declared.tree.Body.{Body, out-Body, roll-Body, map-Body}
use Rattle.rt_syntax.specs.declared.tree.Body as body_lemmas
use Rattle.rt_syntax.specs.declared.tree.Branch.{Branch, out-Branch, roll-Branch, map-Branch}
use Rattle.rt_syntax.specs.declared.tree.Branch as branch_lemmas
use Rattle.rt_syntax.specs.declared.tree.Simple.{Simple, out-Simple, roll-Simple, map-Simple}
use Rattle.rt_syntax.specs.declared.tree.Simple as simple_lemmas
use Rattle.rt_syntax.specs.declared.tree.Simple.TheFolds.{ind-Body, fold_out-Simple, fold_out-Body, fold_out-Branch, fold_out-Stmt}
use Rattle.rt_syntax.specs.declared.tree.Simple.TheOpen.{Simple-F, Body-F, Branch-F, Stmt-F}
use Rattle.rt_syntax.specs.declared.tree.Stmt.{Stmt, out-Stmt, roll-Stmt, map-Stmt}
use Rattle.rt_syntax.specs.declared.tree.Stmt as stmt_lemmas
use Rattle.rt_syntax_exprs.specs.Joins.{joins_two}
use Rattle.rt_check_bodies.specs.declared.answer.Answer.{Answer}
use Rattle.rt_check_bodies.specs.Statements as spec
use Rattle.rt_check_bodies.specs.Statements.{Line, JudgedStat, JudgedBody, JudgedBranch}
use Rattle.rt_bricks_laws.specs.Bodies.{simple_stands, all, simple_is_broad, body_is_broad, branch_is_broad, line_is_broad}
use Rattle.rt_check_bodies_laws.proofs.Growing.{grew_same, grew_then}
use Rattle.rt_check_bodies_laws.proofs.Good.{StatGood, call_good, assign_good, assign_val_good, return_good, value_return_good, goto_good, switch_good}
use Rattle.rt_check_bodies_laws.proofs.Inside.{BodyGood, BranchGood, BranchesGood, block_good, body_good, while_good, to_good, for_good, branch_good, if_good, else_good}
use Rattle.rt_check_bodies_laws.proofs.Lines.{LineGood, AllGood}

left_of : (a b : Bool) → a && b ≡ true → a ≡ true
left_of true b e = refl
left_of false b e = e

right_of : (a b : Bool) → a && b ≡ true → b ≡ true
right_of true b e = e
right_of false b e = absurd cc

as_stat : {p q : JudgedStat} {m n : ℕ} → p ≡ q → m ≡ n → StatGood q n → StatGood p m
as_stat {p = p} {q = q} {m = m} {n = n} e h g = subst (λ (z : JudgedStat). StatGood z m) (sym e) (subst (λ (z : ℕ). StatGood q z) (sym h) g)

as_body : {p q : JudgedBody} {m n : ℕ} → p ≡ q → m ≡ n → BodyGood q n → BodyGood p m
as_body {p = p} {q = q} {m = m} {n = n} e h g = subst (λ (z : JudgedBody). BodyGood z m) (sym e) (subst (λ (z : ℕ). BodyGood q z) (sym h) g)

as_branch : {p q : JudgedBranch} {m n : ℕ} → p ≡ q → m ≡ n → BranchGood q n → BranchGood p m
as_branch {p = p} {q = q} {m = m} {n = n} e h g = subst (λ (z : JudgedBranch). BranchGood z m) (sym e) (subst (λ (z : ℕ). BranchGood q z) (sym h) g)

as_line : {p q : Line} {m n : ℕ} → p ≡ q → m ≡ n → LineGood q n → LineGood p m
as_line {p = p} {q = q} {m = m} {n = n} e h g = subst (λ (z : Line). LineGood z m) (sym e) (subst (λ (z : ℕ). LineGood q z) (sym h) g)

module _ (r : Answer) where
  abbrev SimpleM : Simple → Type 0
  SimpleM x = simple_is_broad x ≡ true → StatGood (spec.stat r x) (in_stat x)

  abbrev BodyM : Body → Type 0
  BodyM x = body_is_broad x ≡ true → BodyGood (spec.body r x) (in_body x)

  abbrev BranchM : Branch → Type 0
  BranchM x = branch_is_broad x ≡ true → BranchGood (spec.branch r x) (in_branch x)

  abbrev LineM : Stmt → Type 0
  LineM x = line_is_broad x ≡ true → LineGood (spec.line r x) (in_line x)

  abbrev SimplePair : Type 0
  SimplePair = (x : Simple) × SimpleM x

  abbrev BodyPair : Type 0
  BodyPair = (x : Body) × BodyM x

  abbrev BranchPair : Type 0
  BranchPair = (x : Branch) × BranchM x

  abbrev LinePair : Type 0
  LinePair = (x : Stmt) × LineM x

  -- ---- by the first level

  stat_at : (x : Simple) (l : Simple-F Simple Body Branch Stmt) → out-Simple x ≡ l
      → spec.stat r x ≡ spec.one_stat r (map-Simple Simple Body Branch Stmt JudgedStat JudgedBody JudgedBranch Line (spec.stat r) (spec.body r) (spec.branch r) (spec.line r) l)
  stat_at x l o = rw (fold_out-Simple, o) refl

  items_at : (x : Simple) (l : Simple-F Simple Body Branch Stmt) → out-Simple x ≡ l → in_stat x ≡ stat_items (map-Simple Simple Body Branch Stmt ℕ ℕ ℕ ℕ in_stat in_body in_branch in_line l)
  items_at x l o = rw (fold_out-Simple, o) refl

  broad_at : (x : Simple) (l : Simple-F Simple Body Branch Stmt) → out-Simple x ≡ l
      → simple_is_broad x ≡ simple_stands (map-Simple Simple Body Branch Stmt Bool Bool Bool Bool simple_is_broad body_is_broad branch_is_broad line_is_broad l)
  broad_at x l o = rw (fold_out-Simple, o) refl

  all_lines : (ys : List LinePair) → all (map line_is_broad (map (λ (e : LinePair). e.0) ys)) ≡ true → AllGood (map (spec.line r) (map (λ (e : LinePair). e.0) ys)) (map in_line (map (λ (e : LinePair). e.0) ys))
  all_lines [] b = tt
  all_lines (y ∷ ys) b =
      let rest : Bool = all (map line_is_broad (map (λ (e : LinePair). e.0) ys)) in
      (y.1 (left_of (line_is_broad y.0) rest b), all_lines ys (right_of (line_is_broad y.0) rest b))

  all_branches : (ys : List BranchPair) → all (map branch_is_broad (map (λ (e : BranchPair). e.0) ys)) ≡ true
      → BranchesGood (map (spec.branch r) (map (λ (e : BranchPair). e.0) ys)) (map in_branch (map (λ (e : BranchPair). e.0) ys))
  all_branches [] b = tt
  all_branches (y ∷ ys) b =
      let rest : Bool = all (map branch_is_broad (map (λ (e : BranchPair). e.0) ys)) in
      (y.1 (left_of (branch_is_broad y.0) rest b), all_branches ys (right_of (branch_is_broad y.0) rest b))

  -- ---- statements

  simple_level : (x : Simple) (y : Simple-F SimplePair BodyPair BranchPair LinePair)
      → out-Simple x ≡ map-Simple SimplePair BodyPair BranchPair LinePair Simple Body Branch Stmt (λ e. e.0) (λ e. e.0) (λ e. e.0) (λ e. e.0) y → SimpleM x
  simple_level x (Simple-F.Call h) o b = as_stat (stat_at x (Simple-F.Call h) o) (items_at x (Simple-F.Call h) o) (call_good h)
  simple_level x (Simple-F.Assign h e at) o b = as_stat (stat_at x (Simple-F.Assign h e at) o) (items_at x (Simple-F.Assign h e at) o) (assign_good h e)
  simple_level x (Simple-F.AssignVal h e at) o b = as_stat (stat_at x (Simple-F.AssignVal h e at) o) (items_at x (Simple-F.AssignVal h e at) o) (assign_val_good at h e)
  simple_level x (Simple-F.Goto n at) o b = as_stat (stat_at x (Simple-F.Goto n at) o) (items_at x (Simple-F.Goto n at) o) (goto_good n)
  simple_level x (Simple-F.Return None at) o b = as_stat (stat_at x (Simple-F.Return None at) o) (items_at x (Simple-F.Return None at) o) (return_good r at)
  simple_level x (Simple-F.Return (Some e) at) o b = as_stat (stat_at x (Simple-F.Return (Some e) at) o) (items_at x (Simple-F.Return (Some e) at) o) (value_return_good r e at)
  simple_level x (Simple-F.Switch e ns at) o b = as_stat (stat_at x (Simple-F.Switch e ns at) o) (items_at x (Simple-F.Switch e ns at) o) (switch_good e ns)
  simple_level x (Simple-F.Block p at) o b =
      as_stat (stat_at x (Simple-F.Block p.0 at) o) (items_at x (Simple-F.Block p.0 at) o) (block_good r (spec.body r p.0) (in_body p.0) at (p.1 (sym (broad_at x (Simple-F.Block p.0 at) o) ∙ b)))
  simple_level x (Simple-F.If ys None at) o b =
      let bs : List Branch = map (λ (e : BranchPair). e.0) ys in
      let all_broad : Bool = all (map branch_is_broad bs) in
      let h = sym (broad_at x (Simple-F.If bs None at) o) ∙ b in
      let z = all_branches ys (left_of all_broad true (right_of (nat_lt 0 (length (map branch_is_broad bs))) (all_broad && true) h)) in
      as_stat (stat_at x (Simple-F.If bs None at) o) (items_at x (Simple-F.If bs None at) o) (if_good r (map (spec.branch r) bs) (map in_branch bs) at z)
  simple_level x (Simple-F.If ys (Some xs) at) o b =
      let bs : List Branch = map (λ (e : BranchPair). e.0) ys in
      let es : List Stmt = map (λ (e : LinePair). e.0) xs in
      let all_broad : Bool = all (map branch_is_broad bs) in
      let else_broad : Bool = all (map line_is_broad es) in
      let h = sym (broad_at x (Simple-F.If bs (Some es) at) o) ∙ b in
      let g = right_of (nat_lt 0 (length (map branch_is_broad bs))) (all_broad && else_broad) h in
      as_stat (stat_at x (Simple-F.If bs (Some es) at) o) (items_at x (Simple-F.If bs (Some es) at) o)
      (else_good r (map (spec.branch r) bs) (map in_branch bs) (map (spec.line r) es) (map in_line es) at (all_branches ys (left_of all_broad else_broad g)) (all_lines xs (right_of all_broad else_broad g)))
  simple_level x (Simple-F.For None limit xs at) o b =
      let es : List Stmt = map (λ (e : LinePair). e.0) xs in
      as_stat (stat_at x (Simple-F.For None limit es at) o) (items_at x (Simple-F.For None limit es at) o ∙ omega arith) (to_good limit (map (spec.line r) es) (map in_line es) (all_lines xs (sym (broad_at x (Simple-F.For None limit es at) o) ∙ b)))
  simple_level x (Simple-F.For (Some d) limit xs at) o b =
      let es : List Stmt = map (λ (e : LinePair). e.0) xs in
      as_stat (stat_at x (Simple-F.For (Some d) limit es at) o) (items_at x (Simple-F.For (Some d) limit es at) o) (for_good d limit (map (spec.line r) es) (map in_line es) (all_lines xs (sym (broad_at x (Simple-F.For (Some d) limit es at) o) ∙ b)))
  simple_level x (Simple-F.While d xs at) o b =
      let es : List Stmt = map (λ (e : LinePair). e.0) xs in
      let all_broad : Bool = all (map line_is_broad es) in
      let h = sym (broad_at x (Simple-F.While d es at) o) ∙ b in
      as_stat (stat_at x (Simple-F.While d es at) o) (items_at x (Simple-F.While d es at) o) (while_good r d (map (spec.line r) es) (map in_line es) at (left_of (joins_two d) all_broad h) (all_lines xs (right_of (joins_two d) all_broad h)))

  body_level : (x : Body) (y : Body-F SimplePair BodyPair BranchPair LinePair)
      → out-Body x ≡ map-Body SimplePair BodyPair BranchPair LinePair Simple Body Branch Stmt (λ e. e.0) (λ e. e.0) (λ e. e.0) (λ e. e.0) y → BodyM x
  body_level x y o b =
      let es : List Stmt = map (λ (e : LinePair). e.0) y.statements in
      let part : spec.body r x ≡ spec.one_body r (record { locals = y.locals; statements = map (spec.line r) es; at = y.at }) = rw (fold_out-Body, o) refl in
      let items : in_body x ≡ sum (map in_locals y.locals) + listed (map in_line es) = rw (fold_out-Body, o) refl in
      let broad : body_is_broad x ≡ all (map line_is_broad es) = rw (fold_out-Body, o) refl in
      as_body part items (body_good r y.locals (map (spec.line r) es) (map in_line es) y.at (all_lines y.statements (sym broad ∙ b)))

  branch_level : (x : Branch) (y : Branch-F SimplePair BodyPair BranchPair LinePair)
      → out-Branch x ≡ map-Branch SimplePair BodyPair BranchPair LinePair Simple Body Branch Stmt (λ e. e.0) (λ e. e.0) (λ e. e.0) (λ e. e.0) y → BranchM x
  branch_level x y o b =
      let es : List Stmt = map (λ (e : LinePair). e.0) y.taken in
      let part : spec.branch r x ≡ spec.one_branch r (record { test = y.test; taken = map (spec.line r) es; at = y.at }) = rw (fold_out-Branch, o) refl in
      let items : in_branch x ≡ 2 + (in_cond y.test + listed (map in_line es)) = rw (fold_out-Branch, o) refl in
      let broad : branch_is_broad x ≡ joins_two y.test && all (map line_is_broad es) = rw (fold_out-Branch, o) refl in
      let h = sym broad ∙ b in
      as_branch part items (branch_good r y.test (map (spec.line r) es) (map in_line es) y.at (left_of (joins_two y.test) (all (map line_is_broad es)) h) (all_lines y.taken (right_of (joins_two y.test) (all (map line_is_broad es)) h)))

  -- an empty statement
  empty_line : (ls : List Ident) (n : ℕ) → LineGood (record { labels = ls; part = spec.any_stat r None }) n
  empty_line ls n = record { grows = λ s t. grew_same t; counts = λ s t. omega arith; within = λ c a s seen t k f. tt }

  full_line : (ls : List Ident) (p : JudgedStat) (n : ℕ) → StatGood p n → LineGood (record { labels = ls; part = spec.any_stat r (Some p) }) (2 * length ls + n)
  full_line ls p n h = record {
    grows = λ s t. grew_then (h.grows s t) (grew_same _);
    counts = λ s t. omega (arith, h.counts s t);
    within = λ c a s seen t k f. let q = h.within c a s seen t k f in record { weight = omega (arith, q.weight); depth = omega (arith, q.depth) };
  }

  line_cases : (x : Stmt) (y : Stmt-F SimplePair BodyPair BranchPair LinePair) (z : Option SimplePair) → y.simple ≡ z
      → out-Stmt x ≡ map-Stmt SimplePair BodyPair BranchPair LinePair Simple Body Branch Stmt (λ e. e.0) (λ e. e.0) (λ e. e.0) (λ e. e.0) y → LineM x
  line_cases x y None e o b =
      let part : spec.line r x ≡ record { labels = y.labels; part = spec.any_stat r None } = rw (fold_out-Stmt, o, e) refl in
      as_line part refl (empty_line y.labels (in_line x))
  line_cases x y (Some p) e o b =
      let part : spec.line r x ≡ record { labels = y.labels; part = spec.any_stat r (Some (spec.stat r p.0)) } = rw (fold_out-Stmt, o, e) refl in
      let items : in_line x ≡ 2 * length y.labels + in_stat p.0 = rw (fold_out-Stmt, o, e) refl in
      let broad : line_is_broad x ≡ simple_is_broad p.0 = rw (fold_out-Stmt, o, e) refl in
      as_line part items (full_line y.labels (spec.stat r p.0) (in_stat p.0) (p.1 (sym broad ∙ b)))

  line_level : (x : Stmt) (y : Stmt-F SimplePair BodyPair BranchPair LinePair)
      → out-Stmt x ≡ map-Stmt SimplePair BodyPair BranchPair LinePair Simple Body Branch Stmt (λ e. e.0) (λ e. e.0) (λ e. e.0) (λ e. e.0) y → LineM x
  line_level x y o = line_cases x y y.simple refl o

  rolled_simple : (x : Simple-F Simple Body Branch Stmt) → out-Simple (roll-Simple x) ≡ x
  rolled_simple x = search simple_lemmas.the_lemmas

  rolled_body : (x : Body-F Simple Body Branch Stmt) → out-Body (roll-Body x) ≡ x
  rolled_body x = search body_lemmas.the_lemmas

  rolled_branch : (x : Branch-F Simple Body Branch Stmt) → out-Branch (roll-Branch x) ≡ x
  rolled_branch x = search branch_lemmas.the_lemmas

  rolled_line : (x : Stmt-F Simple Body Branch Stmt) → out-Stmt (roll-Stmt x) ≡ x
  rolled_line x = search stmt_lemmas.the_lemmas

  pub body_stays : (x : Body) → body_is_broad x ≡ true → BodyGood (spec.body r x) (in_body x)
  body_stays = ind-Body SimpleM BodyM BranchM LineM (λ x y is. simple_level (roll-Simple x) y (rolled_simple x ∙ sym is)) (λ x y is. body_level (roll-Body x) y (rolled_body x ∙ sym is))
      (λ x y is. branch_level (roll-Branch x) y (rolled_branch x ∙ sym is)) (λ x y is. line_level (roll-Stmt x) y (rolled_line x ∙ sym is))
