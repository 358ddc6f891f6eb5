-- What the checker makes of a body recovers nowhere, whether faults stand in it or not.
use Rattle.std.proofs.Common.{◌≡◌, ℕ, ◌||◌, Bool, false, List, [], ◌∷◌, ◌++◌, map, Option, Some, None, Ok, Err, refl, sym, ap, ◌∙◌, subst}
use Rattle.std.specs.List.{AllByRecursion}
use Rattle.rt_grammar.specs.declared.at.At.{At}
use Rattle.rt_syntax_exprs.specs.declared.tree.Expr.{Expr}
use Rattle.rt_syntax.specs.declared.tree.Body.{Body, out-Body, roll-Body, map-Body}
use Rattle.rt_syntax.specs.declared.tree.Body as body_lemmas
use Rattle.rt_syntax.specs.declared.tree.Branch.{Branch, out-Branch, roll-Branch, map-Branch}
use Rattle.rt_syntax.specs.declared.tree.Branch as branch_lemmas
use Rattle.rt_syntax.specs.declared.tree.Simple.{Simple, out-Simple, roll-Simple, map-Simple}
use Rattle.rt_syntax.specs.declared.tree.Simple as simple_lemmas
use Rattle.rt_syntax.specs.declared.tree.Simple.TheFolds.{ind-Body, fold_out-Simple, fold_out-Body, fold_out-Branch, fold_out-Stmt}
use Rattle.rt_syntax.specs.declared.tree.Simple.TheOpen.{Simple-F, Body-F, Branch-F, Stmt-F}
use Rattle.rt_syntax.specs.declared.tree.Stmt.{Stmt, out-Stmt, roll-Stmt, map-Stmt}
use Rattle.rt_syntax.specs.declared.tree.Stmt as stmt_lemmas
use Rattle.rt_bricks.specs.declared.tree.ProcedureBrick.{ProcedureBrick}
use Rattle.rt_modes.specs.declared.mode.Mode.{Mode}
use Rattle.rt_tree_nodes.specs.declared.brick.ModuleParts.{ModuleParts}
use Rattle.rt_tree_nodes.specs.declared.statement.Branch.{Branch as BranchMade}
use Rattle.rt_tree_nodes.specs.declared.statement.Labelled.{Labelled}
use Rattle.rt_tree_nodes.specs.declared.statement.LocalStart.{LocalStart}
use Rattle.rt_tree_nodes.specs.declared.statement.Stat.{Stat}
use Rattle.rt_tree_nodes.specs.declared.statement.Stat.TheVariants as stats
use Rattle.rt_tree_nodes.specs.declared.statement.Test.{Test}
use Rattle.rt_tree_nodes.specs.declared.value.Place.{Place}
use Rattle.rt_tree_nodes.specs.declared.value.Value.{Value}
use Rattle.rt_tree_nodes.specs.declared.value.Value.TheVariants as values
use Rattle.rt_tree_nodes.specs.Scopes.{Scope, scope_of, with_locals}
use Rattle.rt_tree_nodes.specs.Tree.{Term, Seq}
use Rattle.rt_tree_nodes.specs.Typing.{Placed, Valued, Spot, OnLocal, OnPath, OnRow, placed, valued}
use Rattle.rt_check_faults.specs.Outcomes.{Outcome, ◌>>=◌}
use Rattle.rt_exprs.specs.Judging.{alone, target, val_target}
use Rattle.rt_exprs.specs.Sights.{Names, Sight, within}
use Rattle.rt_tree.specs.Depth.{statement_recovers, sequence_recovers}
use Rattle.rt_tree.specs.Statements.{body_tree, starts_tree, start_tree, sequence_tree, branches_tree, if_tree, marks, call_tree, assigned_tree}
use Rattle.rt_tree.specs.Within.{tree_of}
use Rattle.rt_check_bodies.specs.declared.answer.Answer.{Answer}
use Rattle.rt_check_bodies.specs.declared.answer.Answer.TheVariants as answer
use Rattle.rt_check_bodies.specs.declared.plain.Bounds.{Bounds}
use Rattle.rt_check_bodies.specs.declared.tally.Tally.{Tally}
use Rattle.rt_check_bodies.specs.Parts.{found_or, numbers_from, three_locals, test_or, label_or, labels_in}
use Rattle.rt_check_bodies.specs.Procedures.{parameters, answer_in, nothing_yet, procedure}
use Rattle.rt_check_bodies.specs.Sights.{value_in, assigning, assigned_in, test_in, label_in}
use Rattle.rt_check_bodies.specs.Statements as spec
use Rattle.rt_check_bodies.specs.Statements.{Line, Declared, JudgedStat, JudgedBody, JudgedBranch, labels_of, labels_at, labelled, in_order, sequence, branches, bounds_in, variable_of, int_in, return_of, returned, declarations, before}
use Rattle.rt_bricks_laws.proofs.AllLists.{all_joined}
use Rattle.rt_check_bodies_laws.proofs.Made.{stat_of, branch_of, line_of, made_call, made_assign, made_goto, made_back, made_return, made_switch, made_block, made_while, made_to, made_for, made_if, made_else, made_body, made_branch, made_line}

neither : (a b : Bool) → a ≡ false → b ≡ false → a || b ≡ false
neither a b e h = rw (e, h) refl

module _ (c : Scope) where
  -- ---- statements without parts

  abbrev Plain : Stat → Type 0
  Plain x = statement_recovers (stat_of c x) ≡ false

  called : (v : Valued) → statement_recovers (call_tree v) ≡ false
  called v = by_call v.call refl where
    by_call : (o : Option (Option Mode)) → v.call ≡ o → statement_recovers (call_tree v) ≡ false
    by_call None e = rw e refl
    by_call (Some None) e = rw e refl
    by_call (Some (Some m)) e = rw e refl

  assigned : (p : Placed) (v : Term) → statement_recovers (assigned_tree p v) ≡ false
  assigned p v = by_spot p.tree refl where
    by_spot : (t : Spot) → p.tree ≡ t → statement_recovers (assigned_tree p v) ≡ false
    by_spot (OnLocal i) e = rw e refl
    by_spot (OnPath q) e = rw e refl
    by_spot (OnRow a) e = rw e refl

  call_plain : (v : Value) → Plain (stats.Call v)
  call_plain v = ap statement_recovers (made_call c v) ∙ called (valued c v)

  assign_plain : (p : Place) (v : Value) → Plain (stats.Assign p v)
  assign_plain p v = ap statement_recovers (made_assign c p v) ∙ assigned (placed c p) (valued c v).tree

  back_plain : Plain (stats.Return None)
  back_plain = ap statement_recovers (made_back c)

  return_plain : (v : Value) → Plain (stats.Return (Some v))
  return_plain v = ap statement_recovers (made_return c v)

  -- what is found, if anything
  abbrev FoundPlain : Outcome Stat → Type 0
  FoundPlain (Ok x) = Plain x
  FoundPlain (Err g) = Unit {0}

  found_plain : (other : Stat) (o : Outcome Stat) (t : Tally) → Plain other → FoundPlain o → Plain (found_or other o t).0
  found_plain other (Ok x) t h k = k
  found_plain other (Err g) t h k = h

  call_found : (o : Outcome Value) → FoundPlain (o >>= λ x. Ok (stats.Call x))
  call_found (Ok v) = call_plain v
  call_found (Err g) = tt

  assigning_found : (p : Option Place) (o : Outcome Value) → FoundPlain (o >>= assigning p)
  assigning_found (Some p) (Ok v) = assign_plain p v
  assigning_found None (Ok v) = tt
  assigning_found p (Err g) = tt

  assign_found : (s : Sight) (o : Outcome (Option Place × Mode)) (e : Expr) → FoundPlain (assigned_in s o e)
  assign_found s (Ok p) e = assigning_found p.0 (value_in s e p.1)
  assign_found s (Err g) e = tt

  return_found : (o : Outcome Value) → FoundPlain (return_of o)
  return_found (Ok v) = return_plain v
  return_found (Err g) = tt

  returned_found : (r : Answer) (s : Sight) (e : Option Expr) (at : At) → FoundPlain (returned r s e at)
  returned_found answer.Nothing s None at = back_plain
  returned_found answer.Nothing s (Some e) at = tt
  returned_found (answer.Wanted m) s None at = tt
  returned_found (answer.Wanted m) s (Some e) at = return_found (value_in s e m)
  returned_found answer.Unknown s None at = back_plain
  returned_found answer.Unknown s (Some e) at = tt

  -- ---- sequences

  abbrev AnyPlain : Option Stat → Type 0
  AnyPlain None = Unit {0}
  AnyPlain (Some x) = Plain x

  abbrev LinePlain : Line → Type 0
  LinePlain x = (s : Sight) (t : Tally) → AnyPlain (x.part s t).0

  -- a statement with its labels, in front of others
  abbrev RowPlain : Labelled → Type 0
  RowPlain y = (q : Seq) → sequence_recovers q ≡ false → sequence_recovers (line_of c y q) ≡ false

  marks_plain : (ls : List ℕ) (q : Seq) → sequence_recovers q ≡ false → sequence_recovers (marks ls q) ≡ false
  marks_plain [] q h = h
  marks_plain (l ∷ ls) q h = marks_plain ls q h

  row_plain : (ls : List ℕ) (o : Option Stat) → AnyPlain o → RowPlain (labelled ls o)
  row_plain ls None h q k = ap (λ (f : Seq → Seq). sequence_recovers (f q)) (made_line c ls None) ∙ marks_plain ls q k
  row_plain ls (Some x) h q k =
      ap (λ (f : Seq → Seq). sequence_recovers (f q)) (made_line c ls (Some x)) ∙ marks_plain ls (Seq.Then (stat_of c x) q) (neither (statement_recovers (stat_of c x)) (sequence_recovers q) h k)

  rows_plain : (ys : List Labelled) → AllByRecursion RowPlain ys → sequence_recovers (sequence_tree (map (line_of c) ys)) ≡ false
  rows_plain [] h = refl
  rows_plain (y ∷ ys) h = h.0 (sequence_tree (map (line_of c) ys)) (rows_plain ys h.1)

  order_plain : (xs : List Line) → AllByRecursion LinePlain xs → (s : Sight) (k : ℕ) (done : List Labelled) (t : Tally) → AllByRecursion RowPlain done → AllByRecursion RowPlain (in_order s k done xs t).0
  order_plain [] h s k done t g = g
  order_plain (x ∷ xs) h s k done t g =
      let o : Option Stat × Tally = x.part s t in
      let ls : List ℕ = (numbers_from [] k x.labels).0 in
      order_plain xs h.1 s (numbers_from [] k x.labels).1 (done ++ labelled ls o.0 ∷ []) o.1 (all_joined RowPlain done (labelled ls o.0 ∷ []) g (row_plain ls o.0 (h.0 s t), tt))

  sequence_plain : (xs : List Line) → AllByRecursion LinePlain xs → (s : Sight) (t : Tally) → sequence_recovers (sequence_tree (map (line_of c) (sequence s xs t).0)) ≡ false
  sequence_plain xs h s t =
      let u : Names × Tally = labels_of [] (map labels_at xs) t in
      rows_plain (in_order (within u.0 s) t.labels [] xs u.1).0 (order_plain xs h (within u.0 s) t.labels [] u.1 tt)

  starts_plain : (ds : List LocalStart) (q : Seq) → sequence_recovers q ≡ false → sequence_recovers (starts_tree c ds q) ≡ false
  starts_plain [] q h = h
  starts_plain (d ∷ ds) q h = neither (statement_recovers (start_tree c d.local d.start)) (sequence_recovers (starts_tree c ds q)) (by_start d.start) (starts_plain ds q h) where
    by_start : (o : Option Value) → statement_recovers (start_tree c d.local o) ≡ false
    by_start None = refl
    by_start (Some v) = refl

  -- ---- branches

  abbrev TakenPlain : BranchMade → Type 0
  TakenPlain b = sequence_recovers (branch_of c b).1 ≡ false

  abbrev BranchPlain : JudgedBranch → Type 0
  BranchPlain b = (s : Sight) (t : Tally) → TakenPlain (b s t).0

  branches_plain : (bs : List JudgedBranch) → AllByRecursion BranchPlain bs → (s : Sight) (done : List BranchMade) (t : Tally) → AllByRecursion TakenPlain done → AllByRecursion TakenPlain (branches s done bs t).0
  branches_plain [] h s done t g = g
  branches_plain (b ∷ bs) h s done t g =
      let u : BranchMade × Tally = b s t in
      branches_plain bs h.1 s (done ++ u.0 ∷ []) u.1 (all_joined TakenPlain done (u.0 ∷ []) g (h.0 s t, tt))

  behind_plain : (bs : List BranchMade) (e : Seq) → AllByRecursion TakenPlain bs → sequence_recovers e ≡ false → sequence_recovers (branches_tree (map (branch_of c) bs) e) ≡ false
  behind_plain [] e h k = k
  behind_plain (b ∷ bs) e h k =
      let other : Seq = branches_tree (map (branch_of c) bs) e in
      neither (sequence_recovers (branch_of c b).1 || sequence_recovers other) false (neither (sequence_recovers (branch_of c b).1) (sequence_recovers other) h.0 (behind_plain bs e h.1 k)) refl

  if_plain : (bs : List BranchMade) (e : Seq) → AllByRecursion TakenPlain bs → sequence_recovers e ≡ false → statement_recovers (if_tree (map (branch_of c) bs) e) ≡ false
  if_plain [] e h k = k
  if_plain (b ∷ bs) e h k = neither (sequence_recovers (branch_of c b).1) (sequence_recovers (branches_tree (map (branch_of c) bs) e)) h.0 (behind_plain bs e h.1 k)

  -- ---- bodies

  module _ (r : Answer) where
    abbrev StatPlain : JudgedStat → Type 0
    StatPlain f = (s : Sight) (t : Tally) → Plain (f s t).0

    abbrev BodyPlain : JudgedBody → Type 0
    BodyPlain f = (s : Sight) (t : Tally) → sequence_recovers (body_tree c (f s t).0) ≡ false

    abbrev SimpleM : Simple → Type 0
    SimpleM x = StatPlain (spec.stat r x)

    abbrev BodyM : Body → Type 0
    BodyM x = BodyPlain (spec.body r x)

    abbrev BranchM : Branch → Type 0
    BranchM x = BranchPlain (spec.branch r x)

    abbrev LineM : Stmt → Type 0
    LineM x = LinePlain (spec.line r x)

    abbrev SimplePair : Type 0
    SimplePair = (x : Simple) × SimpleM x

    abbrev BodyPair : Type 0
    BodyPair = (x : Body) × BodyM x

    abbrev BranchPair : Type 0
    BranchPair = (x : Branch) × BranchM x

    abbrev LinePair : Type 0
    LinePair = (x : Stmt) × LineM x

    all_lines : (ys : List LinePair) → AllByRecursion LinePlain (map (spec.line r) (map (λ (e : LinePair). e.0) ys))
    all_lines [] = tt
    all_lines (y ∷ ys) = (y.1, all_lines ys)

    all_branches : (ys : List BranchPair) → AllByRecursion BranchPlain (map (spec.branch r) (map (λ (e : BranchPair). e.0) ys))
    all_branches [] = tt
    all_branches (y ∷ ys) = (y.1, all_branches ys)

    -- ---- by the first level

    as_stat : (x : Simple) (l : Simple-F Simple Body Branch Stmt) → out-Simple x ≡ l
        → StatPlain (spec.one_stat r (map-Simple Simple Body Branch Stmt JudgedStat JudgedBody JudgedBranch Line (spec.stat r) (spec.body r) (spec.branch r) (spec.line r) l)) → SimpleM x
    as_stat x l o h =
        let same : spec.stat r x ≡ spec.one_stat r (map-Simple Simple Body Branch Stmt JudgedStat JudgedBody JudgedBranch Line (spec.stat r) (spec.body r) (spec.branch r) (spec.line r) l) = rw (fold_out-Simple, o) refl in
        subst StatPlain (sym same) h

    simple_level : (x : Simple) (y : Simple-F SimplePair BodyPair BranchPair LinePair)
        → out-Simple x ≡ map-Simple SimplePair BodyPair BranchPair LinePair Simple Body Branch Stmt (λ e. e.0) (λ e. e.0) (λ e. e.0) (λ e. e.0) y → SimpleM x
    simple_level x (Simple-F.Call h) o = as_stat x (Simple-F.Call h) o (λ s t. found_plain (stats.Call (values.Number 0)) _ t (call_plain (values.Number 0)) (call_found (alone s h)))
    simple_level x (Simple-F.Assign h e at) o = as_stat x (Simple-F.Assign h e at) o (λ s t. found_plain (stats.Call (values.Number 0)) _ t (call_plain (values.Number 0)) (assign_found s (target s h) e))
    simple_level x (Simple-F.AssignVal h e at) o = as_stat x (Simple-F.AssignVal h e at) o (λ s t. found_plain (stats.Call (values.Number 0)) _ t (call_plain (values.Number 0)) (assign_found s (val_target s at h) e))
    simple_level x (Simple-F.Goto n at) o = as_stat x (Simple-F.Goto n at) o (λ s t. ap statement_recovers (made_goto c (label_or (label_in s n) t).0))
    simple_level x (Simple-F.Return None at) o = as_stat x (Simple-F.Return None at) o (λ s t. found_plain (stats.Return None) _ t back_plain (returned_found r s None at))
    simple_level x (Simple-F.Return (Some e) at) o = as_stat x (Simple-F.Return (Some e) at) o (λ s t. found_plain (stats.Return None) _ t back_plain (returned_found r s (Some e) at))
    simple_level x (Simple-F.Switch e ns at) o =
        as_stat x (Simple-F.Switch e ns at) o (λ s t.
        let u : Value × Tally = int_in s e t in
        ap statement_recovers (made_switch c u.0 (labels_in s [] ns u.1).0))
    simple_level x (Simple-F.Block p at) o = as_stat x (Simple-F.Block p.0 at) o (λ s t. ap statement_recovers (made_block c (spec.body r p.0 s t).0) ∙ p.1 s t)
    simple_level x (Simple-F.If ys None at) o =
        let bs : List Branch = map (λ (e : BranchPair). e.0) ys in
        as_stat x (Simple-F.If bs None at) o (λ s t.
        let u : List BranchMade × Tally = branches s [] (map (spec.branch r) bs) t in
        ap statement_recovers (made_if c u.0) ∙ if_plain u.0 Seq.Done (branches_plain (map (spec.branch r) bs) (all_branches ys) s [] t tt) refl)
    simple_level x (Simple-F.If ys (Some xs) at) o =
        let bs : List Branch = map (λ (e : BranchPair). e.0) ys in
        let es : List Stmt = map (λ (e : LinePair). e.0) xs in
        as_stat x (Simple-F.If bs (Some es) at) o (λ s t.
        let u : List BranchMade × Tally = branches s [] (map (spec.branch r) bs) t in
        let rows : List Labelled = (sequence s (map (spec.line r) es) u.1).0 in
        ap statement_recovers (made_else c u.0 rows)
        ∙ if_plain u.0 (sequence_tree (map (line_of c) rows)) (branches_plain (map (spec.branch r) bs) (all_branches ys) s [] t tt) (sequence_plain (map (spec.line r) es) (all_lines xs) s u.1))
    simple_level x (Simple-F.For None limit xs at) o =
        let es : List Stmt = map (λ (e : LinePair). e.0) xs in
        as_stat x (Simple-F.For None limit es at) o (λ s t.
        let u : Value × Tally = int_in s limit t in
        let n : ℕ × Tally = three_locals u.1 in
        ap statement_recovers (made_to c n.0 u.0 (sequence s (map (spec.line r) es) n.1).0) ∙ sequence_plain (map (spec.line r) es) (all_lines xs) s n.1)
    simple_level x (Simple-F.For (Some d) limit xs at) o =
        let es : List Stmt = map (λ (e : LinePair). e.0) xs in
        as_stat x (Simple-F.For (Some d) limit es at) o (λ s t.
        let u : Bounds × Tally = bounds_in s d limit t in
        let n : ℕ × Tally = three_locals u.1 in
        ap statement_recovers (made_for c n.0 u.0.start u.0.step u.0.end (sequence (within (variable_of d n.0) s) (map (spec.line r) es) n.1).0) ∙ sequence_plain (map (spec.line r) es) (all_lines xs) (within (variable_of d n.0) s) n.1)
    simple_level x (Simple-F.While d xs at) o =
        let es : List Stmt = map (λ (e : LinePair). e.0) xs in
        as_stat x (Simple-F.While d es at) o (λ s t.
        let u : Test × Tally = test_or (test_in s d) t in
        ap statement_recovers (made_while c u.0 (sequence s (map (spec.line r) es) u.1).0) ∙ sequence_plain (map (spec.line r) es) (all_lines xs) s u.1)

    body_level : (x : Body) (y : Body-F SimplePair BodyPair BranchPair LinePair)
        → out-Body x ≡ map-Body SimplePair BodyPair BranchPair LinePair Simple Body Branch Stmt (λ e. e.0) (λ e. e.0) (λ e. e.0) (λ e. e.0) y → BodyM x
    body_level x y o =
        let es : List Stmt = map (λ (e : LinePair). e.0) y.statements in
        let same : spec.body r x ≡ spec.one_body r (record { locals = y.locals; statements = map (spec.line r) es; at = y.at }) = rw (fold_out-Body, o) refl in
        subst BodyPlain (sym same) (λ s t.
        let u : Declared × Tally = declarations (before (within [] s)) y.locals t in
        let rows : List Labelled = (sequence u.0.sight (map (spec.line r) es) u.1).0 in
        ap sequence_recovers (made_body c u.0.starts rows) ∙ starts_plain u.0.starts (sequence_tree (map (line_of c) rows)) (sequence_plain (map (spec.line r) es) (all_lines y.statements) u.0.sight u.1))

    branch_level : (x : Branch) (y : Branch-F SimplePair BodyPair BranchPair LinePair)
        → out-Branch x ≡ map-Branch SimplePair BodyPair BranchPair LinePair Simple Body Branch Stmt (λ e. e.0) (λ e. e.0) (λ e. e.0) (λ e. e.0) y → BranchM x
    branch_level x y o =
        let es : List Stmt = map (λ (e : LinePair). e.0) y.taken in
        let same : spec.branch r x ≡ spec.one_branch r (record { test = y.test; taken = map (spec.line r) es; at = y.at }) = rw (fold_out-Branch, o) refl in
        subst BranchPlain (sym same) (λ s t.
        let u : Test × Tally = test_or (test_in s y.test) t in
        ap (λ b. sequence_recovers b.1) (made_branch c u.0 (sequence s (map (spec.line r) es) u.1).0) ∙ sequence_plain (map (spec.line r) es) (all_lines y.taken) s u.1)

    line_cases : (x : Stmt) (y : Stmt-F SimplePair BodyPair BranchPair LinePair) (z : Option SimplePair) → y.simple ≡ z
        → out-Stmt x ≡ map-Stmt SimplePair BodyPair BranchPair LinePair Simple Body Branch Stmt (λ e. e.0) (λ e. e.0) (λ e. e.0) (λ e. e.0) y → LineM x
    line_cases x y None e o =
        let same : spec.line r x ≡ record { labels = y.labels; part = spec.any_stat r None } = rw (fold_out-Stmt, o, e) refl in
        subst LinePlain (sym same) (λ s t. tt)
    line_cases x y (Some p) e o =
        let same : spec.line r x ≡ record { labels = y.labels; part = spec.any_stat r (Some (spec.stat r p.0)) } = rw (fold_out-Stmt, o, e) refl in
        subst LinePlain (sym same) (λ s t. p.1 s t)

    line_level : (x : Stmt) (y : Stmt-F SimplePair BodyPair BranchPair LinePair)
        → out-Stmt x ≡ map-Stmt SimplePair BodyPair BranchPair LinePair Simple Body Branch Stmt (λ e. e.0) (λ e. e.0) (λ e. e.0) (λ e. e.0) y → LineM x
    line_level x y o = line_cases x y y.simple refl o

    rolled_simple : (x : Simple-F Simple Body Branch Stmt) → out-Simple (roll-Simple x) ≡ x
    rolled_simple x = search simple_lemmas.the_lemmas

    rolled_body : (x : Body-F Simple Body Branch Stmt) → out-Body (roll-Body x) ≡ x
    rolled_body x = search body_lemmas.the_lemmas

    rolled_branch : (x : Branch-F Simple Body Branch Stmt) → out-Branch (roll-Branch x) ≡ x
    rolled_branch x = search branch_lemmas.the_lemmas

    rolled_line : (x : Stmt-F Simple Body Branch Stmt) → out-Stmt (roll-Stmt x) ≡ x
    rolled_line x = search stmt_lemmas.the_lemmas

    pub body_plain : (x : Body) (s : Sight) (t : Tally) → sequence_recovers (body_tree c (spec.body r x s t).0) ≡ false
    body_plain = ind-Body SimpleM BodyM BranchM LineM (λ x y is. simple_level (roll-Simple x) y (rolled_simple x ∙ sym is)) (λ x y is. body_level (roll-Body x) y (rolled_body x ∙ sym is))
        (λ x y is. branch_level (roll-Branch x) y (rolled_branch x ∙ sym is)) (λ x y is. line_level (roll-Stmt x) y (rolled_line x ∙ sym is))

-- the procedure that is made of a brick, whatever its module is
pub procedure_plain : (p : ModuleParts) (s : Sight) (b : ProcedureBrick) → sequence_recovers (tree_of p (procedure s b)) ≡ false
procedure_plain p s b =
    let heads : Names × Tally = parameters s [] b.fields nothing_yet in
    let gives : Answer × Tally = answer_in s b.at b.result heads.1 in
    body_plain (with_locals (scope_of p) (procedure s b).locals) gives.0 b.body (within heads.0 s) gives.1
