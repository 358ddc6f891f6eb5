-- The locals of a procedure may stand.
use Rattle.std.proofs.Common.{◌≡◌, ℕ, ◌&&◌, Bool, true, false, List, [], ◌∷◌, map, Option, Some, None, Ok, Err, arith, refl, sym, ◌∙◌, subst}
use Rattle.std.specs.List.{AllByRecursion}
use Rattle.rt_grammar.specs.declared.at.At.{At}
use Rattle.rt_grammar.specs.declared.at.Ident.{Ident}
use Rattle.rt_syntax_exprs.specs.declared.tree.Cond.{Cond}
use Rattle.rt_modes.specs.declared.mode.Mode.{Mode}
use Rattle.rt_syntax.specs.declared.tree.Body.{Body, out-Body, roll-Body, map-Body}
use Rattle.rt_syntax.specs.declared.tree.Body as body_lemmas
use Rattle.rt_syntax.specs.declared.tree.Branch.{Branch, out-Branch, roll-Branch, map-Branch}
use Rattle.rt_syntax.specs.declared.tree.Branch as branch_lemmas
use Rattle.rt_syntax.specs.declared.tree.Locals.{Locals}
use Rattle.rt_syntax.specs.declared.tree.Simple.{Simple, out-Simple, roll-Simple, map-Simple}
use Rattle.rt_syntax.specs.declared.tree.Simple as simple_lemmas
use Rattle.rt_syntax.specs.declared.tree.Simple.TheFolds.{ind-Body, fold_out-Simple, fold_out-Body, fold_out-Branch, fold_out-Stmt}
use Rattle.rt_syntax.specs.declared.tree.Simple.TheOpen.{Simple-F, Body-F, Branch-F, Stmt-F}
use Rattle.rt_syntax.specs.declared.tree.Stmt.{Stmt, out-Stmt, roll-Stmt, map-Stmt}
use Rattle.rt_syntax.specs.declared.tree.Stmt as stmt_lemmas
use Rattle.rt_bricks.specs.declared.tree.Fields.{Fields}
use Rattle.rt_tree_nodes.specs.declared.brick.Local.TheVariants as made
use Rattle.rt_tree_nodes.specs.declared.statement.Body.{Body as BodyMade}
use Rattle.rt_tree_nodes.specs.declared.statement.Stat.{Stat}
use Rattle.rt_tree_nodes.specs.declared.statement.Stat.TheVariants as stats
use Rattle.rt_tree_nodes.specs.declared.value.Value.TheVariants as values
use Rattle.rt_tree_nodes.specs.declared.statement.Test.{Test}
use Rattle.rt_check_faults.specs.declared.fault.CheckFault.TheVariants as fault
use Rattle.rt_exprs.specs.declared.scope.Meaning.TheVariants as meaning
use Rattle.rt_check_faults.specs.Outcomes.{Outcome}
use Rattle.rt_tree.specs.Modules.{local_stands}
use Rattle.rt_check_bodies.specs.declared.tally.Tally.{Tally}
use Rattle.rt_check_bodies.specs.Parts.{noted_if, next_local, mode_or, found_or, test_or}
use Rattle.rt_exprs.specs.Sights.{Names, Sight, holds, within}
use Rattle.rt_check_bodies.specs.Sights.{mode_in, call_in, assignment_in, val_assignment_in, label_in, test_in}
use Rattle.rt_check_bodies.specs.declared.answer.Answer.{Answer}
use Rattle.rt_check_bodies.specs.Procedures.{named, group, parameters, answer_in, closed_at, nothing_yet}
use Rattle.rt_check_bodies.specs.Statements as spec
use Rattle.rt_check_bodies.specs.Statements.{Line, Declared, JudgedStat, JudgedBody, JudgedBranch, before, declarations, branches, returned, int_in}
use Rattle.rt_bricks_laws.specs.Bodies.{all}
use Rattle.rt_bricks_laws.proofs.Deeper.{deeper_shallow}
use Rattle.rt_bricks_laws.specs.Modes.{FieldsShallow, locals_shallow, simple_modes, simple_is_shallow, body_is_shallow, branch_is_shallow, line_is_shallow}
use Rattle.rt_check_bodies_laws.specs.Named.{LevelNames, NamesRecords, LocalsStand}
use Rattle.rt_check_bodies_laws.proofs.Good.{found_locals, int_locals, test_locals, labels_locals}
use Rattle.rt_check_bodies_laws.proofs.Locals.{noted_locals, mode_locals}
use Rattle.rt_check_bodies_laws.proofs.Named.{mode_stands, declared_names}
use Rattle.rt_check_bodies_laws.proofs.Procedures.{last_locals, answer_locals}
use Rattle.rt_check_bodies_laws.proofs.Standing.{one_more_stands, Standing, with_locals_same, Keeps, MayStand, mode_same, declarations_keep, LinesKeep, sequence_keeps, to_keeps, for_keeps, BranchesKeep, branches_keep}

left_of : (a b : Bool) → a && b ≡ true → a ≡ true
left_of true b e = refl
left_of false b e = e

right_of : (a b : Bool) → a && b ≡ true → b ≡ true
right_of true b e = e
right_of false b e = absurd cc

module _ (n : ℕ) where
  -- a found statement adds no locals
  found_keeps : (other : Stat) (o : Sight → Outcome Stat) → Keeps n (λ s. found_or other (o s))
  found_keeps other o s t h k = with_locals_same n t (found_or other (o s) t).1 (found_locals other (o s) t) k

  as_stat : {p q : JudgedStat} → p ≡ q → Keeps n q → Keeps n p
  as_stat e g = subst (λ (z : JudgedStat). Keeps n z) (sym e) g

  as_body : {p q : JudgedBody} → p ≡ q → Keeps n q → Keeps n p
  as_body e g = subst (λ (z : JudgedBody). Keeps n z) (sym e) g

  as_branch : {p q : JudgedBranch} → p ≡ q → Keeps n q → Keeps n p
  as_branch e g = subst (λ (z : JudgedBranch). Keeps n z) (sym e) g

  as_line : {p q : Line} → p ≡ q → Keeps n q.part → Keeps n p.part
  as_line e g = subst (λ (z : Line). Keeps n z.part) (sym e) g

  module _ (r : Answer) where
    abbrev SimpleM : Simple → Type 0
    SimpleM x = simple_is_shallow x ≡ true → Keeps n (spec.stat r x)

    abbrev BodyM : Body → Type 0
    BodyM x = body_is_shallow x ≡ true → Keeps n (spec.body r x)

    abbrev BranchM : Branch → Type 0
    BranchM x = branch_is_shallow x ≡ true → Keeps n (spec.branch r x)

    abbrev LineM : Stmt → Type 0
    LineM x = line_is_shallow x ≡ true → Keeps n (spec.line r x).part

    abbrev SimplePair : Type 0
    SimplePair = (x : Simple) × SimpleM x

    abbrev BodyPair : Type 0
    BodyPair = (x : Body) × BodyM x

    abbrev BranchPair : Type 0
    BranchPair = (x : Branch) × BranchM x

    abbrev LinePair : Type 0
    LinePair = (x : Stmt) × LineM x

    -- ---- by the first level

    stat_at : (x : Simple) (l : Simple-F Simple Body Branch Stmt) → out-Simple x ≡ l
        → spec.stat r x ≡ spec.one_stat r (map-Simple Simple Body Branch Stmt JudgedStat JudgedBody JudgedBranch Line (spec.stat r) (spec.body r) (spec.branch r) (spec.line r) l)
    stat_at x l o = rw (fold_out-Simple, o) refl

    low_at : (x : Simple) (l : Simple-F Simple Body Branch Stmt) → out-Simple x ≡ l
        → simple_is_shallow x ≡ simple_modes (map-Simple Simple Body Branch Stmt Bool Bool Bool Bool simple_is_shallow body_is_shallow branch_is_shallow line_is_shallow l)
    low_at x l o = rw (fold_out-Simple, o) refl

    all_lines : (ys : List LinePair) → all (map line_is_shallow (map (λ (e : LinePair). e.0) ys)) ≡ true → LinesKeep n (map (spec.line r) (map (λ (e : LinePair). e.0) ys))
    all_lines [] b = tt
    all_lines (y ∷ ys) b =
        let rest : Bool = all (map line_is_shallow (map (λ (e : LinePair). e.0) ys)) in
        (y.1 (left_of (line_is_shallow y.0) rest b), all_lines ys (right_of (line_is_shallow y.0) rest b))

    all_branches : (ys : List BranchPair) → all (map branch_is_shallow (map (λ (e : BranchPair). e.0) ys)) ≡ true → BranchesKeep n (map (spec.branch r) (map (λ (e : BranchPair). e.0) ys))
    all_branches [] b = tt
    all_branches (y ∷ ys) b =
        let rest : Bool = all (map branch_is_shallow (map (λ (e : BranchPair). e.0) ys)) in
        (y.1 (left_of (branch_is_shallow y.0) rest b), all_branches ys (right_of (branch_is_shallow y.0) rest b))

    -- ---- statements

    goto_keeps : (i : Ident) → Keeps n (λ s. spec.goto s i)
    goto_keeps i s t h k = with_locals_same n t (spec.goto s i t).1 (found_locals 0 (label_in s i) t) k

    if_keeps : (bs : List JudgedBranch) (at : At) → BranchesKeep n bs → Keeps n (λ s. spec.one_stat r (Simple-F.If bs None at) s)
    if_keeps bs at g s t h k = branches_keep n bs g s [] t h k

    else_keeps : (bs : List JudgedBranch) (xs : List Line) (at : At) → BranchesKeep n bs → LinesKeep n xs → Keeps n (λ s. spec.one_stat r (Simple-F.If bs (Some xs) at) s)
    else_keeps bs xs at g f s t h k = sequence_keeps n xs f s (branches s [] bs t).1 h (branches_keep n bs g s [] t h k)

    while_keeps : (d : Cond) (xs : List Line) (at : At) → LinesKeep n xs → Keeps n (λ s. spec.one_stat r (Simple-F.While d xs at) s)
    while_keeps d xs at g s t h k = let u : Test × Tally = test_or (test_in s d) t in sequence_keeps n xs g s u.1 h (with_locals_same n t u.1 (test_locals s d t) k)

    body_keeps : (ls : List Locals) (xs : List Line) (at : At) → all (map locals_shallow ls) ≡ true → LinesKeep n xs → Keeps n (λ s. spec.one_body r (record { locals = ls; statements = xs; at = at }) s)
    body_keeps ls xs at low g s t h k =
        let u : Declared × Tally = declarations (before (within [] s)) ls t in
        let d = declarations_keep n (before (within [] s)) ls t low (tt, h) k in
        sequence_keeps n xs g u.0.sight u.1 d.names d.locals

    branch_keeps : (d : Cond) (xs : List Line) (at : At) → LinesKeep n xs → Keeps n (λ s. spec.one_branch r (record { test = d; taken = xs; at = at }) s)
    branch_keeps d xs at g s t h k = let u : Test × Tally = test_or (test_in s d) t in sequence_keeps n xs g s u.1 h (with_locals_same n t u.1 (test_locals s d t) k)

    simple_level : (x : Simple) (y : Simple-F SimplePair BodyPair BranchPair LinePair)
        → out-Simple x ≡ map-Simple SimplePair BodyPair BranchPair LinePair Simple Body Branch Stmt (λ e. e.0) (λ e. e.0) (λ e. e.0) (λ e. e.0) y → SimpleM x
    simple_level x (Simple-F.Call h) o b = as_stat (stat_at x (Simple-F.Call h) o) (found_keeps (stats.Call (values.Number 0)) (λ s. call_in s h))
    simple_level x (Simple-F.Assign h e at) o b = as_stat (stat_at x (Simple-F.Assign h e at) o) (found_keeps (stats.Call (values.Number 0)) (λ s. assignment_in s h e))
    simple_level x (Simple-F.AssignVal h e at) o b = as_stat (stat_at x (Simple-F.AssignVal h e at) o) (found_keeps (stats.Call (values.Number 0)) (λ s. val_assignment_in s at h e))
    simple_level x (Simple-F.Goto i at) o b = as_stat (stat_at x (Simple-F.Goto i at) o) (goto_keeps i)
    simple_level x (Simple-F.Return e at) o b = as_stat (stat_at x (Simple-F.Return e at) o) (found_keeps (stats.Return None) (λ s. returned r s e at))
    simple_level x (Simple-F.Switch e is at) o b =
        as_stat (stat_at x (Simple-F.Switch e is at) o) (λ s t h k. with_locals_same n t (spec.switch s e is t).1 (labels_locals s [] is (int_in s e t).1 ∙ int_locals s e t) k)
    simple_level x (Simple-F.Block p at) o b = as_stat (stat_at x (Simple-F.Block p.0 at) o) (p.1 (sym (low_at x (Simple-F.Block p.0 at) o) ∙ b))
    simple_level x (Simple-F.If ys None at) o b =
        let bs : List Branch = map (λ (e : BranchPair). e.0) ys in
        let low : Bool = all (map branch_is_shallow bs) in
        as_stat (stat_at x (Simple-F.If bs None at) o) (if_keeps (map (spec.branch r) bs) at (all_branches ys (left_of low true (sym (low_at x (Simple-F.If bs None at) o) ∙ b))))
    simple_level x (Simple-F.If ys (Some xs) at) o b =
        let bs : List Branch = map (λ (e : BranchPair). e.0) ys in
        let es : List Stmt = map (λ (e : LinePair). e.0) xs in
        let low : Bool = all (map branch_is_shallow bs) in
        let else_low : Bool = all (map line_is_shallow es) in
        let g = sym (low_at x (Simple-F.If bs (Some es) at) o) ∙ b in
        as_stat (stat_at x (Simple-F.If bs (Some es) at) o) (else_keeps (map (spec.branch r) bs) (map (spec.line r) es) at (all_branches ys (left_of low else_low g)) (all_lines xs (right_of low else_low g)))
    simple_level x (Simple-F.For None limit xs at) o b =
        let es : List Stmt = map (λ (e : LinePair). e.0) xs in
        as_stat (stat_at x (Simple-F.For None limit es at) o) (to_keeps n limit (map (spec.line r) es) (all_lines xs (sym (low_at x (Simple-F.For None limit es at) o) ∙ b)))
    simple_level x (Simple-F.For (Some d) limit xs at) o b =
        let es : List Stmt = map (λ (e : LinePair). e.0) xs in
        as_stat (stat_at x (Simple-F.For (Some d) limit es at) o) (for_keeps n d limit (map (spec.line r) es) (all_lines xs (sym (low_at x (Simple-F.For (Some d) limit es at) o) ∙ b)))
    simple_level x (Simple-F.While d xs at) o b =
        let es : List Stmt = map (λ (e : LinePair). e.0) xs in
        as_stat (stat_at x (Simple-F.While d es at) o) (while_keeps d (map (spec.line r) es) at (all_lines xs (sym (low_at x (Simple-F.While d es at) o) ∙ b)))

    body_level : (x : Body) (y : Body-F SimplePair BodyPair BranchPair LinePair)
        → out-Body x ≡ map-Body SimplePair BodyPair BranchPair LinePair Simple Body Branch Stmt (λ e. e.0) (λ e. e.0) (λ e. e.0) (λ e. e.0) y → BodyM x
    body_level x y o b =
        let es : List Stmt = map (λ (e : LinePair). e.0) y.statements in
        let part : spec.body r x ≡ spec.one_body r (record { locals = y.locals; statements = map (spec.line r) es; at = y.at }) = rw (fold_out-Body, o) refl in
        let low : body_is_shallow x ≡ all (map locals_shallow y.locals) && all (map line_is_shallow es) = rw (fold_out-Body, o) refl in
        let h = sym low ∙ b in
        as_body part
        (body_keeps y.locals (map (spec.line r) es) y.at (left_of (all (map locals_shallow y.locals)) (all (map line_is_shallow es)) h) (all_lines y.statements (right_of (all (map locals_shallow y.locals)) (all (map line_is_shallow es)) h)))

    branch_level : (x : Branch) (y : Branch-F SimplePair BodyPair BranchPair LinePair)
        → out-Branch x ≡ map-Branch SimplePair BodyPair BranchPair LinePair Simple Body Branch Stmt (λ e. e.0) (λ e. e.0) (λ e. e.0) (λ e. e.0) y → BranchM x
    branch_level x y o b =
        let es : List Stmt = map (λ (e : LinePair). e.0) y.taken in
        let part : spec.branch r x ≡ spec.one_branch r (record { test = y.test; taken = map (spec.line r) es; at = y.at }) = rw (fold_out-Branch, o) refl in
        let low : branch_is_shallow x ≡ all (map line_is_shallow es) = rw (fold_out-Branch, o) refl in
        as_branch part (branch_keeps y.test (map (spec.line r) es) y.at (all_lines y.taken (sym low ∙ b)))

    full_keeps : (p : JudgedStat) → Keeps n p → Keeps n (λ s. spec.any_stat r (Some p) s)
    full_keeps p g s t h k = g s t h k

    empty_keeps : Keeps n (λ s. spec.any_stat r None s)
    empty_keeps s t h k = k

    line_cases : (x : Stmt) (y : Stmt-F SimplePair BodyPair BranchPair LinePair) (z : Option SimplePair) → y.simple ≡ z
        → out-Stmt x ≡ map-Stmt SimplePair BodyPair BranchPair LinePair Simple Body Branch Stmt (λ e. e.0) (λ e. e.0) (λ e. e.0) (λ e. e.0) y → LineM x
    line_cases x y None e o b =
        let part : spec.line r x ≡ record { labels = y.labels; part = spec.any_stat r None } = rw (fold_out-Stmt, o, e) refl in
        as_line part empty_keeps
    line_cases x y (Some p) e o b =
        let part : spec.line r x ≡ record { labels = y.labels; part = spec.any_stat r (Some (spec.stat r p.0)) } = rw (fold_out-Stmt, o, e) refl in
        let low : line_is_shallow x ≡ simple_is_shallow p.0 = rw (fold_out-Stmt, o, e) refl in
        as_line part (full_keeps (spec.stat r p.0) (p.1 (sym low ∙ b)))

    line_level : (x : Stmt) (y : Stmt-F SimplePair BodyPair BranchPair LinePair)
        → out-Stmt x ≡ map-Stmt SimplePair BodyPair BranchPair LinePair Simple Body Branch Stmt (λ e. e.0) (λ e. e.0) (λ e. e.0) (λ e. e.0) y → LineM x
    line_level x y o = line_cases x y y.simple refl o

    rolled_simple : (x : Simple-F Simple Body Branch Stmt) → out-Simple (roll-Simple x) ≡ x
    rolled_simple x = search simple_lemmas.the_lemmas

    rolled_body : (x : Body-F Simple Body Branch Stmt) → out-Body (roll-Body x) ≡ x
    rolled_body x = search body_lemmas.the_lemmas

    rolled_branch : (x : Branch-F Simple Body Branch Stmt) → out-Branch (roll-Branch x) ≡ x
    rolled_branch x = search branch_lemmas.the_lemmas

    rolled_line : (x : Stmt-F Simple Body Branch Stmt) → out-Stmt (roll-Stmt x) ≡ x
    rolled_line x = search stmt_lemmas.the_lemmas

    body_stands : (x : Body) → body_is_shallow x ≡ true → Keeps n (spec.body r x)
    body_stands = ind-Body SimpleM BodyM BranchM LineM (λ x y is. simple_level (roll-Simple x) y (rolled_simple x ∙ sym is)) (λ x y is. body_level (roll-Body x) y (rolled_body x ∙ sym is))
        (λ x y is. branch_level (roll-Branch x) y (rolled_branch x ∙ sym is)) (λ x y is. line_level (roll-Stmt x) y (rolled_line x ∙ sym is))

  -- ---- parameters

  -- what parameters give: names that are no MODEs, and locals that may stand
  abbrev Given : Names × Tally → Type 0
  Given u = LevelNames n u.0 × Standing n u.1

  named_keeps : (m : Outcome Mode) → MayStand n m → (l : Names) (i : Ident) (t : Tally) → Given (l, t) → Given (named l i m t)
  named_keeps (Err g) may l i t k = (
    declared_names n i.name meaning.Unknown l k.0 tt,
    with_locals_same n t (noted_if (holds l i.name) (fault.DeclaredTwice i.at) t) (noted_locals (holds l i.name) (fault.DeclaredTwice i.at) t) k.1,
  )
  named_keeps (Ok m) may l i t k =
      let v : Tally = noted_if (holds l i.name) (fault.DeclaredTwice i.at) t in (
        declared_names n i.name (meaning.Local (next_local t) m) l k.0 tt,
        one_more_stands (local_stands n) v.locals (made.Variable m) (with_locals_same n t v (noted_locals (holds l i.name) (fault.DeclaredTwice i.at) t) k.1) (may m refl),
      )

  group_keeps : (m : Outcome Mode) → MayStand n m → (l : Names) (is : List Ident) (t : Tally) → Given (l, t) → Given (group m l is t)
  group_keeps m may l [] t k = k
  group_keeps m may l (i ∷ is) t k = let u : Names × Tally = named l i m t in group_keeps m may u.0 is u.1 (named_keeps m may l i t k)

  parameters_keep : (s : Sight) (l : Names) (fs : List Fields) (t : Tally) → AllByRecursion (FieldsShallow 99) fs → NamesRecords n s → Given (l, t) → Given (parameters s l fs t)
  parameters_keep s l [] t low h k = k
  parameters_keep s l (f ∷ fs) t low h k =
      let o : Outcome Mode = mode_in s f.at f.mode in
      let u : Outcome Mode × Tally = mode_or o t in
      let v : Names × Tally = group u.0 l f.names u.1 in
      let may : MayStand n u.0 = mode_same n o t (λ m e. mode_stands n s f.at f.mode m h (deeper_shallow f.mode 99 100 8 (omega arith) low.0) e) in
      parameters_keep s v.0 fs v.1 low.1 h (group_keeps u.0 may l f.names u.1 (k.0, with_locals_same n t u.1 (mode_locals o t) k.1))

pub locals_stand : LocalsStand
locals_stand n s b low h =
    let p : Names × Tally = parameters s [] b.fields nothing_yet in
    let a : Answer × Tally = answer_in s b.at b.result p.1 in
    let m : BodyMade × Tally = spec.body a.0 b.body (within p.0 s) a.1 in
    let first = parameters_keep n s [] b.fields nothing_yet low.fields h (tt, refl) in
    let second : Standing n a.1 = with_locals_same n p.1 a.1 (answer_locals s b.at b.result p.1) first.1 in
    let last : Tally = closed_at a.0 b.ends m.0 m.1 in
    with_locals_same n m.1 last (last_locals s b) (body_stands n a.0 b.body low.body (within p.0 s) a.1 (first.0, h) second)
