-- What a walk over statements takes is the depth of their plain tree, whether it recovers, and the points.
use Rattle.std.proofs.Common.{◌≡◌, ℕ, max, Bool, true, false, ◌||◌, List, [], ◌∷◌, ◌++◌, map, Option, Some, None, option_map, refl, sym, ap, ◌∙◌, arith, append_assoc}
use Rattle.std.proofs.lemmas.List.{append-nil, map-append}
use Rattle.rt_tree_nodes.specs.declared.statement.Body.{Body, out-Body, roll-Body, map-Body}
use Rattle.rt_tree_nodes.specs.declared.statement.Body as bodies
use Rattle.rt_tree_nodes.specs.declared.statement.Branch.{Branch, out-Branch, roll-Branch, map-Branch}
use Rattle.rt_tree_nodes.specs.declared.statement.Branch as branches
use Rattle.rt_tree_nodes.specs.declared.statement.Labelled.{Labelled, out-Labelled, roll-Labelled, map-Labelled}
use Rattle.rt_tree_nodes.specs.declared.statement.Labelled as lines
use Rattle.rt_tree_nodes.specs.declared.statement.LocalStart.{LocalStart}
use Rattle.rt_tree_nodes.specs.declared.statement.Stat.{Stat, out-Stat, roll-Stat, map-Stat}
use Rattle.rt_tree_nodes.specs.declared.statement.Stat as stats
use Rattle.rt_tree_nodes.specs.declared.statement.Stat.TheFolds.{ind-Body, fold-Stat, fold-Branch, fold-Labelled, fold_out-Stat, fold_out-Body, fold_out-Branch, fold_out-Labelled}
use Rattle.rt_tree_nodes.specs.declared.statement.Stat.TheOpen.{Stat-F, Body-F, Branch-F, Labelled-F}
use Rattle.rt_tree_nodes.specs.declared.statement.Test.{Test, out-Test, roll-Test, map-Test}
use Rattle.rt_tree_nodes.specs.declared.statement.Test as tests
use Rattle.rt_tree_nodes.specs.declared.statement.Test.TheFolds.{ind-Test, fold_out-Test}
use Rattle.rt_tree_nodes.specs.declared.statement.Test.TheOpen.{Test-F}
use Rattle.rt_tree_nodes.specs.declared.value.Place.{Place}
use Rattle.rt_tree_nodes.specs.declared.value.Value.{Value}
use Rattle.rt_tree.specs.Depth.{depth, condition_depth, statement_depth, sequence_depth, statement_recovers, sequence_recovers, above}
use Rattle.rt_tree_nodes.specs.Scopes.{Scope}
use Rattle.rt_tree.specs.Statements.{Tested, one_test, tested, joined_by, stat_tree, body_tree, labelled_tree, sequence_tree, otherwise_tree, branches_tree, if_tree, call_tree, assigned_tree, starts_tree, start_tree, step_tree, return_tree, marks}
use Rattle.rt_tree_nodes.specs.Tree.{Term, Cond, Both, Either, Stmt, Seq, Done, Then}
use Rattle.rt_tree_nodes.specs.Typing.{Valued, Placed, Spot, OnLocal, OnPath, OnRow, valued, placed}
use Rattle.rt_frames.specs.declared.frame.CallPoint.{CallPoint}
use Rattle.rt_frames.specs.declared.statements.Walk.{Walk}
use Rattle.rt_frames.specs.Measures.{address_of}
use Rattle.rt_frames.specs.Points as p
use Rattle.rt_frames.specs.Points.{value_points, place_points, address_words}
use Rattle.rt_frames.specs.Saturated.{saturated, saturated_point, saturated_points}
use Rattle.rt_frames.specs.Walks as k
use Rattle.rt_frames.specs.Walks.{Part, in_turn, with_points, with_depth, over}
use Rattle.rt_frames.proofs.Fused.{value_fused, place_fused}
use Rattle.rt_frames.proofs.Sums.{max_saturated}

-- what was taken, and more
abbrev pub plus : Walk → ℕ → Bool → List CallPoint → Walk
plus w d r ps = record { deep = max w.deep (saturated d); recovers = w.recovers || r; calls = w.calls ++ saturated_points ps }

abbrev walk_of : ℕ → Bool → List CallPoint → Walk
walk_of d r ps = record { deep = d; recovers = r; calls = ps }

alike : {d e : ℕ} {r s : Bool} {ps qs : List CallPoint} → d ≡ e → r ≡ s → ps ≡ qs → walk_of d r ps ≡ walk_of e s qs
alike a b c = rw (a, b, c) refl

or_assoc : (a b c : Bool) → (a || b) || c ≡ a || (b || c)
or_assoc true b c = refl
or_assoc false b c = refl

or_false : (a : Bool) → a || false ≡ a
or_false true = refl
or_false false = refl

max_assoc : (a b c : ℕ) → max (max a b) c ≡ max a (max b c)
max_assoc a b c = grind arith

max_zero : (a : ℕ) → max a 0 ≡ a
max_zero a = grind arith

plus_plus : (w : Walk) (d e : ℕ) (r s : Bool) (ps qs : List CallPoint) → plus (plus w d r ps) e s qs ≡ plus w (max d e) (r || s) (ps ++ qs)
plus_plus w d e r s ps qs =
    alike (max_assoc w.deep (saturated d) (saturated e) ∙ ap (λ (n : ℕ). max w.deep n) (max_saturated d e)) (or_assoc w.recovers r s)
    (append_assoc w.calls (saturated_points ps) (saturated_points qs) ∙ ap (λ (cs : List CallPoint). w.calls ++ cs) (sym (map-append saturated_point ps qs)))

plus_nothing : (w : Walk) → plus w 0 false [] ≡ w
plus_nothing w = alike (max_zero w.deep) (or_false w.recovers) (append-nil w.calls)

same_plus : (w : Walk) {d e : ℕ} {r s : Bool} {ps qs : List CallPoint} → d ≡ e → r ≡ s → ps ≡ qs → plus w d r ps ≡ plus w e s qs
same_plus w a b c = rw (a, b, c) refl

points_plus : (w : Walk) (d : ℕ) (ps : List CallPoint) → with_points w d ps ≡ plus w d false ps
points_plus w d ps = rw (or_false w.recovers) refl

depth_plus : (w : Walk) (d : ℕ) → with_depth w d ≡ plus w d false []
depth_plus w d = alike refl (sym (or_false w.recovers)) (sym (append-nil w.calls))

-- a part takes this
pub record Takes (f : Part) (d : ℕ) (r : Bool) (ps : List CallPoint) : Type 0 where
  pub is : (w : Walk) → f w ≡ plus w d r ps

-- one part and then another
then_takes : {f g : Part} {d e : ℕ} {r s : Bool} {ps qs : List CallPoint} → Takes f d r ps → Takes g e s qs → Takes (λ w. g (f w)) (max d e) (r || s) (ps ++ qs)
then_takes {f} {g} {d} {e} {r} {s} {ps} {qs} a b = record { is = λ w. b.is (f w) ∙ ap (λ (x : Walk). plus x e s qs) (a.is w) ∙ plus_plus w d e r s ps qs }

nothing_takes : Takes k.nothing 0 false []
nothing_takes = record { is = λ w. sym (plus_nothing w) }

as_takes : {f : Part} {d e : ℕ} {r s : Bool} {ps qs : List CallPoint} → Takes f d r ps → d ≡ e → r ≡ s → ps ≡ qs → Takes f e s qs
as_takes a x y z = record { is = λ w. a.is w ∙ same_plus w x y z }

module _ (c : Scope) where
  value_takes : (v : Value) → Takes (k.value_part c v) (depth (valued c v).tree) false (p.alone c v)
  value_takes v = record { is = λ w. points_plus w (depth (value_points c v).valued.tree) ((value_points c v).points 0) ∙ same_plus w (ap (λ (x : Valued). depth x.tree) (value_fused c v)) refl refl }

  comparison_takes : (a b : Value) → Takes (k.comparison c a b) (above (depth (valued c a).tree) (depth (valued c b).tree)) false (p.alone c a ++ (value_points c b).points 1)
  comparison_takes a b = record { is = λ w. points_plus w _ _ ∙ same_plus w (rw (value_fused c a, value_fused c b) refl) refl refl }

  -- ---- conditions

  abbrev TestTakes : Test → Type 0
  TestTakes t = Takes (k.test_part c t) (condition_depth (tested c t).tree) false (p.test_points c t)

  abbrev TestPair : Type 0
  TestPair = (t : Test) × TestTakes t

  abbrev plain_tests : List TestPair → List Test
  plain_tests ts = map (λ (e : TestPair). e.0) ts

  -- a way to join two conditions takes as much as both
  abbrev IsJoin : (Cond → Cond → Cond) → Type 0
  IsJoin join = (t u : Cond) → condition_depth (join t u) ≡ max (condition_depth t) (condition_depth u)

  turns_take : (join : Cond → Cond → Cond) → IsJoin join → (t : TestPair) (ts : List TestPair)
      → Takes (in_turn (map (k.test_part c) (plain_tests (t ∷ ts)))) (condition_depth (joined_by join (map (tested c) (plain_tests (t ∷ ts))))) false (p.joined (map (p.test_points c) (plain_tests (t ∷ ts))))
  turns_take join j t [] = as_takes t.1 refl refl (sym (append-nil (p.test_points c t.0)))
  turns_take join j t (u ∷ ts) =
      as_takes (then_takes t.1 (turns_take join j u ts)) (sym (j (tested c t.0).tree (joined_by join (map (tested c) (plain_tests (u ∷ ts)))))) refl refl

  joined_take : (join : Cond → Cond → Cond) → IsJoin join → (ts : List TestPair)
      → Takes (k.joined (map (k.test_part c) (plain_tests ts))) (condition_depth (joined_by join (map (tested c) (plain_tests ts)))) false (p.joined (map (p.test_points c) (plain_tests ts)))
  joined_take join j [] = record { is = λ w. depth_plus w 2 }
  joined_take join j (t ∷ ts) = record { is = λ w. (turns_take join j t ts).is w }

  test_as : (t : Test) (l : Test-F Test) → out-Test t ≡ l
      → Takes (k.one_test c (map-Test Test Part (k.test_part c) l)) (condition_depth (one_test c (map-Test Test Tested (tested c) l)).tree) false (p.test_step c (map-Test Test (List CallPoint) (p.test_points c) l)) → TestTakes t
  test_as t l o h =
      let part : k.test_part c t ≡ k.one_test c (map-Test Test Part (k.test_part c) l) = rw (fold_out-Test, o) refl in
      let tree : tested c t ≡ one_test c (map-Test Test Tested (tested c) l) = rw (fold_out-Test, o) refl in
      let gathered : p.test_points c t ≡ p.test_step c (map-Test Test (List CallPoint) (p.test_points c) l) = rw (fold_out-Test, o) refl in
      rw (part, tree, gathered) h

  test_level : (t : Test) (y : Test-F TestPair) → out-Test t ≡ map-Test TestPair Test (λ e. e.0) y → TestTakes t
  test_level t (Test-F.Compare r a b) o = test_as t (Test-F.Compare r a b) o (comparison_takes a b)
  test_level t (Test-F.And ts) o = test_as t (Test-F.And (plain_tests ts)) o (joined_take Both (λ x y. refl) ts)
  test_level t (Test-F.Or ts) o = test_as t (Test-F.Or (plain_tests ts)) o (joined_take Either (λ x y. refl) ts)

  rolled_test : (x : Test-F Test) → out-Test (roll-Test x) ≡ x
  rolled_test x = search tests.the_lemmas

  test_takes : (t : Test) → TestTakes t
  test_takes = ind-Test TestTakes (λ x y is. test_level (roll-Test x) y (rolled_test x ∙ sym is))

  -- ---- values of statements

  none_or_value : (v : Option Value) → Takes (k.value_or_none c v) (statement_depth (return_tree c v)) false (p.alone_or_none c v)
  none_or_value None = nothing_takes
  none_or_value (Some v) = value_takes v

  start_takes : (d : LocalStart) → Takes (k.start_part c d) (statement_depth (start_tree c d.local d.start)) false (p.start_points c d)
  start_takes d = by_start d.local d.start where
    by_start : (i : ℕ) (v : Option Value) → Takes (k.value_or_none c v) (statement_depth (start_tree c i v)) false (p.alone_or_none c v)
    by_start i None = nothing_takes
    by_start i (Some v) = value_takes v

  start_recovers : (i : ℕ) (v : Option Value) → statement_recovers (start_tree c i v) ≡ false
  start_recovers i None = refl
  start_recovers i (Some v) = refl

  -- locals before a sequence
  starts_take : (ds : List LocalStart) (g : Part) (q : Seq) (ps : List CallPoint) → Takes g (sequence_depth q) (sequence_recovers q) ps
      → Takes (λ w. g (in_turn (map (k.start_part c) ds) w)) (sequence_depth (starts_tree c ds q)) (sequence_recovers (starts_tree c ds q)) (p.joined (map (p.start_points c) ds) ++ ps)
  starts_take [] g q ps h = h
  starts_take (d ∷ ds) g q ps h =
      as_takes (then_takes (start_takes d) (starts_take ds g q ps h)) refl (ap (λ (b : Bool). b || sequence_recovers (starts_tree c ds q)) (sym (start_recovers d.local d.start)))
      (sym (append_assoc (p.start_points c d) (p.joined (map (p.start_points c) ds)) ps))

  step_takes : (v : Option Value) → Takes (k.step_part c v) (depth (step_tree c v)) false (p.alone_or_none c v)
  step_takes None = record { is = λ w. depth_plus w 1 }
  step_takes (Some v) = value_takes v

  -- the depth of an assignment, by how the place is come to
  over_spot : (m : Placed) (s : Spot) (t : Term) → m.tree ≡ s → over (address_of s) (depth t) ≡ statement_depth (assigned_tree m t)
  over_spot m (OnLocal i) t e = rw e refl
  over_spot m (OnPath q) t e = rw e refl
  over_spot m (OnRow a) t e = rw e refl

  assigned_recovers : (m : Placed) (s : Spot) (t : Term) → m.tree ≡ s → statement_recovers (assigned_tree m t) ≡ false
  assigned_recovers m (OnLocal i) t e = rw e refl
  assigned_recovers m (OnPath q) t e = rw e refl
  assigned_recovers m (OnRow a) t e = rw e refl

  assigned_depth : (q : Place) (v : Value) → over (address_of (place_points c q).placed.tree) (depth (value_points c v).valued.tree) ≡ statement_depth (assigned_tree (placed c q) (valued c v).tree)
  assigned_depth q v = rw (value_fused c v, place_fused c q) (over_spot (placed c q) (placed c q).tree (valued c v).tree refl)

  assignment_takes : (q : Place) (v : Value) → Takes (k.assignment c q v) (statement_depth (assigned_tree (placed c q) (valued c v).tree)) false (p.assigned_points c q v)
  assignment_takes q v = record { is = λ w. points_plus w _ _ ∙ same_plus w (assigned_depth q v) refl refl }

  call_depth : (v : Valued) → statement_depth (call_tree v) ≡ depth v.tree
  call_depth v = by_call v.call refl where
    by_call : (o : Option (Option _)) → v.call ≡ o → statement_depth (call_tree v) ≡ depth v.tree
    by_call None e = rw e refl
    by_call (Some None) e = rw e refl
    by_call (Some (Some m)) e = rw e refl

  call_recovers : (v : Valued) → statement_recovers (call_tree v) ≡ false
  call_recovers v = by_call v.call refl where
    by_call : (o : Option (Option _)) → v.call ≡ o → statement_recovers (call_tree v) ≡ false
    by_call None e = rw e refl
    by_call (Some None) e = rw e refl
    by_call (Some (Some m)) e = rw e refl

  -- ---- statements

  abbrev body_alg : Body-F Stmt Seq (Cond × Seq) (Seq → Seq) → Seq
  body_alg b = starts_tree c b.locals (sequence_tree b.statements)

  abbrev branch_alg : Branch-F Stmt Seq (Cond × Seq) (Seq → Seq) → Cond × Seq
  branch_alg b = ((tested c b.test).tree, sequence_tree b.taken)

  abbrev line_alg : Labelled-F Stmt Seq (Cond × Seq) (Seq → Seq) → Seq → Seq
  line_alg x = labelled_tree x.labels x.stat

  abbrev stat_of : Stat → Stmt
  stat_of = fold-Stat Stmt Seq (Cond × Seq) (Seq → Seq) (stat_tree c) body_alg branch_alg line_alg

  abbrev branch_of : Branch → Cond × Seq
  branch_of = fold-Branch Stmt Seq (Cond × Seq) (Seq → Seq) (stat_tree c) body_alg branch_alg line_alg

  abbrev line_of : Labelled → Seq → Seq
  line_of = fold-Labelled Stmt Seq (Cond × Seq) (Seq → Seq) (stat_tree c) body_alg branch_alg line_alg

  abbrev PL : Type 0
  PL = List CallPoint

  abbrev stat_points : Stat → PL
  stat_points = fold-Stat PL PL PL PL (p.stat_step c) (p.body_step c) (p.branch_step c) (p.labelled_step c)

  abbrev branch_points : Branch → PL
  branch_points = fold-Branch PL PL PL PL (p.stat_step c) (p.body_step c) (p.branch_step c) (p.labelled_step c)

  abbrev line_points : Labelled → PL
  line_points = fold-Labelled PL PL PL PL (p.stat_step c) (p.body_step c) (p.branch_step c) (p.labelled_step c)

  abbrev StatTakes : Stat → Type 0
  StatTakes s = Takes (k.stat_part c s) (statement_depth (stat_of s)) (statement_recovers (stat_of s)) (stat_points s)

  abbrev BodyTakes : Body → Type 0
  BodyTakes b = Takes (k.body_part c b) (sequence_depth (body_tree c b)) (sequence_recovers (body_tree c b)) (p.body_points c b)

  abbrev BranchTakes : Branch → Type 0
  BranchTakes b = Takes (k.branch_part c b) (max (condition_depth (branch_of b).0) (sequence_depth (branch_of b).1)) (sequence_recovers (branch_of b).1) (branch_points b)

  -- a statement with its labels, and what stands behind it
  abbrev LineTakes : Labelled → Type 0
  LineTakes x = (g : Part) (q : Seq) (ps : PL) → Takes g (sequence_depth q) (sequence_recovers q) ps
      → Takes (λ w. g (k.labelled_part c x w)) (sequence_depth (line_of x q)) (sequence_recovers (line_of x q)) (line_points x ++ ps)

  abbrev StatPair : Type 0
  StatPair = (s : Stat) × StatTakes s

  abbrev BodyPair : Type 0
  BodyPair = (b : Body) × BodyTakes b

  abbrev BranchPair : Type 0
  BranchPair = (b : Branch) × BranchTakes b

  abbrev LinePair : Type 0
  LinePair = (x : Labelled) × LineTakes x

  abbrev plain_lines : List LinePair → List Labelled
  plain_lines xs = map (λ (e : LinePair). e.0) xs

  abbrev plain_branches : List BranchPair → List Branch
  plain_branches xs = map (λ (e : BranchPair). e.0) xs

  sequence_takes : (xs : List LinePair)
      → Takes (in_turn (map (k.labelled_part c) (plain_lines xs))) (sequence_depth (sequence_tree (map line_of (plain_lines xs)))) (sequence_recovers (sequence_tree (map line_of (plain_lines xs))))
      (p.joined (map line_points (plain_lines xs)))
  sequence_takes [] = nothing_takes
  sequence_takes (x ∷ xs) = x.1 (in_turn (map (k.labelled_part c) (plain_lines xs))) (sequence_tree (map line_of (plain_lines xs))) (p.joined (map line_points (plain_lines xs))) (sequence_takes xs)

  marks_depth : (ls : List ℕ) (q : Seq) → sequence_depth (marks ls q) ≡ sequence_depth q
  marks_depth [] q = refl
  marks_depth (l ∷ ls) q = marks_depth ls q

  marks_recover : (ls : List ℕ) (q : Seq) → sequence_recovers (marks ls q) ≡ sequence_recovers q
  marks_recover [] q = refl
  marks_recover (l ∷ ls) q = marks_recover ls q

  otherwise_takes : (o : Option (List LinePair)) (e : Option (List Labelled)) → e ≡ option_map plain_lines o
      → Takes (k.otherwise (option_map (map (k.labelled_part c)) e)) (sequence_depth (otherwise_tree (option_map (map line_of) e))) (sequence_recovers (otherwise_tree (option_map (map line_of) e)))
      (p.otherwise_points (option_map (map line_points) e))
  otherwise_takes None e h = rw h nothing_takes
  otherwise_takes (Some xs) e h = rw h (sequence_takes xs)

  abbrev Trees : Type 0
  Trees = List (Cond × Seq)

  -- the branches behind the first are an IF of their own
  behind_depth : (bs : Trees) (e : Seq) → sequence_depth (branches_tree bs e) ≡ statement_depth (if_tree bs e)
  behind_depth [] e = refl
  behind_depth (b ∷ bs) e = max_zero (max (condition_depth b.0) (max (sequence_depth b.1) (sequence_depth (branches_tree bs e))))

  behind_recovers : (bs : Trees) (e : Seq) → sequence_recovers (branches_tree bs e) ≡ statement_recovers (if_tree bs e)
  behind_recovers [] e = refl
  behind_recovers (b ∷ bs) e = or_false (sequence_recovers b.1 || sequence_recovers (branches_tree bs e))

  branches_take : (bs : List BranchPair) (g : Part) (e : Seq) (ps : PL) → Takes g (sequence_depth e) (sequence_recovers e) ps
      → Takes (λ w. g (in_turn (map (k.branch_part c) (plain_branches bs)) w)) (statement_depth (if_tree (map branch_of (plain_branches bs)) e)) (statement_recovers (if_tree (map branch_of (plain_branches bs)) e))
      (p.joined (map branch_points (plain_branches bs)) ++ ps)
  branches_take [] g e ps h = h
  branches_take (b ∷ bs) g e ps h =
      as_takes (then_takes b.1 (branches_take bs g e ps h))
      (max_assoc (condition_depth (branch_of b.0).0) (sequence_depth (branch_of b.0).1) (statement_depth (if_tree (map branch_of (plain_branches bs)) e))
      ∙ ap (λ (d : ℕ). max (condition_depth (branch_of b.0).0) (max (sequence_depth (branch_of b.0).1) d)) (sym (behind_depth (map branch_of (plain_branches bs)) e)))
      (ap (λ (r : Bool). sequence_recovers (branch_of b.0).1 || r) (sym (behind_recovers (map branch_of (plain_branches bs)) e)))
      (sym (append_assoc (branch_points b.0) (p.joined (map branch_points (plain_branches bs))) ps))

  return_recovers : (v : Option Value) → statement_recovers (return_tree c v) ≡ false
  return_recovers None = refl
  return_recovers (Some v) = refl

  or_true : (b : Bool) → b || true ≡ true
  or_true true = refl
  or_true false = refl

  recovering_takes : Takes k.recovering 0 true []
  recovering_takes = record { is = λ w. alike (sym (max_zero w.deep)) (sym (or_true w.recovers)) (sym (append-nil w.calls)) }

  for_depth : (a b d e : ℕ) → max a (max b (max d e)) ≡ max (max a (max b d)) e
  for_depth a b d e = grind arith

  -- ---- one level

  abbrev plain_stat : Stat-F StatPair BodyPair BranchPair LinePair → Stat-F Stat Body Branch Labelled
  plain_stat y = map-Stat StatPair BodyPair BranchPair LinePair Stat Body Branch Labelled (λ e. e.0) (λ e. e.0) (λ e. e.0) (λ e. e.0) y

  abbrev stat_parts : Stat-F Stat Body Branch Labelled → Part
  stat_parts l = k.one_stat c (map-Stat Stat Body Branch Labelled Part Part Part Part (k.stat_part c) (k.body_part c) (k.branch_part c) (k.labelled_part c) l)

  abbrev stat_trees : Stat-F Stat Body Branch Labelled → Stmt
  stat_trees l = stat_tree c (map-Stat Stat Body Branch Labelled Stmt Seq (Cond × Seq) (Seq → Seq) stat_of (body_tree c) branch_of line_of l)

  abbrev stat_gathers : Stat-F Stat Body Branch Labelled → PL
  stat_gathers l = p.stat_step c (map-Stat Stat Body Branch Labelled PL PL PL PL stat_points (p.body_points c) branch_points line_points l)

  stat_as : (s : Stat) (l : Stat-F Stat Body Branch Labelled) → out-Stat s ≡ l → Takes (stat_parts l) (statement_depth (stat_trees l)) (statement_recovers (stat_trees l)) (stat_gathers l) → StatTakes s
  stat_as s l o h =
      let part : k.stat_part c s ≡ stat_parts l = rw (fold_out-Stat, o) refl in
      let tree : stat_of s ≡ stat_trees l = rw (fold_out-Stat, o) refl in
      let gathered : stat_points s ≡ stat_gathers l = rw (fold_out-Stat, o) refl in
      rw (part, tree, gathered) h

  stat_level : (y : Stat-F StatPair BodyPair BranchPair LinePair) → Takes (stat_parts (plain_stat y)) (statement_depth (stat_trees (plain_stat y))) (statement_recovers (stat_trees (plain_stat y))) (stat_gathers (plain_stat y))
  stat_level (Stat-F.Call v) = as_takes (value_takes v) (sym (call_depth (valued c v))) (sym (call_recovers (valued c v))) refl
  stat_level (Stat-F.Assign q v) = as_takes (assignment_takes q v) refl (sym (assigned_recovers (placed c q) (placed c q).tree (valued c v).tree refl)) refl
  stat_level (Stat-F.Goto l) = nothing_takes
  stat_level (Stat-F.Return v) = as_takes (none_or_value v) refl (sym (return_recovers v)) refl
  stat_level (Stat-F.Switch v ls) = value_takes v
  stat_level (Stat-F.Block b) = b.1
  stat_level (Stat-F.If bs None) = branches_take bs k.nothing Done [] nothing_takes
  stat_level (Stat-F.If bs (Some xs)) = branches_take bs (in_turn (map (k.labelled_part c) (plain_lines xs))) (sequence_tree (map line_of (plain_lines xs))) (p.joined (map line_points (plain_lines xs))) (sequence_takes xs)
  stat_level (Stat-F.For i start step end xs) =
      as_takes (then_takes (value_takes start) (then_takes (step_takes step) (then_takes (value_takes end) (sequence_takes xs))))
      (for_depth (depth (valued c start).tree) (depth (step_tree c step)) (depth (valued c end).tree) (sequence_depth (sequence_tree (map line_of (plain_lines xs))))) refl refl
  stat_level (Stat-F.To i n xs) = then_takes (value_takes n) (sequence_takes xs)
  stat_level (Stat-F.While t xs) = then_takes (test_takes t) (sequence_takes xs)
  stat_level (Stat-F.Recover l) = recovering_takes

  body_level : (b : Body) (y : Body-F StatPair BodyPair BranchPair LinePair)
      → out-Body b ≡ map-Body StatPair BodyPair BranchPair LinePair Stat Body Branch Labelled (λ e. e.0) (λ e. e.0) (λ e. e.0) (λ e. e.0) y → BodyTakes b
  body_level b y o =
      let part : k.body_part c b ≡ (λ v. in_turn (map (k.labelled_part c) (plain_lines y.statements)) (in_turn (map (k.start_part c) y.locals) v)) = rw (fold_out-Body, o) refl in
      let tree : body_tree c b ≡ starts_tree c y.locals (sequence_tree (map line_of (plain_lines y.statements))) = rw (fold_out-Body, o) refl in
      let gathered : p.body_points c b ≡ p.joined (map (p.start_points c) y.locals) ++ p.joined (map line_points (plain_lines y.statements)) = rw (fold_out-Body, o) refl in
      rw (part, tree, gathered) (starts_take y.locals (in_turn (map (k.labelled_part c) (plain_lines y.statements))) (sequence_tree (map line_of (plain_lines y.statements)))
      (p.joined (map line_points (plain_lines y.statements))) (sequence_takes y.statements))

  branch_level : (b : Branch) (y : Branch-F StatPair BodyPair BranchPair LinePair)
      → out-Branch b ≡ map-Branch StatPair BodyPair BranchPair LinePair Stat Body Branch Labelled (λ e. e.0) (λ e. e.0) (λ e. e.0) (λ e. e.0) y → BranchTakes b
  branch_level b y o =
      let part : k.branch_part c b ≡ (λ v. in_turn (map (k.labelled_part c) (plain_lines y.taken)) (k.test_part c y.test v)) = rw (fold_out-Branch, o) refl in
      let tree : branch_of b ≡ ((tested c y.test).tree, sequence_tree (map line_of (plain_lines y.taken))) = rw (fold_out-Branch, o) refl in
      let gathered : branch_points b ≡ p.test_points c y.test ++ p.joined (map line_points (plain_lines y.taken)) = rw (fold_out-Branch, o) refl in
      rw (part, tree, gathered) (then_takes (test_takes y.test) (sequence_takes y.taken))

  line_cases : (x : Labelled) (y : Labelled-F StatPair BodyPair BranchPair LinePair) (s : Option StatPair) → y.stat ≡ s
      → out-Labelled x ≡ map-Labelled StatPair BodyPair BranchPair LinePair Stat Body Branch Labelled (λ e. e.0) (λ e. e.0) (λ e. e.0) (λ e. e.0) y → LineTakes x
  line_cases x y None e o g q ps h =
      let part : k.labelled_part c x ≡ k.nothing = rw (fold_out-Labelled, o, e) refl in
      let tree : line_of x ≡ (λ z. marks y.labels z) = rw (fold_out-Labelled, o, e) refl in
      let gathered : line_points x ≡ [] = rw (fold_out-Labelled, o, e) refl in
      rw (part, tree, gathered) (as_takes h (sym (marks_depth y.labels q)) (sym (marks_recover y.labels q)) refl)
  line_cases x y (Some s) e o g q ps h =
      let part : k.labelled_part c x ≡ k.stat_part c s.0 = rw (fold_out-Labelled, o, e) refl in
      let tree : line_of x ≡ (λ z. marks y.labels (Then (stat_of s.0) z)) = rw (fold_out-Labelled, o, e) refl in
      let gathered : line_points x ≡ stat_points s.0 = rw (fold_out-Labelled, o, e) refl in
      rw (part, tree, gathered) (as_takes (then_takes s.1 h) (sym (marks_depth y.labels (Then (stat_of s.0) q))) (sym (marks_recover y.labels (Then (stat_of s.0) q))) refl)

  line_level : (x : Labelled) (y : Labelled-F StatPair BodyPair BranchPair LinePair)
      → out-Labelled x ≡ map-Labelled StatPair BodyPair BranchPair LinePair Stat Body Branch Labelled (λ e. e.0) (λ e. e.0) (λ e. e.0) (λ e. e.0) y → LineTakes x
  line_level x y o = line_cases x y y.stat refl o

  rolled_stat : (x : Stat-F Stat Body Branch Labelled) → out-Stat (roll-Stat x) ≡ x
  rolled_stat x = search stats.the_lemmas

  rolled_body : (x : Body-F Stat Body Branch Labelled) → out-Body (roll-Body x) ≡ x
  rolled_body x = search bodies.the_lemmas

  rolled_branch : (x : Branch-F Stat Body Branch Labelled) → out-Branch (roll-Branch x) ≡ x
  rolled_branch x = search branches.the_lemmas

  rolled_line : (x : Labelled-F Stat Body Branch Labelled) → out-Labelled (roll-Labelled x) ≡ x
  rolled_line x = search lines.the_lemmas

  -- a body takes the depth of its plain tree, whether that recovers, and its points
  pub body_takes : (b : Body) → BodyTakes b
  body_takes = ind-Body StatTakes BodyTakes BranchTakes LineTakes (λ x y is. stat_as (roll-Stat x) (plain_stat y) (rolled_stat x ∙ sym is) (stat_level y)) (λ x y is. body_level (roll-Body x) y (rolled_body x ∙ sym is))
      (λ x y is. branch_level (roll-Branch x) y (rolled_branch x ∙ sym is)) (λ x y is. line_level (roll-Labelled x) y (rolled_line x ∙ sym is))
