-- The points of conditions and statements that fit stand below the depth of their plain trees.
use Rattle.std.proofs.Common.{◌≡◌, ℕ, ◌+◌, ◌≤◌, ◌==◌, max, Bool, true, false, ◌&&◌, ◌||◌, if◌then◌else◌, List, [], ◌∷◌, ◌++◌, map, Option, Some, None, option_map, slice_get, refl, sym, ap, subst, ◌∙◌, arith}
use Rattle.std.proofs.lemmas.Bool.{and_parts}
use Rattle.rt_modes.specs.declared.mode.Mode.{Mode}
use Rattle.rt_tree_nodes.specs.declared.brick.Local.{Local}
use Rattle.rt_tree_nodes.specs.declared.brick.Local.TheVariants as local
use Rattle.rt_tree_nodes.specs.declared.operators.Rel.{Rel}
use Rattle.rt_tree_nodes.specs.declared.statement.Body.{Body, out-Body, roll-Body, map-Body}
use Rattle.rt_tree_nodes.specs.declared.statement.Body as bodies
use Rattle.rt_tree_nodes.specs.declared.statement.Branch.{Branch, out-Branch, roll-Branch, map-Branch}
use Rattle.rt_tree_nodes.specs.declared.statement.Branch as branches
use Rattle.rt_tree_nodes.specs.declared.statement.Labelled.{Labelled, out-Labelled, roll-Labelled, map-Labelled}
use Rattle.rt_tree_nodes.specs.declared.statement.Labelled as lines
use Rattle.rt_tree_nodes.specs.declared.statement.LocalStart.{LocalStart}
use Rattle.rt_tree_nodes.specs.declared.statement.Stat.{Stat, out-Stat, roll-Stat, map-Stat}
use Rattle.rt_tree_nodes.specs.declared.statement.Stat as stats
use Rattle.rt_tree_nodes.specs.declared.statement.Stat.TheFolds.{ind-Body, fold-Stat, fold-Branch, fold-Labelled, fold_out-Stat, fold_out-Body, fold_out-Branch, fold_out-Labelled}
use Rattle.rt_tree_nodes.specs.declared.statement.Stat.TheOpen.{Stat-F, Body-F, Branch-F, Labelled-F}
use Rattle.rt_tree_nodes.specs.declared.statement.Test.{Test, out-Test, roll-Test, map-Test}
use Rattle.rt_tree_nodes.specs.declared.statement.Test as tests
use Rattle.rt_tree_nodes.specs.declared.statement.Test.TheFolds.{ind-Test, fold_out-Test}
use Rattle.rt_tree_nodes.specs.declared.statement.Test.TheOpen.{Test-F}
use Rattle.rt_tree_nodes.specs.declared.value.Place.{Place}
use Rattle.rt_tree_nodes.specs.declared.value.Value.{Value}
use Rattle.rt_tree_nodes.specs.Scopes.{Scope, with, passes}
use Rattle.rt_tree_nodes.specs.Tree.{Term, Cond, Both, Either, Stmt, Seq, Done, Then}
use Rattle.rt_tree_nodes.specs.Typing.{Valued, Placed, Found, Variable, Loop, Shared, Private, Row, Spot, OnLocal, OnPath, OnRow, valued, placed, suits, assigned_mode, is_int}
use Rattle.rt_tree.specs.Depth.{depth, condition_depth, statement_depth, sequence_depth, above, address_depth}
use Rattle.rt_tree.specs.Statements as S
use Rattle.rt_tree.specs.Statements.{Tested, Marked, Sight, one_test, tested, joined_by, comparison_fits, all_fit, some_fit, nothing, then_part, where_it_holds, in_order, labels_end, sight_with, labels_from, next_by, sequence, branches_in_order, otherwise, marked, marked_part, marks, labelled_tree, sequence_tree, otherwise_tree, branches_tree, if_tree, call_tree, assigned_tree, start_tree, starts_tree, step_tree, return_tree, stat_tree, body_tree, declares, start_fits, takes_three, is_int_value, is_int_step, assigns, value_returned, returns, is_call}
use Rattle.rt_frames.specs.declared.frame.CallPoint.{CallPoint}
use Rattle.rt_frames.specs.Points as p
use Rattle.rt_frames.specs.Points.{PlacePoints, ValuePoints, place_points, value_points, address_words, waits}
use Rattle.rt_frames.proofs.Fused.{value_fused, place_fused}
use Rattle.rt_frames.proofs.Under.{AllUnder, under_more, under_both, is_there, there_with, there_some, there_passes, only_there, fit, value_there, found_suits, spot_depth, waits_below, address_below, value_under, place_under}

-- what passes a test
passed : {A : Type 0} (test : A → Bool) (o : Option A) → passes test o ≡ true → (x : A) × ((o ≡ Some x) × (test x ≡ true))
passed test None h = absurd cc
passed test (Some x) h = (x, (refl, h))

there_if : {A : Type 0} (b : Bool) (o : Option A) → is_there (if b then o else None) ≡ true → (b ≡ true) × (is_there o ≡ true)
there_if true o h = (refl, h)
there_if false o h = absurd cc

or_by_right : (a b : Bool) → b ≡ true → a || b ≡ true
or_by_right true b e = refl
or_by_right false b e = e

call_there : (o : Option (Option Mode)) → is_call o ≡ true → is_there o ≡ true
call_there None h = absurd cc
call_there (Some r) h = refl

call_depth : (v : Valued) → statement_depth (call_tree v) ≡ depth v.tree
call_depth v = by_call v.call refl where
  by_call : (o : Option (Option Mode)) → v.call ≡ o → statement_depth (call_tree v) ≡ depth v.tree
  by_call None e = rw e refl
  by_call (Some None) e = rw e refl
  by_call (Some (Some m)) e = rw e refl

-- an assignment is no less deep than its place, and than its value above the place
record AssignedIsAbove (s : Spot) (v d : ℕ) : Type 0 where
  place : spot_depth s ≤ d
  assigned : address_words s + v ≤ d

assigned_above : (x : Placed) (o : Option Found) (s : Spot) (t : Term) → x.found ≡ o → x.tree ≡ s → found_suits o s ≡ true → is_there (with o assigned_mode) ≡ true
    → AssignedIsAbove s (depth t) (statement_depth (assigned_tree x t))
assigned_above x o (OnLocal i) t e f h g = record { place = rw f (omega arith); assigned = rw f (omega arith) }
assigned_above x o (OnPath q) t e f h g = record { place = rw f (address_below (address_depth q) (depth t)); assigned = rw f (waits_below (address_depth q) (depth t)) }
assigned_above x None (OnRow a) t e f h g = absurd cc
assigned_above x (Some (Variable m)) (OnRow a) t e f h g = absurd cc
assigned_above x (Some Loop) (OnRow a) t e f h g = absurd cc
assigned_above x (Some (Shared m)) (OnRow a) t e f h g = absurd cc
assigned_above x (Some (Private m)) (OnRow a) t e f h g = absurd cc
assigned_above x (Some (Row m)) (OnRow a) t e f h g = absurd cc

-- ---- the branches of an IF

abbrev Trees : Type 0
Trees = List (Cond × Seq)

behind_first : (bs : Trees) (e : Seq) → statement_depth (if_tree bs e) ≤ sequence_depth (branches_tree bs e)
behind_first [] e = omega arith
behind_first (b ∷ bs) e = grind arith

else_below : (bs : Trees) (e : Seq) → sequence_depth e ≤ statement_depth (if_tree bs e)
else_below [] e = omega arith
else_below (b ∷ bs) e = let rest = else_below bs e in let first = behind_first bs e in grind (arith, rest, first)

marks_depth : (ls : List ℕ) (q : Seq) → sequence_depth (marks ls q) ≡ sequence_depth q
marks_depth [] q = refl
marks_depth (l ∷ ls) q = marks_depth ls q

-- a way to join two conditions is as deep as both
abbrev IsJoin : (Cond → Cond → Cond) → Type 0
IsJoin join = (t u : Cond) → condition_depth (join t u) ≡ max (condition_depth t) (condition_depth u)

module _ (c : Scope) where
  value_stands : (v : Value) → fit (valued c v) ≡ true → (n : ℕ) → AllUnder (n + depth (valued c v).tree) ((value_points c v).points n)
  value_stands v f n = subst (λ (x : Valued). fit x ≡ true → AllUnder (n + depth x.tree) ((value_points c v).points n)) (value_fused c v) (λ g. (value_under c v).points g n) f

  alone_under : (v : Value) → fit (valued c v) ≡ true → AllUnder (depth (valued c v).tree) (p.alone c v)
  alone_under v f = under_more (0 + depth (valued c v).tree) (depth (valued c v).tree) (p.alone c v) (omega arith) (value_stands v f 0)

  -- ---- conditions

  compare_under : (r : Rel) (a b : Value) → comparison_fits r (valued c a) (valued c b) ≡ true → AllUnder (above (depth (valued c a).tree) (depth (valued c b).tree)) (p.alone c a ++ (value_points c b).points 1)
  compare_under r a b h =
      let first = passed _ (valued c a).mode h in
      let second = passed _ (valued c b).mode first.1.1 in
      under_both _ (p.alone c a) _ (under_more (depth (valued c a).tree) _ (p.alone c a) (grind arith) (alone_under a (value_there (valued c a) (there_some (valued c a).mode first.0 first.1.0))))
      (under_more (1 + depth (valued c b).tree) _ ((value_points c b).points 1) (grind arith) (value_stands b (value_there (valued c b) (there_some (valued c b).mode second.0 second.1.0)) 1))

  abbrev TestUnder : Test → Type 0
  TestUnder t = (tested c t).fits ≡ true → AllUnder (condition_depth (tested c t).tree) (p.test_points c t)

  abbrev TestPair : Type 0
  TestPair = (t : Test) × TestUnder t

  abbrev plain_tests : List TestPair → List Test
  plain_tests ts = map (λ (e : TestPair). e.0) ts

  tests_under : (join : Cond → Cond → Cond) → IsJoin join → (ts : List TestPair) → all_fit (map (tested c) (plain_tests ts)) ≡ true
      → AllUnder (condition_depth (joined_by join (map (tested c) (plain_tests ts)))) (p.joined (map (p.test_points c) (plain_tests ts)))
  tests_under join j [] h = tt
  tests_under join j (t ∷ []) h =
      let parts = and_parts (tested c t.0).fits true h in
      under_both (condition_depth (tested c t.0).tree) (p.test_points c t.0) [] (t.1 parts.0) tt
  tests_under join j (t ∷ (u ∷ ts)) h =
      let parts = and_parts (tested c t.0).fits (all_fit (map (tested c) (plain_tests (u ∷ ts)))) h in
      let whole = j (tested c t.0).tree (joined_by join (map (tested c) (plain_tests (u ∷ ts)))) in
      under_both _ (p.test_points c t.0) _ (under_more (condition_depth (tested c t.0).tree) _ (p.test_points c t.0) (grind (arith, whole)) (t.1 parts.0))
      (under_more (condition_depth (joined_by join (map (tested c) (plain_tests (u ∷ ts))))) _ (p.joined (map (p.test_points c) (plain_tests (u ∷ ts)))) (grind (arith, whole)) (tests_under join j (u ∷ ts) parts.1))

  test_as : (t : Test) (l : Test-F Test) → out-Test t ≡ l
      → ((one_test c (map-Test Test Tested (tested c) l)).fits ≡ true → AllUnder (condition_depth (one_test c (map-Test Test Tested (tested c) l)).tree) (p.test_step c (map-Test Test (List CallPoint) (p.test_points c) l))) → TestUnder t
  test_as t l o h =
      let tree : tested c t ≡ one_test c (map-Test Test Tested (tested c) l) = rw (fold_out-Test, o) refl in
      let gathered : p.test_points c t ≡ p.test_step c (map-Test Test (List CallPoint) (p.test_points c) l) = rw (fold_out-Test, o) refl in
      rw (tree, gathered) h

  test_level : (t : Test) (y : Test-F TestPair) → out-Test t ≡ map-Test TestPair Test (λ e. e.0) y → TestUnder t
  test_level t (Test-F.Compare r a b) o = test_as t (Test-F.Compare r a b) o (compare_under r a b)
  test_level t (Test-F.And ts) o = test_as t (Test-F.And (plain_tests ts)) o (λ h. tests_under Both (λ x y. refl) ts (and_parts _ _ h).1)
  test_level t (Test-F.Or ts) o = test_as t (Test-F.Or (plain_tests ts)) o (λ h. tests_under Either (λ x y. refl) ts (and_parts _ _ h).1)

  rolled_test : (x : Test-F Test) → out-Test (roll-Test x) ≡ x
  rolled_test x = search tests.the_lemmas

  test_under : (t : Test) → TestUnder t
  test_under = ind-Test TestUnder (λ x y is. test_level (roll-Test x) y (rolled_test x ∙ sym is))

  -- ---- values of statements

  int_under : (v : Value) → is_int_value c v ≡ true → AllUnder (depth (valued c v).tree) (p.alone c v)
  int_under v h = alone_under v (value_there (valued c v) (there_passes is_int (valued c v).mode h))

  step_under : (v : Option Value) → is_int_step c v ≡ true → AllUnder (depth (step_tree c v)) (p.alone_or_none c v)
  step_under None h = tt
  step_under (Some v) h = int_under v h

  suited_under : (w : Mode) (v : Value) → suits w (valued c v) ≡ true → AllUnder (depth (valued c v).tree) (p.alone c v)
  suited_under w v h = alone_under v (value_there (valued c v) (there_passes _ (valued c v).mode h))

  start_under : (o : Option Local) (i : ℕ) (v : Option Value) → start_fits c o v ≡ true → AllUnder (statement_depth (start_tree c i v)) (p.alone_or_none c v)
  start_under o i None h = tt
  start_under (Some (local.Variable m)) i (Some v) h = suited_under m v h
  start_under (Some local.Loop) i (Some v) h = absurd cc
  start_under None i (Some v) h = absurd cc

  starts_above : (ds : List LocalStart) (q : Seq) → sequence_depth q ≤ sequence_depth (starts_tree c ds q)
  starts_above [] q = omega arith
  starts_above (d ∷ ds) q = let rest = starts_above ds q in grind (arith, rest)

  starts_under : (ds : List LocalStart) (n : _) (q : Seq) → is_there (declares c ds n) ≡ true → AllUnder (sequence_depth (starts_tree c ds q)) (p.joined (map (p.start_points c) ds))
  starts_under [] n q h = tt
  starts_under (d ∷ ds) n q h =
      let parts = there_if (d.local == n.local && start_fits c (slice_get c.locals d.local) d.start) _ h in
      let both = and_parts (d.local == n.local) (start_fits c (slice_get c.locals d.local) d.start) parts.0 in
      under_both _ (p.start_points c d) _ (under_more (statement_depth (start_tree c d.local d.start)) _ (p.start_points c d) (grind arith) (start_under (slice_get c.locals d.local) d.local d.start both.1))
      (under_more (sequence_depth (starts_tree c ds q)) _ (p.joined (map (p.start_points c) ds)) (grind arith) (starts_under ds _ q parts.1))

  assigned_there : (o : Option Mode) (v : Value) → assigns c o v ≡ true → is_there o ≡ true
  assigned_there None v h = absurd cc
  assigned_there (Some m) v h = refl

  assigned_fits : (o : Option Mode) (v : Value) → assigns c o v ≡ true → fit (valued c v) ≡ true
  assigned_fits None v h = absurd cc
  assigned_fits (Some m) v h = value_there (valued c v) (there_passes _ (valued c v).mode h)

  place_stands : (q : Place) (x : Placed) → (place_points c q).placed ≡ x → is_there x.found ≡ true → (n : ℕ) → AllUnder (n + spot_depth x.tree) ((place_points c q).points n)
  place_stands q x e t n = subst (λ (z : Placed). is_there z.found ≡ true → AllUnder (n + spot_depth z.tree) ((place_points c q).points n)) e (λ u. (place_under c q).points u n) t

  place_suits : (q : Place) (x : Placed) → (place_points c q).placed ≡ x → found_suits x.found x.tree ≡ true
  place_suits q x e = subst (λ (z : Placed). found_suits z.found z.tree ≡ true) e (place_under c q).suits

  assignment_under : (q : Place) (v : Value) → assigns c (with (placed c q).found assigned_mode) v ≡ true → AllUnder (statement_depth (assigned_tree (placed c q) (valued c v).tree)) (p.assigned_points c q v)
  assignment_under q v h =
      let x = placed c q in
      let same = place_fused c q in
      let there = assigned_there (with x.found assigned_mode) v h in
      let found = there_with x.found assigned_mode there in
      let at : address_words (place_points c q).placed.tree ≡ address_words x.tree = ap (λ (z : Placed). address_words z.tree) same in
      let above = assigned_above x x.found x.tree (valued c v).tree refl refl (place_suits q x same) there in
      under_both _ ((place_points c q).points 0) _
      (under_more (0 + spot_depth x.tree) _ ((place_points c q).points 0) (let a = above.place in omega (arith, a)) (place_stands q x same (there_some x.found found.0 found.1.0) 0))
      (under_more (address_words (place_points c q).placed.tree + depth (valued c v).tree) _ ((value_points c v).points (address_words (place_points c q).placed.tree)) (let a = above.assigned in rw at a)
      (value_stands v (assigned_fits (with x.found assigned_mode) v h) (address_words (place_points c q).placed.tree)))

  return_under : (r : Option Mode) (v : Option Value) → returns r (value_returned c v) ≡ true → AllUnder (statement_depth (return_tree c v)) (p.alone_or_none c v)
  return_under r None h = tt
  return_under (Some m) (Some v) h = suited_under m v h
  return_under None (Some v) h = absurd cc

  -- ---- statements

  abbrev body_alg : Body-F Stmt Seq (Cond × Seq) (Seq → Seq) → Seq
  body_alg b = starts_tree c b.locals (sequence_tree b.statements)

  abbrev branch_alg : Branch-F Stmt Seq (Cond × Seq) (Seq → Seq) → Cond × Seq
  branch_alg b = ((tested c b.test).tree, sequence_tree b.taken)

  abbrev line_alg : Labelled-F Stmt Seq (Cond × Seq) (Seq → Seq) → Seq → Seq
  line_alg x = labelled_tree x.labels x.stat

  abbrev stat_of : Stat → Stmt
  stat_of = fold-Stat Stmt Seq (Cond × Seq) (Seq → Seq) (stat_tree c) body_alg branch_alg line_alg

  abbrev branch_of : Branch → Cond × Seq
  branch_of = fold-Branch Stmt Seq (Cond × Seq) (Seq → Seq) (stat_tree c) body_alg branch_alg line_alg

  abbrev line_of : Labelled → Seq → Seq
  line_of = fold-Labelled Stmt Seq (Cond × Seq) (Seq → Seq) (stat_tree c) body_alg branch_alg line_alg

  abbrev PL : Type 0
  PL = List CallPoint

  abbrev stat_points : Stat → PL
  stat_points = fold-Stat PL PL PL PL (p.stat_step c) (p.body_step c) (p.branch_step c) (p.labelled_step c)

  abbrev branch_points : Branch → PL
  branch_points = fold-Branch PL PL PL PL (p.stat_step c) (p.body_step c) (p.branch_step c) (p.labelled_step c)

  abbrev line_points : Labelled → PL
  line_points = fold-Labelled PL PL PL PL (p.stat_step c) (p.body_step c) (p.branch_step c) (p.labelled_step c)

  -- a part that fits
  abbrev IsFit : {A : Type 0} → Option A → Type 0
  IsFit o = is_there o ≡ true

  abbrev StatUnder : Stat → Type 0
  StatUnder s = (g : Sight) (n : _) → IsFit ((S.stat_part c s) g n) → AllUnder (statement_depth (stat_of s)) (stat_points s)

  abbrev BodyUnder : Body → Type 0
  BodyUnder b = (g : Sight) (n : _) → IsFit ((S.body_part c b) g n) → AllUnder (sequence_depth (body_tree c b)) (p.body_points c b)

  abbrev BranchUnder : Branch → Type 0
  BranchUnder b = (g : Sight) (n : _) → IsFit ((S.branch_part c b) g n) → AllUnder (max (condition_depth (branch_of b).0) (sequence_depth (branch_of b).1)) (branch_points b)

  -- a statement with its labels, and what stands behind it
  abbrev LineUnder : Labelled → Type 0
  LineUnder x = (g : Sight) (n : _) → IsFit ((marked c x).part g n) → (q : Seq) (qs : PL) → AllUnder (sequence_depth q) qs → AllUnder (sequence_depth (line_of x q)) (line_points x ++ qs)

  abbrev StatPair : Type 0
  StatPair = (s : Stat) × StatUnder s

  abbrev BodyPair : Type 0
  BodyPair = (b : Body) × BodyUnder b

  abbrev BranchPair : Type 0
  BranchPair = (b : Branch) × BranchUnder b

  abbrev LinePair : Type 0
  LinePair = (x : Labelled) × LineUnder x

  abbrev plain_lines : List LinePair → List Labelled
  plain_lines xs = map (λ (e : LinePair). e.0) xs

  abbrev plain_branches : List BranchPair → List Branch
  plain_branches xs = map (λ (e : BranchPair). e.0) xs

  order_under : (xs : List LinePair) (g : Sight) (n : _) → IsFit ((in_order (map (marked c) (plain_lines xs))) g n)
      → AllUnder (sequence_depth (sequence_tree (map line_of (plain_lines xs)))) (p.joined (map line_points (plain_lines xs)))
  order_under [] g n h = tt
  order_under (x ∷ xs) g n h =
      let t = there_with ((marked c x.0).part g n) (in_order (map (marked c) (plain_lines xs)) g) h in
      x.1 g n (there_some ((marked c x.0).part g n) t.0 t.1.0) (sequence_tree (map line_of (plain_lines xs))) (p.joined (map line_points (plain_lines xs))) (order_under xs g t.0 t.1.1)

  sequence_under : (xs : List LinePair) (g : Sight) (n : _) → IsFit ((sequence (map (marked c) (plain_lines xs))) g n)
      → AllUnder (sequence_depth (sequence_tree (map line_of (plain_lines xs)))) (p.joined (map line_points (plain_lines xs)))
  sequence_under xs g n h = let t = there_with (labels_end n.label (map (marked c) (plain_lines xs))) _ h in order_under xs _ _ t.1.1

  otherwise_under : (o : Option (List LinePair)) (e : Option (List Labelled)) (g : Sight) (n : _) → e ≡ option_map plain_lines o → IsFit ((otherwise (option_map (map (marked c)) e)) g n)
      → AllUnder (sequence_depth (otherwise_tree (option_map (map line_of) e))) (p.otherwise_points (option_map (map line_points) e))
  otherwise_under None e g n h f = rw h tt
  otherwise_under (Some xs) e g n h f = let f2 = rw h at f in rw h (sequence_under xs g n f2)

  branches_under : (bs : List BranchPair) (e : Seq) (g : Sight) (n : _) → IsFit ((branches_in_order (map (S.branch_part c) (plain_branches bs))) g n)
      → AllUnder (statement_depth (if_tree (map branch_of (plain_branches bs)) e)) (p.joined (map branch_points (plain_branches bs)))
  branches_under [] e g n h = tt
  branches_under (b ∷ bs) e g n h =
      let t = there_with (S.branch_part c b.0 g n) (branches_in_order (map (S.branch_part c) (plain_branches bs)) g) h in
      let first = behind_first (map branch_of (plain_branches bs)) e in
      under_both _ (branch_points b.0) _
      (under_more (max (condition_depth (branch_of b.0).0) (sequence_depth (branch_of b.0).1)) _ (branch_points b.0) (grind arith) (b.1 g n (there_some (S.branch_part c b.0 g n) t.0 t.1.0)))
      (under_more (statement_depth (if_tree (map branch_of (plain_branches bs)) e)) _ (p.joined (map branch_points (plain_branches bs))) (grind (arith, first)) (branches_under bs e g t.0 t.1.1))

  if_under : (bs : List BranchPair) (e : Seq) (es : PL) (part : S.Part) (b : Bool) (g : Sight) (n : _)
      → IsFit ((then_part (where_it_holds b) (then_part (branches_in_order (map (S.branch_part c) (plain_branches bs))) part)) g n)
      → ((m : _) → IsFit (part g m) → AllUnder (sequence_depth e) es) → AllUnder (statement_depth (if_tree (map branch_of (plain_branches bs)) e)) (p.joined (map branch_points (plain_branches bs)) ++ es)
  if_under bs e es part b g n h k =
      let t = there_with (where_it_holds b g n) _ h in
      let u = there_with (branches_in_order (map (S.branch_part c) (plain_branches bs)) g t.0) (part g) t.1.1 in
      under_both _ (p.joined (map branch_points (plain_branches bs))) es (branches_under bs e g t.0 (there_some _ u.0 u.1.0))
      (under_more (sequence_depth e) _ es (else_below (map branch_of (plain_branches bs)) e) (k u.0 u.1.1))

  loop_under : (i : ℕ) (xs : List LinePair) (b : Bool) (g : Sight) (n : _) → IsFit ((then_part (where_it_holds b) (λ s m. with (takes_three c i m) (sequence (map (marked c) (plain_lines xs)) s))) g n)
      → (b ≡ true) × AllUnder (sequence_depth (sequence_tree (map line_of (plain_lines xs)))) (p.joined (map line_points (plain_lines xs)))
  loop_under i xs b g n h =
      let t = there_with (where_it_holds b g n) _ h in
      let u = there_with (takes_three c i t.0) _ t.1.1 in
      (only_there b n (there_some (where_it_holds b g n) t.0 t.1.0), sequence_under xs g u.0 u.1.1)

  -- ---- one level

  abbrev plain_stat : Stat-F StatPair BodyPair BranchPair LinePair → Stat-F Stat Body Branch Labelled
  plain_stat y = map-Stat StatPair BodyPair BranchPair LinePair Stat Body Branch Labelled (λ e. e.0) (λ e. e.0) (λ e. e.0) (λ e. e.0) y

  abbrev stat_parts : Stat-F Stat Body Branch Labelled → S.Part
  stat_parts l = S.one_stat c (map-Stat Stat Body Branch Labelled S.Part S.Part S.Part Marked (S.stat_part c) (S.body_part c) (S.branch_part c) (marked c) l)

  abbrev stat_trees : Stat-F Stat Body Branch Labelled → Stmt
  stat_trees l = stat_tree c (map-Stat Stat Body Branch Labelled Stmt Seq (Cond × Seq) (Seq → Seq) stat_of (body_tree c) branch_of line_of l)

  abbrev stat_gathers : Stat-F Stat Body Branch Labelled → PL
  stat_gathers l = p.stat_step c (map-Stat Stat Body Branch Labelled PL PL PL PL stat_points (p.body_points c) branch_points line_points l)

  abbrev LevelUnder : Stat-F Stat Body Branch Labelled → Type 0
  LevelUnder l = (g : Sight) (n : _) → IsFit ((stat_parts l) g n) → AllUnder (statement_depth (stat_trees l)) (stat_gathers l)

  stat_as : (s : Stat) (l : Stat-F Stat Body Branch Labelled) → out-Stat s ≡ l → LevelUnder l → StatUnder s
  stat_as s l o h =
      let part : S.stat_part c s ≡ stat_parts l = rw (fold_out-Stat, o) refl in
      let tree : stat_of s ≡ stat_trees l = rw (fold_out-Stat, o) refl in
      let gathered : stat_points s ≡ stat_gathers l = rw (fold_out-Stat, o) refl in
      rw (part, tree, gathered) h

  stat_level : (y : Stat-F StatPair BodyPair BranchPair LinePair) → LevelUnder (plain_stat y)
  stat_level (Stat-F.Call v) g n h =
      let called = only_there (is_call (valued c v).call) n h in
      rw (call_depth (valued c v)) (alone_under v (or_by_right (is_there (valued c v).mode) (is_there (valued c v).call) (call_there (valued c v).call called)))
  stat_level (Stat-F.Assign q v) g n h = assignment_under q v (only_there (assigns c (with (placed c q).found assigned_mode) v) n h)
  stat_level (Stat-F.Goto l) g n h = tt
  stat_level (Stat-F.Return v) g n h = return_under g.result v (only_there (returns g.result (value_returned c v)) n h)
  stat_level (Stat-F.Switch v ls) g n h = let parts = and_parts (is_int_value c v) _ (only_there _ n h) in int_under v parts.0
  stat_level (Stat-F.Block b) g n h = b.1 g n h
  stat_level (Stat-F.If bs None) g n h = if_under bs Done [] nothing _ g n h (λ m f. tt)
  stat_level (Stat-F.If bs (Some xs)) g n h = if_under bs (sequence_tree (map line_of (plain_lines xs))) (p.joined (map line_points (plain_lines xs))) (sequence (map (marked c) (plain_lines xs))) _ g n h (λ m f. sequence_under xs g m f)
  stat_level (Stat-F.For i start step end xs) g n h =
      let both = loop_under i xs _ g n h in
      let parts = and_parts (is_int_value c start) _ both.0 in
      let more = and_parts (is_int_step c step) (is_int_value c end) parts.1 in
      under_both _ (p.alone c start) _ (under_more (depth (valued c start).tree) _ (p.alone c start) (grind arith) (int_under start parts.0))
      (under_both _ (p.alone_or_none c step) _ (under_more (depth (step_tree c step)) _ (p.alone_or_none c step) (grind arith) (step_under step more.0))
      (under_both _ (p.alone c end) _ (under_more (depth (valued c end).tree) _ (p.alone c end) (grind arith) (int_under end more.1))
      (under_more (sequence_depth (sequence_tree (map line_of (plain_lines xs)))) _ (p.joined (map line_points (plain_lines xs))) (grind arith) both.1)))
  stat_level (Stat-F.To i k xs) g n h =
      let both = loop_under i xs _ g n h in
      under_both _ (p.alone c k) _ (under_more (depth (valued c k).tree) _ (p.alone c k) (grind arith) (int_under k both.0))
      (under_more (sequence_depth (sequence_tree (map line_of (plain_lines xs)))) _ (p.joined (map line_points (plain_lines xs))) (grind arith) both.1)
  stat_level (Stat-F.While t xs) g n h =
      let u = there_with (where_it_holds (tested c t).fits g n) _ h in
      under_both _ (p.test_points c t) _ (under_more (condition_depth (tested c t).tree) _ (p.test_points c t) (grind arith) (test_under t (only_there (tested c t).fits n (there_some (where_it_holds (tested c t).fits g n) u.0 u.1.0))))
      (under_more (sequence_depth (sequence_tree (map line_of (plain_lines xs)))) _ (p.joined (map line_points (plain_lines xs))) (grind arith) (sequence_under xs g u.0 u.1.1))
  stat_level (Stat-F.Recover l) g n h = tt

  body_level : (b : Body) (y : Body-F StatPair BodyPair BranchPair LinePair)
      → out-Body b ≡ map-Body StatPair BodyPair BranchPair LinePair Stat Body Branch Labelled (λ e. e.0) (λ e. e.0) (λ e. e.0) (λ e. e.0) y → BodyUnder b
  body_level b y o =
      let part : S.body_part c b ≡ (λ g n. with (declares c y.locals n) (sequence (map (marked c) (plain_lines y.statements)) g)) = rw (fold_out-Body, o) refl in
      let tree : body_tree c b ≡ starts_tree c y.locals (sequence_tree (map line_of (plain_lines y.statements))) = rw (fold_out-Body, o) refl in
      let gathered : p.body_points c b ≡ p.joined (map (p.start_points c) y.locals) ++ p.joined (map line_points (plain_lines y.statements)) = rw (fold_out-Body, o) refl in
      rw (part, tree, gathered) (λ g n h.
      let q = sequence_tree (map line_of (plain_lines y.statements)) in
      let t = there_with (declares c y.locals n) _ h in
      let l = starts_above y.locals q in
      under_both _ (p.joined (map (p.start_points c) y.locals)) _ (starts_under y.locals n q (there_some (declares c y.locals n) t.0 t.1.0))
      (under_more (sequence_depth q) _ (p.joined (map line_points (plain_lines y.statements))) l (sequence_under y.statements g t.0 t.1.1)))

  branch_level : (b : Branch) (y : Branch-F StatPair BodyPair BranchPair LinePair)
      → out-Branch b ≡ map-Branch StatPair BodyPair BranchPair LinePair Stat Body Branch Labelled (λ e. e.0) (λ e. e.0) (λ e. e.0) (λ e. e.0) y → BranchUnder b
  branch_level b y o =
      let part : S.branch_part c b ≡ then_part (where_it_holds (tested c y.test).fits) (sequence (map (marked c) (plain_lines y.taken))) = rw (fold_out-Branch, o) refl in
      let tree : branch_of b ≡ ((tested c y.test).tree, sequence_tree (map line_of (plain_lines y.taken))) = rw (fold_out-Branch, o) refl in
      let gathered : branch_points b ≡ p.test_points c y.test ++ p.joined (map line_points (plain_lines y.taken)) = rw (fold_out-Branch, o) refl in
      rw (part, tree, gathered) (λ g n h.
      let u = there_with (where_it_holds (tested c y.test).fits g n) _ h in
      under_both _ (p.test_points c y.test) _ (under_more (condition_depth (tested c y.test).tree) _ (p.test_points c y.test) (grind arith) (test_under y.test (only_there (tested c y.test).fits n (there_some (where_it_holds (tested c y.test).fits g n) u.0 u.1.0))))
      (under_more (sequence_depth (sequence_tree (map line_of (plain_lines y.taken)))) _ (p.joined (map line_points (plain_lines y.taken))) (grind arith) (sequence_under y.taken g u.0 u.1.1)))

  line_cases : (x : Labelled) (y : Labelled-F StatPair BodyPair BranchPair LinePair) (s : Option StatPair) → y.stat ≡ s
      → out-Labelled x ≡ map-Labelled StatPair BodyPair BranchPair LinePair Stat Body Branch Labelled (λ e. e.0) (λ e. e.0) (λ e. e.0) (λ e. e.0) y → LineUnder x
  line_cases x y None e o g n h q qs k =
      let tree : line_of x ≡ (λ z. marks y.labels z) = rw (fold_out-Labelled, o, e) refl in
      let gathered : line_points x ≡ [] = rw (fold_out-Labelled, o, e) refl in
      rw (tree, gathered, marks_depth y.labels q) k
  line_cases x y (Some s) e o g n h q qs k =
      let part : (marked c x).part ≡ S.stat_part c s.0 = rw (fold_out-Labelled, o, e) refl in
      let tree : line_of x ≡ (λ z. marks y.labels (Then (stat_of s.0) z)) = rw (fold_out-Labelled, o, e) refl in
      let gathered : line_points x ≡ stat_points s.0 = rw (fold_out-Labelled, o, e) refl in
      let f = rw part at h in
      rw (tree, gathered, marks_depth y.labels (Then (stat_of s.0) q)) (under_both (max (statement_depth (stat_of s.0)) (sequence_depth q)) (stat_points s.0) qs
      (under_more (statement_depth (stat_of s.0)) _ (stat_points s.0) (grind arith) (s.1 g n f)) (under_more (sequence_depth q) _ qs (grind arith) k))

  line_level : (x : Labelled) (y : Labelled-F StatPair BodyPair BranchPair LinePair)
      → out-Labelled x ≡ map-Labelled StatPair BodyPair BranchPair LinePair Stat Body Branch Labelled (λ e. e.0) (λ e. e.0) (λ e. e.0) (λ e. e.0) y → LineUnder x
  line_level x y o = line_cases x y y.stat refl o

  rolled_stat : (x : Stat-F Stat Body Branch Labelled) → out-Stat (roll-Stat x) ≡ x
  rolled_stat x = search stats.the_lemmas

  rolled_body : (x : Body-F Stat Body Branch Labelled) → out-Body (roll-Body x) ≡ x
  rolled_body x = search bodies.the_lemmas

  rolled_branch : (x : Branch-F Stat Body Branch Labelled) → out-Branch (roll-Branch x) ≡ x
  rolled_branch x = search branches.the_lemmas

  rolled_line : (x : Labelled-F Stat Body Branch Labelled) → out-Labelled (roll-Labelled x) ≡ x
  rolled_line x = search lines.the_lemmas

  -- the points of a body that fits stand below the depth of its plain tree
  pub body_under : (b : Body) → BodyUnder b
  body_under = ind-Body StatUnder BodyUnder BranchUnder LineUnder (λ x y is. stat_as (roll-Stat x) (plain_stat y) (rolled_stat x ∙ sym is) (stat_level y)) (λ x y is. body_level (roll-Body x) y (rolled_body x ∙ sym is))
      (λ x y is. branch_level (roll-Branch x) y (rolled_branch x ∙ sym is)) (λ x y is. line_level (roll-Labelled x) y (rolled_line x ∙ sym is))
