-- The points of conditions, statements and bodies that fit are those of their plain trees.
use Rattle.std.proofs.Common.{◌≡◌, ℕ, ◌==◌, Bool, true, false, ◌&&◌, ◌||◌, if◌then◌else◌, List, [], ◌∷◌, ◌++◌, map, Option, Some, None, slice_get, refl, sym, ap, subst, ◌∙◌}
use Rattle.std.proofs.lemmas.Bool.{and_parts}
use Rattle.std.proofs.lemmas.List.{append-nil, append_assoc}
use Rattle.rt_modes.specs.declared.mode.Mode.{Mode}
use Rattle.rt_tree_nodes.specs.declared.brick.Local.{Local}
use Rattle.rt_tree_nodes.specs.declared.brick.Local.TheVariants as local
use Rattle.rt_tree_nodes.specs.declared.operators.Rel.{Rel}
use Rattle.rt_tree_nodes.specs.declared.statement.Body.{Body, out-Body, roll-Body, map-Body}
use Rattle.rt_tree_nodes.specs.declared.statement.Body as bodies
use Rattle.rt_tree_nodes.specs.declared.statement.Branch.{Branch, out-Branch, roll-Branch, map-Branch}
use Rattle.rt_tree_nodes.specs.declared.statement.Branch as branches
use Rattle.rt_tree_nodes.specs.declared.statement.Labelled.{Labelled, out-Labelled, roll-Labelled, map-Labelled}
use Rattle.rt_tree_nodes.specs.declared.statement.Labelled as lines
use Rattle.rt_tree_nodes.specs.declared.statement.LocalStart.{LocalStart}
use Rattle.rt_tree_nodes.specs.declared.statement.Stat.{Stat, out-Stat, roll-Stat, map-Stat}
use Rattle.rt_tree_nodes.specs.declared.statement.Stat as stats
use Rattle.rt_tree_nodes.specs.declared.statement.Stat.TheFolds.{ind-Body, fold-Stat, fold-Branch, fold-Labelled, fold_out-Stat, fold_out-Body, fold_out-Branch, fold_out-Labelled}
use Rattle.rt_tree_nodes.specs.declared.statement.Stat.TheOpen.{Stat-F, Body-F, Branch-F, Labelled-F}
use Rattle.rt_tree_nodes.specs.declared.statement.Test.{Test, out-Test, roll-Test, map-Test}
use Rattle.rt_tree_nodes.specs.declared.statement.Test as tests
use Rattle.rt_tree_nodes.specs.declared.statement.Test.TheFolds.{ind-Test, fold_out-Test}
use Rattle.rt_tree_nodes.specs.declared.statement.Test.TheOpen.{Test-F}
use Rattle.rt_tree_nodes.specs.declared.value.Place.{Place}
use Rattle.rt_tree_nodes.specs.declared.value.Value.{Value}
use Rattle.rt_tree_nodes.specs.Scopes.{Scope, with, passes}
use Rattle.rt_tree_nodes.specs.Tree.{Term, Cond, Both, Either, Stmt, Seq, Done, Then}
use Rattle.rt_tree_nodes.specs.Typing.{Valued, Placed, Found, Variable, Loop, Shared, Private, Row, Spot, OnLocal, OnPath, OnRow, valued, placed, suits, assigned_mode, is_int}
use Rattle.rt_tree.specs.Statements as S
use Rattle.rt_tree.specs.Statements.{Tested, Marked, Sight, one_test, tested, joined_by, comparison_fits, all_fit, some_fit, nothing, then_part, where_it_holds, in_order, labels_end, sight_with, labels_from, next_by, sequence, branches_in_order, otherwise, marked, marks, labelled_tree, sequence_tree, otherwise_tree, branches_tree, if_tree, call_tree, assigned_tree, start_tree, starts_tree, step_tree, return_tree, stat_tree, body_tree, declares, start_fits, takes_three, is_int_value, is_int_step, assigns, value_returned, returns, is_call}
use Rattle.rt_frames.specs.declared.frame.CallPoint.{CallPoint}
use Rattle.rt_frames.specs.Points as p
use Rattle.rt_frames.specs.Points.{place_points, value_points, address_words}
use Rattle.rt_frames.proofs.Fused.{value_fused, place_fused}
use Rattle.rt_frames.proofs.Under.{is_there, there_with, there_some, there_passes, only_there, fit, value_there, found_suits, place_under}
use Rattle.rt_frames_laws.specs.Plain.{term_points, spot_points, condition_points, statement_points, sequence_points}
use Rattle.rt_frames_laws.proofs.Values.{value_is, place_is}

abbrev PL : Type 0
PL = List CallPoint

-- what passes a test
passed : {A : Type 0} (test : A → Bool) (o : Option A) → passes test o ≡ true → (x : A) × ((o ≡ Some x) × (test x ≡ true))
passed test None h = absurd cc
passed test (Some x) h = (x, (refl, h))

there_if : {A : Type 0} (b : Bool) (o : Option A) → is_there (if b then o else None) ≡ true → (b ≡ true) × (is_there o ≡ true)
there_if true o h = (refl, h)
there_if false o h = absurd cc

or_by_right : (a b : Bool) → b ≡ true → a || b ≡ true
or_by_right true b e = refl
or_by_right false b e = e

call_there : (o : Option (Option Mode)) → is_call o ≡ true → is_there o ≡ true
call_there None h = absurd cc
call_there (Some r) h = refl

call_points : (v : Valued) → term_points v.tree 0 ≡ statement_points (call_tree v)
call_points v = by_call v.call refl
  where
    by_call : (o : Option (Option Mode)) → v.call ≡ o → term_points v.tree 0 ≡ statement_points (call_tree v)
    by_call None e = rw e refl
    by_call (Some None) e = rw e refl
    by_call (Some (Some m)) e = rw e refl

assigned_points : (x : Placed) (o : Option Found) (s : Spot) (t : Term) → x.found ≡ o → x.tree ≡ s → found_suits o s ≡ true → is_there (with o assigned_mode) ≡ true
    → spot_points s 0 ++ term_points t (address_words s) ≡ statement_points (assigned_tree x t)
assigned_points x o (OnLocal i) t e f h g = rw f refl
assigned_points x o (OnPath q) t e f h g = rw f refl
assigned_points x None (OnRow a) t e f h g = absurd cc
assigned_points x (Some (Variable m)) (OnRow a) t e f h g = absurd cc
assigned_points x (Some Loop) (OnRow a) t e f h g = absurd cc
assigned_points x (Some (Shared m)) (OnRow a) t e f h g = absurd cc
assigned_points x (Some (Private m)) (OnRow a) t e f h g = absurd cc
assigned_points x (Some (Row m)) (OnRow a) t e f h g = absurd cc

abbrev Trees : Type 0
Trees = List (Cond × Seq)

-- the points of an IF's branches, and of what stands behind ELSE
abbrev branch_plain : Cond × Seq → PL
branch_plain b = condition_points b.0 ++ sequence_points b.1

branches_plain : (bs : Trees) (e : Seq) → p.joined (map branch_plain bs) ++ sequence_points e ≡ sequence_points (branches_tree bs e)
branches_plain [] e = refl
branches_plain (b ∷ bs) e =
    append_assoc (branch_plain b) (p.joined (map branch_plain bs)) (sequence_points e)
    ∙ ap (λ ps. branch_plain b ++ ps) (branches_plain bs e)
    ∙ append_assoc (condition_points b.0) (sequence_points b.1) (sequence_points (branches_tree bs e))
    ∙ sym (append-nil (condition_points b.0 ++ (sequence_points b.1 ++ sequence_points (branches_tree bs e))))

if_plain : (bs : Trees) (e : Seq) → p.joined (map branch_plain bs) ++ sequence_points e ≡ statement_points (if_tree bs e)
if_plain [] e = refl
if_plain (b ∷ bs) e =
    append_assoc (branch_plain b) (p.joined (map branch_plain bs)) (sequence_points e)
    ∙ ap (λ ps. branch_plain b ++ ps) (branches_plain bs e)
    ∙ append_assoc (condition_points b.0) (sequence_points b.1) (sequence_points (branches_tree bs e))

marks_points : (ls : List ℕ) (q : Seq) → sequence_points (marks ls q) ≡ sequence_points q
marks_points [] q = refl
marks_points (l ∷ ls) q = marks_points ls q

-- a way to join two conditions has the points of both
abbrev IsJoin : (Cond → Cond → Cond) → Type 0
IsJoin join = (t u : Cond) → condition_points (join t u) ≡ condition_points t ++ condition_points u

module _ (c : Scope) where
  value_stands : (v : Value) → fit (valued c v) ≡ true → (n : ℕ) → (value_points c v).points n ≡ term_points (valued c v).tree n
  value_stands v f n = subst (λ (x : Valued). fit x ≡ true → (value_points c v).points n ≡ term_points x.tree n) (value_fused c v) (λ g. (value_is c v).points g n) f

  alone_is : (v : Value) → fit (valued c v) ≡ true → p.alone c v ≡ term_points (valued c v).tree 0
  alone_is v f = value_stands v f 0

  -- ---- conditions

  compare_is : (r : Rel) (a b : Value) → comparison_fits r (valued c a) (valued c b) ≡ true → p.alone c a ++ (value_points c b).points 1 ≡ term_points (valued c a).tree 0 ++ term_points (valued c b).tree 1
  compare_is r a b h =
      let first = passed _ (valued c a).mode h in
      let second = passed _ (valued c b).mode first.1.1 in
      ap (λ ps. ps ++ (value_points c b).points 1) (alone_is a (value_there (valued c a) (there_some (valued c a).mode first.0 first.1.0)))
      ∙ ap (λ ps. term_points (valued c a).tree 0 ++ ps) (value_stands b (value_there (valued c b) (there_some (valued c b).mode second.0 second.1.0)) 1)

  abbrev TestIs : Test → Type 0
  TestIs t = (tested c t).fits ≡ true → p.test_points c t ≡ condition_points (tested c t).tree

  abbrev TestPair : Type 0
  TestPair = (t : Test) × TestIs t

  abbrev plain_tests : List TestPair → List Test
  plain_tests ts = map (λ (e : TestPair). e.0) ts

  tests_are : (join : Cond → Cond → Cond) → IsJoin join → (ts : List TestPair) → all_fit (map (tested c) (plain_tests ts)) ≡ true
      → p.joined (map (p.test_points c) (plain_tests ts)) ≡ condition_points (joined_by join (map (tested c) (plain_tests ts)))
  tests_are join j [] h = refl
  tests_are join j (t ∷ []) h =
      let parts = and_parts (tested c t.0).fits true h in
      append-nil (p.test_points c t.0) ∙ t.1 parts.0
  tests_are join j (t ∷ (u ∷ ts)) h =
      let parts = and_parts (tested c t.0).fits (all_fit (map (tested c) (plain_tests (u ∷ ts)))) h in
      ap (λ ps. ps ++ p.joined (map (p.test_points c) (plain_tests (u ∷ ts)))) (t.1 parts.0)
      ∙ ap (λ ps. condition_points (tested c t.0).tree ++ ps) (tests_are join j (u ∷ ts) parts.1)
      ∙ sym (j (tested c t.0).tree (joined_by join (map (tested c) (plain_tests (u ∷ ts)))))

  test_as : (t : Test) (l : Test-F Test) → out-Test t ≡ l
      → ((one_test c (map-Test Test Tested (tested c) l)).fits ≡ true → p.test_step c (map-Test Test PL (p.test_points c) l) ≡ condition_points (one_test c (map-Test Test Tested (tested c) l)).tree) → TestIs t
  test_as t l o h =
      let tree : tested c t ≡ one_test c (map-Test Test Tested (tested c) l) = rw (fold_out-Test, o) refl in
      let gathered : p.test_points c t ≡ p.test_step c (map-Test Test PL (p.test_points c) l) = rw (fold_out-Test, o) refl in
      rw (tree, gathered) h

  test_level : (t : Test) (y : Test-F TestPair) → out-Test t ≡ map-Test TestPair Test (λ e. e.0) y → TestIs t
  test_level t (Test-F.Compare r a b) o = test_as t (Test-F.Compare r a b) o (compare_is r a b)
  test_level t (Test-F.And ts) o = test_as t (Test-F.And (plain_tests ts)) o (λ h. tests_are Both (λ x y. refl) ts (and_parts _ _ h).1)
  test_level t (Test-F.Or ts) o = test_as t (Test-F.Or (plain_tests ts)) o (λ h. tests_are Either (λ x y. refl) ts (and_parts _ _ h).1)

  rolled_test : (x : Test-F Test) → out-Test (roll-Test x) ≡ x
  rolled_test x = search tests.the_lemmas

  test_is : (t : Test) → TestIs t
  test_is = ind-Test TestIs (λ x y is. test_level (roll-Test x) y (rolled_test x ∙ sym is))

  -- ---- values of statements

  int_is : (v : Value) → is_int_value c v ≡ true → p.alone c v ≡ term_points (valued c v).tree 0
  int_is v h = alone_is v (value_there (valued c v) (there_passes is_int (valued c v).mode h))

  step_is : (v : Option Value) → is_int_step c v ≡ true → p.alone_or_none c v ≡ term_points (step_tree c v) 0
  step_is None h = refl
  step_is (Some v) h = int_is v h

  suited_is : (w : Mode) (v : Value) → suits w (valued c v) ≡ true → p.alone c v ≡ term_points (valued c v).tree 0
  suited_is w v h = alone_is v (value_there (valued c v) (there_passes _ (valued c v).mode h))

  start_is : (o : Option Local) (i : ℕ) (v : Option Value) → start_fits c o v ≡ true → p.alone_or_none c v ≡ statement_points (start_tree c i v)
  start_is o i None h = refl
  start_is (Some (local.Variable m)) i (Some v) h = suited_is m v h
  start_is (Some local.Loop) i (Some v) h = absurd cc
  start_is None i (Some v) h = absurd cc

  starts_are : (ds : List LocalStart) (n : _) (q : Seq) → is_there (declares c ds n) ≡ true → p.joined (map (p.start_points c) ds) ++ sequence_points q ≡ sequence_points (starts_tree c ds q)
  starts_are [] n q h = refl
  starts_are (d ∷ ds) n q h =
      let parts = there_if (d.local == n.local && start_fits c (slice_get c.locals d.local) d.start) _ h in
      let both = and_parts (d.local == n.local) (start_fits c (slice_get c.locals d.local) d.start) parts.0 in
      append_assoc (p.start_points c d) (p.joined (map (p.start_points c) ds)) (sequence_points q)
      ∙ ap (λ ps. ps ++ (p.joined (map (p.start_points c) ds) ++ sequence_points q)) (start_is (slice_get c.locals d.local) d.local d.start both.1)
      ∙ ap (λ ps. statement_points (start_tree c d.local d.start) ++ ps) (starts_are ds _ q parts.1)

  assigned_there : (o : Option Mode) (v : Value) → assigns c o v ≡ true → is_there o ≡ true
  assigned_there None v h = absurd cc
  assigned_there (Some m) v h = refl

  assigned_fits : (o : Option Mode) (v : Value) → assigns c o v ≡ true → fit (valued c v) ≡ true
  assigned_fits None v h = absurd cc
  assigned_fits (Some m) v h = value_there (valued c v) (there_passes _ (valued c v).mode h)

  place_stands : (q : Place) (x : Placed) → (place_points c q).placed ≡ x → is_there x.found ≡ true → (n : ℕ) → (place_points c q).points n ≡ spot_points x.tree n
  place_stands q x e t n = subst (λ (z : Placed). is_there z.found ≡ true → (place_points c q).points n ≡ spot_points z.tree n) e (λ u. (place_is c q).points u n) t

  place_suits : (q : Place) (x : Placed) → (place_points c q).placed ≡ x → found_suits x.found x.tree ≡ true
  place_suits q x e = subst (λ (z : Placed). found_suits z.found z.tree ≡ true) e (place_under c q).suits

  assignment_is : (q : Place) (v : Value) → assigns c (with (placed c q).found assigned_mode) v ≡ true → p.assigned_points c q v ≡ statement_points (assigned_tree (placed c q) (valued c v).tree)
  assignment_is q v h =
      let x = placed c q in
      let same = place_fused c q in
      let there = assigned_there (with x.found assigned_mode) v h in
      let found = there_with x.found assigned_mode there in
      let at : address_words (place_points c q).placed.tree ≡ address_words x.tree = ap (λ (z : Placed). address_words z.tree) same in
      ap (λ ps. ps ++ (value_points c v).points (address_words (place_points c q).placed.tree)) (place_stands q x same (there_some x.found found.0 found.1.0) 0)
      ∙ ap (λ (n : ℕ). spot_points x.tree 0 ++ (value_points c v).points n) at
      ∙ ap (λ ps. spot_points x.tree 0 ++ ps) (value_stands v (assigned_fits (with x.found assigned_mode) v h) (address_words x.tree))
      ∙ assigned_points x x.found x.tree (valued c v).tree refl refl (place_suits q x same) there

  return_is : (r : Option Mode) (v : Option Value) → returns r (value_returned c v) ≡ true → p.alone_or_none c v ≡ statement_points (return_tree c v)
  return_is r None h = refl
  return_is (Some m) (Some v) h = suited_is m v h
  return_is None (Some v) h = absurd cc

  -- ---- statements

  abbrev body_alg : Body-F Stmt Seq (Cond × Seq) (Seq → Seq) → Seq
  body_alg b = starts_tree c b.locals (sequence_tree b.statements)

  abbrev branch_alg : Branch-F Stmt Seq (Cond × Seq) (Seq → Seq) → Cond × Seq
  branch_alg b = ((tested c b.test).tree, sequence_tree b.taken)

  abbrev line_alg : Labelled-F Stmt Seq (Cond × Seq) (Seq → Seq) → Seq → Seq
  line_alg x = labelled_tree x.labels x.stat

  abbrev stat_of : Stat → Stmt
  stat_of = fold-Stat Stmt Seq (Cond × Seq) (Seq → Seq) (stat_tree c) body_alg branch_alg line_alg

  abbrev branch_of : Branch → Cond × Seq
  branch_of = fold-Branch Stmt Seq (Cond × Seq) (Seq → Seq) (stat_tree c) body_alg branch_alg line_alg

  abbrev line_of : Labelled → Seq → Seq
  line_of = fold-Labelled Stmt Seq (Cond × Seq) (Seq → Seq) (stat_tree c) body_alg branch_alg line_alg

  abbrev stat_points : Stat → PL
  stat_points = fold-Stat PL PL PL PL (p.stat_step c) (p.body_step c) (p.branch_step c) (p.labelled_step c)

  abbrev branch_points : Branch → PL
  branch_points = fold-Branch PL PL PL PL (p.stat_step c) (p.body_step c) (p.branch_step c) (p.labelled_step c)

  abbrev line_points : Labelled → PL
  line_points = fold-Labelled PL PL PL PL (p.stat_step c) (p.body_step c) (p.branch_step c) (p.labelled_step c)

  -- a part that fits
  abbrev IsFit : {A : Type 0} → Option A → Type 0
  IsFit o = is_there o ≡ true

  abbrev StatIs : Stat → Type 0
  StatIs s = (g : Sight) (n : _) → IsFit ((S.stat_part c s) g n) → stat_points s ≡ statement_points (stat_of s)

  abbrev pub BodyIs : Body → Type 0
  BodyIs b = (g : Sight) (n : _) → IsFit ((S.body_part c b) g n) → p.body_points c b ≡ sequence_points (body_tree c b)

  abbrev BranchIs : Branch → Type 0
  BranchIs b = (g : Sight) (n : _) → IsFit ((S.branch_part c b) g n) → branch_points b ≡ branch_plain (branch_of b)

  -- a statement with its labels, and what stands behind it
  abbrev LineIs : Labelled → Type 0
  LineIs x = (g : Sight) (n : _) → IsFit ((marked c x).part g n) → (q : Seq) → line_points x ++ sequence_points q ≡ sequence_points (line_of x q)

  abbrev StatPair : Type 0
  StatPair = (s : Stat) × StatIs s

  abbrev BodyPair : Type 0
  BodyPair = (b : Body) × BodyIs b

  abbrev BranchPair : Type 0
  BranchPair = (b : Branch) × BranchIs b

  abbrev LinePair : Type 0
  LinePair = (x : Labelled) × LineIs x

  abbrev plain_lines : List LinePair → List Labelled
  plain_lines xs = map (λ (e : LinePair). e.0) xs

  abbrev plain_branches : List BranchPair → List Branch
  plain_branches xs = map (λ (e : BranchPair). e.0) xs

  order_is : (xs : List LinePair) (g : Sight) (n : _) → IsFit ((in_order (map (marked c) (plain_lines xs))) g n)
      → p.joined (map line_points (plain_lines xs)) ≡ sequence_points (sequence_tree (map line_of (plain_lines xs)))
  order_is [] g n h = refl
  order_is (x ∷ xs) g n h =
      let t = there_with ((marked c x.0).part g n) (in_order (map (marked c) (plain_lines xs)) g) h in
      ap (λ ps. line_points x.0 ++ ps) (order_is xs g t.0 t.1.1)
      ∙ x.1 g n (there_some ((marked c x.0).part g n) t.0 t.1.0) (sequence_tree (map line_of (plain_lines xs)))

  sequence_is : (xs : List LinePair) (g : Sight) (n : _) → IsFit ((sequence (map (marked c) (plain_lines xs))) g n)
      → p.joined (map line_points (plain_lines xs)) ≡ sequence_points (sequence_tree (map line_of (plain_lines xs)))
  sequence_is xs g n h = let t = there_with (labels_end n.label (map (marked c) (plain_lines xs))) _ h in order_is xs _ _ t.1.1

  branches_are : (bs : List BranchPair) (g : Sight) (n : _) → IsFit ((branches_in_order (map (S.branch_part c) (plain_branches bs))) g n)
      → p.joined (map branch_points (plain_branches bs)) ≡ p.joined (map branch_plain (map branch_of (plain_branches bs)))
  branches_are [] g n h = refl
  branches_are (b ∷ bs) g n h =
      let t = there_with (S.branch_part c b.0 g n) (branches_in_order (map (S.branch_part c) (plain_branches bs)) g) h in
      ap (λ ps. ps ++ p.joined (map branch_points (plain_branches bs))) (b.1 g n (there_some (S.branch_part c b.0 g n) t.0 t.1.0))
      ∙ ap (λ ps. branch_plain (branch_of b.0) ++ ps) (branches_are bs g t.0 t.1.1)

  if_is : (bs : List BranchPair) (e : Seq) (es : PL) (part : S.Part) (b : Bool) (g : Sight) (n : _)
      → IsFit ((then_part (where_it_holds b) (then_part (branches_in_order (map (S.branch_part c) (plain_branches bs))) part)) g n)
      → ((m : _) → IsFit (part g m) → es ≡ sequence_points e) → p.joined (map branch_points (plain_branches bs)) ++ es ≡ statement_points (if_tree (map branch_of (plain_branches bs)) e)
  if_is bs e es part b g n h k =
      let t = there_with (where_it_holds b g n) _ h in
      let u = there_with (branches_in_order (map (S.branch_part c) (plain_branches bs)) g t.0) (part g) t.1.1 in
      ap (λ ps. ps ++ es) (branches_are bs g t.0 (there_some _ u.0 u.1.0))
      ∙ ap (λ ps. p.joined (map branch_plain (map branch_of (plain_branches bs))) ++ ps) (k u.0 u.1.1)
      ∙ if_plain (map branch_of (plain_branches bs)) e

  loop_is : (i : ℕ) (xs : List LinePair) (b : Bool) (g : Sight) (n : _) → IsFit ((then_part (where_it_holds b) (λ s m. with (takes_three c i m) (sequence (map (marked c) (plain_lines xs)) s))) g n)
      → (b ≡ true) × (p.joined (map line_points (plain_lines xs)) ≡ sequence_points (sequence_tree (map line_of (plain_lines xs))))
  loop_is i xs b g n h =
      let t = there_with (where_it_holds b g n) _ h in
      let u = there_with (takes_three c i t.0) _ t.1.1 in
      (only_there b n (there_some (where_it_holds b g n) t.0 t.1.0), sequence_is xs g u.0 u.1.1)

  -- ---- one level

  abbrev plain_stat : Stat-F StatPair BodyPair BranchPair LinePair → Stat-F Stat Body Branch Labelled
  plain_stat y = map-Stat StatPair BodyPair BranchPair LinePair Stat Body Branch Labelled (λ e. e.0) (λ e. e.0) (λ e. e.0) (λ e. e.0) y

  abbrev stat_parts : Stat-F Stat Body Branch Labelled → S.Part
  stat_parts l = S.one_stat c (map-Stat Stat Body Branch Labelled S.Part S.Part S.Part Marked (S.stat_part c) (S.body_part c) (S.branch_part c) (marked c) l)

  abbrev stat_trees : Stat-F Stat Body Branch Labelled → Stmt
  stat_trees l = stat_tree c (map-Stat Stat Body Branch Labelled Stmt Seq (Cond × Seq) (Seq → Seq) stat_of (body_tree c) branch_of line_of l)

  abbrev stat_gathers : Stat-F Stat Body Branch Labelled → PL
  stat_gathers l = p.stat_step c (map-Stat Stat Body Branch Labelled PL PL PL PL stat_points (p.body_points c) branch_points line_points l)

  abbrev LevelIs : Stat-F Stat Body Branch Labelled → Type 0
  LevelIs l = (g : Sight) (n : _) → IsFit ((stat_parts l) g n) → stat_gathers l ≡ statement_points (stat_trees l)

  stat_as : (s : Stat) (l : Stat-F Stat Body Branch Labelled) → out-Stat s ≡ l → LevelIs l → StatIs s
  stat_as s l o h =
      let part : S.stat_part c s ≡ stat_parts l = rw (fold_out-Stat, o) refl in
      let tree : stat_of s ≡ stat_trees l = rw (fold_out-Stat, o) refl in
      let gathered : stat_points s ≡ stat_gathers l = rw (fold_out-Stat, o) refl in
      rw (part, tree, gathered) h

  stat_level : (y : Stat-F StatPair BodyPair BranchPair LinePair) → LevelIs (plain_stat y)
  stat_level (Stat-F.Call v) g n h =
      let called = only_there (is_call (valued c v).call) n h in
      alone_is v (or_by_right (is_there (valued c v).mode) (is_there (valued c v).call) (call_there (valued c v).call called)) ∙ call_points (valued c v)
  stat_level (Stat-F.Assign q v) g n h = assignment_is q v (only_there (assigns c (with (placed c q).found assigned_mode) v) n h)
  stat_level (Stat-F.Goto l) g n h = refl
  stat_level (Stat-F.Return v) g n h = return_is g.result v (only_there (returns g.result (value_returned c v)) n h)
  stat_level (Stat-F.Switch v ls) g n h = let parts = and_parts (is_int_value c v) _ (only_there _ n h) in int_is v parts.0
  stat_level (Stat-F.Block b) g n h = b.1 g n h
  stat_level (Stat-F.If bs None) g n h = if_is bs Done [] nothing _ g n h (λ m f. refl)
  stat_level (Stat-F.If bs (Some xs)) g n h = if_is bs (sequence_tree (map line_of (plain_lines xs))) (p.joined (map line_points (plain_lines xs))) (sequence (map (marked c) (plain_lines xs))) _ g n h (λ m f. sequence_is xs g m f)
  stat_level (Stat-F.For i start step end xs) g n h =
      let both = loop_is i xs _ g n h in
      let parts = and_parts (is_int_value c start) _ both.0 in
      let more = and_parts (is_int_step c step) (is_int_value c end) parts.1 in
      let inner = p.joined (map line_points (plain_lines xs)) in
      ap (λ ps. ps ++ (p.alone_or_none c step ++ (p.alone c end ++ inner))) (int_is start parts.0)
      ∙ ap (λ ps. term_points (valued c start).tree 0 ++ (ps ++ (p.alone c end ++ inner))) (step_is step more.0)
      ∙ ap (λ ps. term_points (valued c start).tree 0 ++ (term_points (step_tree c step) 0 ++ (ps ++ inner))) (int_is end more.1)
      ∙ ap (λ ps. term_points (valued c start).tree 0 ++ (term_points (step_tree c step) 0 ++ (term_points (valued c end).tree 0 ++ ps))) both.1
  stat_level (Stat-F.To i k xs) g n h =
      let both = loop_is i xs _ g n h in
      ap (λ ps. ps ++ p.joined (map line_points (plain_lines xs))) (int_is k both.0)
      ∙ ap (λ ps. term_points (valued c k).tree 0 ++ ps) both.1
  stat_level (Stat-F.While t xs) g n h =
      let u = there_with (where_it_holds (tested c t).fits g n) _ h in
      ap (λ ps. ps ++ p.joined (map line_points (plain_lines xs))) (test_is t (only_there (tested c t).fits n (there_some (where_it_holds (tested c t).fits g n) u.0 u.1.0)))
      ∙ ap (λ ps. condition_points (tested c t).tree ++ ps) (sequence_is xs g u.0 u.1.1)
  stat_level (Stat-F.Recover l) g n h = refl

  body_level : (b : Body) (y : Body-F StatPair BodyPair BranchPair LinePair)
      → out-Body b ≡ map-Body StatPair BodyPair BranchPair LinePair Stat Body Branch Labelled (λ e. e.0) (λ e. e.0) (λ e. e.0) (λ e. e.0) y → BodyIs b
  body_level b y o =
      let part : S.body_part c b ≡ (λ g n. with (declares c y.locals n) (sequence (map (marked c) (plain_lines y.statements)) g)) = rw (fold_out-Body, o) refl in
      let tree : body_tree c b ≡ starts_tree c y.locals (sequence_tree (map line_of (plain_lines y.statements))) = rw (fold_out-Body, o) refl in
      let gathered : p.body_points c b ≡ p.joined (map (p.start_points c) y.locals) ++ p.joined (map line_points (plain_lines y.statements)) = rw (fold_out-Body, o) refl in
      rw (part, tree, gathered) (λ g n h.
      let t = there_with (declares c y.locals n) _ h in
      ap (λ ps. p.joined (map (p.start_points c) y.locals) ++ ps) (sequence_is y.statements g t.0 t.1.1)
      ∙ starts_are y.locals n (sequence_tree (map line_of (plain_lines y.statements))) (there_some (declares c y.locals n) t.0 t.1.0))

  branch_level : (b : Branch) (y : Branch-F StatPair BodyPair BranchPair LinePair)
      → out-Branch b ≡ map-Branch StatPair BodyPair BranchPair LinePair Stat Body Branch Labelled (λ e. e.0) (λ e. e.0) (λ e. e.0) (λ e. e.0) y → BranchIs b
  branch_level b y o =
      let part : S.branch_part c b ≡ then_part (where_it_holds (tested c y.test).fits) (sequence (map (marked c) (plain_lines y.taken))) = rw (fold_out-Branch, o) refl in
      let tree : branch_of b ≡ ((tested c y.test).tree, sequence_tree (map line_of (plain_lines y.taken))) = rw (fold_out-Branch, o) refl in
      let gathered : branch_points b ≡ p.test_points c y.test ++ p.joined (map line_points (plain_lines y.taken)) = rw (fold_out-Branch, o) refl in
      rw (part, tree, gathered) (λ g n h.
      let u = there_with (where_it_holds (tested c y.test).fits g n) _ h in
      ap (λ ps. ps ++ p.joined (map line_points (plain_lines y.taken))) (test_is y.test (only_there (tested c y.test).fits n (there_some (where_it_holds (tested c y.test).fits g n) u.0 u.1.0)))
      ∙ ap (λ ps. condition_points (tested c y.test).tree ++ ps) (sequence_is y.taken g u.0 u.1.1))

  line_cases : (x : Labelled) (y : Labelled-F StatPair BodyPair BranchPair LinePair) (s : Option StatPair) → y.stat ≡ s
      → out-Labelled x ≡ map-Labelled StatPair BodyPair BranchPair LinePair Stat Body Branch Labelled (λ e. e.0) (λ e. e.0) (λ e. e.0) (λ e. e.0) y → LineIs x
  line_cases x y None e o g n h q =
      let tree : line_of x ≡ (λ z. marks y.labels z) = rw (fold_out-Labelled, o, e) refl in
      let gathered : line_points x ≡ [] = rw (fold_out-Labelled, o, e) refl in
      rw (tree, gathered, marks_points y.labels q) refl
  line_cases x y (Some s) e o g n h q =
      let part : (marked c x).part ≡ S.stat_part c s.0 = rw (fold_out-Labelled, o, e) refl in
      let tree : line_of x ≡ (λ z. marks y.labels (Then (stat_of s.0) z)) = rw (fold_out-Labelled, o, e) refl in
      let gathered : line_points x ≡ stat_points s.0 = rw (fold_out-Labelled, o, e) refl in
      let f = rw part at h in
      rw (tree, gathered, marks_points y.labels (Then (stat_of s.0) q)) (ap (λ ps. ps ++ sequence_points q) (s.1 g n f))

  line_level : (x : Labelled) (y : Labelled-F StatPair BodyPair BranchPair LinePair)
      → out-Labelled x ≡ map-Labelled StatPair BodyPair BranchPair LinePair Stat Body Branch Labelled (λ e. e.0) (λ e. e.0) (λ e. e.0) (λ e. e.0) y → LineIs x
  line_level x y o = line_cases x y y.stat refl o

  rolled_stat : (x : Stat-F Stat Body Branch Labelled) → out-Stat (roll-Stat x) ≡ x
  rolled_stat x = search stats.the_lemmas

  rolled_body : (x : Body-F Stat Body Branch Labelled) → out-Body (roll-Body x) ≡ x
  rolled_body x = search bodies.the_lemmas

  rolled_branch : (x : Branch-F Stat Body Branch Labelled) → out-Branch (roll-Branch x) ≡ x
  rolled_branch x = search branches.the_lemmas

  rolled_line : (x : Labelled-F Stat Body Branch Labelled) → out-Labelled (roll-Labelled x) ≡ x
  rolled_line x = search lines.the_lemmas

  -- the points of a body that fits are those of its plain tree
  pub body_is : (b : Body) → BodyIs b
  body_is = ind-Body StatIs BodyIs BranchIs LineIs (λ x y is. stat_as (roll-Stat x) (plain_stat y) (rolled_stat x ∙ sym is) (stat_level y)) (λ x y is. body_level (roll-Body x) y (rolled_body x ∙ sym is))
      (λ x y is. branch_level (roll-Branch x) y (rolled_branch x ∙ sym is)) (λ x y is. line_level (roll-Labelled x) y (rolled_line x ∙ sym is))
