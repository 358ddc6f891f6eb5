-- The plain trees of conditions, statements and bodies that fit are whole.
use Rattle.std.proofs.Common.{◌≡◌, ℕ, ◌==◌, Bool, true, false, ◌&&◌, ◌||◌, if◌then◌else◌, List, [], ◌∷◌, map, Option, Some, None, slice_get, refl, sym, ◌∙◌}
use Rattle.std.proofs.lemmas.Bool.{and_parts}
use Rattle.rt_modes.specs.declared.mode.Mode.{Mode}
use Rattle.rt_tree_nodes.specs.declared.brick.Local.{Local}
use Rattle.rt_tree_nodes.specs.declared.brick.Local.TheVariants as local
use Rattle.rt_tree_nodes.specs.declared.operators.Rel.{Rel}
use Rattle.rt_tree_nodes.specs.declared.statement.Body.{Body, out-Body, roll-Body, map-Body}
use Rattle.rt_tree_nodes.specs.declared.statement.Body as bodies
use Rattle.rt_tree_nodes.specs.declared.statement.Branch.{Branch, out-Branch, roll-Branch, map-Branch}
use Rattle.rt_tree_nodes.specs.declared.statement.Branch as branches
use Rattle.rt_tree_nodes.specs.declared.statement.Labelled.{Labelled, out-Labelled, roll-Labelled, map-Labelled}
use Rattle.rt_tree_nodes.specs.declared.statement.Labelled as lines
use Rattle.rt_tree_nodes.specs.declared.statement.LocalStart.{LocalStart}
use Rattle.rt_tree_nodes.specs.declared.statement.Stat.{Stat, out-Stat, roll-Stat, map-Stat}
use Rattle.rt_tree_nodes.specs.declared.statement.Stat as stats
use Rattle.rt_tree_nodes.specs.declared.statement.Stat.TheFolds.{ind-Body, fold-Stat, fold-Branch, fold-Labelled, fold_out-Stat, fold_out-Body, fold_out-Branch, fold_out-Labelled}
use Rattle.rt_tree_nodes.specs.declared.statement.Stat.TheOpen.{Stat-F, Body-F, Branch-F, Labelled-F}
use Rattle.rt_tree_nodes.specs.declared.statement.Test.{Test, out-Test, roll-Test, map-Test}
use Rattle.rt_tree_nodes.specs.declared.statement.Test as tests
use Rattle.rt_tree_nodes.specs.declared.statement.Test.TheFolds.{ind-Test, fold_out-Test}
use Rattle.rt_tree_nodes.specs.declared.statement.Test.TheOpen.{Test-F}
use Rattle.rt_tree_nodes.specs.declared.value.Place.{Place}
use Rattle.rt_tree_nodes.specs.declared.value.Value.{Value}
use Rattle.rt_tree_nodes.specs.Scopes.{Scope, with, passes}
use Rattle.rt_tree_nodes.specs.Tree.{Term, Cond, Both, Either, Stmt, Seq, Done, Then}
use Rattle.rt_tree_nodes.specs.Typing.{Valued, Found, Variable, Loop, Shared, Private, Row, Spot, OnLocal, OnPath, OnRow, valued, placed, assigned_mode, is_int, compare_fits}
use Rattle.rt_tree.specs.Statements as S
use Rattle.rt_tree.specs.Statements.{Tested, Marked, Sight, one_test, tested, joined_by, comparison_fits, all_fit, nothing, then_part, where_it_holds, in_order, labels_end, sequence, branches_in_order, marked, marks, labelled_tree, sequence_tree, branches_tree, if_tree, call_tree, assigned_tree, start_tree, starts_tree, step_tree, return_tree, stat_tree, body_tree, declares, start_fits, takes_three, is_int_value, is_int_step, assigns, value_returned, returns, is_call}
use Rattle.rt_frames.proofs.Under.{is_there, there_with, there_some, there_passes, only_there, fit, value_there}
use Rattle.rt_lower_frames_laws.proofs.Sound.{TermSound, CondSound, StmtSound, SeqSound, path_place}
use Rattle.rt_lower_frames_laws.proofs.Places.{BareSvc, FoundWhole, value_whole, place_whole}

there_if : {A : Type 0} (b : Bool) (o : Option A) → is_there (if b then o else None) ≡ true → (b ≡ true) × (is_there o ≡ true)
there_if true o h = (refl, h)
there_if false o h = absurd cc

or_by_right : (a b : Bool) → b ≡ true → a || b ≡ true
or_by_right true b e = refl
or_by_right false b e = e

call_there : (o : Option (Option Mode)) → is_call o ≡ true → is_there o ≡ true
call_there None h = absurd cc
call_there (Some r) h = refl

call_sound : (v : Valued) → TermSound v.tree → StmtSound (call_tree v)
call_sound v h = by_call v.call refl
  where
    by_call : (o : Option (Option Mode)) → v.call ≡ o → StmtSound (call_tree v)
    by_call None e = rw e h
    by_call (Some None) e = rw e h
    by_call (Some (Some m)) e = rw e h

assigned_sound : (o : Option Found) (s : Spot) (t : Term) → FoundWhole o s → is_there (with o assigned_mode) ≡ true → TermSound t → StmtSound (assigned_tree (record { found = o; tree = s }) t)
assigned_sound None s t h g k = absurd cc
assigned_sound (Some f) (OnLocal i) t h g k = k
assigned_sound (Some (Shared m)) (OnPath q) t h g k = (path_place q h, k)
assigned_sound (Some (Private m)) (OnPath q) t h g k = (h.0, k)
assigned_sound (Some (Variable m)) (OnPath q) t h g k = absurd h
assigned_sound (Some Loop) (OnPath q) t h g k = absurd h
assigned_sound (Some (Row m)) (OnPath q) t h g k = absurd h
assigned_sound (Some (Variable m)) (OnRow a) t h g k = absurd h
assigned_sound (Some Loop) (OnRow a) t h g k = absurd h
assigned_sound (Some (Shared m)) (OnRow a) t h g k = absurd h
assigned_sound (Some (Private m)) (OnRow a) t h g k = absurd h
assigned_sound (Some (Row m)) (OnRow a) t h g k = absurd cc

abbrev Trees : Type 0
Trees = List (Cond × Seq)

abbrev BranchesSound : Trees → Type 0
BranchesSound [] = Unit {0}
BranchesSound (b ∷ bs) = (CondSound b.0 × SeqSound b.1) × BranchesSound bs

branches_sound : (bs : Trees) (e : Seq) → BranchesSound bs → SeqSound e → SeqSound (branches_tree bs e)
branches_sound [] e h g = g
branches_sound (b ∷ bs) e h g = ((h.0.0, h.0.1, branches_sound bs e h.1 g), tt)

if_sound : (bs : Trees) (e : Seq) → BranchesSound bs → SeqSound e → StmtSound (if_tree bs e)
if_sound [] e h g = g
if_sound (b ∷ bs) e h g = (h.0.0, h.0.1, branches_sound bs e h.1 g)

marks_sound : (ls : List ℕ) (q : Seq) → SeqSound q → SeqSound (marks ls q)
marks_sound [] q h = h
marks_sound (l ∷ ls) q h = marks_sound ls q h

-- a way to join two conditions is whole where both are
abbrev IsJoin : (Cond → Cond → Cond) → Type 0
IsJoin join = (t u : Cond) → CondSound t → CondSound u → CondSound (join t u)

module _ (c : Scope) (bare : BareSvc c) where
  fitting : (v : Value) → fit (valued c v) ≡ true → TermSound (valued c v).tree
  fitting v f = value_whole c bare v f

  moded : (v : Value) → is_there (valued c v).mode ≡ true → TermSound (valued c v).tree
  moded v t = fitting v (value_there (valued c v) t)

  passing : (test : Mode → Bool) (v : Value) → passes test (valued c v).mode ≡ true → TermSound (valued c v).tree
  passing test v h = moded v (there_passes test (valued c v).mode h)

  -- ---- conditions

  compared_sound : (r : Rel) (a b : Value) → comparison_fits r (valued c a) (valued c b) ≡ true → TermSound (valued c a).tree × TermSound (valued c b).tree
  compared_sound r a b h = (moded a (there_passes _ (valued c a).mode h), second (valued c a).mode h)
    where
      second : (o : Option Mode) → passes (λ x. passes (compare_fits r x) (valued c b).mode) o ≡ true → TermSound (valued c b).tree
      second None h = absurd cc
      second (Some m) h = passing _ b h

  abbrev TestIs : Test → Type 0
  TestIs t = (tested c t).fits ≡ true → CondSound (tested c t).tree

  abbrev TestPair : Type 0
  TestPair = (t : Test) × TestIs t

  abbrev plain_tests : List TestPair → List Test
  plain_tests ts = map (λ (e : TestPair). e.0) ts

  tests_sound : (join : Cond → Cond → Cond) → IsJoin join → (ts : List TestPair) → all_fit (map (tested c) (plain_tests ts)) ≡ true → CondSound (joined_by join (map (tested c) (plain_tests ts)))
  tests_sound join j [] h = (tt, tt)
  tests_sound join j (t ∷ []) h = t.1 (and_parts (tested c t.0).fits true h).0
  tests_sound join j (t ∷ (u ∷ ts)) h =
      let parts = and_parts (tested c t.0).fits (all_fit (map (tested c) (plain_tests (u ∷ ts)))) h in
      j (tested c t.0).tree (joined_by join (map (tested c) (plain_tests (u ∷ ts)))) (t.1 parts.0) (tests_sound join j (u ∷ ts) parts.1)

  test_as : (t : Test) (l : Test-F Test) → out-Test t ≡ l → ((one_test c (map-Test Test Tested (tested c) l)).fits ≡ true → CondSound (one_test c (map-Test Test Tested (tested c) l)).tree) → TestIs t
  test_as t l o h =
      let tree : tested c t ≡ one_test c (map-Test Test Tested (tested c) l) = rw (fold_out-Test, o) refl in
      rw tree h

  test_level : (t : Test) (y : Test-F TestPair) → out-Test t ≡ map-Test TestPair Test (λ e. e.0) y → TestIs t
  test_level t (Test-F.Compare r a b) o = test_as t (Test-F.Compare r a b) o (compared_sound r a b)
  test_level t (Test-F.And ts) o = test_as t (Test-F.And (plain_tests ts)) o (λ h. tests_sound Both (λ x y f g. (f, g)) ts (and_parts _ _ h).1)
  test_level t (Test-F.Or ts) o = test_as t (Test-F.Or (plain_tests ts)) o (λ h. tests_sound Either (λ x y f g. (f, g)) ts (and_parts _ _ h).1)

  rolled_test : (x : Test-F Test) → out-Test (roll-Test x) ≡ x
  rolled_test x = search tests.the_lemmas

  test_sound : (t : Test) → TestIs t
  test_sound = ind-Test TestIs (λ x y is. test_level (roll-Test x) y (rolled_test x ∙ sym is))

  -- ---- values of statements

  int_sound : (v : Value) → is_int_value c v ≡ true → TermSound (valued c v).tree
  int_sound v h = passing is_int v h

  step_sound : (v : Option Value) → is_int_step c v ≡ true → TermSound (step_tree c v)
  step_sound None h = tt
  step_sound (Some v) h = int_sound v h

  start_sound : (o : Option Local) (i : ℕ) (v : Option Value) → start_fits c o v ≡ true → StmtSound (start_tree c i v)
  start_sound o i None h = tt
  start_sound (Some (local.Variable m)) i (Some v) h = passing _ v h
  start_sound (Some local.Loop) i (Some v) h = absurd cc
  start_sound None i (Some v) h = absurd cc

  starts_sound : (ds : List LocalStart) (n : _) (q : Seq) → is_there (declares c ds n) ≡ true → SeqSound q → SeqSound (starts_tree c ds q)
  starts_sound [] n q h g = g
  starts_sound (d ∷ ds) n q h g =
      let parts = there_if (d.local == n.local && start_fits c (slice_get c.locals d.local) d.start) _ h in
      let both = and_parts (d.local == n.local) (start_fits c (slice_get c.locals d.local) d.start) parts.0 in
      (start_sound (slice_get c.locals d.local) d.local d.start both.1, starts_sound ds _ q parts.1 g)

  assigns_there : (o : Option Mode) (v : Value) → assigns c o v ≡ true → (is_there o ≡ true) × TermSound (valued c v).tree
  assigns_there None v h = absurd cc
  assigns_there (Some m) v h = (refl, passing _ v h)

  assignment_sound : (q : Place) (v : Value) → assigns c (with (placed c q).found assigned_mode) v ≡ true → StmtSound (assigned_tree (placed c q) (valued c v).tree)
  assignment_sound q v h =
      let there = assigns_there (with (placed c q).found assigned_mode) v h in
      assigned_sound (placed c q).found (placed c q).tree (valued c v).tree (place_whole c bare q) there.0 there.1

  return_sound : (r : Option Mode) (v : Option Value) → returns r (value_returned c v) ≡ true → StmtSound (return_tree c v)
  return_sound r None h = tt
  return_sound (Some m) (Some v) h = passing _ v h
  return_sound None (Some v) h = absurd cc

  -- ---- statements

  abbrev body_alg : Body-F Stmt Seq (Cond × Seq) (Seq → Seq) → Seq
  body_alg b = starts_tree c b.locals (sequence_tree b.statements)

  abbrev branch_alg : Branch-F Stmt Seq (Cond × Seq) (Seq → Seq) → Cond × Seq
  branch_alg b = ((tested c b.test).tree, sequence_tree b.taken)

  abbrev line_alg : Labelled-F Stmt Seq (Cond × Seq) (Seq → Seq) → Seq → Seq
  line_alg x = labelled_tree x.labels x.stat

  abbrev stat_of : Stat → Stmt
  stat_of = fold-Stat Stmt Seq (Cond × Seq) (Seq → Seq) (stat_tree c) body_alg branch_alg line_alg

  abbrev branch_of : Branch → Cond × Seq
  branch_of = fold-Branch Stmt Seq (Cond × Seq) (Seq → Seq) (stat_tree c) body_alg branch_alg line_alg

  abbrev line_of : Labelled → Seq → Seq
  line_of = fold-Labelled Stmt Seq (Cond × Seq) (Seq → Seq) (stat_tree c) body_alg branch_alg line_alg

  -- a part that fits
  abbrev IsFit : {A : Type 0} → Option A → Type 0
  IsFit o = is_there o ≡ true

  abbrev StatIs : Stat → Type 0
  StatIs s = (g : Sight) (n : _) → IsFit ((S.stat_part c s) g n) → StmtSound (stat_of s)

  abbrev pub BodyIs : Body → Type 0
  BodyIs b = (g : Sight) (n : _) → IsFit ((S.body_part c b) g n) → SeqSound (body_tree c b)

  abbrev BranchIs : Branch → Type 0
  BranchIs b = (g : Sight) (n : _) → IsFit ((S.branch_part c b) g n) → CondSound (branch_of b).0 × SeqSound (branch_of b).1

  -- a statement with its labels, and what stands behind it
  abbrev LineIs : Labelled → Type 0
  LineIs x = (g : Sight) (n : _) → IsFit ((marked c x).part g n) → (q : Seq) → SeqSound q → SeqSound (line_of x q)

  abbrev StatPair : Type 0
  StatPair = (s : Stat) × StatIs s

  abbrev BodyPair : Type 0
  BodyPair = (b : Body) × BodyIs b

  abbrev BranchPair : Type 0
  BranchPair = (b : Branch) × BranchIs b

  abbrev LinePair : Type 0
  LinePair = (x : Labelled) × LineIs x

  abbrev plain_lines : List LinePair → List Labelled
  plain_lines xs = map (λ (e : LinePair). e.0) xs

  abbrev plain_branches : List BranchPair → List Branch
  plain_branches xs = map (λ (e : BranchPair). e.0) xs

  order_sound : (xs : List LinePair) (g : Sight) (n : _) → IsFit ((in_order (map (marked c) (plain_lines xs))) g n) → SeqSound (sequence_tree (map line_of (plain_lines xs)))
  order_sound [] g n h = tt
  order_sound (x ∷ xs) g n h =
      let t = there_with ((marked c x.0).part g n) (in_order (map (marked c) (plain_lines xs)) g) h in
      x.1 g n (there_some ((marked c x.0).part g n) t.0 t.1.0) (sequence_tree (map line_of (plain_lines xs))) (order_sound xs g t.0 t.1.1)

  sequence_sound : (xs : List LinePair) (g : Sight) (n : _) → IsFit ((sequence (map (marked c) (plain_lines xs))) g n) → SeqSound (sequence_tree (map line_of (plain_lines xs)))
  sequence_sound xs g n h = let t = there_with (labels_end n.label (map (marked c) (plain_lines xs))) _ h in order_sound xs _ _ t.1.1

  branches_all : (bs : List BranchPair) (g : Sight) (n : _) → IsFit ((branches_in_order (map (S.branch_part c) (plain_branches bs))) g n) → BranchesSound (map branch_of (plain_branches bs))
  branches_all [] g n h = tt
  branches_all (b ∷ bs) g n h =
      let t = there_with (S.branch_part c b.0 g n) (branches_in_order (map (S.branch_part c) (plain_branches bs)) g) h in
      (b.1 g n (there_some (S.branch_part c b.0 g n) t.0 t.1.0), branches_all bs g t.0 t.1.1)

  if_all : (bs : List BranchPair) (e : Seq) (part : S.Part) (b : Bool) (g : Sight) (n : _) → IsFit ((then_part (where_it_holds b) (then_part (branches_in_order (map (S.branch_part c) (plain_branches bs))) part)) g n) → ((m : _) → IsFit (part g m) → SeqSound e)
      → StmtSound (if_tree (map branch_of (plain_branches bs)) e)
  if_all bs e part b g n h k =
      let t = there_with (where_it_holds b g n) _ h in
      let u = there_with (branches_in_order (map (S.branch_part c) (plain_branches bs)) g t.0) (part g) t.1.1 in
      if_sound (map branch_of (plain_branches bs)) e (branches_all bs g t.0 (there_some _ u.0 u.1.0)) (k u.0 u.1.1)

  loop_all : (i : ℕ) (xs : List LinePair) (b : Bool) (g : Sight) (n : _) → IsFit ((then_part (where_it_holds b) (λ s m. with (takes_three c i m) (sequence (map (marked c) (plain_lines xs)) s))) g n) → (b ≡ true) × SeqSound (sequence_tree (map line_of (plain_lines xs)))
  loop_all i xs b g n h =
      let t = there_with (where_it_holds b g n) _ h in
      let u = there_with (takes_three c i t.0) _ t.1.1 in
      (only_there b n (there_some (where_it_holds b g n) t.0 t.1.0), sequence_sound xs g u.0 u.1.1)

  -- ---- one level

  abbrev plain_stat : Stat-F StatPair BodyPair BranchPair LinePair → Stat-F Stat Body Branch Labelled
  plain_stat y = map-Stat StatPair BodyPair BranchPair LinePair Stat Body Branch Labelled (λ e. e.0) (λ e. e.0) (λ e. e.0) (λ e. e.0) y

  abbrev stat_parts : Stat-F Stat Body Branch Labelled → S.Part
  stat_parts l = S.one_stat c (map-Stat Stat Body Branch Labelled S.Part S.Part S.Part Marked (S.stat_part c) (S.body_part c) (S.branch_part c) (marked c) l)

  abbrev stat_trees : Stat-F Stat Body Branch Labelled → Stmt
  stat_trees l = stat_tree c (map-Stat Stat Body Branch Labelled Stmt Seq (Cond × Seq) (Seq → Seq) stat_of (body_tree c) branch_of line_of l)

  abbrev LevelIs : Stat-F Stat Body Branch Labelled → Type 0
  LevelIs l = (g : Sight) (n : _) → IsFit ((stat_parts l) g n) → StmtSound (stat_trees l)

  stat_as : (s : Stat) (l : Stat-F Stat Body Branch Labelled) → out-Stat s ≡ l → LevelIs l → StatIs s
  stat_as s l o h =
      let part : S.stat_part c s ≡ stat_parts l = rw (fold_out-Stat, o) refl in
      let tree : stat_of s ≡ stat_trees l = rw (fold_out-Stat, o) refl in
      rw (part, tree) h

  stat_level : (y : Stat-F StatPair BodyPair BranchPair LinePair) → LevelIs (plain_stat y)
  stat_level (Stat-F.Call v) g n h =
      let called = only_there (is_call (valued c v).call) n h in
      call_sound (valued c v) (fitting v (or_by_right (is_there (valued c v).mode) (is_there (valued c v).call) (call_there (valued c v).call called)))
  stat_level (Stat-F.Assign q v) g n h = assignment_sound q v (only_there (assigns c (with (placed c q).found assigned_mode) v) n h)
  stat_level (Stat-F.Goto l) g n h = tt
  stat_level (Stat-F.Return v) g n h = return_sound g.result v (only_there (returns g.result (value_returned c v)) n h)
  stat_level (Stat-F.Switch v ls) g n h = let parts = and_parts (is_int_value c v) _ (only_there _ n h) in int_sound v parts.0
  stat_level (Stat-F.Block b) g n h = b.1 g n h
  stat_level (Stat-F.If bs None) g n h = if_all bs Done nothing _ g n h (λ m f. tt)
  stat_level (Stat-F.If bs (Some xs)) g n h = if_all bs (sequence_tree (map line_of (plain_lines xs))) (sequence (map (marked c) (plain_lines xs))) _ g n h (λ m f. sequence_sound xs g m f)
  stat_level (Stat-F.For i start step end xs) g n h =
      let both = loop_all i xs _ g n h in
      let parts = and_parts (is_int_value c start) _ both.0 in
      let more = and_parts (is_int_step c step) (is_int_value c end) parts.1 in
      (int_sound start parts.0, step_sound step more.0, int_sound end more.1, both.1)
  stat_level (Stat-F.To i k xs) g n h = let both = loop_all i xs _ g n h in (int_sound k both.0, both.1)
  stat_level (Stat-F.While t xs) g n h =
      let u = there_with (where_it_holds (tested c t).fits g n) _ h in
      (test_sound t (only_there (tested c t).fits n (there_some (where_it_holds (tested c t).fits g n) u.0 u.1.0)), sequence_sound xs g u.0 u.1.1)
  stat_level (Stat-F.Recover l) g n h = tt

  body_level : (b : Body) (y : Body-F StatPair BodyPair BranchPair LinePair) → out-Body b ≡ map-Body StatPair BodyPair BranchPair LinePair Stat Body Branch Labelled (λ e. e.0) (λ e. e.0) (λ e. e.0) (λ e. e.0) y → BodyIs b
  body_level b y o =
      let part : S.body_part c b ≡ (λ g n. with (declares c y.locals n) (sequence (map (marked c) (plain_lines y.statements)) g)) = rw (fold_out-Body, o) refl in
      let tree : body_tree c b ≡ starts_tree c y.locals (sequence_tree (map line_of (plain_lines y.statements))) = rw (fold_out-Body, o) refl in
      rw (part, tree) (λ g n h.
      let t = there_with (declares c y.locals n) _ h in
      starts_sound y.locals n (sequence_tree (map line_of (plain_lines y.statements))) (there_some (declares c y.locals n) t.0 t.1.0) (sequence_sound y.statements g t.0 t.1.1))

  branch_level : (b : Branch) (y : Branch-F StatPair BodyPair BranchPair LinePair) → out-Branch b ≡ map-Branch StatPair BodyPair BranchPair LinePair Stat Body Branch Labelled (λ e. e.0) (λ e. e.0) (λ e. e.0) (λ e. e.0) y → BranchIs b
  branch_level b y o =
      let part : S.branch_part c b ≡ then_part (where_it_holds (tested c y.test).fits) (sequence (map (marked c) (plain_lines y.taken))) = rw (fold_out-Branch, o) refl in
      let tree : branch_of b ≡ ((tested c y.test).tree, sequence_tree (map line_of (plain_lines y.taken))) = rw (fold_out-Branch, o) refl in
      rw (part, tree) (λ g n h.
      let u = there_with (where_it_holds (tested c y.test).fits g n) _ h in
      (test_sound y.test (only_there (tested c y.test).fits n (there_some (where_it_holds (tested c y.test).fits g n) u.0 u.1.0)), sequence_sound y.taken g u.0 u.1.1))

  line_cases : (x : Labelled) (y : Labelled-F StatPair BodyPair BranchPair LinePair) (s : Option StatPair) → y.stat ≡ s
      → out-Labelled x ≡ map-Labelled StatPair BodyPair BranchPair LinePair Stat Body Branch Labelled (λ e. e.0) (λ e. e.0) (λ e. e.0) (λ e. e.0) y → LineIs x
  line_cases x y None e o g n h q k =
      let tree : line_of x ≡ (λ z. marks y.labels z) = rw (fold_out-Labelled, o, e) refl in
      rw tree (marks_sound y.labels q k)
  line_cases x y (Some s) e o g n h q k =
      let part : (marked c x).part ≡ S.stat_part c s.0 = rw (fold_out-Labelled, o, e) refl in
      let tree : line_of x ≡ (λ z. marks y.labels (Then (stat_of s.0) z)) = rw (fold_out-Labelled, o, e) refl in
      let f = rw part at h in
      rw tree (marks_sound y.labels (Then (stat_of s.0) q) (s.1 g n f, k))

  line_level : (x : Labelled) (y : Labelled-F StatPair BodyPair BranchPair LinePair) → out-Labelled x ≡ map-Labelled StatPair BodyPair BranchPair LinePair Stat Body Branch Labelled (λ e. e.0) (λ e. e.0) (λ e. e.0) (λ e. e.0) y → LineIs x
  line_level x y o = line_cases x y y.stat refl o

  rolled_stat : (x : Stat-F Stat Body Branch Labelled) → out-Stat (roll-Stat x) ≡ x
  rolled_stat x = search stats.the_lemmas

  rolled_body : (x : Body-F Stat Body Branch Labelled) → out-Body (roll-Body x) ≡ x
  rolled_body x = search bodies.the_lemmas

  rolled_branch : (x : Branch-F Stat Body Branch Labelled) → out-Branch (roll-Branch x) ≡ x
  rolled_branch x = search branches.the_lemmas

  rolled_line : (x : Labelled-F Stat Body Branch Labelled) → out-Labelled (roll-Labelled x) ≡ x
  rolled_line x = search lines.the_lemmas

  -- the plain tree of a body that fits is whole
  pub body_sound : (b : Body) → BodyIs b
  body_sound = ind-Body StatIs BodyIs BranchIs LineIs (λ x y is. stat_as (roll-Stat x) (plain_stat y) (rolled_stat x ∙ sym is) (stat_level y)) (λ x y is. body_level (roll-Body x) y (rolled_body x ∙ sym is))
      (λ x y is. branch_level (roll-Branch x) y (rolled_branch x ∙ sym is)) (λ x y is. line_level (roll-Labelled x) y (rolled_line x ∙ sym is))
