-- Statements and bodies that fit as nodes, and name locals where these have a value, fit as plain trees.
use Rattle.std.proofs.Common.{◌≡◌, ◌⊎◌, inl, inr, ℕ, ◌+◌, ◌==◌, ◌&&◌, Bool, true, false, List, [], ◌∷◌, map, Option, Some, None, option_map, slice_get, refl, sym, ap, ◌∙◌, subst}
use Rattle.std.specs.List.{Contains}
use Rattle.rt_modes.specs.declared.mode.Mode.{Mode, out-Mode}
use Rattle.rt_modes.specs.declared.mode.Mode.TheOpen.{Mode-F}
use Rattle.rt_modes.specs.declared.mode.Mode.TheVariants as mode
use Rattle.rt_tree_nodes.specs.declared.brick.Local.{Local}
use Rattle.rt_tree_nodes.specs.declared.brick.Local.TheVariants as local
use Rattle.rt_tree_nodes.specs.declared.statement.Body.{Body, out-Body, roll-Body, map-Body}
use Rattle.rt_tree_nodes.specs.declared.statement.Body as bodies
use Rattle.rt_tree_nodes.specs.declared.statement.Branch.{Branch, out-Branch, roll-Branch, map-Branch}
use Rattle.rt_tree_nodes.specs.declared.statement.Branch as branches
use Rattle.rt_tree_nodes.specs.declared.statement.Labelled.{Labelled, out-Labelled, roll-Labelled, map-Labelled}
use Rattle.rt_tree_nodes.specs.declared.statement.Labelled as lines
use Rattle.rt_tree_nodes.specs.declared.statement.LocalStart.{LocalStart}
use Rattle.rt_tree_nodes.specs.declared.statement.Stat.{Stat, out-Stat, roll-Stat, map-Stat}
use Rattle.rt_tree_nodes.specs.declared.statement.Stat as stats
use Rattle.rt_tree_nodes.specs.declared.statement.Stat.TheFolds.{ind-Body, fold-Stat, fold-Branch, fold-Labelled, fold_out-Stat, fold_out-Body, fold_out-Branch, fold_out-Labelled}
use Rattle.rt_tree_nodes.specs.declared.statement.Stat.TheOpen.{Stat-F, Body-F, Branch-F, Labelled-F}
use Rattle.rt_tree_nodes.specs.declared.value.Place.{Place}
use Rattle.rt_tree_nodes.specs.declared.value.Value.{Value}
use Rattle.rt_tree_nodes.specs.Scopes.{Scope, with, only, faces, svc_mode, scope_of, with_locals}
use Rattle.rt_tree_nodes.specs.Tree.{Term, Cond, Stmt, Seq, Done, Then}
use Rattle.rt_tree_nodes.specs.Typing.{Found, Variable, Loop, Shared, Private, Row, Spot, OnLocal, OnPath, OnRow, item_found, is_value, is_int, assigned_mode, placed, valued}
use Rattle.rt_tree.specs.Statements as S
use Rattle.rt_tree.specs.Statements.{Sight, Part, Marked, nothing, then_part, where_it_holds, in_order, labels_end, sequence, branches_in_order, otherwise, is_call, returns, starts_at_zero, is_loop, start_fits, declares, takes_three, is_int_value, is_int_step, assigns, value_returned, marked_part, marked, marks, labelled_tree, sequence_tree, otherwise_tree, branches_tree, if_tree, call_tree, assigned_tree, start_tree, starts_tree, step_tree, return_tree, stat_tree, body_tree, tested}
use Rattle.rt_tree.specs.Taken.{taken}
use Rattle.rt_tree.specs.FullModes.{MayStand}
use Rattle.rt_meaning_laws.specs.Slots.{IsInt}
use Rattle.rt_meaning_laws.specs.Trees.{Started, Site, table, mode_of_local, local_mode, number_fits, AreLoops, OwnFits, TermFits, PathFits, CallFits, CondFits, LabelsFit, StmtFits, SeqFits}
use Rattle.rt_meaning_laws.specs.Named.{TermNamed, CondNamed, LabelsNamed, StmtNamed, SeqNamed}
use Rattle.rt_meaning_laws.proofs.Modes.{out_int}
use Rattle.rt_meaning_laws.proofs.Operators.{int_out}
use Rattle.rt_meaning_laws.proofs.Values.{SvcIs, PlaceIs, ValueGood, suits_fits, svc_read}
use Rattle.rt_meaning_laws.proofs.Nodings.{value_good, place_good}
use Rattle.rt_meaning_laws.proofs.Tests.{test_good}
use Rattle.rt_meaning_laws.proofs.Small.{two_true, passed, with_is, if_some}

a_loop : (o : Option Local) → is_loop o ≡ true → o ≡ Some local.Loop
a_loop None e = absurd cc
a_loop (Some (local.Variable m)) e = absurd cc
a_loop (Some local.Loop) e = refl

module _ (x : Site) (private_none : (b j : ℕ) (m : Mode) → item_found (faces x.parts.bricks) b j ≡ Some (Private m) → ⊥) (svc_is : (k : ℕ) (m : Mode) → svc_mode (scope_of x.parts) k ≡ Some m → SvcIs x.parts.modes k m) where
  abbrev c : Scope
  c = with_locals (scope_of x.parts) x.locals

  abbrev names : ℕ → Type 0
  names b = Contains (taken x.parts) b

  abbrev Stands : Started → Seq → Type 0
  Stands s q = SeqNamed names x.at_label s q

  -- what is named as it may be fits
  abbrev Follows : Seq → Type 0
  Follows q = (s : Started) → Stands s q → SeqFits x s q

  good : (s : Started) (v : Value) → ValueGood x s (valued c v)
  good s v = value_good x s private_none svc_is v

  -- ---- values of statements

  int_fits : (s : Started) (v : Value) → is_int_value c v ≡ true → TermNamed names s (valued c v).tree → (m : Mode) × IsInt m × TermFits x s (valued c v).tree m
  int_fits s v e r = let k = passed is_int (valued c v).mode e in (k.0, int_out k.0 k.2, (good s v).is k.0 k.1 r)

  step_fits : (s : Started) (v : Option Value) → is_int_step c v ≡ true → TermNamed names s (step_tree c v) → (m : Mode) × IsInt m × TermFits x s (step_tree c v) m
  step_fits s None e r = (mode.Int, out_int, subst (λ (l : Mode-F Mode). number_fits 1 l) (sym out_int) r)
  step_fits s (Some v) e r = int_fits s v e r

  call_by : (s : Started) (md : Option Mode) (nu : Option ℕ) (o : Option (Option Mode)) (t : Term) → is_call o ≡ true → ((r : Option Mode) → o ≡ Some r → TermNamed names s t → CallFits x s t r) → ((m : Mode) → o ≡ Some (Some m) → TermNamed names s t → TermFits x s t m)
      → StmtNamed names x.at_label s (call_tree (record { mode = md; number = nu; call = o; tree = t })) → StmtFits x s (call_tree (record { mode = md; number = nu; call = o; tree = t }))
  call_by s md nu None t e f g r = absurd cc
  call_by s md nu (Some None) t e f g r = f None refl r
  call_by s md nu (Some (Some m)) t e f g r = (m, g m refl r)

  call_fits : (s : Started) (v : Value) → is_call (valued c v).call ≡ true → StmtNamed names x.at_label s (call_tree (valued c v)) → StmtFits x s (call_tree (valued c v))
  call_fits s v e r = call_by s (valued c v).mode (valued c v).number (valued c v).call (valued c v).tree e (λ o q t. (good s v).call o q t) (λ m q t. (good s v).result m q t) r

  -- ---- assignments

  assign_by : (s : Started) (o : Option Found) (t : Spot) (v : Value) → ((f : Found) → o ≡ Some f → PlaceIs x s f t) → assigns c (with o assigned_mode) v ≡ true
      → StmtNamed names x.at_label s (assigned_tree (record { found = o; tree = t }) (valued c v).tree) → StmtFits x s (assigned_tree (record { found = o; tree = t }) (valued c v).tree)
  assign_by s None t v h e r = absurd cc
  assign_by s (Some (Variable w)) (OnLocal i) v h e r = by_mode (is_value (out-Mode w)) e
    where
      by_mode : (b : Bool) → assigns c (only b w) v ≡ true → (m : Mode) × (local_mode x i ≡ Some m) × TermFits x s (valued c v).tree m
      by_mode true e = (w, h (Variable w) refl, suits_fits x s w (valued c v) (good s v) e r)
      by_mode false e = absurd cc
  assign_by s (Some (Shared w)) (OnPath q) v h e r = by_mode (is_value (out-Mode w)) refl e
    where
      by_mode : (b : Bool) → is_value (out-Mode w) ≡ b → assigns c (only b w) v ≡ true → (m : Mode) × (is_value (out-Mode m) ≡ true) × (PathFits x s q m ⊎ (OwnFits (table x) q m × MayStand (table x) m)) × TermFits x s (valued c v).tree m × (w ≡ m)
      by_mode true i e = (w, i, inl (h (Shared w) refl r.0), suits_fits x s w (valued c v) (good s v) e r.1, refl)
      by_mode false i e = absurd cc
  assign_by s (Some (Private w)) (OnPath q) v h e r = by_mode (is_value (out-Mode w)) refl e
    where
      by_mode : (b : Bool) → is_value (out-Mode w) ≡ b → assigns c (only b w) v ≡ true → (m : Mode) × (is_value (out-Mode m) ≡ true) × (PathFits x s q m ⊎ (OwnFits (table x) q m × MayStand (table x) m)) × TermFits x s (valued c v).tree m × (w ≡ m)
      by_mode true i e = (w, i, inr (svc_read x s q w i (h (Private w) refl)), suits_fits x s w (valued c v) (good s v) e r.1, refl)
      by_mode false i e = absurd cc
  assign_by s (Some Loop) t v h e r = absurd cc
  assign_by s (Some (Row w)) t v h e r = absurd cc
  assign_by s (Some (Variable w)) (OnPath q) v h e r = absurd (h (Variable w) refl)
  assign_by s (Some (Variable w)) (OnRow a) v h e r = absurd (h (Variable w) refl)
  assign_by s (Some (Shared w)) (OnLocal i) v h e r = absurd (h (Shared w) refl)
  assign_by s (Some (Shared w)) (OnRow a) v h e r = absurd (h (Shared w) refl)
  assign_by s (Some (Private w)) (OnLocal i) v h e r = absurd (h (Private w) refl)
  assign_by s (Some (Private w)) (OnRow a) v h e r = absurd (h (Private w) refl)

  assign_fits : (s : Started) (p : Place) (v : Value) → assigns c (with (placed c p).found assigned_mode) v ≡ true → StmtNamed names x.at_label s (assigned_tree (placed c p) (valued c v).tree) → StmtFits x s (assigned_tree (placed c p) (valued c v).tree)
  assign_fits s p v e r = assign_by s (placed c p).found (placed c p).tree v (place_good x s private_none svc_is p) e r

  return_fits : (s : Started) (o : Option Mode) (v : Option Value) → o ≡ x.answer → returns o (value_returned c v) ≡ true → StmtNamed names x.at_label s (return_tree c v) → StmtFits x s (return_tree c v)
  return_fits s None None q e r = sym q
  return_fits s (Some m) (Some v) q e r = (m, sym q, suits_fits x s m (valued c v) (good s v) e r)
  return_fits s None (Some v) q e r = absurd cc
  return_fits s (Some m) None q e r = absurd cc

  labels_fit : (s : Started) (ls : List ℕ) → LabelsNamed names x.at_label s ls → LabelsFit x s ls
  labels_fit s [] r = tt
  labels_fit s (l ∷ ls) r = (r.0, labels_fit s ls r.1)

  -- ---- the locals of a body

  start_good : (s : Started) (i : ℕ) (o : Option Local) (v : Option Value) → slice_get x.locals i ≡ o → start_fits c o v ≡ true → StmtNamed names x.at_label s (start_tree c i v) → StmtFits x s (start_tree c i v)
  start_good s i (Some (local.Variable m)) None q e r = (m, ap (λ (o : Option Local). option_map mode_of_local o) q, e)
  start_good s i (Some (local.Variable m)) (Some v) q e r = (m, ap (λ (o : Option Local). option_map mode_of_local o) q, suits_fits x s m (valued c v) (good s v) e r)
  start_good s i (Some local.Loop) v q e r = absurd cc
  start_good s i None v q e r = absurd cc

  starts_good : (ds : List LocalStart) (n m : _) (q : Seq) → declares c ds n ≡ Some m → Follows q → Follows (starts_tree c ds q)
  starts_good [] n m q e f s r = f s r
  starts_good (d ∷ ds) n m q e f s r =
      let k = if_some (d.local == n.local && start_fits c (slice_get c.locals d.local) d.start) _ m e in
      let h = two_true (d.local == n.local) (start_fits c (slice_get c.locals d.local) d.start) k.0 in
      (start_good s d.local (slice_get c.locals d.local) d.start refl h.1 r.0, (r.1.0, r.1.1, r.1.2, starts_good ds _ m q k.1 f r.1.0 r.1.3))

  loops_good : (i : ℕ) (n m : _) → takes_three c i n ≡ Some m → AreLoops x i
  loops_good i n m e =
      let k = if_some (i == n.local && (is_loop (slice_get c.locals i) && (is_loop (slice_get c.locals (i + 1)) && is_loop (slice_get c.locals (i + 2))))) _ m e in
      let a = two_true (i == n.local) _ k.0 in
      let b = two_true (is_loop (slice_get c.locals i)) _ a.1 in
      let d = two_true (is_loop (slice_get c.locals (i + 1))) (is_loop (slice_get c.locals (i + 2))) b.1 in
      (a_loop (slice_get c.locals i) b.0, a_loop (slice_get c.locals (i + 1)) d.0, a_loop (slice_get c.locals (i + 2)) d.1)

  marks_good : (ls : List ℕ) (q : Seq) → Follows q → Follows (marks ls q)
  marks_good [] q f s r = f s r
  marks_good (l ∷ ls) q f s r = (r.0, r.1, r.2, r.3, marks_good ls q f r.0 r.4)

  -- ---- statements

  abbrev body_alg : Body-F Stmt Seq (Cond × Seq) (Seq → Seq) → Seq
  body_alg b = starts_tree c b.locals (sequence_tree b.statements)

  abbrev branch_alg : Branch-F Stmt Seq (Cond × Seq) (Seq → Seq) → Cond × Seq
  branch_alg b = ((tested c b.test).tree, sequence_tree b.taken)

  abbrev line_alg : Labelled-F Stmt Seq (Cond × Seq) (Seq → Seq) → Seq → Seq
  line_alg y = labelled_tree y.labels y.stat

  abbrev stat_of : Stat → Stmt
  stat_of = fold-Stat Stmt Seq (Cond × Seq) (Seq → Seq) (stat_tree c) body_alg branch_alg line_alg

  abbrev branch_of : Branch → Cond × Seq
  branch_of = fold-Branch Stmt Seq (Cond × Seq) (Seq → Seq) (stat_tree c) body_alg branch_alg line_alg

  abbrev line_of : Labelled → Seq → Seq
  line_of = fold-Labelled Stmt Seq (Cond × Seq) (Seq → Seq) (stat_tree c) body_alg branch_alg line_alg

  abbrev StatGood : Stat → Type 0
  StatGood a = (w : Sight) (n m : _) → (S.stat_part c a) w n ≡ Some m → w.result ≡ x.answer → (s : Started) → StmtNamed names x.at_label s (stat_of a) → StmtFits x s (stat_of a)

  abbrev BodyGood : Body → Type 0
  BodyGood b = (w : Sight) (n m : _) → (S.body_part c b) w n ≡ Some m → w.result ≡ x.answer → Follows (body_tree c b)

  abbrev BranchGood : Branch → Type 0
  BranchGood b = (w : Sight) (n m : _) → (S.branch_part c b) w n ≡ Some m → w.result ≡ x.answer → ((s : Started) → CondNamed names s (branch_of b).0 → CondFits x s (branch_of b).0) × Follows (branch_of b).1

  -- a statement with its labels, and what stands behind it
  abbrev LineGood : Labelled → Type 0
  LineGood y = (w : Sight) (n m : _) → (marked c y).part w n ≡ Some m → w.result ≡ x.answer → (q : Seq) → Follows q → Follows (line_of y q)

  abbrev StatPair : Type 0
  StatPair = (a : Stat) × StatGood a

  abbrev BodyPair : Type 0
  BodyPair = (b : Body) × BodyGood b

  abbrev BranchPair : Type 0
  BranchPair = (b : Branch) × BranchGood b

  abbrev LinePair : Type 0
  LinePair = (y : Labelled) × LineGood y

  abbrev plain_lines : List LinePair → List Labelled
  plain_lines xs = map (λ (e : LinePair). e.0) xs

  abbrev plain_branches : List BranchPair → List Branch
  plain_branches xs = map (λ (e : BranchPair). e.0) xs

  order_good : (xs : List LinePair) (w : Sight) (n m : _) → (in_order (map (marked c) (plain_lines xs))) w n ≡ Some m → w.result ≡ x.answer → Follows (sequence_tree (map line_of (plain_lines xs)))
  order_good [] w n m e a s r = tt
  order_good (y ∷ xs) w n m e a s r =
      let t = with_is ((marked c y.0).part w n) (in_order (map (marked c) (plain_lines xs)) w) m e in
      y.1 w n t.0 t.1 a (sequence_tree (map line_of (plain_lines xs))) (order_good xs w t.0 m t.2 a) s r

  sequence_good : (xs : List LinePair) (w : Sight) (n m : _) → (sequence (map (marked c) (plain_lines xs))) w n ≡ Some m → w.result ≡ x.answer → Follows (sequence_tree (map line_of (plain_lines xs)))
  sequence_good xs w n m e a = let t = with_is (labels_end n.label (map (marked c) (plain_lines xs))) _ m e in order_good xs _ _ m t.2 a

  -- the first branch, with the others behind ELSE
  branches_good : (bs : List BranchPair) (e : Seq) (w : Sight) (n m : _) → (branches_in_order (map (S.branch_part c) (plain_branches bs))) w n ≡ Some m → w.result ≡ x.answer → Follows e → Follows (branches_tree (map branch_of (plain_branches bs)) e)
  branches_good [] e w n m h a f s r = f s r
  branches_good (b ∷ bs) e w n m h a f s r =
      let t = with_is (S.branch_part c b.0 w n) (branches_in_order (map (S.branch_part c) (plain_branches bs)) w) m h in
      let g = b.1 w n t.0 t.1 a in
      ((g.0 s r.0.0, g.1 s r.0.1, branches_good bs e w t.0 m t.2 a f s r.0.2), (r.1.0, r.1.1, r.1.2, tt))

  if_good : (bs : List BranchPair) (e : Seq) (w : Sight) (n m : _) → (branches_in_order (map (S.branch_part c) (plain_branches bs))) w n ≡ Some m → w.result ≡ x.answer → Follows e
      → (s : Started) → StmtNamed names x.at_label s (if_tree (map branch_of (plain_branches bs)) e) → StmtFits x s (if_tree (map branch_of (plain_branches bs)) e)
  if_good [] e w n m h a f s r = f s r
  if_good (b ∷ bs) e w n m h a f s r =
      let t = with_is (S.branch_part c b.0 w n) (branches_in_order (map (S.branch_part c) (plain_branches bs)) w) m h in
      let g = b.1 w n t.0 t.1 a in
      (g.0 s r.0, g.1 s r.1, branches_good bs e w t.0 m t.2 a f s r.2)

  holds : (b : Bool) (w : Sight) (n m : _) → where_it_holds b w n ≡ Some m → b ≡ true
  holds true w n m e = refl
  holds false w n m e = absurd cc

  -- IF, with what stands behind ELSE
  if_parts : (bs : List BranchPair) (e : Seq) (part : Part) (b : Bool) (w : Sight) (n m : _) → (then_part (where_it_holds b) (then_part (branches_in_order (map (S.branch_part c) (plain_branches bs))) part)) w n ≡ Some m → w.result ≡ x.answer
      → ((k j : _) → part w k ≡ Some j → Follows e) → (s : Started) → StmtNamed names x.at_label s (if_tree (map branch_of (plain_branches bs)) e) → StmtFits x s (if_tree (map branch_of (plain_branches bs)) e)
  if_parts bs e part b w n m h a f s r =
      let t = with_is (where_it_holds b w n) _ m h in
      let u = with_is (branches_in_order (map (S.branch_part c) (plain_branches bs)) w t.0) (part w) m t.2 in
      if_good bs e w t.0 u.0 u.1 a (f u.0 m u.2) s r

  -- a loop
  loop_parts : (i : ℕ) (xs : List LinePair) (b : Bool) (w : Sight) (n m : _) → (then_part (where_it_holds b) (λ v k. with (takes_three c i k) (sequence (map (marked c) (plain_lines xs)) v))) w n ≡ Some m → w.result ≡ x.answer
      → (b ≡ true) × AreLoops x i × Follows (sequence_tree (map line_of (plain_lines xs)))
  loop_parts i xs b w n m h a =
      let t = with_is (where_it_holds b w n) _ m h in
      let u = with_is (takes_three c i t.0) _ m t.2 in
      (holds b w n t.0 t.1, loops_good i t.0 u.0 u.1, sequence_good xs w u.0 m u.2 a)

  -- ---- one level

  abbrev plain_stat : Stat-F StatPair BodyPair BranchPair LinePair → Stat-F Stat Body Branch Labelled
  plain_stat y = map-Stat StatPair BodyPair BranchPair LinePair Stat Body Branch Labelled (λ e. e.0) (λ e. e.0) (λ e. e.0) (λ e. e.0) y

  abbrev stat_parts : Stat-F Stat Body Branch Labelled → Part
  stat_parts l = S.one_stat c (map-Stat Stat Body Branch Labelled Part Part Part Marked (S.stat_part c) (S.body_part c) (S.branch_part c) (marked c) l)

  abbrev stat_trees : Stat-F Stat Body Branch Labelled → Stmt
  stat_trees l = stat_tree c (map-Stat Stat Body Branch Labelled Stmt Seq (Cond × Seq) (Seq → Seq) stat_of (body_tree c) branch_of line_of l)

  abbrev LevelGood : Stat-F Stat Body Branch Labelled → Type 0
  LevelGood l = (w : Sight) (n m : _) → (stat_parts l) w n ≡ Some m → w.result ≡ x.answer → (s : Started) → StmtNamed names x.at_label s (stat_trees l) → StmtFits x s (stat_trees l)

  stat_as : (a : Stat) (l : Stat-F Stat Body Branch Labelled) → out-Stat a ≡ l → LevelGood l → StatGood a
  stat_as a l o h =
      let part : S.stat_part c a ≡ stat_parts l = rw (fold_out-Stat, o) refl in
      let tree : stat_of a ≡ stat_trees l = rw (fold_out-Stat, o) refl in
      rw (part, tree) h

  stat_level : (y : Stat-F StatPair BodyPair BranchPair LinePair) → LevelGood (plain_stat y)
  stat_level (Stat-F.Call v) w n m h a s r = call_fits s v (holds (is_call (valued c v).call) w n m h) r
  stat_level (Stat-F.Assign q v) w n m h a s r = assign_fits s q v (holds (assigns c (with (placed c q).found assigned_mode) v) w n m h) r
  stat_level (Stat-F.Goto l) w n m h a s r = r
  stat_level (Stat-F.Return v) w n m h a s r = return_fits s w.result v a (holds (returns w.result (value_returned c v)) w n m h) r
  stat_level (Stat-F.Switch v ls) w n m h a s r =
      let both = two_true (is_int_value c v) _ (holds _ w n m h) in
      let k = int_fits s v both.0 r.0 in
      (k.0, k.1, k.2, labels_fit s ls r.1)
  stat_level (Stat-F.Block b) w n m h a s r = b.1 w n m h a s r
  stat_level (Stat-F.If bs None) w n m h a s r = if_parts bs Done nothing _ w n m h a (λ k j e t u. tt) s r
  stat_level (Stat-F.If bs (Some xs)) w n m h a s r = if_parts bs (sequence_tree (map line_of (plain_lines xs))) (sequence (map (marked c) (plain_lines xs))) _ w n m h a (λ k j e. sequence_good xs w k j e a) s r
  stat_level (Stat-F.For i start step end xs) w n m h a s r =
      let k = loop_parts i xs _ w n m h a in
      let one = two_true (is_int_value c start) _ k.0 in
      let two = two_true (is_int_step c step) (is_int_value c end) one.1 in
      let y = int_fits s start one.0 r.0 in
      let z = step_fits s step two.0 r.1 in
      let u = int_fits s end two.1 r.2 in
      (y.0, z.0, u.0, k.1, (y.1, y.2), (z.1, z.2), (u.1, u.2), k.2 s r.3)
  stat_level (Stat-F.To i v xs) w n m h a s r =
      let k = loop_parts i xs _ w n m h a in
      let y = int_fits s v k.0 r.0 in
      (y.0, k.1, (y.1, y.2), k.2 s r.1)
  stat_level (Stat-F.While t xs) w n m h a s r =
      let u = with_is (where_it_holds (tested c t).fits w n) _ m h in
      (test_good x s private_none svc_is t (holds (tested c t).fits w n u.0 u.1) r.0, sequence_good xs w u.0 m u.2 a s r.1)
  stat_level (Stat-F.Recover l) w n m h a s r = tt

  body_level : (b : Body) (y : Body-F StatPair BodyPair BranchPair LinePair)
      → out-Body b ≡ map-Body StatPair BodyPair BranchPair LinePair Stat Body Branch Labelled (λ e. e.0) (λ e. e.0) (λ e. e.0) (λ e. e.0) y → BodyGood b
  body_level b y o =
      let part : S.body_part c b ≡ (λ w n. with (declares c y.locals n) (sequence (map (marked c) (plain_lines y.statements)) w)) = rw (fold_out-Body, o) refl in
      let tree : body_tree c b ≡ starts_tree c y.locals (sequence_tree (map line_of (plain_lines y.statements))) = rw (fold_out-Body, o) refl in
      rw (part, tree) (λ w n m h a.
      let t = with_is (declares c y.locals n) _ m h in
      starts_good y.locals n t.0 (sequence_tree (map line_of (plain_lines y.statements))) t.1 (sequence_good y.statements w t.0 m t.2 a))

  branch_level : (b : Branch) (y : Branch-F StatPair BodyPair BranchPair LinePair)
      → out-Branch b ≡ map-Branch StatPair BodyPair BranchPair LinePair Stat Body Branch Labelled (λ e. e.0) (λ e. e.0) (λ e. e.0) (λ e. e.0) y → BranchGood b
  branch_level b y o =
      let part : S.branch_part c b ≡ then_part (where_it_holds (tested c y.test).fits) (sequence (map (marked c) (plain_lines y.taken))) = rw (fold_out-Branch, o) refl in
      let tree : branch_of b ≡ ((tested c y.test).tree, sequence_tree (map line_of (plain_lines y.taken))) = rw (fold_out-Branch, o) refl in
      rw (part, tree) (λ w n m h a.
      let u = with_is (where_it_holds (tested c y.test).fits w n) _ m h in
      (λ s r. test_good x s private_none svc_is y.test (holds (tested c y.test).fits w n u.0 u.1) r, sequence_good y.taken w u.0 m u.2 a))

  line_cases : (z : Labelled) (y : Labelled-F StatPair BodyPair BranchPair LinePair) (k : Option StatPair) → y.stat ≡ k
      → out-Labelled z ≡ map-Labelled StatPair BodyPair BranchPair LinePair Stat Body Branch Labelled (λ e. e.0) (λ e. e.0) (λ e. e.0) (λ e. e.0) y → LineGood z
  line_cases z y None e o w n m h a q f =
      let tree : line_of z ≡ (λ v. marks y.labels v) = rw (fold_out-Labelled, o, e) refl in
      rw tree (marks_good y.labels q f)
  line_cases z y (Some k) e o w n m h a q f =
      let part : (marked c z).part ≡ S.stat_part c k.0 = rw (fold_out-Labelled, o, e) refl in
      let tree : line_of z ≡ (λ v. marks y.labels (Then (stat_of k.0) v)) = rw (fold_out-Labelled, o, e) refl in
      let there = rw part at h in
      rw tree (marks_good y.labels (Then (stat_of k.0) q) (λ s r. (k.1 w n m there a s r.0, (r.1.0, r.1.1, r.1.2, f r.1.0 r.1.3))))

  rolled_stat : (z : Stat-F Stat Body Branch Labelled) → out-Stat (roll-Stat z) ≡ z
  rolled_stat z = search stats.the_lemmas

  rolled_body : (z : Body-F Stat Body Branch Labelled) → out-Body (roll-Body z) ≡ z
  rolled_body z = search bodies.the_lemmas

  rolled_branch : (z : Branch-F Stat Body Branch Labelled) → out-Branch (roll-Branch z) ≡ z
  rolled_branch z = search branches.the_lemmas

  rolled_line : (z : Labelled-F Stat Body Branch Labelled) → out-Labelled (roll-Labelled z) ≡ z
  rolled_line z = search lines.the_lemmas

  -- a body that fits as nodes
  pub body_good : (b : Body) → BodyGood b
  body_good = ind-Body StatGood BodyGood BranchGood LineGood (λ z y is. stat_as (roll-Stat z) (plain_stat y) (rolled_stat z ∙ sym is) (stat_level y)) (λ z y is. body_level (roll-Body z) y (rolled_body z ∙ sym is))
      (λ z y is. branch_level (roll-Branch z) y (rolled_branch z ∙ sym is)) (λ z y is. line_cases (roll-Labelled z) y y.stat refl (rolled_line z ∙ sym is))
