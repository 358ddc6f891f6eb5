-- Control never comes to the end of a body that is closed.
use Rattle.std.proofs.Common.{◌≡◌, ℕ, ◌&&◌, Bool, true, false, List, [], ◌∷◌, map, Option, Some, None, refl, sym, ap, ◌∙◌, subst}
use Rattle.rt_tree_nodes.specs.declared.statement.Body.{Body, out-Body, roll-Body, map-Body}
use Rattle.rt_tree_nodes.specs.declared.statement.Body as bodies
use Rattle.rt_tree_nodes.specs.declared.statement.Branch.{Branch, out-Branch, roll-Branch, map-Branch}
use Rattle.rt_tree_nodes.specs.declared.statement.Branch as branches
use Rattle.rt_tree_nodes.specs.declared.statement.Labelled.{Labelled, out-Labelled, roll-Labelled, map-Labelled}
use Rattle.rt_tree_nodes.specs.declared.statement.Labelled as lines
use Rattle.rt_tree_nodes.specs.declared.statement.LocalStart.{LocalStart}
use Rattle.rt_tree_nodes.specs.declared.statement.Stat.{Stat, out-Stat, roll-Stat, map-Stat}
use Rattle.rt_tree_nodes.specs.declared.statement.Stat as stats
use Rattle.rt_tree_nodes.specs.declared.statement.Stat.TheFolds.{ind-Body, fold-Stat, fold-Branch, fold-Labelled, fold_out-Stat, fold_out-Body, fold_out-Branch, fold_out-Labelled}
use Rattle.rt_tree_nodes.specs.declared.statement.Stat.TheOpen.{Stat-F, Body-F, Branch-F, Labelled-F}
use Rattle.rt_tree_nodes.specs.declared.value.Value.{Value}
use Rattle.rt_tree_nodes.specs.Scopes.{Scope}
use Rattle.rt_tree_nodes.specs.Tree.{Cond, Stmt, Seq, Then}
use Rattle.rt_tree.specs.Statements.{closed_after, closed_sequence, all_closed, closed_stat, closed_labelled, closed, stat_closed, branch_closed, labelled_closed, marks, labelled_tree, sequence_tree, branches_tree, if_tree, start_tree, starts_tree, return_tree, stat_tree, body_tree, tested}
use Rattle.rt_meaning_laws.specs.Trees.{stmt_ends, seq_ends, ends}
use Rattle.rt_meaning_laws.proofs.Small.{two_true}

both_true : (a b : Bool) → a ≡ true → b ≡ true → a && b ≡ true
both_true true b e h = h
both_true false b e h = absurd cc

-- what is known of what stands before, by the nodes and by the plain tree
abbrev Known : Bool → Bool → Type 0
Known k j = k ≡ true → j ≡ true

abbrev Ends : List (Option Bool) → Seq → Type 0
Ends xs q = (k j : Bool) → Known k j → closed_after k xs ≡ true → seq_ends j q ≡ true

marks_end : (ls : List ℕ) (l : ℕ) (j : Bool) (q : Seq) → seq_ends j (marks (l ∷ ls) q) ≡ seq_ends false q
marks_end [] l j q = refl
marks_end (k ∷ ls) l j q = marks_end ls k false q

module _ (c : Scope) where
  abbrev body_alg : Body-F Stmt Seq (Cond × Seq) (Seq → Seq) → Seq
  body_alg b = starts_tree c b.locals (sequence_tree b.statements)

  abbrev branch_alg : Branch-F Stmt Seq (Cond × Seq) (Seq → Seq) → Cond × Seq
  branch_alg b = ((tested c b.test).tree, sequence_tree b.taken)

  abbrev line_alg : Labelled-F Stmt Seq (Cond × Seq) (Seq → Seq) → Seq → Seq
  line_alg y = labelled_tree y.labels y.stat

  abbrev stat_of : Stat → Stmt
  stat_of = fold-Stat Stmt Seq (Cond × Seq) (Seq → Seq) (stat_tree c) body_alg branch_alg line_alg

  abbrev branch_of : Branch → Cond × Seq
  branch_of = fold-Branch Stmt Seq (Cond × Seq) (Seq → Seq) (stat_tree c) body_alg branch_alg line_alg

  abbrev line_of : Labelled → Seq → Seq
  line_of = fold-Labelled Stmt Seq (Cond × Seq) (Seq → Seq) (stat_tree c) body_alg branch_alg line_alg

  abbrev StatEnds : Stat → Type 0
  StatEnds a = stat_closed a ≡ true → stmt_ends (stat_of a) ≡ true

  abbrev BodyEnds : Body → Type 0
  BodyEnds b = closed b ≡ true → ends (body_tree c b) ≡ true

  abbrev BranchEnds : Branch → Type 0
  BranchEnds b = branch_closed b ≡ true → ends (branch_of b).1 ≡ true

  abbrev LineEnds : Labelled → Type 0
  LineEnds y = (xs : List (Option Bool)) (q : Seq) → Ends xs q → Ends (labelled_closed y ∷ xs) (line_of y q)

  abbrev StatPair : Type 0
  StatPair = (a : Stat) × StatEnds a

  abbrev BodyPair : Type 0
  BodyPair = (b : Body) × BodyEnds b

  abbrev BranchPair : Type 0
  BranchPair = (b : Branch) × BranchEnds b

  abbrev LinePair : Type 0
  LinePair = (y : Labelled) × LineEnds y

  abbrev plain_lines : List LinePair → List Labelled
  plain_lines xs = map (λ (e : LinePair). e.0) xs

  abbrev plain_branches : List BranchPair → List Branch
  plain_branches xs = map (λ (e : BranchPair). e.0) xs

  lines_end : (xs : List LinePair) → Ends (map labelled_closed (plain_lines xs)) (sequence_tree (map line_of (plain_lines xs)))
  lines_end [] k j h e = h e
  lines_end (y ∷ xs) k j h e = y.1 (map labelled_closed (plain_lines xs)) (sequence_tree (map line_of (plain_lines xs))) (lines_end xs) k j h e

  sequence_ends : (xs : List LinePair) → closed_sequence (map labelled_closed (plain_lines xs)) ≡ true → ends (sequence_tree (map line_of (plain_lines xs))) ≡ true
  sequence_ends xs e = lines_end xs false false (λ h. h) e

  branches_end : (bs : List BranchPair) (q : Seq) → all_closed (map branch_closed (plain_branches bs)) ≡ true → ends q ≡ true → ends (branches_tree (map branch_of (plain_branches bs)) q) ≡ true
  branches_end [] q e h = h
  branches_end (b ∷ bs) q e h =
      let k = two_true (branch_closed b.0) (all_closed (map branch_closed (plain_branches bs))) e in
      both_true (ends (branch_of b.0).1) (ends (branches_tree (map branch_of (plain_branches bs)) q)) (b.1 k.0) (branches_end bs q k.1 h)

  if_ends : (bs : List BranchPair) (q : Seq) → all_closed (map branch_closed (plain_branches bs)) ≡ true → ends q ≡ true → stmt_ends (if_tree (map branch_of (plain_branches bs)) q) ≡ true
  if_ends [] q e h = h
  if_ends (b ∷ bs) q e h =
      let k = two_true (branch_closed b.0) (all_closed (map branch_closed (plain_branches bs))) e in
      both_true (ends (branch_of b.0).1) (ends (branches_tree (map branch_of (plain_branches bs)) q)) (b.1 k.0) (branches_end bs q k.1 h)

  return_ends : (v : Option Value) → stmt_ends (return_tree c v) ≡ true
  return_ends None = refl
  return_ends (Some v) = refl

  start_goes : (i : ℕ) (v : Option Value) → stmt_ends (start_tree c i v) ≡ false
  start_goes i None = refl
  start_goes i (Some v) = refl

  starts_end : (ds : List LocalStart) (q : Seq) → ends (starts_tree c ds q) ≡ ends q
  starts_end [] q = refl
  starts_end (d ∷ ds) q = ap (λ (b : Bool). seq_ends b (starts_tree c ds q)) (start_goes d.local d.start) ∙ starts_end ds q

  -- ---- one level

  abbrev plain_stat : Stat-F StatPair BodyPair BranchPair LinePair → Stat-F Stat Body Branch Labelled
  plain_stat y = map-Stat StatPair BodyPair BranchPair LinePair Stat Body Branch Labelled (λ e. e.0) (λ e. e.0) (λ e. e.0) (λ e. e.0) y

  abbrev stat_closes : Stat-F Stat Body Branch Labelled → Bool
  stat_closes l = closed_stat (map-Stat Stat Body Branch Labelled Bool Bool Bool (Option Bool) stat_closed closed branch_closed labelled_closed l)

  abbrev stat_trees : Stat-F Stat Body Branch Labelled → Stmt
  stat_trees l = stat_tree c (map-Stat Stat Body Branch Labelled Stmt Seq (Cond × Seq) (Seq → Seq) stat_of (body_tree c) branch_of line_of l)

  stat_as : (a : Stat) (l : Stat-F Stat Body Branch Labelled) → out-Stat a ≡ l → (stat_closes l ≡ true → stmt_ends (stat_trees l) ≡ true) → StatEnds a
  stat_as a l o h =
      let part : stat_closed a ≡ stat_closes l = rw (fold_out-Stat, o) refl in
      let tree : stat_of a ≡ stat_trees l = rw (fold_out-Stat, o) refl in
      rw (part, tree) h

  stat_level : (y : Stat-F StatPair BodyPair BranchPair LinePair) → stat_closes (plain_stat y) ≡ true → stmt_ends (stat_trees (plain_stat y)) ≡ true
  stat_level (Stat-F.Return v) e = return_ends v
  stat_level (Stat-F.Goto l) e = refl
  stat_level (Stat-F.Block b) e = b.1 e
  stat_level (Stat-F.If bs None) e = let k = two_true (all_closed (map branch_closed (plain_branches bs))) false e in absurd (never k.1)
    where
      never : false ≡ true → ⊥
      never e = cc
  stat_level (Stat-F.If bs (Some xs)) e =
      let k = two_true (all_closed (map branch_closed (plain_branches bs))) (closed_sequence (map labelled_closed (plain_lines xs))) e in
      if_ends bs (sequence_tree (map line_of (plain_lines xs))) k.0 (sequence_ends xs k.1)
  stat_level _ e = absurd cc

  body_level : (b : Body) (y : Body-F StatPair BodyPair BranchPair LinePair)
      → out-Body b ≡ map-Body StatPair BodyPair BranchPair LinePair Stat Body Branch Labelled (λ e. e.0) (λ e. e.0) (λ e. e.0) (λ e. e.0) y → BodyEnds b
  body_level b y o =
      let part : closed b ≡ closed_sequence (map labelled_closed (plain_lines y.statements)) = rw (fold_out-Body, o) refl in
      let tree : body_tree c b ≡ starts_tree c y.locals (sequence_tree (map line_of (plain_lines y.statements))) = rw (fold_out-Body, o) refl in
      rw (part, tree) (λ e. starts_end y.locals (sequence_tree (map line_of (plain_lines y.statements))) ∙ sequence_ends y.statements e)

  branch_level : (b : Branch) (y : Branch-F StatPair BodyPair BranchPair LinePair)
      → out-Branch b ≡ map-Branch StatPair BodyPair BranchPair LinePair Stat Body Branch Labelled (λ e. e.0) (λ e. e.0) (λ e. e.0) (λ e. e.0) y → BranchEnds b
  branch_level b y o =
      let part : branch_closed b ≡ closed_sequence (map labelled_closed (plain_lines y.taken)) = rw (fold_out-Branch, o) refl in
      let tree : branch_of b ≡ ((tested c y.test).tree, sequence_tree (map line_of (plain_lines y.taken))) = rw (fold_out-Branch, o) refl in
      rw (part, tree) (λ e. sequence_ends y.taken e)

  by_line : (ls : List ℕ) (o : Option Bool) (k j : Bool) (xs : List (Option Bool)) (q : Seq) (a : Option Stmt) → Known k j → Ends xs q → (o ≡ None → a ≡ None) → ((b : Bool) → o ≡ Some b → (d : Stmt) × (a ≡ Some d) × Known b (stmt_ends d)) → closed_after k (closed_labelled ls o ∷ xs) ≡ true → seq_ends j (labelled_tree ls a q) ≡ true
  by_line [] None k j xs q a h f n s e = subst (λ (z : Option Stmt). seq_ends j (labelled_tree [] z q) ≡ true) (sym (n refl)) (f k j h e)
  by_line [] (Some b) k j xs q a h f n s e = let d = s b refl in subst (λ (z : Option Stmt). seq_ends j (labelled_tree [] z q) ≡ true) (sym d.1) (f b (stmt_ends d.0) d.2 e)
  by_line (l ∷ ls) None k j xs q a h f n s e = subst (λ (z : Option Stmt). seq_ends j (labelled_tree (l ∷ ls) z q) ≡ true) (sym (n refl)) (marks_end ls l j q ∙ f false false (λ z. z) e)
  by_line (l ∷ ls) (Some b) k j xs q a h f n s e = let d = s b refl in subst (λ (z : Option Stmt). seq_ends j (labelled_tree (l ∷ ls) z q) ≡ true) (sym d.1) (marks_end ls l j (Then d.0 q) ∙ f b (stmt_ends d.0) d.2 e)

  line_cases : (z : Labelled) (y : Labelled-F StatPair BodyPair BranchPair LinePair) (k : Option StatPair) → y.stat ≡ k
      → out-Labelled z ≡ map-Labelled StatPair BodyPair BranchPair LinePair Stat Body Branch Labelled (λ e. e.0) (λ e. e.0) (λ e. e.0) (λ e. e.0) y → LineEnds z
  line_cases z y None e o xs q f k j h t =
      let part : labelled_closed z ≡ closed_labelled y.labels None = rw (fold_out-Labelled, o, e) refl in
      let tree : line_of z ≡ labelled_tree y.labels None = rw (fold_out-Labelled, o, e) refl in
      let there = rw part at t in
      rw tree (by_line y.labels None k j xs q None h f (λ n. refl) (λ b n. absurd cc) there)
  line_cases z y (Some d) e o xs q f k j h t =
      let part : labelled_closed z ≡ closed_labelled y.labels (Some (stat_closed d.0)) = rw (fold_out-Labelled, o, e) refl in
      let tree : line_of z ≡ labelled_tree y.labels (Some (stat_of d.0)) = rw (fold_out-Labelled, o, e) refl in
      let there = rw part at t in
      rw tree (by_line y.labels (Some (stat_closed d.0)) k j xs q (Some (stat_of d.0)) h f (λ n. absurd cc) (λ b n. (stat_of d.0, refl, λ v. d.1 (let is : stat_closed d.0 ≡ b = cc in is ∙ v))) there)

  rolled_stat : (z : Stat-F Stat Body Branch Labelled) → out-Stat (roll-Stat z) ≡ z
  rolled_stat z = search stats.the_lemmas

  rolled_body : (z : Body-F Stat Body Branch Labelled) → out-Body (roll-Body z) ≡ z
  rolled_body z = search bodies.the_lemmas

  rolled_branch : (z : Branch-F Stat Body Branch Labelled) → out-Branch (roll-Branch z) ≡ z
  rolled_branch z = search branches.the_lemmas

  rolled_line : (z : Labelled-F Stat Body Branch Labelled) → out-Labelled (roll-Labelled z) ≡ z
  rolled_line z = search lines.the_lemmas

  pub body_ends : (b : Body) → BodyEnds b
  body_ends = ind-Body StatEnds BodyEnds BranchEnds LineEnds (λ z y is. stat_as (roll-Stat z) (plain_stat y) (rolled_stat z ∙ sym is) (stat_level y)) (λ z y is. body_level (roll-Body z) y (rolled_body z ∙ sym is))
      (λ z y is. branch_level (roll-Branch z) y (rolled_branch z ∙ sym is)) (λ z y is. line_cases (roll-Labelled z) y y.stat refl (rolled_line z ∙ sym is))
