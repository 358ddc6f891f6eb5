-- The locals of a body that fits are no more than its nodes give room for.
use Rattle.std.proofs.Common.{◌≡◌, ◌⊎◌, inl, inr, ℕ, suc, ◌+◌, ◌≤◌, ◌==◌, Bool, true, false, ◌&&◌, if◌then◌else◌, List, [], ◌∷◌, length, map, Option, Some, None, slice_get, refl, sym, ◌∙◌, arith}
use Rattle.std.proofs.lemmas.Bool.{and_parts}
use Rattle.std.proofs.lemmas.Bool.Decides.{eqb_tells}
use Rattle.rt_tree_nodes.specs.declared.statement.Body.{Body, out-Body, roll-Body, map-Body}
use Rattle.rt_tree_nodes.specs.declared.statement.Body as bodies
use Rattle.rt_tree_nodes.specs.declared.statement.Branch.{Branch, out-Branch, roll-Branch, map-Branch}
use Rattle.rt_tree_nodes.specs.declared.statement.Branch as branches
use Rattle.rt_tree_nodes.specs.declared.statement.Labelled.{Labelled, out-Labelled, roll-Labelled, map-Labelled}
use Rattle.rt_tree_nodes.specs.declared.statement.Labelled as lines
use Rattle.rt_tree_nodes.specs.declared.statement.LocalStart.{LocalStart}
use Rattle.rt_tree_nodes.specs.declared.statement.Stat.{Stat, out-Stat, roll-Stat, map-Stat}
use Rattle.rt_tree_nodes.specs.declared.statement.Stat as stats
use Rattle.rt_tree_nodes.specs.declared.statement.Stat.TheFolds.{ind-Body, fold-Stat, fold-Branch, fold-Labelled, fold_out-Stat, fold_out-Body, fold_out-Branch, fold_out-Labelled}
use Rattle.rt_tree_nodes.specs.declared.statement.Stat.TheOpen.{Stat-F, Body-F, Branch-F, Labelled-F}
use Rattle.rt_tree_nodes.specs.declared.value.Value.{Value}
use Rattle.rt_tree_nodes.specs.Scopes.{Scope, with, only, passes, scope_of, with_locals}
use Rattle.rt_tree_nodes.specs.Tree.{Cond, Stmt, Seq, Done, Then}
use Rattle.rt_tree.specs.Modules.{parameters_first, numbers_all, numbers_behind, is_last, closes, first_sight}
use Rattle.rt_tree.specs.Statements as S
use Rattle.rt_tree.specs.Statements.{Marked, Sight, tested, nothing, then_part, where_it_holds, in_order, labels_end, sight_with, labels_from, next_by, sequence, branches_in_order, otherwise, marked, marks, labelled_tree, sequence_tree, otherwise_tree, branches_tree, if_tree, start_tree, starts_tree, stat_tree, body_tree, declares, start_fits, takes_three}
use Rattle.rt_lower_laws.specs.Laws.{room, room_in, LocalsHaveRoom}

some_with : {A B : Type 0} (o : Option A) (go : A → Option B) (m : B) → with o go ≡ Some m → (x : A) × (o ≡ Some x) × (go x ≡ Some m)
some_with None go m e = absurd cc
some_with (Some x) go m e = (x, refl, e)

-- what passes a test
passed : {A : Type 0} (test : A → Bool) (o : Option A) → passes test o ≡ true → (x : A) × (o ≡ Some x) × (test x ≡ true)
passed test None h = absurd cc
passed test (Some x) h = (x, refl, h)

only_is : {A : Type 0} (b : Bool) (n m : A) → only b n ≡ Some m → n ≡ m
only_is true n m e = cc
only_is false n m e = absurd cc

some_is : {A : Type 0} (n m : A) → Some n ≡ Some m → n ≡ m
some_is n m e = cc

some_if : {A : Type 0} (b : Bool) (o : Option A) (m : A) → (if b then o else None) ≡ Some m → (b ≡ true) × (o ≡ Some m)
some_if true o m e = (refl, e)
some_if false o m e = absurd cc

-- ---- plain trees

marks_room : (ls : List ℕ) (q : Seq) → room_in (marks ls q) ≡ room_in q
marks_room [] q = refl
marks_room (l ∷ ls) q = marks_room ls q

abbrev Trees : Type 0
Trees = List (Cond × Seq)

branches_room : Trees → ℕ
branches_room [] = 0
branches_room (b ∷ bs) = room_in b.1 + branches_room bs

behind_room : (bs : Trees) (e : Seq) → room_in (branches_tree bs e) ≡ branches_room bs + room_in e
unfolding branches_room
behind_room [] e = omega arith
behind_room (b ∷ bs) e = let rest = behind_room bs e in omega (arith, rest)

if_room : (bs : Trees) (e : Seq) → room (if_tree bs e) ≡ branches_room bs + room_in e
unfolding branches_room
if_room [] e = omega arith
if_room (b ∷ bs) e = let rest = behind_room bs e in omega (arith, rest)

start_room : (c : Scope) (i : ℕ) (v : Option Value) → room (start_tree c i v) ≡ 1
start_room c i None = refl
start_room c i (Some v) = refl

module _ (c : Scope) where
  abbrev body_alg : Body-F Stmt Seq (Cond × Seq) (Seq → Seq) → Seq
  body_alg b = starts_tree c b.locals (sequence_tree b.statements)

  abbrev branch_alg : Branch-F Stmt Seq (Cond × Seq) (Seq → Seq) → Cond × Seq
  branch_alg b = ((tested c b.test).tree, sequence_tree b.taken)

  abbrev line_alg : Labelled-F Stmt Seq (Cond × Seq) (Seq → Seq) → Seq → Seq
  line_alg x = labelled_tree x.labels x.stat

  abbrev stat_of : Stat → Stmt
  stat_of = fold-Stat Stmt Seq (Cond × Seq) (Seq → Seq) (stat_tree c) body_alg branch_alg line_alg

  abbrev branch_of : Branch → Cond × Seq
  branch_of = fold-Branch Stmt Seq (Cond × Seq) (Seq → Seq) (stat_tree c) body_alg branch_alg line_alg

  abbrev line_of : Labelled → Seq → Seq
  line_of = fold-Labelled Stmt Seq (Cond × Seq) (Seq → Seq) (stat_tree c) body_alg branch_alg line_alg

  -- from the number of locals before to that behind, where a part fits
  abbrev Within : S.Part → ℕ → Type 0
  Within part k = (g : Sight) (n m : _) → part g n ≡ Some m → m.local ≤ n.local + k

  abbrev StatRoom : Stat → Type 0
  StatRoom s = Within (S.stat_part c s) (room (stat_of s))

  abbrev BodyRoom : Body → Type 0
  BodyRoom b = Within (S.body_part c b) (room_in (body_tree c b))

  abbrev BranchRoom : Branch → Type 0
  BranchRoom b = Within (S.branch_part c b) (room_in (branch_of b).1)

  -- a statement with its labels, and what stands behind it
  abbrev LineRoom : Labelled → Type 0
  LineRoom x = (g : Sight) (n m : _) → (marked c x).part g n ≡ Some m → (q : Seq) → m.local + room_in q ≤ n.local + room_in (line_of x q)

  abbrev StatPair : Type 0
  StatPair = (s : Stat) × StatRoom s

  abbrev BodyPair : Type 0
  BodyPair = (b : Body) × BodyRoom b

  abbrev BranchPair : Type 0
  BranchPair = (b : Branch) × BranchRoom b

  abbrev LinePair : Type 0
  LinePair = (x : Labelled) × LineRoom x

  abbrev plain_lines : List LinePair → List Labelled
  plain_lines xs = map (λ (e : LinePair). e.0) xs

  abbrev plain_branches : List BranchPair → List Branch
  plain_branches bs = map (λ (e : BranchPair). e.0) bs

  -- ---- locals of a body

  starts_room : (ds : List LocalStart) (n m : _) (q : Seq) → declares c ds n ≡ Some m → m.local + room_in q ≤ n.local + room_in (starts_tree c ds q)
  starts_room [] n m q e = let one : n ≡ m = some_is n m e in let same : n.local ≡ m.local = cc in omega (arith, same)
  starts_room (d ∷ ds) n m q e =
      let parts = some_if (d.local == n.local && start_fits c (slice_get c.locals d.local) d.start) (declares c ds (next_by n.label (suc n.local))) m e in
      let rest = starts_room ds (next_by n.label (suc n.local)) m q parts.1 in
      omega (arith, rest, start_room c d.local d.start)

  three_more : (i : ℕ) (n m : _) → takes_three c i n ≡ Some m → m.local ≡ n.local + 3
  three_more i n m e =
      let parts = some_if (i == n.local && _) (Some (next_by n.label (i + 3))) m e in
      let first = and_parts (i == n.local) _ parts.0 in
      let one : next_by n.label (i + 3) ≡ m = some_is (next_by n.label (i + 3)) m parts.1 in
      let same : i + 3 ≡ m.local = cc in
      by (eqb_tells i n.local) first.0 same where
        by : ((i == n.local) ≡ true) × (i ≡ n.local) ⊎ ((i == n.local) ≡ false) × (i ≡ n.local → ⊥) → (i == n.local) ≡ true → i + 3 ≡ m.local → m.local ≡ n.local + 3
        by (inl h) f k = omega (arith, h.1, k)
        by (inr h) f k = absurd (let bad : true ≡ false = sym f ∙ h.0 in cc)

  -- ---- sequences and branches

  order_room : (xs : List LinePair) → Within (in_order (map (marked c) (plain_lines xs))) (room_in (sequence_tree (map line_of (plain_lines xs))))
  order_room [] g n m e = let one : n ≡ m = some_is n m e in let same : n.local ≡ m.local = cc in omega (arith, same)
  order_room (x ∷ xs) g n m e =
      let t = some_with ((marked c x.0).part g n) (in_order (map (marked c) (plain_lines xs)) g) m e in
      let rest = order_room xs g t.0 m t.2 in
      let first = x.1 g n t.0 t.1 (sequence_tree (map line_of (plain_lines xs))) in
      omega (arith, rest, first)

  sequence_room : (xs : List LinePair) → Within (sequence (map (marked c) (plain_lines xs))) (room_in (sequence_tree (map line_of (plain_lines xs))))
  sequence_room xs g n m e = let t = some_with (labels_end n.label (map (marked c) (plain_lines xs))) _ m e in order_room xs (sight_with g (labels_from n.label t.0)) (next_by t.0 n.local) m t.2

  branches_within : (bs : List BranchPair) → Within (branches_in_order (map (S.branch_part c) (plain_branches bs))) (branches_room (map branch_of (plain_branches bs)))
  unfolding branches_room
  branches_within [] g n m e = let one : n ≡ m = some_is n m e in let same : n.local ≡ m.local = cc in omega (arith, same)
  branches_within (b ∷ bs) g n m e =
      let t = some_with (S.branch_part c b.0 g n) (branches_in_order (map (S.branch_part c) (plain_branches bs)) g) m e in
      let first = b.1 g n t.0 t.1 in
      let rest = branches_within bs g t.0 m t.2 in
      omega (arith, first, rest)

  if_within : (bs : List BranchPair) (e : Seq) (part : S.Part) (b : Bool) → Within part (room_in e)
      → Within (then_part (where_it_holds b) (then_part (branches_in_order (map (S.branch_part c) (plain_branches bs))) part)) (room (if_tree (map branch_of (plain_branches bs)) e))
  if_within bs e part b h g n m f =
      let t = some_with (where_it_holds b g n) _ m f in
      let u = some_with (branches_in_order (map (S.branch_part c) (plain_branches bs)) g t.0) (part g) m t.2 in
      let u0 = t.0 in let one : n ≡ u0 = only_is b n t.0 t.1 in let same : n.local ≡ u0.local = cc in
      let first = branches_within bs g t.0 u.0 u.1 in
      let last = h g u.0 m u.2 in
      let all = if_room (map branch_of (plain_branches bs)) e in
      omega (arith, same, first, last, all)

  loop_within : (i : ℕ) (xs : List LinePair) (b : Bool) → Within (then_part (where_it_holds b) (λ s k. with (takes_three c i k) (sequence (map (marked c) (plain_lines xs)) s))) (3 + room_in (sequence_tree (map line_of (plain_lines xs))))
  loop_within i xs b g n m f =
      let t = some_with (where_it_holds b g n) _ m f in
      let u = some_with (takes_three c i t.0) (sequence (map (marked c) (plain_lines xs)) g) m t.2 in
      let u0 = t.0 in let one : n ≡ u0 = only_is b n t.0 t.1 in let same : n.local ≡ u0.local = cc in
      let three = three_more i t.0 u.0 u.1 in
      let rest = sequence_room xs g u.0 m u.2 in
      omega (arith, same, three, rest)

  -- ---- one level

  abbrev plain_stat : Stat-F StatPair BodyPair BranchPair LinePair → Stat-F Stat Body Branch Labelled
  plain_stat y = map-Stat StatPair BodyPair BranchPair LinePair Stat Body Branch Labelled (λ e. e.0) (λ e. e.0) (λ e. e.0) (λ e. e.0) y

  abbrev stat_parts : Stat-F Stat Body Branch Labelled → S.Part
  stat_parts l = S.one_stat c (map-Stat Stat Body Branch Labelled S.Part S.Part S.Part Marked (S.stat_part c) (S.body_part c) (S.branch_part c) (marked c) l)

  abbrev stat_trees : Stat-F Stat Body Branch Labelled → Stmt
  stat_trees l = stat_tree c (map-Stat Stat Body Branch Labelled Stmt Seq (Cond × Seq) (Seq → Seq) stat_of (body_tree c) branch_of line_of l)

  abbrev LevelRoom : Stat-F Stat Body Branch Labelled → Type 0
  LevelRoom l = Within (stat_parts l) (room (stat_trees l))

  stat_as : (s : Stat) (l : Stat-F Stat Body Branch Labelled) → out-Stat s ≡ l → LevelRoom l → StatRoom s
  stat_as s l o h =
      let part : S.stat_part c s ≡ stat_parts l = rw (fold_out-Stat, o) refl in
      let tree : stat_of s ≡ stat_trees l = rw (fold_out-Stat, o) refl in
      rw (part, tree) h

  still : (b : Bool) (k : ℕ) (g : Sight) (n m : _) → where_it_holds b g n ≡ Some m → m.local ≤ n.local + k
  still b k g n m e = let one : n ≡ m = only_is b n m e in let same : n.local ≡ m.local = cc in omega (arith, same)

  stat_level : (y : Stat-F StatPair BodyPair BranchPair LinePair) → LevelRoom (plain_stat y)
  stat_level (Stat-F.Call v) g n m h = still _ _ g n m h
  stat_level (Stat-F.Assign q v) g n m h = still _ _ g n m h
  stat_level (Stat-F.Goto l) g n m h = still _ _ g n m h
  stat_level (Stat-F.Return v) g n m h = still _ _ g n m h
  stat_level (Stat-F.Switch v ls) g n m h = still _ _ g n m h
  stat_level (Stat-F.Block b) g n m h = b.1 g n m h
  stat_level (Stat-F.If bs None) g n m h = if_within bs Done nothing _ (λ s k j e. let one : k ≡ j = some_is k j e in let same : k.local ≡ j.local = cc in omega (arith, same)) g n m h
  stat_level (Stat-F.If bs (Some xs)) g n m h = if_within bs (sequence_tree (map line_of (plain_lines xs))) (sequence (map (marked c) (plain_lines xs))) _ (sequence_room xs) g n m h
  stat_level (Stat-F.For i start step end xs) g n m h = loop_within i xs _ g n m h
  stat_level (Stat-F.To i k xs) g n m h = loop_within i xs _ g n m h
  stat_level (Stat-F.While t xs) g n m h =
      let u = some_with (where_it_holds (tested c t).fits g n) _ m h in
      let u0 = u.0 in let one : n ≡ u0 = only_is (tested c t).fits n u.0 u.1 in let same : n.local ≡ u0.local = cc in
      let rest = sequence_room xs g u.0 m u.2 in
      omega (arith, same, rest)
  stat_level (Stat-F.Recover l) g n m h = still _ _ g n m h

  body_level : (b : Body) (y : Body-F StatPair BodyPair BranchPair LinePair)
      → out-Body b ≡ map-Body StatPair BodyPair BranchPair LinePair Stat Body Branch Labelled (λ e. e.0) (λ e. e.0) (λ e. e.0) (λ e. e.0) y → BodyRoom b
  body_level b y o =
      let part : S.body_part c b ≡ (λ g n. with (declares c y.locals n) (sequence (map (marked c) (plain_lines y.statements)) g)) = rw (fold_out-Body, o) refl in
      let tree : body_tree c b ≡ starts_tree c y.locals (sequence_tree (map line_of (plain_lines y.statements))) = rw (fold_out-Body, o) refl in
      rw (part, tree) (λ g n m h.
      let q = sequence_tree (map line_of (plain_lines y.statements)) in
      let t = some_with (declares c y.locals n) (sequence (map (marked c) (plain_lines y.statements)) g) m h in
      let first = starts_room y.locals n t.0 q t.1 in
      let rest = sequence_room y.statements g t.0 m t.2 in
      omega (arith, first, rest))

  branch_level : (b : Branch) (y : Branch-F StatPair BodyPair BranchPair LinePair)
      → out-Branch b ≡ map-Branch StatPair BodyPair BranchPair LinePair Stat Body Branch Labelled (λ e. e.0) (λ e. e.0) (λ e. e.0) (λ e. e.0) y → BranchRoom b
  branch_level b y o =
      let part : S.branch_part c b ≡ then_part (where_it_holds (tested c y.test).fits) (sequence (map (marked c) (plain_lines y.taken))) = rw (fold_out-Branch, o) refl in
      let tree : branch_of b ≡ ((tested c y.test).tree, sequence_tree (map line_of (plain_lines y.taken))) = rw (fold_out-Branch, o) refl in
      rw (part, tree) (λ g n m h.
      let u = some_with (where_it_holds (tested c y.test).fits g n) _ m h in
      let u0 = u.0 in let one : n ≡ u0 = only_is (tested c y.test).fits n u.0 u.1 in let same : n.local ≡ u0.local = cc in
      let rest = sequence_room y.taken g u.0 m u.2 in
      omega (arith, same, rest))

  line_cases : (x : Labelled) (y : Labelled-F StatPair BodyPair BranchPair LinePair) (s : Option StatPair) → y.stat ≡ s
      → out-Labelled x ≡ map-Labelled StatPair BodyPair BranchPair LinePair Stat Body Branch Labelled (λ e. e.0) (λ e. e.0) (λ e. e.0) (λ e. e.0) y → LineRoom x
  line_cases x y None e o g n m h q =
      let part : (marked c x).part ≡ nothing = rw (fold_out-Labelled, o, e) refl in
      let tree : line_of x ≡ (λ z. marks y.labels z) = rw (fold_out-Labelled, o, e) refl in
      let f = rw part at h in
      let one : n ≡ m = some_is n m f in let same : n.local ≡ m.local = cc in
      rw (tree, marks_room y.labels q) (omega (arith, same))
  line_cases x y (Some s) e o g n m h q =
      let part : (marked c x).part ≡ S.stat_part c s.0 = rw (fold_out-Labelled, o, e) refl in
      let tree : line_of x ≡ (λ z. marks y.labels (Then (stat_of s.0) z)) = rw (fold_out-Labelled, o, e) refl in
      let f = rw part at h in
      let inside = s.1 g n m f in
      rw (tree, marks_room y.labels (Then (stat_of s.0) q)) (omega (arith, inside))

  line_level : (x : Labelled) (y : Labelled-F StatPair BodyPair BranchPair LinePair)
      → out-Labelled x ≡ map-Labelled StatPair BodyPair BranchPair LinePair Stat Body Branch Labelled (λ e. e.0) (λ e. e.0) (λ e. e.0) (λ e. e.0) y → LineRoom x
  line_level x y o = line_cases x y y.stat refl o

  rolled_stat : (x : Stat-F Stat Body Branch Labelled) → out-Stat (roll-Stat x) ≡ x
  rolled_stat x = search stats.the_lemmas

  rolled_body : (x : Body-F Stat Body Branch Labelled) → out-Body (roll-Body x) ≡ x
  rolled_body x = search bodies.the_lemmas

  rolled_branch : (x : Branch-F Stat Body Branch Labelled) → out-Branch (roll-Branch x) ≡ x
  rolled_branch x = search branches.the_lemmas

  rolled_line : (x : Labelled-F Stat Body Branch Labelled) → out-Labelled (roll-Labelled x) ≡ x
  rolled_line x = search lines.the_lemmas

  pub body_room : (b : Body) → BodyRoom b
  body_room = ind-Body StatRoom BodyRoom BranchRoom LineRoom (λ x y is. stat_as (roll-Stat x) (plain_stat y) (rolled_stat x ∙ sym is) (stat_level y)) (λ x y is. body_level (roll-Body x) y (rolled_body x ∙ sym is))
      (λ x y is. branch_level (roll-Branch x) y (rolled_branch x ∙ sym is)) (λ x y is. line_level (roll-Labelled x) y (rolled_line x ∙ sym is))

pub locals_have_room : LocalsHaveRoom
locals_have_room p ms r b h =
    let c = scope_of p in
    let first = and_parts (parameters_first ms b.locals) _ h in
    let second = and_parts _ _ first.1 in
    let third = and_parts (numbers_all c (length ms) r b) (closes r b.body) second.1 in
    let last = passed (is_last b) (numbers_behind (with_locals c b.locals) (length ms) r b.body) third.0 in
    let both = and_parts _ (last.0.local == length b.locals) last.2 in
    let outermost = some_with (labels_end 0 (map (marked (with_locals c b.locals)) (out-Body b.body).statements)) _ last.0 last.1 in
    let all = body_room (with_locals c b.locals) b.body (first_sight r outermost.0) (next_by 0 (length ms)) last.0 outermost.2 in
    by (eqb_tells last.0.local (length b.locals)) both.1 all where
      by : {n k j : ℕ} → ((n == k) ≡ true) × (n ≡ k) ⊎ ((n == k) ≡ false) × (n ≡ k → ⊥) → (n == k) ≡ true → n ≤ j → k ≤ j
      by (inl g) f l = omega (arith, g.1, l)
      by (inr g) f l = absurd (let bad : true ≡ false = sym f ∙ g.0 in cc)
