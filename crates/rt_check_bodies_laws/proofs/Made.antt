-- What the trees of statements are, by the form of each.
use Rattle.std.proofs.Common.{◌≡◌, ℕ, List, Option, Some, None, option_map, map, refl}
use Rattle.rt_tree_nodes.specs.declared.statement.Body.{Body, out-Body, roll-Body}
use Rattle.rt_tree_nodes.specs.declared.statement.Body as body_lemmas
use Rattle.rt_tree_nodes.specs.declared.statement.Branch.{Branch, out-Branch, roll-Branch}
use Rattle.rt_tree_nodes.specs.declared.statement.Branch as branch_lemmas
use Rattle.rt_tree_nodes.specs.declared.statement.Labelled.{Labelled, out-Labelled, roll-Labelled, map-Labelled}
use Rattle.rt_tree_nodes.specs.declared.statement.Labelled as labelled_lemmas
use Rattle.rt_tree_nodes.specs.declared.statement.LocalStart.{LocalStart}
use Rattle.rt_tree_nodes.specs.declared.statement.Stat.{Stat, out-Stat, map-Stat}
use Rattle.rt_tree_nodes.specs.declared.statement.Stat as stat_lemmas
use Rattle.rt_tree_nodes.specs.declared.statement.Stat.TheFolds.{fold-Stat, fold-Branch, fold-Labelled, fold_out-Stat, fold_out-Body, fold_out-Branch, fold_out-Labelled}
use Rattle.rt_tree_nodes.specs.declared.statement.Stat.TheOpen.{Stat-F, Body-F, Branch-F, Labelled-F}
use Rattle.rt_tree_nodes.specs.declared.statement.Stat.TheVariants as stats
use Rattle.rt_tree_nodes.specs.declared.statement.Test.{Test}
use Rattle.rt_tree_nodes.specs.declared.value.Place.{Place}
use Rattle.rt_tree_nodes.specs.declared.value.Value.{Value}
use Rattle.rt_tree_nodes.specs.Scopes.{Scope}
use Rattle.rt_tree_nodes.specs.Tree.{Cond, Stmt, Goto, GiveBack, Back, Switch, Inner, For, To, While, Seq}
use Rattle.rt_tree_nodes.specs.Typing.{placed, valued}
use Rattle.rt_tree.specs.Statements.{stat_tree, body_tree, starts_tree, sequence_tree, labelled_tree, if_tree, otherwise_tree, call_tree, assigned_tree, step_tree, tested}

module _ (c : Scope) where
  abbrev body_by : Body-F Stmt Seq (Cond × Seq) (Seq → Seq) → Seq
  body_by b = starts_tree c b.locals (sequence_tree b.statements)

  abbrev branch_by : Branch-F Stmt Seq (Cond × Seq) (Seq → Seq) → Cond × Seq
  branch_by b = ((tested c b.test).tree, sequence_tree b.taken)

  abbrev line_by : Labelled-F Stmt Seq (Cond × Seq) (Seq → Seq) → Seq → Seq
  line_by x = labelled_tree x.labels x.stat

  -- the trees of statements, branches and statements with their labels
  abbrev pub stat_of : Stat → Stmt
  stat_of = fold-Stat Stmt Seq (Cond × Seq) (Seq → Seq) (stat_tree c) body_by branch_by line_by

  abbrev pub branch_of : Branch → Cond × Seq
  branch_of = fold-Branch Stmt Seq (Cond × Seq) (Seq → Seq) (stat_tree c) body_by branch_by line_by

  abbrev pub line_of : Labelled → Seq → Seq
  line_of = fold-Labelled Stmt Seq (Cond × Seq) (Seq → Seq) (stat_tree c) body_by branch_by line_by

  stat_at : (x : Stat) (l : Stat-F Stat Body Branch Labelled) → out-Stat x ≡ l
      → stat_of x ≡ stat_tree c (map-Stat Stat Body Branch Labelled Stmt Seq (Cond × Seq) (Seq → Seq) stat_of (body_tree c) branch_of line_of l)
  stat_at x l o = rw (fold_out-Stat, o) refl

  pub made_call : (v : Value) → stat_of (stats.Call v) ≡ call_tree (valued c v)
  made_call v = let o : out-Stat (stats.Call v) ≡ Stat-F.Call v = search stat_lemmas.the_lemmas in stat_at (stats.Call v) (Stat-F.Call v) o

  pub made_assign : (p : Place) (v : Value) → stat_of (stats.Assign p v) ≡ assigned_tree (placed c p) (valued c v).tree
  made_assign p v = let o : out-Stat (stats.Assign p v) ≡ Stat-F.Assign p v = search stat_lemmas.the_lemmas in stat_at (stats.Assign p v) (Stat-F.Assign p v) o

  pub made_goto : (l : ℕ) → stat_of (stats.Goto l) ≡ Goto l
  made_goto l = let o : out-Stat (stats.Goto l) ≡ Stat-F.Goto l = search stat_lemmas.the_lemmas in stat_at (stats.Goto l) (Stat-F.Goto l) o

  pub made_back : stat_of (stats.Return None) ≡ Back
  made_back = let o : out-Stat (stats.Return None) ≡ Stat-F.Return None = search stat_lemmas.the_lemmas in stat_at (stats.Return None) (Stat-F.Return None) o

  pub made_return : (v : Value) → stat_of (stats.Return (Some v)) ≡ GiveBack (valued c v).tree
  made_return v = let o : out-Stat (stats.Return (Some v)) ≡ Stat-F.Return (Some v) = search stat_lemmas.the_lemmas in stat_at (stats.Return (Some v)) (Stat-F.Return (Some v)) o

  pub made_switch : (v : Value) (ls : List ℕ) → stat_of (stats.Switch v ls) ≡ Switch (valued c v).tree ls
  made_switch v ls = let o : out-Stat (stats.Switch v ls) ≡ Stat-F.Switch v ls = search stat_lemmas.the_lemmas in stat_at (stats.Switch v ls) (Stat-F.Switch v ls) o

  pub made_block : (b : Body) → stat_of (stats.Block b) ≡ Inner (body_tree c b)
  made_block b = let o : out-Stat (stats.Block b) ≡ Stat-F.Block b = search stat_lemmas.the_lemmas in stat_at (stats.Block b) (Stat-F.Block b) o

  pub made_while : (t : Test) (xs : List Labelled) → stat_of (stats.While t xs) ≡ While (tested c t).tree (sequence_tree (map line_of xs))
  made_while t xs = let o : out-Stat (stats.While t xs) ≡ Stat-F.While t xs = search stat_lemmas.the_lemmas in stat_at (stats.While t xs) (Stat-F.While t xs) o

  pub made_to : (i : ℕ) (n : Value) (xs : List Labelled) → stat_of (stats.To i n xs) ≡ To i (valued c n).tree (sequence_tree (map line_of xs))
  made_to i n xs = let o : out-Stat (stats.To i n xs) ≡ Stat-F.To i n xs = search stat_lemmas.the_lemmas in stat_at (stats.To i n xs) (Stat-F.To i n xs) o

  pub made_for : (i : ℕ) (a : Value) (b : Option Value) (d : Value) (xs : List Labelled) → stat_of (stats.For i a b d xs) ≡ For i (valued c a).tree (step_tree c b) (valued c d).tree (sequence_tree (map line_of xs))
  made_for i a None d xs = let o : out-Stat (stats.For i a None d xs) ≡ Stat-F.For i a None d xs = search stat_lemmas.the_lemmas in stat_at (stats.For i a None d xs) (Stat-F.For i a None d xs) o
  made_for i a (Some b) d xs = let o : out-Stat (stats.For i a (Some b) d xs) ≡ Stat-F.For i a (Some b) d xs = search stat_lemmas.the_lemmas in stat_at (stats.For i a (Some b) d xs) (Stat-F.For i a (Some b) d xs) o

  pub made_if : (bs : List Branch) → stat_of (stats.If bs None) ≡ if_tree (map branch_of bs) (otherwise_tree None)
  made_if bs = let o : out-Stat (stats.If bs None) ≡ Stat-F.If bs None = search stat_lemmas.the_lemmas in stat_at (stats.If bs None) (Stat-F.If bs None) o

  pub made_else : (bs : List Branch) (xs : List Labelled) → stat_of (stats.If bs (Some xs)) ≡ if_tree (map branch_of bs) (sequence_tree (map line_of xs))
  made_else bs xs = let o : out-Stat (stats.If bs (Some xs)) ≡ Stat-F.If bs (Some xs) = search stat_lemmas.the_lemmas in stat_at (stats.If bs (Some xs)) (Stat-F.If bs (Some xs)) o

  rolled_body : (l : Body-F Stat Body Branch Labelled) → out-Body (roll-Body l) ≡ l
  rolled_body l = search body_lemmas.the_lemmas

  pub made_body : (ds : List LocalStart) (xs : List Labelled) → body_tree c (roll-Body (record { locals = ds; statements = xs })) ≡ starts_tree c ds (sequence_tree (map line_of xs))
  made_body ds xs = rw (fold_out-Body, rolled_body) refl

  rolled_branch : (l : Branch-F Stat Body Branch Labelled) → out-Branch (roll-Branch l) ≡ l
  rolled_branch l = search branch_lemmas.the_lemmas

  pub made_branch : (t : Test) (xs : List Labelled) → branch_of (roll-Branch (record { test = t; taken = xs })) ≡ ((tested c t).tree, sequence_tree (map line_of xs))
  made_branch t xs = rw (fold_out-Branch, rolled_branch) refl

  rolled_line : (l : Labelled-F Stat Body Branch Labelled) → out-Labelled (roll-Labelled l) ≡ l
  rolled_line l = search labelled_lemmas.the_lemmas

  line_at : (x : Labelled) (l : Labelled-F Stat Body Branch Labelled) → out-Labelled x ≡ l
      → line_of x ≡ line_by (map-Labelled Stat Body Branch Labelled Stmt Seq (Cond × Seq) (Seq → Seq) stat_of (body_tree c) branch_of line_of l)
  line_at x l o = rw (fold_out-Labelled, o) refl

  pub made_line : (ls : List ℕ) (x : Option Stat) → line_of (roll-Labelled (record { labels = ls; stat = x })) ≡ labelled_tree ls (option_map stat_of x)
  made_line ls None = line_at (roll-Labelled (record { labels = ls; stat = None })) (record { labels = ls; stat = None }) (rolled_line (record { labels = ls; stat = None }))
  made_line ls (Some x) = line_at (roll-Labelled (record { labels = ls; stat = Some x })) (record { labels = ls; stat = Some x }) (rolled_line (record { labels = ls; stat = Some x }))
