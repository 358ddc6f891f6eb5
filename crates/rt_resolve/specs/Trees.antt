-- The trees that are made of the nodes of a module, and how their parts are joined from the right.
use Rattle.std.specs.Prelude.{ℕ, List, [], ◌∷◌, Option, option_map}
use Rattle.rt_tree_nodes.specs.declared.statement.Branch.{Branch}
use Rattle.rt_tree_nodes.specs.declared.statement.Labelled.{Labelled, out-Labelled}
use Rattle.rt_tree_nodes.specs.declared.statement.LocalStart.{LocalStart}
use Rattle.rt_tree_nodes.specs.declared.statement.Stat.{Stat}
use Rattle.rt_tree_nodes.specs.declared.statement.Stat.TheFolds.{fold-Stat, fold-Branch, fold-Labelled}
use Rattle.rt_tree_nodes.specs.declared.operators.Rel.{Rel}
use Rattle.rt_tree_nodes.specs.declared.operators.Rel.TheVariants as rel
use Rattle.rt_tree_nodes.specs.declared.statement.Test.{Test}
use Rattle.rt_tree_nodes.specs.declared.value.Value.{Value}
use Rattle.rt_tree_nodes.specs.Scopes.{Scope}
use Rattle.rt_tree.specs.Statements.{labelled_tree, sequence_tree, starts_tree, start_tree, stat_tree, tested}
use Rattle.rt_tree_nodes.specs.Tree.{Term, Num, Cond, Is, Both, Either, Stmt, If, Switch, Seq, Done, Then}
use Rattle.rt_tree_nodes.specs.Typing.{Spot, OnLocal, OnPath, OnRow, Placed, Valued, valued}
use Rattle.rt_tree_nodes.specs.Typing as typing
use Rattle.rt_work_state.specs.Nodes as n
use Rattle.rt_resolve.specs.declared.join.Joins.{Joins}
use Rattle.rt_resolve.specs.declared.join.Joins.TheVariants as joins
use Rattle.rt_resolve.specs.declared.join.Line.{Line}
use Rattle.rt_resolve.specs.declared.join.BranchNode.{BranchNode}
use Rattle.rt_resolve.specs.declared.spot.Spot.{Spot as SpotNode}
use Rattle.rt_resolve.specs.declared.spot.Spot.TheVariants as s

-- elements put together from the right
abbrev pub build : {A B : Type 0} → (A → B → B) → List A → B → B
build f [] b = b
build f (x ∷ xs) b = f x (build f xs b)

-- ---- what the code makes, as plain trees

abbrev pub spot : SpotNode → Spot
spot (s.Local i) = OnLocal i
spot (s.Path q) = OnPath (n.path q)
spot (s.Row v) = OnRow (n.term v)

abbrev pub placed_by : Option typing.Found → Spot → Placed
placed_by f x = record { found = f; tree = x }

-- a statement with its labels
abbrev pub row : Line → List ℕ × Option Stmt
row l = (l.labels, option_map n.stmt l.stat)

abbrev pub branch : BranchNode → Cond × Seq
branch b = (n.cond b.test, n.seq b.taken)

abbrev pub joining : Joins → Cond → Cond → Cond
joining joins.And t u = Both t u
joining joins.Or t u = Either t u

-- conditions joined from the right
abbrev pub joined_tests : Joins → List Cond → Cond
joined_tests k [] = Is rel.Equal (Num 0) (Num 0)
joined_tests k (t ∷ []) = t
joined_tests k (t ∷ u ∷ ts) = joining k t (joined_tests k (u ∷ ts))

abbrev pub after_row : List ℕ × Option Stmt → Seq → Seq
after_row r q = labelled_tree r.0 r.1 q

abbrev pub after_branch : Cond × Seq → Seq → Seq
after_branch b q = Then (If b.0 b.1 q) Done

-- ---- the trees of nodes

abbrev pub tree_of : Valued → Term
tree_of v = v.tree

module _ (c : Scope) where
  abbrev pub value_tree : Value → Term
  value_tree v = (valued c v).tree

  abbrev pub test_tree : Test → Cond
  test_tree t = (tested c t).tree

  abbrev pub comparison : Rel → Value → Value → Cond
  comparison r a b = Is r (value_tree a) (value_tree b)

  abbrev pub switch : Value → List ℕ → Stmt
  switch v ls = Switch (value_tree v) ls

  abbrev pub start_statement : LocalStart → Stmt
  start_statement d = start_tree c d.local d.start

  abbrev pub stat : Stat → Stmt
  stat = fold-Stat Stmt Seq (Cond × Seq) (Seq → Seq) (stat_tree c)
      (λ b. starts_tree c b.locals (sequence_tree b.statements)) (λ b. ((tested c b.test).tree, sequence_tree b.taken)) (λ x. labelled_tree x.labels x.stat)

  abbrev pub branch_tree : Branch → Cond × Seq
  branch_tree = fold-Branch Stmt Seq (Cond × Seq) (Seq → Seq) (stat_tree c)
      (λ b. starts_tree c b.locals (sequence_tree b.statements)) (λ b. ((tested c b.test).tree, sequence_tree b.taken)) (λ x. labelled_tree x.labels x.stat)

  abbrev pub line_tree : Labelled → Seq → Seq
  line_tree = fold-Labelled Stmt Seq (Cond × Seq) (Seq → Seq) (stat_tree c)
      (λ b. starts_tree c b.locals (sequence_tree b.statements)) (λ b. ((tested c b.test).tree, sequence_tree b.taken)) (λ x. labelled_tree x.labels x.stat)

  abbrev pub row_tree : Labelled → List ℕ × Option Stmt
  row_tree x = ((out-Labelled x).labels, option_map stat (out-Labelled x).stat)
