-- Parts of a tree that stay within so many items of the text: 12 words of code an item, and a word of the stack.
use Rattle.std.specs.Prelude.{ℕ, ◌+◌, ◌*◌, ◌≤◌}
use Rattle.rt_tree_nodes.specs.Tree.{Term, Path, Cond, Stmt, Seq}
use Rattle.rt_tree_nodes.specs.Typing.{Spot, OnLocal, OnPath, OnRow}
use Rattle.rt_tree.specs.Depth.{depth, address_depth, condition_depth, statement_depth, sequence_depth}
use Rattle.rt_tree.specs.Weights.{term_weight, path_weight, condition_weight, statement_weight, sequence_weight}

-- The value of an expression: a node that takes it has four words to give.
pub record ValueWithin (items : ℕ) (v : Term) : Type 0 where
  pub weight : term_weight v ≤ 12 * items + 4
  pub depth : depth v ≤ items

-- a call, whose result may be followed
pub record CallWithin (items : ℕ) (v : Term) : Type 0 where
  pub weight : term_weight v + 20 ≤ 12 * items
  pub depth : depth v ≤ items

-- a place that isn't a local, before it is read
pub record PathWithin (items : ℕ) (p : Path) : Type 0 where
  pub weight : path_weight p + 9 ≤ 12 * items
  pub depth : address_depth p ≤ items

-- a place that is assigned
abbrev pub SpotWithin : ℕ → Spot → Type 0
SpotWithin items (OnLocal i) = 1 ≤ items
SpotWithin items (OnPath p) = PathWithin items p
SpotWithin items (OnRow v) = ⊥

pub record ConditionWithin (items : ℕ) (t : Cond) : Type 0 where
  pub weight : condition_weight t ≤ 12 * items + 4
  pub depth : condition_depth t ≤ items

pub record StatementWithin (items : ℕ) (s : Stmt) : Type 0 where
  pub weight : statement_weight s ≤ 12 * items
  pub depth : statement_depth s ≤ items

pub record SequenceWithin (items : ℕ) (q : Seq) : Type 0 where
  pub weight : sequence_weight q ≤ 12 * items
  pub depth : sequence_depth q ≤ items
