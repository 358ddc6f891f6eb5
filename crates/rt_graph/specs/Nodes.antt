-- The call graph as nodes: the bricks of the row, and behind them one node for each class of full modes.
use Rattle.std.specs.Prelude.{◌≡◌, ℕ, zero, suc, ◌+◌, ◌^◌, ◌<◌, ◌≤◌, nat_le, ◌&&◌, Bool, true, false, if◌then◌else◌, List, [], ◌∷◌, ◌++◌, length, map, replicate, Option, Some, None, option_map, slice_get}
use Rattle.rt_modes.specs.FullMode.{FullMode}
use Rattle.rt_modes.specs.declared.mode.Mode.{Mode}
use Rattle.rt_modes.specs.declared.mode.ModeTable.{ModeTable}
use Rattle.rt_tree_nodes.specs.declared.store.Proc.{Proc}
use Rattle.rt_object.specs.Grammar.{is_proc}
use Rattle.rt_object.specs.declared.object.Call.{Call}
use Rattle.rt_object.specs.declared.object.ObjectParts.{ObjectParts}
use Rattle.rt_object.specs.declared.object.ProcContent.{ProcContent}
use Rattle.rt_object.specs.declared.object.Target.{Target}
use Rattle.rt_object.specs.declared.object.Target.TheVariants as target
use Rattle.rt_match.specs.declared.bindings.Bound.{Bound}
use Rattle.rt_digraph.specs.declared.sorting.Sorted.{Sorted}
use Rattle.rt_digraph.specs.declared.sorting.Sorted.TheVariants as sorted
use Rattle.rt_graph.specs.declared.fault.GraphFault.{GraphFault}
use Rattle.rt_graph.specs.declared.fault.GraphFault.TheVariants as fault
use Rattle.rt_graph.specs.Calls.{brick, numbered, stands_for, int_taken}
use Rattle.rt_graph.specs.Numbers.{body_of, number_of, and_then}
use Rattle.rt_graph.specs.Classes.{class_in, AreApart, AreClasses, taken_texts, grouped}
use Rattle.rt_graph.specs.Rows.{IsRow}
use Rattle.rt_graph.specs.declared.table.Table.{Table}

abbrev pub meets_errors : ℕ → Bool
meets_errors k = nat_le 4 k && nat_le k 7

abbrev pub with_one : {A : Type 0} → Option A → List A → List A
with_one None ns = ns
with_one (Some n) ns = n ∷ ns

-- how many bricks the row has
abbrev pub total : Table → ℕ
total t = length t.row.bricks

-- the node of a full mode, where some procedure may be a value of it
abbrev pub class_node : Table → List ℕ → Option ℕ
class_node t text = option_map (λ c. total t + c) (class_in t.classes.map text)

abbrev pub mode_node_by : Bool → Table → List ℕ → Option ℕ
mode_node_by true t text = class_node t text
mode_node_by false t text = None

-- the node of a PROC mode; of another mode none
abbrev pub mode_node : Table → ModeTable → Mode → Option ℕ
mode_node t records mode = mode_node_by (is_proc mode) t (FullMode records mode)

-- the nodes that a supplied procedure calls
abbrev pub supplied_nodes : Table → ℕ → List ℕ
supplied_nodes t k = if meets_errors k then with_one (class_node t int_taken) [] else []

-- all nodes have small numbers
pub record HasSmallNodes (t : Table) : Type 0 where
  pub apart : AreApart t.classes.map t.classes.count
  pub small : total t + t.classes.count < 2 ^ 63

-- the row and the classes are those of the system
pub record IsTable (objects : List ObjectParts) (of : List (List Bound)) (t : Table) : Type 0 where
  pub few : length objects ≤ 64
  pub row : IsRow objects t.row
  pub classes : AreClasses (taken_texts objects of) t.classes.map t.classes.of t.classes.count
  pub nodes : HasSmallNodes t

module _ (objects : List ObjectParts) (of : List (List Bound)) (table : Table) where
  -- the node that is called at a point of a procedure of module m, which is o
  abbrev pub callee : ℕ → ObjectParts → Target → Option ℕ
  callee m o (target.Brick b) = and_then (stands_for of m b) (number_of objects)
  callee m o (target.Mode mode) = mode_node table o.records mode
  callee m o target.Error = class_node table int_taken

  abbrev pub callees : ℕ → ObjectParts → List Call → List ℕ
  callees m o [] = []
  callees m o (c ∷ cs) = with_one (callee m o c.target) (callees m o cs)

  abbrev pub body_nodes : ℕ → Option ObjectParts → Option ProcContent → List ℕ
  body_nodes m (Some o) (Some p) = callees m o p.calls
  body_nodes m _ _ = []

  abbrev pub nodes_in : ℕ → ℕ → List ℕ
  nodes_in zero b = supplied_nodes table b
  nodes_in (suc m) b = body_nodes (suc m) (numbered objects (suc m)) (body_of objects (brick (suc m) b))

  -- the nodes that a brick calls
  abbrev pub nodes_of : Proc → List ℕ
  nodes_of f = nodes_in f.«module» f.brick

  -- the whole graph: what each brick calls, and the bricks of each class
  abbrev pub call_graph : List (List ℕ)
  call_graph = grouped (total table) 0 table.classes.of (map nodes_of table.row.bricks ++ replicate table.classes.count [])

-- the bricks of the row that have these numbers; nodes of classes are none
abbrev pub bricks_at : {A : Type 0} → List A → List ℕ → List A
bricks_at row [] = []
bricks_at row (n ∷ ns) = with_one (slice_get row n) (bricks_at row ns)

-- the numbers of roots; what is no procedure has none
abbrev pub root_numbers : List ObjectParts → List Proc → List ℕ
root_numbers objects [] = []
root_numbers objects (f ∷ fs) = with_one (number_of objects f) (root_numbers objects fs)

-- what is told of sorted nodes: the bricks among them in their order, or those of their cycle
abbrev pub IsInOrder : List Proc → Sorted → List Proc → Type 0
IsInOrder row (sorted.Order ns) fs = fs ≡ bricks_at row ns
IsInOrder row (sorted.Cycle ns) fs = ⊥

abbrev pub IsCycleIn : List Proc → Sorted → GraphFault → Type 0
IsCycleIn row s fault.Memory = Unit {0}
IsCycleIn row (sorted.Cycle ns) (fault.Recursion fs) = fs ≡ bricks_at row ns
IsCycleIn row s f = ⊥
