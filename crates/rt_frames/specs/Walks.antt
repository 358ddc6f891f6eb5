-- What is taken of the stack, statement by statement: the greatest depth so far, whether the procedure recovers, and the
-- points so far, in numbers of 16 bits.
use Rattle.std.specs.Prelude.{ℕ, true, max, List, [], ◌∷◌, ◌++◌, map, Option, Some, None}
use Rattle.rt_tree_nodes.specs.declared.statement.Body.{Body}
use Rattle.rt_tree_nodes.specs.declared.statement.Branch.{Branch}
use Rattle.rt_tree_nodes.specs.declared.statement.Labelled.{Labelled}
use Rattle.rt_tree_nodes.specs.declared.statement.LocalStart.{LocalStart}
use Rattle.rt_tree_nodes.specs.declared.statement.Stat.{Stat}
use Rattle.rt_tree_nodes.specs.declared.statement.Stat.TheFolds.{fold-Stat, fold-Body, fold-Branch, fold-Labelled}
use Rattle.rt_tree_nodes.specs.declared.statement.Stat.TheOpen.{Stat-F, Body-F, Branch-F, Labelled-F}
use Rattle.rt_tree_nodes.specs.declared.statement.Test.{Test}
use Rattle.rt_tree_nodes.specs.declared.statement.Test.TheFolds.{fold-Test}
use Rattle.rt_tree_nodes.specs.declared.statement.Test.TheOpen.{Test-F}
use Rattle.rt_tree_nodes.specs.declared.value.Place.{Place}
use Rattle.rt_tree_nodes.specs.declared.value.Value.{Value}
use Rattle.rt_tree.specs.Depth.{depth, above, behind}
use Rattle.rt_tree_nodes.specs.Scopes.{Scope}
use Rattle.rt_frames.specs.declared.frame.CallPoint.{CallPoint}
use Rattle.rt_frames.specs.declared.measure.Address.{Address}
use Rattle.rt_frames.specs.declared.measure.Address.TheVariants as address
use Rattle.rt_frames.specs.declared.statements.Walk.{Walk}
use Rattle.rt_frames.specs.Measures.{address_of}
use Rattle.rt_frames.specs.Points.{value_points, place_points, address_words}
use Rattle.rt_frames.specs.Saturated.{saturated, saturated_points}

abbrev pub with_points : Walk → ℕ → List CallPoint → Walk
with_points w d ps = record { deep = max w.deep (saturated d); recovers = w.recovers; calls = w.calls ++ saturated_points ps }

abbrev pub deeper : Walk → ℕ → Walk
deeper w d = record { deep = max w.deep d; recovers = w.recovers; calls = w.calls }

abbrev pub with_depth : Walk → ℕ → Walk
with_depth w d = deeper w (saturated d)

abbrev pub recovering : Walk → Walk
recovering w = record { deep = w.deep; recovers = true; calls = w.calls }

-- a part: what is taken with it
abbrev pub Part : Type 0
Part = Walk → Walk

abbrev pub nothing : Part
nothing w = w

abbrev pub in_turn : List Part → Part
in_turn [] w = w
in_turn (p ∷ ps) w = in_turn ps (p w)

abbrev pub part_or_none : Option Part → Part
part_or_none None = nothing
part_or_none (Some p) = p

abbrev pub otherwise : Option (List Part) → Part
otherwise None = nothing
otherwise (Some ps) = in_turn ps

-- conditions that are joined; where there is none, two numbers are compared
abbrev pub joined : List Part → Part
joined [] w = with_depth w 2
joined (p ∷ ps) w = in_turn (p ∷ ps) w

-- a value above a place
abbrev pub over : Address → ℕ → ℕ
over address.Local v = v
over (address.Path d) v = behind d v
over (address.Row d) v = v

module _ (c : Scope) where
  abbrev pub value_part : Value → Part
  value_part v w = with_points w (depth (value_points c v).valued.tree) ((value_points c v).points 0)

  abbrev pub value_or_none : Option Value → Part
  value_or_none None = nothing
  value_or_none (Some v) = value_part v

  -- the step of a loop is 1 where it is left out
  abbrev pub step_part : Option Value → Part
  step_part None = λ w. with_depth w 1
  step_part (Some v) = value_part v

  abbrev pub comparison : Value → Value → Part
  comparison a b w = with_points w (above (depth (value_points c a).valued.tree) (depth (value_points c b).valued.tree)) ((value_points c a).points 0 ++ (value_points c b).points 1)

  abbrev pub assignment : Place → Value → Part
  assignment p v w =
      with_points w (over (address_of (place_points c p).placed.tree) (depth (value_points c v).valued.tree))
      ((place_points c p).points 0 ++ (value_points c v).points (address_words (place_points c p).placed.tree))

  abbrev pub one_test : Test-F Part → Part
  one_test (Test-F.Compare r a b) = comparison a b
  one_test (Test-F.And ts) = joined ts
  one_test (Test-F.Or ts) = joined ts

  abbrev pub test_part : Test → Part
  test_part = fold-Test Part one_test

  abbrev pub start_part : LocalStart → Part
  start_part d = value_or_none d.start

  abbrev pub one_stat : Stat-F Part Part Part Part → Part
  one_stat (Stat-F.Call v) = value_part v
  one_stat (Stat-F.Assign p v) = assignment p v
  one_stat (Stat-F.Goto l) = nothing
  one_stat (Stat-F.Return v) = value_or_none v
  one_stat (Stat-F.Switch v ls) = value_part v
  one_stat (Stat-F.Block b) = b
  one_stat (Stat-F.If bs e) = λ w. otherwise e (in_turn bs w)
  one_stat (Stat-F.For i start step end xs) = λ w. in_turn xs (value_part end (step_part step (value_part start w)))
  one_stat (Stat-F.To i n xs) = λ w. in_turn xs (value_part n w)
  one_stat (Stat-F.While t xs) = λ w. in_turn xs (test_part t w)
  one_stat (Stat-F.Recover l) = recovering

  abbrev pub one_body : Body-F Part Part Part Part → Part
  one_body b w = in_turn b.statements (in_turn (map start_part b.locals) w)

  abbrev pub one_branch : Branch-F Part Part Part Part → Part
  one_branch b w = in_turn b.taken (test_part b.test w)

  abbrev pub one_labelled : Labelled-F Part Part Part Part → Part
  one_labelled x = part_or_none x.stat

  abbrev pub stat_part : Stat → Part
  stat_part = fold-Stat Part Part Part Part one_stat one_body one_branch one_labelled

  abbrev pub body_part : Body → Part
  body_part = fold-Body Part Part Part Part one_stat one_body one_branch one_labelled

  abbrev pub branch_part : Branch → Part
  branch_part = fold-Branch Part Part Part Part one_stat one_body one_branch one_labelled

  abbrev pub labelled_part : Labelled → Part
  labelled_part = fold-Labelled Part Part Part Part one_stat one_body one_branch one_labelled
