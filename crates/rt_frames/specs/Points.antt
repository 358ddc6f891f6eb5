-- The points of a procedure where it may call: each call, and each division that may meet an error. They stand in the
-- order of the text, those of an operand or argument before the one behind it. The depth of a point is that of the words
-- that wait below it.
use Rattle.std.specs.Prelude.{ℕ, zero, suc, ◌+◌, Bool, true, false, ◌&&◌, not, ◌==◌, if◌then◌else◌, List, [], ◌∷◌, ◌++◌, length, map, Option, Some, None, option_map}
use Rattle.rt_modes.specs.declared.mode.Mode.{Mode}
use Rattle.rt_tree_nodes.specs.declared.operators.Op2.{Op2}
use Rattle.rt_tree_nodes.specs.declared.operators.Op2.TheVariants as two
use Rattle.rt_tree_nodes.specs.declared.statement.Body.{Body}
use Rattle.rt_tree_nodes.specs.declared.statement.Stat.TheFolds.{fold-Body}
use Rattle.rt_tree_nodes.specs.declared.statement.Stat.TheOpen.{Stat-F, Body-F, Branch-F, Labelled-F}
use Rattle.rt_tree_nodes.specs.declared.statement.LocalStart.{LocalStart}
use Rattle.rt_tree_nodes.specs.declared.statement.Test.{Test}
use Rattle.rt_tree_nodes.specs.declared.statement.Test.TheFolds.{fold-Test}
use Rattle.rt_tree_nodes.specs.declared.statement.Test.TheOpen.{Test-F}
use Rattle.rt_tree_nodes.specs.declared.value.Callee.{Callee}
use Rattle.rt_tree_nodes.specs.declared.value.Callee.TheFolds.{fold-Callee, fold-Place, fold-Value}
use Rattle.rt_tree_nodes.specs.declared.value.Callee.TheOpen.{Callee-F, Place-F, Value-F}
use Rattle.rt_tree_nodes.specs.declared.value.Place.{Place}
use Rattle.rt_tree_nodes.specs.declared.value.Value.{Value}
use Rattle.rt_tree.specs.Depth.{address_depth}
use Rattle.rt_tree_nodes.specs.Scopes.{passes, Scope}
use Rattle.rt_tree_nodes.specs.Typing.{Placed, Valued, Called, Spot, OnLocal, OnPath, OnRow, one_place, one_value, one_callee}
use Rattle.rt_frames.specs.declared.frame.CallPoint.{CallPoint}
use Rattle.rt_frames.specs.declared.frame.Target.{Target}
use Rattle.rt_frames.specs.declared.frame.Target.TheVariants as target

-- the points of what is evaluated above so many words
abbrev pub Points : Type 0
Points = ℕ → List CallPoint

abbrev pub no_point : Points
no_point n = []

abbrev pub point : ℕ → ℕ → Target → CallPoint
point n count t = record { depth = n; args = count; target = t }

-- ---- places, values and what is called

pub record PlacePoints : Type 0 where
  pub placed : Placed
  pub points : Points

pub record ValuePoints : Type 0 where
  pub valued : Valued
  pub points : Points

-- what is called, and the words that it takes below the arguments
pub record CalleePoints : Type 0 where
  pub called : Called
  pub takes : ℕ
  pub target : Option Target
  pub points : Points

-- the word of a place's address, if it has one, waits below what stands behind it
abbrev pub waits : ℕ → ℕ
waits zero = 0
waits (suc n) = 1

abbrev pub address_words : Spot → ℕ
address_words (OnLocal i) = 0
address_words (OnPath p) = waits (address_depth p)
address_words (OnRow v) = 1

abbrev pub values_of : List ValuePoints → List Valued
values_of vs = map (λ v. v.valued) vs

abbrev pub arguments_points : ℕ → List ValuePoints → List CallPoint
arguments_points n [] = []
arguments_points n (v ∷ vs) = v.points n ++ arguments_points (suc n) vs

abbrev pub call_point : Option Target → ℕ → ℕ → List CallPoint
call_point None n count = []
call_point (Some t) n count = point n count t ∷ []

abbrev pub is_division : Op2 → Bool
is_division two.Divide = true
is_division two.Mod = true
is_division _ = false

-- a number other than 0 and 65,535 divides without an error
abbrev pub is_safe : Option ℕ → Bool
is_safe = passes (λ k. not (k == 0) && not (k == 65535))

-- A division's operands are gone where its error is met.
abbrev pub error_points : Op2 → Option ℕ → ℕ → List CallPoint
error_points o divisor n = if is_division o && not (is_safe divisor) then point n 1 target.Error ∷ [] else []

module _ (c : Scope) where
  abbrev pub callee_step : Callee-F CalleePoints PlacePoints ValuePoints → CalleePoints
  callee_step (Callee-F.Brick b) = record { called = one_callee c (Callee-F.Brick b); takes = 0; target = Some (target.Brick b); points = no_point }
  callee_step (Callee-F.«Callee::Through» v) =
      record { called = one_callee c (Callee-F.«Callee::Through» v.valued); takes = 1; target = option_map (λ (m : Mode). target.Variable m) v.valued.mode; points = v.points }

  abbrev pub place_step : Place-F CalleePoints PlacePoints ValuePoints → PlacePoints
  place_step (Place-F.Local i) = record { placed = one_place c (Place-F.Local i); points = no_point }
  place_step (Place-F.Item b j) = record { placed = one_place c (Place-F.Item b j); points = no_point }
  place_step (Place-F.Svc k) = record { placed = one_place c (Place-F.Svc k); points = no_point }
  place_step (Place-F.Field p k) = record { placed = one_place c (Place-F.Field p.placed k); points = p.points }
  place_step (Place-F.Element p v) =
      record { placed = one_place c (Place-F.Element p.placed v.valued); points = λ n. p.points n ++ v.points (n + address_words p.placed.tree) }
  place_step (Place-F.«Place::Through» v) = record { placed = one_place c (Place-F.«Place::Through» v.valued); points = v.points }

  abbrev pub value_step : Value-F CalleePoints PlacePoints ValuePoints → ValuePoints
  value_step (Value-F.Number n) = record { valued = one_value c (Value-F.Number n); points = no_point }
  value_step (Value-F.Text n) = record { valued = one_value c (Value-F.Text n); points = no_point }
  value_step (Value-F.Proc b) = record { valued = one_value c (Value-F.Proc b); points = no_point }
  value_step (Value-F.Read p) = record { valued = one_value c (Value-F.Read p.placed); points = p.points }
  value_step (Value-F.Reference p) = record { valued = one_value c (Value-F.Reference p.placed); points = p.points }
  value_step (Value-F.Length p) = record { valued = one_value c (Value-F.Length p.placed); points = p.points }
  value_step (Value-F.Monadic o v) = record { valued = one_value c (Value-F.Monadic o v.valued); points = v.points }
  value_step (Value-F.Dyadic o a b) =
      record { valued = one_value c (Value-F.Dyadic o a.valued b.valued); points = λ n. a.points n ++ (b.points (suc n) ++ error_points o b.valued.number n) }
  value_step (Value-F.Call f vs) =
      record { valued = one_value c (Value-F.Call f.called (values_of vs)); points = λ n. f.points n ++ (arguments_points (n + f.takes) vs ++ call_point f.target n (length vs)) }

  abbrev pub callee_points : Callee → CalleePoints
  callee_points = fold-Callee CalleePoints PlacePoints ValuePoints callee_step place_step value_step

  abbrev pub place_points : Place → PlacePoints
  place_points = fold-Place CalleePoints PlacePoints ValuePoints callee_step place_step value_step

  abbrev pub value_points : Value → ValuePoints
  value_points = fold-Value CalleePoints PlacePoints ValuePoints callee_step place_step value_step

-- ---- conditions and statements, of which nothing waits below

abbrev pub joined : List (List CallPoint) → List CallPoint
joined [] = []
joined (xs ∷ xss) = xs ++ joined xss

abbrev pub otherwise_points : Option (List (List CallPoint)) → List CallPoint
otherwise_points None = []
otherwise_points (Some xss) = joined xss

abbrev pub there : Option (List CallPoint) → List CallPoint
there None = []
there (Some xs) = xs

module _ (c : Scope) where
  abbrev pub alone : Value → List CallPoint
  alone v = (value_points c v).points 0

  abbrev pub alone_or_none : Option Value → List CallPoint
  alone_or_none None = []
  alone_or_none (Some v) = alone v

  abbrev pub test_step : Test-F (List CallPoint) → List CallPoint
  test_step (Test-F.Compare r a b) = alone a ++ (value_points c b).points 1
  test_step (Test-F.And ts) = joined ts
  test_step (Test-F.Or ts) = joined ts

  abbrev pub test_points : Test → List CallPoint
  test_points = fold-Test (List CallPoint) test_step

  abbrev pub start_points : LocalStart → List CallPoint
  start_points d = alone_or_none d.start

  -- a value above the address of the place
  abbrev pub assigned_points : Place → Value → List CallPoint
  assigned_points p v = (place_points c p).points 0 ++ (value_points c v).points (address_words (place_points c p).placed.tree)

  abbrev pub stat_step : Stat-F (List CallPoint) (List CallPoint) (List CallPoint) (List CallPoint) → List CallPoint
  stat_step (Stat-F.Call v) = alone v
  stat_step (Stat-F.Assign p v) = assigned_points p v
  stat_step (Stat-F.Goto l) = []
  stat_step (Stat-F.Return v) = alone_or_none v
  stat_step (Stat-F.Switch v ls) = alone v
  stat_step (Stat-F.Block b) = b
  stat_step (Stat-F.If bs e) = joined bs ++ otherwise_points e
  stat_step (Stat-F.For i start step end xs) = alone start ++ (alone_or_none step ++ (alone end ++ joined xs))
  stat_step (Stat-F.To i n xs) = alone n ++ joined xs
  stat_step (Stat-F.While t xs) = test_points t ++ joined xs
  stat_step (Stat-F.Recover l) = []

  abbrev pub body_step : Body-F (List CallPoint) (List CallPoint) (List CallPoint) (List CallPoint) → List CallPoint
  body_step b = joined (map start_points b.locals) ++ joined b.statements

  abbrev pub branch_step : Branch-F (List CallPoint) (List CallPoint) (List CallPoint) (List CallPoint) → List CallPoint
  branch_step b = test_points b.test ++ joined b.taken

  abbrev pub labelled_step : Labelled-F (List CallPoint) (List CallPoint) (List CallPoint) (List CallPoint) → List CallPoint
  labelled_step x = there x.stat

  -- the points of a body
  abbrev pub body_points : Body → List CallPoint
  body_points = fold-Body (List CallPoint) (List CallPoint) (List CallPoint) (List CallPoint) stat_step body_step branch_step labelled_step
