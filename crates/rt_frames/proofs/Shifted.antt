-- The points above a number of words are kept in 16 bits as those above what 16 bits keep of that number.
use Rattle.std.proofs.Common.{◌≡◌, ℕ, suc, ◌+◌, Bool, true, false, ◌&&◌, not, if◌then◌else◌, List, [], ◌∷◌, ◌++◌, length, map, Option, Some, None, refl, sym, ap, subst, ◌∙◌}
use Rattle.std.proofs.lemmas.List.{map-append}
use Rattle.rt_tree_nodes.specs.declared.operators.Op2.{Op2}
use Rattle.rt_tree_nodes.specs.declared.value.Callee.{Callee, out-Callee, roll-Callee, map-Callee}
use Rattle.rt_tree_nodes.specs.declared.value.Callee as callees
use Rattle.rt_tree_nodes.specs.declared.value.Callee.TheFolds.{ind-Value}
use Rattle.rt_tree_nodes.specs.declared.value.Callee.TheOpen.{Callee-F, Place-F, Value-F}
use Rattle.rt_tree_nodes.specs.declared.value.Place.{Place, out-Place, roll-Place, map-Place}
use Rattle.rt_tree_nodes.specs.declared.value.Place as places
use Rattle.rt_tree_nodes.specs.declared.value.Value.{Value, out-Value, roll-Value, map-Value}
use Rattle.rt_tree_nodes.specs.declared.value.Value as values
use Rattle.rt_tree_nodes.specs.Scopes.{Scope}
use Rattle.rt_frames.specs.declared.frame.Target.{Target}
use Rattle.rt_frames.specs.declared.frame.Target.TheVariants as target
use Rattle.rt_frames.specs.Points.{Points, ValuePoints, callee_step, place_step, value_step, callee_points, place_points, value_points, address_words, arguments_points, point, call_point, error_points, is_division, is_safe}
use Rattle.rt_frames.specs.Saturated.{saturated, saturated_point, saturated_points}
use Rattle.rt_frames.proofs.Fused.{callee_layer, place_layer, value_layer, callee_at, place_at, value_at}
use Rattle.rt_frames.proofs.Sums.{saturated_twice, next_saturated, sum_saturated}

abbrev pub Shifts : Points → Type 0
Shifts f = (n : ℕ) → saturated_points (f (saturated n)) ≡ saturated_points (f n)

both : (f g : Points) → Shifts f → Shifts g → Shifts (λ n. f n ++ g n)
both f g a b n = map-append saturated_point (f (saturated n)) (g (saturated n)) ∙ rw (a n, b n) (sym (map-append saturated_point (f n) (g n)))

further : (f : Points) (k : ℕ) → Shifts f → Shifts (λ n. f (n + k))
further f k a n = sym (a (saturated n + k)) ∙ ap (λ (m : ℕ). saturated_points (f m)) (sum_saturated n k) ∙ a (n + k)

next : (f : Points) → Shifts f → Shifts (λ n. f (suc n))
next f a n = sym (a (suc (saturated n))) ∙ ap (λ (m : ℕ). saturated_points (f m)) (next_saturated n) ∙ a (suc n)

one_point : (count : ℕ) (t : Target) → Shifts (λ n. point n count t ∷ [])
one_point count t n = ap (λ (m : ℕ). point m (saturated count) t ∷ []) (saturated_twice n)

call_shifts : (t : Option Target) (count : ℕ) → Shifts (λ n. call_point t n count)
call_shifts None count n = refl
call_shifts (Some t) count n = one_point count t n

error_shifts : (o : Op2) (divisor : Option ℕ) → Shifts (λ n. error_points o divisor n)
error_shifts o divisor = by_case (is_division o && not (is_safe divisor)) where
  by_case : (b : Bool) → Shifts (λ n. if b then point n 1 target.Error ∷ [] else [])
  by_case true n = one_point 1 target.Error n
  by_case false n = refl

module _ (c : Scope) where
  abbrev CalleeShifts : Callee → Type 0
  CalleeShifts f = Shifts (callee_points c f).points

  abbrev PlaceShifts : Place → Type 0
  PlaceShifts p = Shifts (place_points c p).points

  abbrev ValueShifts : Value → Type 0
  ValueShifts v = Shifts (value_points c v).points

  abbrev CalleePair : Type 0
  CalleePair = (f : Callee) × CalleeShifts f

  abbrev PlacePair : Type 0
  PlacePair = (p : Place) × PlaceShifts p

  abbrev ValuePair : Type 0
  ValuePair = (v : Value) × ValueShifts v

  abbrev plain_callee : Callee-F CalleePair PlacePair ValuePair → Callee-F Callee Place Value
  plain_callee y = map-Callee CalleePair PlacePair ValuePair Callee Place Value (λ e. e.0) (λ e. e.0) (λ e. e.0) y

  abbrev plain_place : Place-F CalleePair PlacePair ValuePair → Place-F Callee Place Value
  plain_place y = map-Place CalleePair PlacePair ValuePair Callee Place Value (λ e. e.0) (λ e. e.0) (λ e. e.0) y

  abbrev plain_value : Value-F CalleePair PlacePair ValuePair → Value-F Callee Place Value
  plain_value y = map-Value CalleePair PlacePair ValuePair Callee Place Value (λ e. e.0) (λ e. e.0) (λ e. e.0) y

  abbrev points_of : List ValuePair → List ValuePoints
  points_of vs = map (value_points c) (map (λ (e : ValuePair). e.0) vs)

  pairs_shift : (vs : List ValuePair) → Shifts (λ n. arguments_points n (points_of vs))
  pairs_shift [] n = refl
  pairs_shift (v ∷ vs) n = both (value_points c v.0).points (λ m. arguments_points (suc m) (points_of vs)) v.1 (next (λ m. arguments_points m (points_of vs)) (pairs_shift vs)) n

  -- ---- one level

  callee_level : (y : Callee-F CalleePair PlacePair ValuePair) → Shifts (callee_step c (callee_layer c (plain_callee y))).points
  callee_level (Callee-F.Brick b) = λ n. refl
  callee_level (Callee-F.«Callee::Through» v) = v.1

  place_level : (y : Place-F CalleePair PlacePair ValuePair) → Shifts (place_step c (place_layer c (plain_place y))).points
  place_level (Place-F.Local i) = λ n. refl
  place_level (Place-F.Item b j) = λ n. refl
  place_level (Place-F.Svc k) = λ n. refl
  place_level (Place-F.Field p k) = p.1
  place_level (Place-F.Element p v) =
      let w = address_words (place_points c p.0).placed.tree in
      both (place_points c p.0).points (λ n. (value_points c v.0).points (n + w)) p.1 (further (value_points c v.0).points w v.1)
  place_level (Place-F.«Place::Through» v) = v.1

  value_level : (y : Value-F CalleePair PlacePair ValuePair) → Shifts (value_step c (value_layer c (plain_value y))).points
  value_level (Value-F.Number n) = λ k. refl
  value_level (Value-F.Text n) = λ k. refl
  value_level (Value-F.Proc b) = λ k. refl
  value_level (Value-F.Read p) = p.1
  value_level (Value-F.Reference p) = p.1
  value_level (Value-F.Length p) = p.1
  value_level (Value-F.Monadic o a) = a.1
  value_level (Value-F.Dyadic o a b) =
      let x = value_points c a.0 in
      let y = value_points c b.0 in
      both x.points (λ n. y.points (suc n) ++ error_points o y.valued.number n) a.1
      (both (λ n. y.points (suc n)) (λ n. error_points o y.valued.number n) (next y.points b.1) (error_shifts o y.valued.number))
  value_level (Value-F.Call f vs) =
      let x = callee_points c f.0 in
      both x.points (λ n. arguments_points (n + x.takes) (points_of vs) ++ call_point x.target n (length (points_of vs))) f.1
      (both (λ n. arguments_points (n + x.takes) (points_of vs)) (λ n. call_point x.target n (length (points_of vs))) (further (λ n. arguments_points n (points_of vs)) x.takes (pairs_shift vs))
      (call_shifts x.target (length (points_of vs))))

  -- ---- all levels

  rolled_callee : (x : Callee-F Callee Place Value) → out-Callee (roll-Callee x) ≡ x
  rolled_callee x = search callees.the_lemmas

  rolled_place : (x : Place-F Callee Place Value) → out-Place (roll-Place x) ≡ x
  rolled_place x = search places.the_lemmas

  rolled_value : (x : Value-F Callee Place Value) → out-Value (roll-Value x) ≡ x
  rolled_value x = search values.the_lemmas

  callee_as : (f : Callee) (y : Callee-F CalleePair PlacePair ValuePair) → out-Callee f ≡ plain_callee y → CalleeShifts f
  callee_as f y o = subst (λ x. Shifts x.points) (sym (callee_at c f (plain_callee y) o)) (callee_level y)

  place_as : (p : Place) (y : Place-F CalleePair PlacePair ValuePair) → out-Place p ≡ plain_place y → PlaceShifts p
  place_as p y o = subst (λ x. Shifts x.points) (sym (place_at c p (plain_place y) o)) (place_level y)

  value_as : (v : Value) (y : Value-F CalleePair PlacePair ValuePair) → out-Value v ≡ plain_value y → ValueShifts v
  value_as v y o = subst (λ x. Shifts x.points) (sym (value_at c v (plain_value y) o)) (value_level y)

  pub value_shifts : (v : Value) → ValueShifts v
  value_shifts = ind-Value CalleeShifts PlaceShifts ValueShifts (λ x y is. callee_as (roll-Callee x) y (rolled_callee x ∙ sym is)) (λ x y is. place_as (roll-Place x) y (rolled_place x ∙ sym is))
      (λ x y is. value_as (roll-Value x) y (rolled_value x ∙ sym is))

  pub arguments_shift : (vs : List Value) → Shifts (λ n. arguments_points n (map (value_points c) vs))
  arguments_shift [] n = refl
  arguments_shift (v ∷ vs) n =
      both (value_points c v).points (λ m. arguments_points (suc m) (map (value_points c) vs)) (value_shifts v) (next (λ m. arguments_points m (map (value_points c) vs)) (arguments_shift vs)) n
