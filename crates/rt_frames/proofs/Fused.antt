-- The points of values are gathered over the same plain trees as those of the typed tree.
use Rattle.std.proofs.Common.{◌≡◌, List, [], ◌∷◌, map, refl, sym, ap, ◌∙◌}
use Rattle.rt_tree_nodes.specs.declared.value.Callee.{Callee, out-Callee, roll-Callee, map-Callee}
use Rattle.rt_tree_nodes.specs.declared.value.Callee as callees
use Rattle.rt_tree_nodes.specs.declared.value.Callee.TheFolds.{ind-Value, ind-Place, fold_out-Callee, fold_out-Place, fold_out-Value}
use Rattle.rt_tree_nodes.specs.declared.value.Callee.TheOpen.{Callee-F, Place-F, Value-F}
use Rattle.rt_tree_nodes.specs.declared.value.Place.{Place, out-Place, roll-Place, map-Place}
use Rattle.rt_tree_nodes.specs.declared.value.Place as places
use Rattle.rt_tree_nodes.specs.declared.value.Value.{Value, out-Value, roll-Value, map-Value}
use Rattle.rt_tree_nodes.specs.declared.value.Value as values
use Rattle.rt_tree_nodes.specs.Scopes.{Scope}
use Rattle.rt_tree_nodes.specs.Typing.{Called, Placed, Valued, one_callee, one_place, one_value, called, placed, valued}
use Rattle.rt_frames.specs.Points.{CalleePoints, PlacePoints, ValuePoints, callee_step, place_step, value_step, callee_points, place_points, value_points, values_of}

module _ (c : Scope) where
  abbrev CalleeIs : Callee → Type 0
  CalleeIs f = (callee_points c f).called ≡ called c f

  abbrev PlaceIs : Place → Type 0
  PlaceIs p = (place_points c p).placed ≡ placed c p

  abbrev ValueIs : Value → Type 0
  ValueIs v = (value_points c v).valued ≡ valued c v

  abbrev CalleePair : Type 0
  CalleePair = (f : Callee) × CalleeIs f

  abbrev PlacePair : Type 0
  PlacePair = (p : Place) × PlaceIs p

  abbrev ValuePair : Type 0
  ValuePair = (v : Value) × ValueIs v

  -- ---- by the first level

  abbrev pub callee_layer : Callee-F Callee Place Value → Callee-F CalleePoints PlacePoints ValuePoints
  callee_layer l = map-Callee Callee Place Value CalleePoints PlacePoints ValuePoints (callee_points c) (place_points c) (value_points c) l

  abbrev pub place_layer : Place-F Callee Place Value → Place-F CalleePoints PlacePoints ValuePoints
  place_layer l = map-Place Callee Place Value CalleePoints PlacePoints ValuePoints (callee_points c) (place_points c) (value_points c) l

  abbrev pub value_layer : Value-F Callee Place Value → Value-F CalleePoints PlacePoints ValuePoints
  value_layer l = map-Value Callee Place Value CalleePoints PlacePoints ValuePoints (callee_points c) (place_points c) (value_points c) l

  pub callee_at : (f : Callee) (l : Callee-F Callee Place Value) → out-Callee f ≡ l → callee_points c f ≡ callee_step c (callee_layer l)
  callee_at f l o = rw (fold_out-Callee, o) refl

  pub place_at : (p : Place) (l : Place-F Callee Place Value) → out-Place p ≡ l → place_points c p ≡ place_step c (place_layer l)
  place_at p l o = rw (fold_out-Place, o) refl

  pub value_at : (v : Value) (l : Value-F Callee Place Value) → out-Value v ≡ l → value_points c v ≡ value_step c (value_layer l)
  value_at v l o = rw (fold_out-Value, o) refl

  abbrev tree_callee : Callee-F Callee Place Value → Callee-F Called Placed Valued
  tree_callee l = map-Callee Callee Place Value Called Placed Valued (called c) (placed c) (valued c) l

  abbrev tree_place : Place-F Callee Place Value → Place-F Called Placed Valued
  tree_place l = map-Place Callee Place Value Called Placed Valued (called c) (placed c) (valued c) l

  abbrev tree_value : Value-F Callee Place Value → Value-F Called Placed Valued
  tree_value l = map-Value Callee Place Value Called Placed Valued (called c) (placed c) (valued c) l

  called_at : (f : Callee) (l : Callee-F Callee Place Value) → out-Callee f ≡ l → called c f ≡ one_callee c (tree_callee l)
  called_at f l o = rw (fold_out-Callee, o) refl

  placed_at : (p : Place) (l : Place-F Callee Place Value) → out-Place p ≡ l → placed c p ≡ one_place c (tree_place l)
  placed_at p l o = rw (fold_out-Place, o) refl

  valued_at : (v : Value) (l : Value-F Callee Place Value) → out-Value v ≡ l → valued c v ≡ one_value c (tree_value l)
  valued_at v l o = rw (fold_out-Value, o) refl

  -- ---- one level, with what is known of the parts

  plain_callee : Callee-F CalleePair PlacePair ValuePair → Callee-F Callee Place Value
  plain_callee y = map-Callee CalleePair PlacePair ValuePair Callee Place Value (λ e. e.0) (λ e. e.0) (λ e. e.0) y

  all_valued : (vs : List ValuePair) → values_of (map (value_points c) (map (λ (e : ValuePair). e.0) vs)) ≡ map (valued c) (map (λ (e : ValuePair). e.0) vs)
  all_valued [] = refl
  all_valued (v ∷ vs) = rw (v.1, all_valued vs) refl

  callee_level : (f : Callee) (y : Callee-F CalleePair PlacePair ValuePair) → out-Callee f ≡ map-Callee CalleePair PlacePair ValuePair Callee Place Value (λ e. e.0) (λ e. e.0) (λ e. e.0) y → CalleeIs f
  callee_level f (Callee-F.Brick b) o = ap (λ x. x.called) (callee_at f (Callee-F.Brick b) o) ∙ sym (called_at f (Callee-F.Brick b) o)
  callee_level f (Callee-F.«Callee::Through» v) o =
      ap (λ x. x.called) (callee_at f (Callee-F.«Callee::Through» v.0) o) ∙ ap (λ (x : Valued). one_callee c (Callee-F.«Callee::Through» x)) v.1 ∙ sym (called_at f (Callee-F.«Callee::Through» v.0) o)

  place_level : (p : Place) (y : Place-F CalleePair PlacePair ValuePair) → out-Place p ≡ map-Place CalleePair PlacePair ValuePair Callee Place Value (λ e. e.0) (λ e. e.0) (λ e. e.0) y → PlaceIs p
  place_level p (Place-F.Local i) o = ap (λ x. x.placed) (place_at p (Place-F.Local i) o) ∙ sym (placed_at p (Place-F.Local i) o)
  place_level p (Place-F.Item b j) o = ap (λ x. x.placed) (place_at p (Place-F.Item b j) o) ∙ sym (placed_at p (Place-F.Item b j) o)
  place_level p (Place-F.Svc k) o = ap (λ x. x.placed) (place_at p (Place-F.Svc k) o) ∙ sym (placed_at p (Place-F.Svc k) o)
  place_level p (Place-F.Field q k) o =
      ap (λ x. x.placed) (place_at p (Place-F.Field q.0 k) o) ∙ ap (λ (x : Placed). one_place c (Place-F.Field x k)) q.1 ∙ sym (placed_at p (Place-F.Field q.0 k) o)
  place_level p (Place-F.Element q v) o =
      ap (λ x. x.placed) (place_at p (Place-F.Element q.0 v.0) o) ∙ ap (λ (x : Placed). one_place c (Place-F.Element x (value_points c v.0).valued)) q.1
      ∙ ap (λ (x : Valued). one_place c (Place-F.Element (placed c q.0) x)) v.1 ∙ sym (placed_at p (Place-F.Element q.0 v.0) o)
  place_level p (Place-F.«Place::Through» v) o =
      ap (λ x. x.placed) (place_at p (Place-F.«Place::Through» v.0) o) ∙ ap (λ (x : Valued). one_place c (Place-F.«Place::Through» x)) v.1 ∙ sym (placed_at p (Place-F.«Place::Through» v.0) o)

  value_level : (v : Value) (y : Value-F CalleePair PlacePair ValuePair) → out-Value v ≡ map-Value CalleePair PlacePair ValuePair Callee Place Value (λ e. e.0) (λ e. e.0) (λ e. e.0) y → ValueIs v
  value_level v (Value-F.Number n) o = ap (λ x. x.valued) (value_at v (Value-F.Number n) o) ∙ sym (valued_at v (Value-F.Number n) o)
  value_level v (Value-F.Text n) o = ap (λ x. x.valued) (value_at v (Value-F.Text n) o) ∙ sym (valued_at v (Value-F.Text n) o)
  value_level v (Value-F.Proc n) o = ap (λ x. x.valued) (value_at v (Value-F.Proc n) o) ∙ sym (valued_at v (Value-F.Proc n) o)
  value_level v (Value-F.Read p) o = ap (λ x. x.valued) (value_at v (Value-F.Read p.0) o) ∙ ap (λ (x : Placed). one_value c (Value-F.Read x)) p.1 ∙ sym (valued_at v (Value-F.Read p.0) o)
  value_level v (Value-F.Reference p) o = ap (λ x. x.valued) (value_at v (Value-F.Reference p.0) o) ∙ ap (λ (x : Placed). one_value c (Value-F.Reference x)) p.1 ∙ sym (valued_at v (Value-F.Reference p.0) o)
  value_level v (Value-F.Length p) o = ap (λ x. x.valued) (value_at v (Value-F.Length p.0) o) ∙ ap (λ (x : Placed). one_value c (Value-F.Length x)) p.1 ∙ sym (valued_at v (Value-F.Length p.0) o)
  value_level v (Value-F.Monadic k a) o = ap (λ x. x.valued) (value_at v (Value-F.Monadic k a.0) o) ∙ ap (λ (x : Valued). one_value c (Value-F.Monadic k x)) a.1 ∙ sym (valued_at v (Value-F.Monadic k a.0) o)
  value_level v (Value-F.Dyadic k a b) o =
      ap (λ x. x.valued) (value_at v (Value-F.Dyadic k a.0 b.0) o) ∙ ap (λ (x : Valued). one_value c (Value-F.Dyadic k x (value_points c b.0).valued)) a.1
      ∙ ap (λ (x : Valued). one_value c (Value-F.Dyadic k (valued c a.0) x)) b.1 ∙ sym (valued_at v (Value-F.Dyadic k a.0 b.0) o)
  value_level v (Value-F.Call f vs) o =
      ap (λ x. x.valued) (value_at v (Value-F.Call f.0 (map (λ (e : ValuePair). e.0) vs)) o)
      ∙ ap (λ (x : Called). one_value c (Value-F.Call x (values_of (map (value_points c) (map (λ (e : ValuePair). e.0) vs))))) f.1
      ∙ ap (λ (x : List Valued). one_value c (Value-F.Call (called c f.0) x)) (all_valued vs) ∙ sym (valued_at v (Value-F.Call f.0 (map (λ (e : ValuePair). e.0) vs)) o)

  rolled_callee : (x : Callee-F Callee Place Value) → out-Callee (roll-Callee x) ≡ x
  rolled_callee x = search callees.the_lemmas

  rolled_place : (x : Place-F Callee Place Value) → out-Place (roll-Place x) ≡ x
  rolled_place x = search places.the_lemmas

  rolled_value : (x : Value-F Callee Place Value) → out-Value (roll-Value x) ≡ x
  rolled_value x = search values.the_lemmas

  pub value_fused : (v : Value) → ValueIs v
  value_fused = ind-Value CalleeIs PlaceIs ValueIs (λ x y is. callee_level (roll-Callee x) y (rolled_callee x ∙ sym is)) (λ x y is. place_level (roll-Place x) y (rolled_place x ∙ sym is))
      (λ x y is. value_level (roll-Value x) y (rolled_value x ∙ sym is))

  pub place_fused : (p : Place) → PlaceIs p
  place_fused = ind-Place CalleeIs PlaceIs ValueIs (λ x y is. callee_level (roll-Callee x) y (rolled_callee x ∙ sym is)) (λ x y is. place_level (roll-Place x) y (rolled_place x ∙ sym is))
      (λ x y is. value_level (roll-Value x) y (rolled_value x ∙ sym is))
