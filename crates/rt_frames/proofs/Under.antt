-- The points of places and values that fit stand below their depth.
use Rattle.std.proofs.Common.{◌≡◌, ℕ, zero, suc, ◌+◌, ◌<◌, ◌≤◌, Bool, true, false, ◌&&◌, ◌||◌, not, if◌then◌else◌, List, [], ◌∷◌, ◌++◌, length, map, Option, Some, None, option_map, slice_get, refl, sym, subst, ◌∙◌, arith}
use Rattle.std.specs.List.{AllByRecursion}
use Rattle.std.proofs.lemmas.Bool.{and_parts}
use Rattle.rt_modes.specs.declared.mode.Field.{Field}
use Rattle.rt_modes.specs.declared.mode.Mode.{Mode, out-Mode}
use Rattle.rt_modes.specs.declared.mode.Mode.TheOpen.{Mode-F}
use Rattle.rt_modes.specs.declared.mode.RecordDef.{RecordDef}
use Rattle.rt_tree_nodes.specs.declared.brick.Local.{Local}
use Rattle.rt_tree_nodes.specs.declared.brick.Local.TheVariants as local
use Rattle.rt_tree_nodes.specs.declared.operators.Op1.{Op1}
use Rattle.rt_tree_nodes.specs.declared.operators.Op2.{Op2}
use Rattle.rt_tree_nodes.specs.declared.value.Callee.{Callee, out-Callee, roll-Callee, map-Callee}
use Rattle.rt_tree_nodes.specs.declared.value.Callee as callees
use Rattle.rt_tree_nodes.specs.declared.value.Callee.TheFolds.{ind-Value, ind-Place}
use Rattle.rt_tree_nodes.specs.declared.value.Callee.TheOpen.{Callee-F, Place-F, Value-F}
use Rattle.rt_tree_nodes.specs.declared.value.Place.{Place, out-Place, roll-Place, map-Place}
use Rattle.rt_tree_nodes.specs.declared.value.Place as places
use Rattle.rt_tree_nodes.specs.declared.value.Value.{Value, out-Value, roll-Value, map-Value}
use Rattle.rt_tree_nodes.specs.declared.value.Value as values
use Rattle.rt_tree_nodes.specs.Scopes.{Scope, Face, with, only, passes, items_of, is_svc, field_at, svc_mode}
use Rattle.rt_tree_nodes.specs.Tree.{Term, Num, Str, Name, Own, Get, Ref, RefRow, Count, CountRow, One, Two, Over, Apply, ApplyBy, Terms}
use Rattle.rt_tree_nodes.specs.Typing.{Valued, Found, Variable, Loop, Shared, Private, Row, Spot, OnLocal, OnPath, OnRow, is_int, suits, all_suit, terms_of, local_found, kept, field_found, field_by, field_in, element_found, element_by, element_in, led, led_by, led_spot, led_tree, dyadic_tree, call_mode, signature_by}
use Rattle.rt_tree.specs.Depth.{depth, address_depth, arguments_depth, behind}
use Rattle.rt_frames.specs.declared.frame.CallPoint.{CallPoint}
use Rattle.rt_frames.specs.declared.frame.Target.{Target}
use Rattle.rt_frames.specs.declared.frame.Target.TheVariants as target
use Rattle.rt_frames.specs.declared.measure.Address.{Address}
use Rattle.rt_frames.specs.declared.measure.Address.TheVariants as address
use Rattle.rt_frames.specs.Measures.{address_of, depth_of, words, taken}
use Rattle.rt_frames.specs.Points.{CalleePoints, PlacePoints, ValuePoints, callee_step, place_step, value_step, callee_points, place_points, value_points, values_of, address_words, arguments_points, call_point, error_points, is_division, is_safe}
use Rattle.rt_frames.proofs.Fused.{callee_layer, place_layer, value_layer, callee_at, place_at, value_at}
use Rattle.rt_frames.proofs.Reached.{array_address, words_of_spot, spot_of_field, spot_of_element, read_depth, reference_depth, length_depth, dyadic_depth}

-- a point within so many words
pub record IsUnder (t : ℕ) (p : CallPoint) : Type 0 where
  pub depth : p.depth < t
  pub args : p.args ≤ t

abbrev pub AllUnder : ℕ → List CallPoint → Type 0
AllUnder t ps = AllByRecursion (IsUnder t) ps

pub under_more : (t u : ℕ) (ps : List CallPoint) → t ≤ u → AllUnder t ps → AllUnder u ps
under_more t u [] l h = tt
under_more t u (p ∷ ps) l h = (record { depth = omega (arith, l, h.0.depth); args = omega (arith, l, h.0.args) }, under_more t u ps l h.1)

pub under_both : (t : ℕ) (ps qs : List CallPoint) → AllUnder t ps → AllUnder t qs → AllUnder t (ps ++ qs)
under_both t [] qs h k = k
under_both t (p ∷ ps) qs h k = (h.0, under_both t ps qs h.1 k)

-- ---- what is there

abbrev pub is_there : {A : Type 0} → Option A → Bool
is_there None = false
is_there (Some x) = true

pub there_with : {A B : Type 0} (o : Option A) (go : A → Option B) → is_there (with o go) ≡ true → (x : A) × ((o ≡ Some x) × (is_there (go x) ≡ true))
there_with None go h = absurd cc
there_with (Some x) go h = (x, (refl, h))

pub there_some : {A : Type 0} (o : Option A) (x : A) → o ≡ Some x → is_there o ≡ true
there_some o x e = rw e refl

pub there_passes : {A : Type 0} (test : A → Bool) (o : Option A) → passes test o ≡ true → is_there o ≡ true
there_passes test None h = absurd cc
there_passes test (Some x) h = refl

pub only_there : {A : Type 0} (b : Bool) (x : A) → is_there (only b x) ≡ true → b ≡ true
only_there true x h = refl
only_there false x h = absurd cc

or_left : (a : Bool) → a || false ≡ true → a ≡ true
or_left true h = refl
or_left false h = absurd cc

or_by_left : (a b : Bool) → a ≡ true → a || b ≡ true
or_by_left a b e = rw e refl

or_second : (a b : Bool) → (b ≡ false → a ≡ false) → a || b ≡ true → b ≡ true
or_second a true f h = refl
or_second true false f h = absurd (let z = f refl in cc)
or_second false false f h = absurd cc

-- a value fits where it has a mode, or is a call that fits
abbrev pub fit : Valued → Bool
fit v = is_there v.mode || is_there v.call

-- what is found suits how it is come to
abbrev pub spot_suits : Found → Spot → Bool
spot_suits (Variable m) (OnLocal i) = true
spot_suits Loop (OnLocal i) = true
spot_suits (Shared m) (OnPath q) = true
spot_suits (Private m) (OnPath q) = true
spot_suits (Row m) (OnRow v) = true
spot_suits _ _ = false

abbrev pub found_suits : Option Found → Spot → Bool
found_suits None s = true
found_suits (Some f) s = spot_suits f s

abbrev pub spot_depth : Spot → ℕ
spot_depth s = depth_of (address_of s)

-- ---- what holds of places, values and what is called

pub record PlaceUnder (x : PlacePoints) : Type 0 where
  pub suits : found_suits x.placed.found x.placed.tree ≡ true
  pub points : is_there x.placed.found ≡ true → (n : ℕ) → AllUnder (n + spot_depth x.placed.tree) (x.points n)

pub record ValueUnder (x : ValuePoints) : Type 0 where
  pub points : fit x.valued ≡ true → (n : ℕ) → AllUnder (n + depth x.valued.tree) (x.points n)

pub record CalleeUnder (x : CalleePoints) : Type 0 where
  pub points : is_there x.called.mode ≡ true → (ts : Terms) (n : ℕ) → AllUnder (n + depth (x.called.tree ts)) (x.points n)
  pub takes : (ts : Terms) → arguments_depth x.takes ts ≤ depth (x.called.tree ts)

-- ---- depths

pub depth_some : (t : Term) → 1 ≤ depth t
depth_some (Num n) = omega arith
depth_some (Str n) = omega arith
depth_some (Name b) = omega arith
depth_some (Own i) = omega arith
depth_some (Get m p) = grind arith
depth_some (Ref p) = grind arith
depth_some (RefRow p n) = grind arith
depth_some (Count p n) = grind arith
depth_some (CountRow v) = depth_some v
depth_some (One o v) = depth_some v
depth_some (Two o a b) = grind arith
depth_some (Over o a b) = grind arith
depth_some (Apply b vs) = grind arith
depth_some (ApplyBy m f vs) = grind arith

taken_above : (a : Address) → depth_of a ≤ taken a
taken_above address.Local = omega arith
taken_above (address.Path d) = grind arith
taken_above (address.Row d) = omega arith

pub waits_below : (d v : ℕ) → words (address.Path d) + v ≤ behind d v
waits_below zero v = omega arith
waits_below (suc d) v = grind arith

pub address_below : (d v : ℕ) → d ≤ behind d v
address_below zero v = omega arith
address_below (suc d) v = grind arith

-- arguments are no more than what they take
many_arguments : (t : ℕ) (v : ValuePoints) (vs : List ValuePoints) → t + suc (length vs) ≤ arguments_depth t (terms_of (values_of (v ∷ vs)))
many_arguments t v [] = let some = depth_some v.valued.tree in grind (arith, some)
many_arguments t v (w ∷ ws) = let more = many_arguments (suc t) w ws in grind (arith, more)

few_arguments : (t : ℕ) (vs : List ValuePoints) → length vs ≤ arguments_depth t (terms_of (values_of vs))
few_arguments t [] = omega arith
few_arguments t (v ∷ vs) = let many = many_arguments t v vs in omega (arith, many)

-- ---- what is found

local_suits : (o : Option Local) (i : ℕ) → found_suits (option_map local_found o) (OnLocal i) ≡ true
local_suits None i = refl
local_suits (Some (local.Variable m)) i = refl
local_suits (Some local.Loop) i = refl

kept_suits : (svc : Bool) (o : Option Mode) (s : Spot) (q : _) → s ≡ OnPath q → found_suits (option_map (kept svc) o) s ≡ true
kept_suits true None s q e = refl
kept_suits true (Some m) s q e = rw e refl
kept_suits false None s q e = refl
kept_suits false (Some m) s q e = rw e refl

fields_suit : (svc : Bool) (o : Option (List Field)) (j : ℕ) (s : Spot) (q : _) → s ≡ OnPath q → found_suits (with o (λ fs. option_map (kept svc) (field_at fs j))) s ≡ true
fields_suit svc None j s q e = refl
fields_suit svc (Some fs) j s q e = kept_suits svc (field_at fs j) s q e

face_suits : (o : Option Face) (j : ℕ) (s : Spot) (q : _) → s ≡ OnPath q → found_suits (with o (λ d. with (items_of d) (λ fs. option_map (kept (is_svc d.kind)) (field_at fs j)))) s ≡ true
face_suits None j s q e = refl
face_suits (Some d) j s q e = fields_suit (is_svc d.kind) (items_of d) j s q e

field_suits : (rs : List RecordDef) (k : ℕ) (o : Option Found) (s : Spot) → found_suits o s ≡ true → found_suits (with o (field_found rs k)) (field_in o s k) ≡ true
field_suits rs k None s h = refl
field_suits rs k (Some (Shared m)) (OnPath q) h = by_field (field_by rs k (out-Mode m)) where
  by_field : (o : Option Mode) → found_suits (option_map Shared o) (field_in (Some (Shared m)) (OnPath q) k) ≡ true
  by_field None = refl
  by_field (Some w) = refl
field_suits rs k (Some (Private m)) (OnPath q) h = by_field (field_by rs k (out-Mode m)) where
  by_field : (o : Option Mode) → found_suits (option_map Private o) (field_in (Some (Private m)) (OnPath q) k) ≡ true
  by_field None = refl
  by_field (Some w) = refl
field_suits rs k (Some (Shared m)) (OnLocal i) h = absurd cc
field_suits rs k (Some (Shared m)) (OnRow v) h = absurd cc
field_suits rs k (Some (Private m)) (OnLocal i) h = absurd cc
field_suits rs k (Some (Private m)) (OnRow v) h = absurd cc
field_suits rs k (Some (Variable m)) s h = refl
field_suits rs k (Some Loop) s h = refl
field_suits rs k (Some (Row m)) s h = refl

element_suits : (o : Option Found) (s : Spot) (v : Term) (w : Option Mode) → found_suits o s ≡ true → found_suits (with o (λ f. with w (λ m. if is_int m then element_found f else None))) (element_in o s v) ≡ true
element_suits None s v w h = refl
element_suits (Some f) s v None h = refl
element_suits (Some f) s v (Some m) h = by_int (is_int m) f s h where
  by_mode : (g : Mode → Found) (o : Option Mode) (s : Spot) (p : _) → ((u : Mode) (q : _) → spot_suits (g u) (OnPath q) ≡ true) → s ≡ OnPath p → found_suits (option_map g o) s ≡ true
  by_mode g None s p t e = refl
  by_mode g (Some u) s p t e = rw e (t u p)

  by_int : (b : Bool) (f : Found) (s : Spot) → spot_suits f s ≡ true → found_suits (if b then element_found f else None) (element_in (Some f) s v) ≡ true
  by_int false f s h = refl
  by_int true (Shared u) (OnPath q) h = by_mode Shared (element_by (out-Mode u)) _ _ (λ x y. refl) refl
  by_int true (Private u) (OnPath q) h = by_mode Private (element_by (out-Mode u)) _ _ (λ x y. refl) refl
  by_int true (Row u) (OnRow a) h = refl
  by_int true (Variable u) s h = refl
  by_int true Loop s h = refl
  by_int true (Shared u) (OnLocal i) h = absurd cc
  by_int true (Shared u) (OnRow a) h = absurd cc
  by_int true (Private u) (OnLocal i) h = absurd cc
  by_int true (Private u) (OnRow a) h = absurd cc
  by_int true (Row u) (OnLocal i) h = absurd cc
  by_int true (Row u) (OnPath q) h = absurd cc

led_suits : (o : Option Mode) (v : Term) → found_suits (with o led) (led_tree o v) ≡ true
led_suits None v = refl
led_suits (Some m) v = by_layer (out-Mode m) where
  by_layer : (l : Mode-F Mode) → found_suits (led_by l) (led_spot l v) ≡ true
  by_layer (Mode-F.Ref u) = refl
  by_layer (Mode-F.RefArray u) = refl
  by_layer _ = refl

led_depth : (o : Option Mode) (v : Term) → spot_depth (led_tree o v) ≡ depth v
led_depth None v = refl
led_depth (Some m) v = by_layer (out-Mode m) where
  by_layer : (l : Mode-F Mode) → spot_depth (led_spot l v) ≡ depth v
  by_layer (Mode-F.Ref u) = refl
  by_layer _ = refl

-- what stands in the element of an array is no deeper than it
pub record ElementIsAbove (s : Spot) (v : ℕ) (e : ℕ) : Type 0 where
  pub array : spot_depth s ≤ e
  pub subscript : address_words s + v ≤ e

element_above : (o : Option Found) (s : Spot) (v : Term) (w : Option Mode) → found_suits o s ≡ true → is_there (with o (λ f. with w (λ m. if is_int m then element_found f else None))) ≡ true
    → ElementIsAbove s (depth v) (spot_depth (element_in o s v))
element_above None s v w h t = absurd cc
element_above (Some f) s v None h t = absurd cc
element_above (Some f) s v (Some m) h t = by_int (is_int m) f s h t where
  by_layer : (g : Mode → Found) (l : Mode-F Mode) (d : ℕ) → is_there (option_map g (element_by l)) ≡ true → (d ≤ depth_of (array_address l (address.Path d) (depth v))) × (words (address.Path d) + depth v ≤ depth_of (array_address l (address.Path d) (depth v)))
  by_layer g (Mode-F.Array n u) d t = (address_below d (depth v), waits_below d (depth v))
  by_layer g Mode-F.Byte d t = absurd cc
  by_layer g Mode-F.Int d t = absurd cc
  by_layer g Mode-F.Frac d t = absurd cc
  by_layer g Mode-F.Label d t = absurd cc
  by_layer g (Mode-F.Ref u) d t = absurd cc
  by_layer g (Mode-F.RefArray u) d t = absurd cc
  by_layer g (Mode-F.Record r) d t = absurd cc
  by_layer g (Mode-F.Proc us r) d t = absurd cc

  by_path : (g : Mode → Found) (f : Found) (u : Mode) (q : _) → address_of (element_in (Some f) (OnPath q) v) ≡ array_address (out-Mode u) (address.Path (address_depth q)) (depth v) → is_there (option_map g (element_by (out-Mode u))) ≡ true
      → ElementIsAbove (OnPath q) (depth v) (spot_depth (element_in (Some f) (OnPath q) v))
  by_path g f u q e t = let both = by_layer g (out-Mode u) (address_depth q) t in record {
    array = rw e both.0;
    subscript = rw (e, sym (words_of_spot (OnPath q))) both.1;
  }

  by_int : (b : Bool) (f : Found) (s : Spot) → spot_suits f s ≡ true → is_there (if b then element_found f else None) ≡ true → ElementIsAbove s (depth v) (spot_depth (element_in (Some f) s v))
  by_int false f s h t = absurd cc
  by_int true (Shared u) (OnPath q) h t = by_path Shared (Shared u) u q (spot_of_element (Some (Shared u)) (OnPath q) v) t
  by_int true (Private u) (OnPath q) h t = by_path Private (Private u) u q (spot_of_element (Some (Private u)) (OnPath q) v) t
  by_int true (Row u) (OnRow a) h t = record { array = grind arith; subscript = grind arith }
  by_int true (Variable u) s h t = absurd cc
  by_int true Loop s h t = absurd cc
  by_int true (Shared u) (OnLocal i) h t = absurd cc
  by_int true (Shared u) (OnRow a) h t = absurd cc
  by_int true (Private u) (OnLocal i) h t = absurd cc
  by_int true (Private u) (OnRow a) h t = absurd cc
  by_int true (Row u) (OnLocal i) h t = absurd cc
  by_int true (Row u) (OnPath q) h t = absurd cc

-- ---- one level

error_under : (o : Op2) (divisor : Option ℕ) (n d : ℕ) → 1 ≤ d → AllUnder (n + d) (error_points o divisor n)
error_under o divisor n d l = by_test (is_division o && not (is_safe divisor)) where
  by_test : (b : Bool) → AllUnder (n + d) (if b then record { depth = n; args = 1; target = target.Error } ∷ [] else [])
  by_test true = (record { depth = omega (arith, l); args = omega (arith, l) }, tt)
  by_test false = tt

call_under : (o : Option Target) (n count d : ℕ) → 1 ≤ d → count ≤ d → AllUnder (n + d) (call_point o n count)
call_under None n count d l m = tt
call_under (Some t) n count d l m = (record { depth = omega (arith, l); args = omega (arith, m) }, tt)

pub value_there : (v : Valued) → is_there v.mode ≡ true → fit v ≡ true
value_there v h = or_by_left (is_there v.mode) (is_there v.call) h

module _ (c : Scope) where
  read_under : (x : PlacePoints) → PlaceUnder x → ValueUnder (value_step c (Value-F.Read x))
  read_under x h = record {
    points = λ f n. let t = there_with x.placed.found _ (or_left _ f) in
        under_more (n + spot_depth x.placed.tree) _ (x.points n) (let d = read_depth x.placed x.placed.tree refl in let a = taken_above (address_of x.placed.tree) in omega (arith, d, a)) (h.points (there_some x.placed.found t.0 t.1.0) n);
  }

  reference_under : (x : PlacePoints) → PlaceUnder x → ValueUnder (value_step c (Value-F.Reference x))
  reference_under x h = record {
    points = λ f n. let t = there_with x.placed.found _ (or_left _ f) in
        under_more (n + spot_depth x.placed.tree) _ (x.points n) (let d = reference_depth x.placed x.placed.tree refl in let a = taken_above (address_of x.placed.tree) in omega (arith, d, a)) (h.points (there_some x.placed.found t.0 t.1.0) n);
  }

  length_under : (x : PlacePoints) → PlaceUnder x → ValueUnder (value_step c (Value-F.Length x))
  length_under x h = record {
    points = λ f n. let t = there_with x.placed.found _ (or_left _ f) in
        under_more (n + spot_depth x.placed.tree) _ (x.points n) (let d = length_depth x.placed x.placed.tree refl in let a = taken_above (address_of x.placed.tree) in omega (arith, d, a)) (h.points (there_some x.placed.found t.0 t.1.0) n);
  }

  monadic_under : (o : Op1) (x : ValuePoints) → ValueUnder x → ValueUnder (value_step c (Value-F.Monadic o x))
  monadic_under o x h = record { points = λ f n. let t = there_with x.valued.mode _ (or_left _ f) in h.points (value_there x.valued (there_some x.valued.mode t.0 t.1.0)) n }

  dyadic_under : (o : Op2) (x y : ValuePoints) → ValueUnder x → ValueUnder y → ValueUnder (value_step c (Value-F.Dyadic o x y))
  dyadic_under o x y h k = record {
    points = λ f n.
        let t = there_with x.valued.mode _ (or_left _ f) in
        let u = there_with y.valued.mode _ t.1.1 in
        let whole = dyadic_depth o x.valued.tree y.valued.tree in
        let some = depth_some (dyadic_tree o x.valued.tree y.valued.tree) in
        under_both _ (x.points n) _ (under_more (n + depth x.valued.tree) _ (x.points n) (grind (arith, whole)) (h.points (value_there x.valued (there_some x.valued.mode t.0 t.1.0)) n))
        (under_both _ (y.points (suc n)) _ (under_more (suc n + depth y.valued.tree) _ (y.points (suc n)) (grind (arith, whole)) (k.points (value_there y.valued (there_some y.valued.mode u.0 u.1.0)) (suc n)))
        (error_under o y.valued.number n _ some));
  }

  abbrev ValuePair : Type 0
  ValuePair = (v : Value) × ValueUnder (value_points c v)

  abbrev CalleePair : Type 0
  CalleePair = (f : Callee) × CalleeUnder (callee_points c f)

  abbrev PlacePair : Type 0
  PlacePair = (p : Place) × PlaceUnder (place_points c p)

  abbrev their_points : List ValuePair → List ValuePoints
  their_points vs = map (value_points c) (map (λ (e : ValuePair). e.0) vs)

  arguments_under : (ws : List Mode) (vs : List ValuePair) → all_suit ws (values_of (their_points vs)) ≡ true → (n t : ℕ) → AllUnder (n + arguments_depth t (terms_of (values_of (their_points vs)))) (arguments_points (n + t) (their_points vs))
  arguments_under ws [] h n t = tt
  arguments_under [] (v ∷ vs) h n t = absurd cc
  arguments_under (w ∷ ws) (v ∷ vs) h n t =
      let parts = and_parts (suits w (value_points c v.0).valued) (all_suit ws (values_of (their_points vs))) h in
      let there = value_there (value_points c v.0).valued (there_passes _ (value_points c v.0).valued.mode parts.0) in
      let next : n + suc t ≡ suc (n + t) = omega arith in
      let others = subst (λ (k : ℕ). AllUnder (n + arguments_depth (suc t) (terms_of (values_of (their_points vs)))) (arguments_points k (their_points vs))) next (arguments_under ws vs parts.1 n (suc t)) in
      under_both _ ((value_points c v.0).points (n + t)) _ (under_more (n + t + depth (value_points c v.0).valued.tree) _ ((value_points c v.0).points (n + t)) (grind arith) (v.1.points there (n + t)))
      (under_more (n + arguments_depth (suc t) (terms_of (values_of (their_points vs)))) _ (arguments_points (suc (n + t)) (their_points vs)) (grind arith) others)

  no_call : (f : Option Mode) (vs : List Valued) → is_there (call_mode f vs) ≡ false → is_there (with (call_mode f vs) (λ r. r)) ≡ false
  no_call f vs h = by_call (call_mode f vs) h where
    by_call : (o : Option (Option Mode)) → is_there o ≡ false → is_there (with o (λ r. r)) ≡ false
    by_call None h = refl
    by_call (Some r) h = absurd cc

  value_call_under : (f : CalleePair) (vs : List ValuePair) → ValueUnder (value_step c (Value-F.Call (callee_points c f.0) (their_points vs)))
  value_call_under f vs = record {
    points = λ e n.
        let x = callee_points c f.0 in
        let called = or_second _ (is_there (call_mode x.called.mode (values_of (their_points vs)))) (no_call x.called.mode (values_of (their_points vs))) e in
        let t = there_with x.called.mode _ called in
        let s = there_with (signature_by (out-Mode t.0)) _ t.1.1 in
        let suit = only_there (all_suit s.0.parameters (values_of (their_points vs))) s.0.answer s.1.1 in
        let ts = terms_of (values_of (their_points vs)) in
        let takes = f.1.takes ts in
        let few = few_arguments x.takes (their_points vs) in
        under_both _ (x.points n) _ (f.1.points (there_some x.called.mode t.0 t.1.0) ts n)
        (under_both _ (arguments_points (n + x.takes) (their_points vs)) _ (under_more (n + arguments_depth x.takes ts) _ (arguments_points (n + x.takes) (their_points vs)) (omega (arith, takes)) (arguments_under s.0.parameters vs suit n x.takes))
        (call_under x.target n (length (their_points vs)) (depth (x.called.tree ts)) (depth_some (x.called.tree ts)) (omega (arith, takes, few))));
  }

  abbrev plain_callee : Callee-F CalleePair PlacePair ValuePair → Callee-F Callee Place Value
  plain_callee y = map-Callee CalleePair PlacePair ValuePair Callee Place Value (λ e. e.0) (λ e. e.0) (λ e. e.0) y

  abbrev plain_place : Place-F CalleePair PlacePair ValuePair → Place-F Callee Place Value
  plain_place y = map-Place CalleePair PlacePair ValuePair Callee Place Value (λ e. e.0) (λ e. e.0) (λ e. e.0) y

  abbrev plain_value : Value-F CalleePair PlacePair ValuePair → Value-F Callee Place Value
  plain_value y = map-Value CalleePair PlacePair ValuePair Callee Place Value (λ e. e.0) (λ e. e.0) (λ e. e.0) y

  callee_level : (y : Callee-F CalleePair PlacePair ValuePair) → CalleeUnder (callee_step c (callee_layer c (plain_callee y)))
  callee_level (Callee-F.Brick b) = record { points = λ t ts n. tt; takes = λ ts. grind arith }
  callee_level (Callee-F.«Callee::Through» v) = record {
    points = λ t ts n. under_more (n + depth (value_points c v.0).valued.tree) _ ((value_points c v.0).points n) (grind arith) (v.1.points (value_there (value_points c v.0).valued t) n);
    takes = λ ts. grind arith;
  }

  place_level : (y : Place-F CalleePair PlacePair ValuePair) → PlaceUnder (place_step c (place_layer c (plain_place y)))
  place_level (Place-F.Local i) = record { suits = local_suits (slice_get c.locals i) i; points = λ t n. tt }
  place_level (Place-F.Item b j) = record { suits = face_suits (slice_get c.bricks b) j _ _ refl; points = λ t n. tt }
  place_level (Place-F.Svc k) = record { suits = kept_suits true (svc_mode c k) _ _ refl; points = λ t n. tt }
  place_level (Place-F.Field p k) =
      let x = place_points c p.0 in
      record {
        suits = field_suits c.records k x.placed.found x.placed.tree p.1.suits;
        points = λ t n. let f = there_with x.placed.found _ t in
            subst (λ (a : Address). AllUnder (n + depth_of a) (x.points n)) (sym (spot_of_field x.placed.found x.placed.tree k)) (p.1.points (there_some x.placed.found f.0 f.1.0) n);
      }
  place_level (Place-F.Element p v) =
      let x = place_points c p.0 in
      let w = value_points c v.0 in
      record {
        suits = element_suits x.placed.found x.placed.tree w.valued.tree w.valued.mode p.1.suits;
        points = λ t n.
            let f = there_with x.placed.found _ t in
            let m = there_with w.valued.mode _ f.1.1 in
            let above = element_above x.placed.found x.placed.tree w.valued.tree w.valued.mode p.1.suits t in
            under_both _ (x.points n) _ (under_more (n + spot_depth x.placed.tree) _ (x.points n) (let a = above.array in omega (arith, a)) (p.1.points (there_some x.placed.found f.0 f.1.0) n))
            (under_more (n + address_words x.placed.tree + depth w.valued.tree) _ (w.points (n + address_words x.placed.tree)) (let a = above.subscript in omega (arith, a)) (v.1.points (value_there w.valued (there_some w.valued.mode m.0 m.1.0)) (n + address_words x.placed.tree)));
      }
  place_level (Place-F.«Place::Through» v) =
      let w = value_points c v.0 in
      record {
        suits = led_suits w.valued.mode w.valued.tree;
        points = λ t n. let m = there_with w.valued.mode _ t in
            subst (λ (d : ℕ). AllUnder (n + d) (w.points n)) (sym (led_depth w.valued.mode w.valued.tree)) (v.1.points (value_there w.valued (there_some w.valued.mode m.0 m.1.0)) n);
      }

  value_level : (y : Value-F CalleePair PlacePair ValuePair) → ValueUnder (value_step c (value_layer c (plain_value y)))
  value_level (Value-F.Number n) = record { points = λ f k. tt }
  value_level (Value-F.Text n) = record { points = λ f k. tt }
  value_level (Value-F.Proc b) = record { points = λ f k. tt }
  value_level (Value-F.Read p) = read_under (place_points c p.0) p.1
  value_level (Value-F.Reference p) = reference_under (place_points c p.0) p.1
  value_level (Value-F.Length p) = length_under (place_points c p.0) p.1
  value_level (Value-F.Monadic o a) = monadic_under o (value_points c a.0) a.1
  value_level (Value-F.Dyadic o a b) = dyadic_under o (value_points c a.0) (value_points c b.0) a.1 b.1
  value_level (Value-F.Call f vs) = value_call_under f vs

  -- ---- all levels

  rolled_callee : (x : Callee-F Callee Place Value) → out-Callee (roll-Callee x) ≡ x
  rolled_callee x = search callees.the_lemmas

  rolled_place : (x : Place-F Callee Place Value) → out-Place (roll-Place x) ≡ x
  rolled_place x = search places.the_lemmas

  rolled_value : (x : Value-F Callee Place Value) → out-Value (roll-Value x) ≡ x
  rolled_value x = search values.the_lemmas

  callee_as : (f : Callee) (y : Callee-F CalleePair PlacePair ValuePair) → out-Callee f ≡ plain_callee y → CalleeUnder (callee_points c f)
  callee_as f y o = subst CalleeUnder (sym (callee_at c f (plain_callee y) o)) (callee_level y)

  place_as : (p : Place) (y : Place-F CalleePair PlacePair ValuePair) → out-Place p ≡ plain_place y → PlaceUnder (place_points c p)
  place_as p y o = subst PlaceUnder (sym (place_at c p (plain_place y) o)) (place_level y)

  value_as : (v : Value) (y : Value-F CalleePair PlacePair ValuePair) → out-Value v ≡ plain_value y → ValueUnder (value_points c v)
  value_as v y o = subst ValueUnder (sym (value_at c v (plain_value y) o)) (value_level y)

  abbrev EachCallee : Callee → Type 0
  EachCallee f = CalleeUnder (callee_points c f)

  abbrev EachPlace : Place → Type 0
  EachPlace p = PlaceUnder (place_points c p)

  abbrev EachValue : Value → Type 0
  EachValue v = ValueUnder (value_points c v)

  pub value_under : (v : Value) → ValueUnder (value_points c v)
  value_under = ind-Value EachCallee EachPlace EachValue (λ x y is. callee_as (roll-Callee x) y (rolled_callee x ∙ sym is)) (λ x y is. place_as (roll-Place x) y (rolled_place x ∙ sym is))
      (λ x y is. value_as (roll-Value x) y (rolled_value x ∙ sym is))

  pub place_under : (p : Place) → PlaceUnder (place_points c p)
  place_under = ind-Place EachCallee EachPlace EachValue (λ x y is. callee_as (roll-Callee x) y (rolled_callee x ∙ sym is)) (λ x y is. place_as (roll-Place x) y (rolled_place x ∙ sym is))
      (λ x y is. value_as (roll-Value x) y (rolled_value x ∙ sym is))
