-- The points of places and values that fit are those of their plain trees.
use Rattle.std.proofs.Common.{◌≡◌, ℕ, suc, ◌+◌, if◌then◌else◌, Bool, true, false, ◌||◌, List, [], ◌∷◌, ◌++◌, length, map, Option, Some, None, option_map, refl, sym, ap, subst, ◌∙◌, arith}
use Rattle.std.proofs.lemmas.List.{append-nil}
use Rattle.std.proofs.lemmas.Bool.{and_parts}
use Rattle.rt_modes.specs.declared.mode.Mode.{Mode, out-Mode}
use Rattle.rt_modes.specs.declared.mode.Mode.TheOpen.{Mode-F}
use Rattle.rt_tree_nodes.specs.declared.operators.Op2.{Op2}
use Rattle.rt_tree_nodes.specs.declared.operators.Op2.TheVariants as two
use Rattle.rt_tree_nodes.specs.declared.value.Callee.{Callee, out-Callee, roll-Callee, map-Callee}
use Rattle.rt_tree_nodes.specs.declared.value.Callee as callees
use Rattle.rt_tree_nodes.specs.declared.value.Callee.TheFolds.{ind-Value, ind-Place}
use Rattle.rt_tree_nodes.specs.declared.value.Callee.TheOpen.{Callee-F, Place-F, Value-F}
use Rattle.rt_tree_nodes.specs.declared.value.Place.{Place, out-Place, roll-Place, map-Place}
use Rattle.rt_tree_nodes.specs.declared.value.Place as places
use Rattle.rt_tree_nodes.specs.declared.value.Value.{Value, out-Value, roll-Value, map-Value}
use Rattle.rt_tree_nodes.specs.declared.value.Value as values
use Rattle.rt_tree_nodes.specs.Scopes.{Scope, with}
use Rattle.rt_tree_nodes.specs.Tree.{Term, Path, Terms}
use Rattle.rt_tree_nodes.specs.Typing.{Valued, Placed, Found, Variable, Loop, Shared, Private, Row, Spot, OnLocal, OnPath, OnRow, is_int, suits, all_suit, terms_of, field_in, field_path, element_found, element_by, element_in, element_path, led_spot, led_tree, read_tree, read_mode, reference_tree, reference_path, reference_mode, length_tree, length_path, mode_at, dyadic_tree, call_mode, signature_by}
use Rattle.rt_frames.specs.declared.frame.CallPoint.{CallPoint}
use Rattle.rt_frames.specs.declared.frame.Target.TheVariants as target
use Rattle.rt_frames.specs.Points.{point, CalleePoints, PlacePoints, ValuePoints, callee_step, place_step, value_step, callee_points, place_points, value_points, values_of, address_words, arguments_points, call_point, error_points}
use Rattle.rt_frames.proofs.Fused.{callee_layer, place_layer, value_layer, callee_at, place_at, value_at}
use Rattle.rt_frames.proofs.Under.{is_there, there_with, there_some, there_passes, only_there, fit, value_there, found_suits, spot_suits, place_under}
use Rattle.rt_frames_laws.specs.Plain.{number_of, how_many, term_points, path_points, terms_points, spot_points}

or_left : (a : Bool) → a || false ≡ true → a ≡ true
or_left true h = refl
or_left false h = absurd cc

or_second : (a b : Bool) → (b ≡ false → a ≡ false) → a || b ≡ true → b ≡ true
or_second a true f h = refl
or_second true false f h = absurd (let z = f refl in cc)
or_second false false f h = absurd cc

not_there : (o : Option Mode) → o ≡ None → is_there o ≡ true → ⊥
not_there None e h = cc
not_there (Some m) e h = cc

-- ---- what holds of places, values and what is called

pub record PlaceIs (x : PlacePoints) : Type 0 where
  pub points : is_there x.placed.found ≡ true → (n : ℕ) → x.points n ≡ spot_points x.placed.tree n

pub record ValueIs (x : ValuePoints) : Type 0 where
  pub points : fit x.valued ≡ true → (n : ℕ) → x.points n ≡ term_points x.valued.tree n
  pub number : fit x.valued ≡ true → x.valued.number ≡ number_of x.valued.tree

pub record CalleeIs (x : CalleePoints) : Type 0 where
  pub points : is_there x.called.mode ≡ true → (ts : Terms) (n count : ℕ) (others : List CallPoint) → count ≡ how_many ts → others ≡ terms_points ts (n + x.takes) → x.points n ++ (others ++ call_point x.target n count) ≡ term_points (x.called.tree ts) n
  pub number : (ts : Terms) → number_of (x.called.tree ts) ≡ None

-- ---- places

field_spot : (o : Option Found) (s : Spot) (k n : ℕ) → spot_points (field_in o s k) n ≡ spot_points s n
field_spot None s k n = refl
field_spot (Some (Shared m)) (OnPath q) k n = by_layer (out-Mode m)
  where
    by_layer : (l : Mode-F Mode) → path_points (field_path l q k) n ≡ path_points q n
    by_layer (Mode-F.Record r) = refl
    by_layer _ = refl
field_spot (Some (Private m)) (OnPath q) k n = by_layer (out-Mode m)
  where
    by_layer : (l : Mode-F Mode) → path_points (field_path l q k) n ≡ path_points q n
    by_layer (Mode-F.Record r) = refl
    by_layer _ = refl
field_spot (Some (Shared m)) (OnLocal i) k n = refl
field_spot (Some (Shared m)) (OnRow v) k n = refl
field_spot (Some (Private m)) (OnLocal i) k n = refl
field_spot (Some (Private m)) (OnRow v) k n = refl
field_spot (Some (Variable m)) s k n = refl
field_spot (Some Loop) s k n = refl
field_spot (Some (Row m)) s k n = refl

led_points : (o : Option Mode) (v : Term) (n : ℕ) → spot_points (led_tree o v) n ≡ term_points v n
led_points None v n = refl
led_points (Some m) v n = by_layer (out-Mode m)
  where
    by_layer : (l : Mode-F Mode) → spot_points (led_spot l v) n ≡ term_points v n
    by_layer (Mode-F.Ref u) = refl
    by_layer _ = refl

element_points : (o : Option Found) (s : Spot) (v : Term) (w : Option Mode) (n : ℕ) → found_suits o s ≡ true → is_there (with o (λ f. with w (λ m. if is_int m then element_found f else None))) ≡ true
    → spot_points s n ++ term_points v (n + address_words s) ≡ spot_points (element_in o s v) n
element_points None s v w n h t = absurd cc
element_points (Some f) s v None n h t = absurd cc
element_points (Some f) s v (Some m) n h t = by_int (is_int m) f s h t
  where
    by_layer : (g : Mode → Found) (l : Mode-F Mode) (q : Path) → is_there (option_map g (element_by l)) ≡ true → path_points q n ++ term_points v (n + address_words (OnPath q)) ≡ path_points (element_path l q v) n
    by_layer g (Mode-F.Array k u) q t = refl
    by_layer g Mode-F.Byte q t = absurd cc
    by_layer g Mode-F.Int q t = absurd cc
    by_layer g Mode-F.Frac q t = absurd cc
    by_layer g Mode-F.Label q t = absurd cc
    by_layer g (Mode-F.Ref u) q t = absurd cc
    by_layer g (Mode-F.RefArray u) q t = absurd cc
    by_layer g (Mode-F.Record r) q t = absurd cc
    by_layer g (Mode-F.Proc us r) q t = absurd cc

    by_int : (b : Bool) (f : Found) (s : Spot) → spot_suits f s ≡ true → is_there (if b then element_found f else None) ≡ true → spot_points s n ++ term_points v (n + address_words s) ≡ spot_points (element_in (Some f) s v) n
    by_int false f s h t = absurd cc
    by_int true (Shared u) (OnPath q) h t = by_layer Shared (out-Mode u) q t
    by_int true (Private u) (OnPath q) h t = by_layer Private (out-Mode u) q t
    by_int true (Row u) (OnRow a) h t = refl
    by_int true (Variable u) s h t = absurd cc
    by_int true Loop s h t = absurd cc
    by_int true (Shared u) (OnLocal i) h t = absurd cc
    by_int true (Shared u) (OnRow a) h t = absurd cc
    by_int true (Private u) (OnLocal i) h t = absurd cc
    by_int true (Private u) (OnRow a) h t = absurd cc
    by_int true (Row u) (OnLocal i) h t = absurd cc
    by_int true (Row u) (OnPath q) h t = absurd cc

-- ---- what is read, referred to and counted at a place

read_points : (x : Placed) (s : Spot) (n : ℕ) → x.tree ≡ s → spot_points s n ≡ term_points (read_tree x) n
read_points x (OnLocal i) n e = rw e refl
read_points x (OnPath q) n e = rw e refl
read_points x (OnRow v) n e = rw e refl

reference_points : (x : Placed) (s : Spot) (n : ℕ) → x.tree ≡ s → spot_points s n ≡ term_points (reference_tree x) n
reference_points x (OnLocal i) n e = rw e refl
reference_points x (OnPath q) n e = rw e (by_layer (out-Mode (mode_at x.found)))
  where
    by_layer : (l : Mode-F Mode) → path_points q n ≡ term_points (reference_path l q) n
    by_layer (Mode-F.Array k m) = refl
    by_layer _ = refl
reference_points x (OnRow v) n e = rw e refl

length_points : (x : Placed) (s : Spot) (n : ℕ) → x.tree ≡ s → spot_points s n ≡ term_points (length_tree x) n
length_points x (OnLocal i) n e = rw e refl
length_points x (OnPath q) n e = rw e (by_layer (out-Mode (mode_at x.found)))
  where
    by_layer : (l : Mode-F Mode) → path_points q n ≡ term_points (length_path l q) n
    by_layer (Mode-F.Array k m) = refl
    by_layer _ = refl
length_points x (OnRow v) n e = rw e refl

read_number : (x : Placed) (o : Option Found) (s : Spot) → x.tree ≡ s → found_suits o s ≡ true → is_there (with o read_mode) ≡ true → None ≡ number_of (read_tree x)
read_number x o (OnLocal i) e h t = rw e refl
read_number x o (OnPath q) e h t = rw e refl
read_number x None (OnRow v) e h t = absurd cc
read_number x (Some (Variable m)) (OnRow v) e h t = absurd cc
read_number x (Some Loop) (OnRow v) e h t = absurd cc
read_number x (Some (Shared m)) (OnRow v) e h t = absurd cc
read_number x (Some (Private m)) (OnRow v) e h t = absurd cc
read_number x (Some (Row m)) (OnRow v) e h t = absurd cc

reference_number : (x : Placed) (o : Option Found) (s : Spot) → x.tree ≡ s → found_suits o s ≡ true → is_there (with o reference_mode) ≡ true → None ≡ number_of (reference_tree x)
reference_number x o (OnLocal i) e h t = rw e refl
reference_number x o (OnPath q) e h t = rw e (by_layer (out-Mode (mode_at x.found)))
  where
    by_layer : (l : Mode-F Mode) → None ≡ number_of (reference_path l q)
    by_layer (Mode-F.Array k m) = refl
    by_layer _ = refl
reference_number x None (OnRow v) e h t = absurd cc
reference_number x (Some (Variable m)) (OnRow v) e h t = absurd cc
reference_number x (Some Loop) (OnRow v) e h t = absurd cc
reference_number x (Some (Shared m)) (OnRow v) e h t = absurd cc
reference_number x (Some (Private m)) (OnRow v) e h t = absurd cc
reference_number x (Some (Row m)) (OnRow v) e h t = absurd cc

length_number : (x : Placed) (s : Spot) → x.tree ≡ s → None ≡ number_of (length_tree x)
length_number x (OnLocal i) e = rw e refl
length_number x (OnPath q) e = rw e (by_layer (out-Mode (mode_at x.found)))
  where
    by_layer : (l : Mode-F Mode) → None ≡ number_of (length_path l q)
    by_layer (Mode-F.Array k m) = refl
    by_layer _ = refl
length_number x (OnRow v) e = rw e refl

-- ---- operators

dyadic_points : (o : Op2) (a b : Term) (m : Option ℕ) (n : ℕ) → m ≡ number_of b → term_points a n ++ (term_points b (suc n) ++ error_points o m n) ≡ term_points (dyadic_tree o a b) n
dyadic_points two.Divide a b m n e = rw e refl
dyadic_points two.Mod a b m n e = rw e refl
dyadic_points two.Sll a b m n e = ap (λ ps. term_points a n ++ ps) (append-nil (term_points b (suc n)))
dyadic_points two.Srl a b m n e = ap (λ ps. term_points a n ++ ps) (append-nil (term_points b (suc n)))
dyadic_points two.Sla a b m n e = ap (λ ps. term_points a n ++ ps) (append-nil (term_points b (suc n)))
dyadic_points two.Sra a b m n e = ap (λ ps. term_points a n ++ ps) (append-nil (term_points b (suc n)))
dyadic_points two.Times a b m n e = ap (λ ps. term_points a n ++ ps) (append-nil (term_points b (suc n)))
dyadic_points two.FracTimes a b m n e = ap (λ ps. term_points a n ++ ps) (append-nil (term_points b (suc n)))
dyadic_points two.Land a b m n e = ap (λ ps. term_points a n ++ ps) (append-nil (term_points b (suc n)))
dyadic_points two.Plus a b m n e = ap (λ ps. term_points a n ++ ps) (append-nil (term_points b (suc n)))
dyadic_points two.Minus a b m n e = ap (λ ps. term_points a n ++ ps) (append-nil (term_points b (suc n)))
dyadic_points two.Lor a b m n e = ap (λ ps. term_points a n ++ ps) (append-nil (term_points b (suc n)))
dyadic_points two.Nev a b m n e = ap (λ ps. term_points a n ++ ps) (append-nil (term_points b (suc n)))

dyadic_number : (o : Op2) (a b : Term) → None ≡ number_of (dyadic_tree o a b)
dyadic_number two.Divide a b = refl
dyadic_number two.Mod a b = refl
dyadic_number _ a b = refl

many : (vs : List ValuePoints) → length vs ≡ how_many (terms_of (values_of vs))
many [] = refl
many (v ∷ vs) = ap suc (many vs)

-- ---- one level

module _ (c : Scope) where
  abbrev ValuePair : Type 0
  ValuePair = (v : Value) × ValueIs (value_points c v)

  abbrev CalleePair : Type 0
  CalleePair = (f : Callee) × CalleeIs (callee_points c f)

  abbrev PlacePair : Type 0
  PlacePair = (p : Place) × PlaceIs (place_points c p)

  abbrev their_points : List ValuePair → List ValuePoints
  their_points vs = map (value_points c) (map (λ (e : ValuePair). e.0) vs)

  place_suits : (p : Place) → found_suits (place_points c p).placed.found (place_points c p).placed.tree ≡ true
  place_suits p = (place_under c p).suits

  arguments_are : (ws : List Mode) (vs : List ValuePair) → all_suit ws (values_of (their_points vs)) ≡ true → (n : ℕ) → arguments_points n (their_points vs) ≡ terms_points (terms_of (values_of (their_points vs))) n
  arguments_are ws [] h n = refl
  arguments_are [] (v ∷ vs) h n = absurd cc
  arguments_are (w ∷ ws) (v ∷ vs) h n =
      let parts = and_parts (suits w (value_points c v.0).valued) (all_suit ws (values_of (their_points vs))) h in
      let there = value_there (value_points c v.0).valued (there_passes _ (value_points c v.0).valued.mode parts.0) in
      ap (λ ps. ps ++ arguments_points (suc n) (their_points vs)) (v.1.points there n)
      ∙ ap (λ ps. term_points (value_points c v.0).valued.tree n ++ ps) (arguments_are ws vs parts.1 (suc n))

  no_call : (f : Option Mode) (vs : List Valued) → is_there (call_mode f vs) ≡ false → is_there (with (call_mode f vs) (λ r. r)) ≡ false
  no_call f vs h = by_call (call_mode f vs) h
    where
      by_call : (o : Option (Option Mode)) → is_there o ≡ false → is_there (with o (λ r. r)) ≡ false
      by_call None h = refl
      by_call (Some r) h = absurd cc

  call_is : (f : CalleePair) (vs : List ValuePair) → ValueIs (value_step c (Value-F.Call (callee_points c f.0) (their_points vs)))
  call_is f vs = record {
    points = λ e n.
        let x = callee_points c f.0 in
        let called = or_second _ (is_there (call_mode x.called.mode (values_of (their_points vs)))) (no_call x.called.mode (values_of (their_points vs))) e in
        let t = there_with x.called.mode _ called in
        let s = there_with (signature_by (out-Mode t.0)) _ t.1.1 in
        let suit = only_there (all_suit s.0.parameters (values_of (their_points vs))) s.0.answer s.1.1 in
        f.1.points (there_some x.called.mode t.0 t.1.0) (terms_of (values_of (their_points vs))) n (length (their_points vs)) (arguments_points (n + x.takes) (their_points vs)) (many (their_points vs)) (arguments_are s.0.parameters vs suit (n + x.takes));
    number = λ e. sym (f.1.number (terms_of (values_of (their_points vs))));
  }

  through_is : (o : Option Mode) (v : ValuePair) → (value_points c v.0).valued.mode ≡ o → CalleeIs (callee_step c (Callee-F.«Callee::Through» (value_points c v.0)))
  through_is None v e = record { points = λ t. absurd (not_there (value_points c v.0).valued.mode e t); number = λ ts. refl }
  through_is (Some m) v e = record {
    points = λ t ts n count others k h. rw (e, k, h) (ap (λ ps. ps ++ (terms_points ts (n + 1) ++ point n (how_many ts) (target.Variable m) ∷ [])) (v.1.points (value_there (value_points c v.0).valued (there_some (value_points c v.0).valued.mode m e)) n));
    number = λ ts. refl;
  }

  abbrev plain_callee : Callee-F CalleePair PlacePair ValuePair → Callee-F Callee Place Value
  plain_callee y = map-Callee CalleePair PlacePair ValuePair Callee Place Value (λ e. e.0) (λ e. e.0) (λ e. e.0) y

  abbrev plain_place : Place-F CalleePair PlacePair ValuePair → Place-F Callee Place Value
  plain_place y = map-Place CalleePair PlacePair ValuePair Callee Place Value (λ e. e.0) (λ e. e.0) (λ e. e.0) y

  abbrev plain_value : Value-F CalleePair PlacePair ValuePair → Value-F Callee Place Value
  plain_value y = map-Value CalleePair PlacePair ValuePair Callee Place Value (λ e. e.0) (λ e. e.0) (λ e. e.0) y

  none_more : (n : ℕ) → n + 0 ≡ n
  none_more n = omega arith

  callee_level : (y : Callee-F CalleePair PlacePair ValuePair) → CalleeIs (callee_step c (callee_layer c (plain_callee y)))
  callee_level (Callee-F.Brick b) = record { points = λ t ts n count others k h. rw (k, h, none_more n) refl; number = λ ts. refl }
  callee_level (Callee-F.«Callee::Through» v) = through_is (value_points c v.0).valued.mode v refl

  place_level : (y : Place-F CalleePair PlacePair ValuePair) → PlaceIs (place_step c (place_layer c (plain_place y)))
  place_level (Place-F.Local i) = record { points = λ t n. refl }
  place_level (Place-F.Item b j) = record { points = λ t n. refl }
  place_level (Place-F.Svc k) = record { points = λ t n. refl }
  place_level (Place-F.Field p k) =
      let x = place_points c p.0 in
      record {
        points = λ t n. let f = there_with x.placed.found _ t in
            p.1.points (there_some x.placed.found f.0 f.1.0) n ∙ sym (field_spot x.placed.found x.placed.tree k n);
      }
  place_level (Place-F.Element p v) =
      let x = place_points c p.0 in
      let w = value_points c v.0 in
      record {
        points = λ t n.
            let f = there_with x.placed.found _ t in
            let m = there_with w.valued.mode _ f.1.1 in
            ap (λ ps. ps ++ w.points (n + address_words x.placed.tree)) (p.1.points (there_some x.placed.found f.0 f.1.0) n)
            ∙ ap (λ ps. spot_points x.placed.tree n ++ ps) (v.1.points (value_there w.valued (there_some w.valued.mode m.0 m.1.0)) (n + address_words x.placed.tree))
            ∙ element_points x.placed.found x.placed.tree w.valued.tree w.valued.mode n (place_suits p.0) t;
      }
  place_level (Place-F.«Place::Through» v) =
      let w = value_points c v.0 in
      record {
        points = λ t n. let m = there_with w.valued.mode _ t in
            v.1.points (value_there w.valued (there_some w.valued.mode m.0 m.1.0)) n ∙ sym (led_points w.valued.mode w.valued.tree n);
      }

  value_level : (y : Value-F CalleePair PlacePair ValuePair) → ValueIs (value_step c (value_layer c (plain_value y)))
  value_level (Value-F.Number n) = record { points = λ f k. refl; number = λ f. refl }
  value_level (Value-F.Text n) = record { points = λ f k. refl; number = λ f. refl }
  value_level (Value-F.Proc b) = record { points = λ f k. refl; number = λ f. refl }
  value_level (Value-F.Read p) =
      let x = place_points c p.0 in
      record {
        points = λ f n. let t = there_with x.placed.found _ (or_left _ f) in p.1.points (there_some x.placed.found t.0 t.1.0) n ∙ read_points x.placed x.placed.tree n refl;
        number = λ f. read_number x.placed x.placed.found x.placed.tree refl (place_suits p.0) (or_left _ f);
      }
  value_level (Value-F.Reference p) =
      let x = place_points c p.0 in
      record {
        points = λ f n. let t = there_with x.placed.found _ (or_left _ f) in p.1.points (there_some x.placed.found t.0 t.1.0) n ∙ reference_points x.placed x.placed.tree n refl;
        number = λ f. reference_number x.placed x.placed.found x.placed.tree refl (place_suits p.0) (or_left _ f);
      }
  value_level (Value-F.Length p) =
      let x = place_points c p.0 in
      record {
        points = λ f n. let t = there_with x.placed.found _ (or_left _ f) in p.1.points (there_some x.placed.found t.0 t.1.0) n ∙ length_points x.placed x.placed.tree n refl;
        number = λ f. length_number x.placed x.placed.tree refl;
      }
  value_level (Value-F.Monadic o a) =
      let x = value_points c a.0 in
      record {
        points = λ f n. let t = there_with x.valued.mode _ (or_left _ f) in a.1.points (value_there x.valued (there_some x.valued.mode t.0 t.1.0)) n;
        number = λ f. refl;
      }
  value_level (Value-F.Dyadic o a b) =
      let x = value_points c a.0 in
      let y = value_points c b.0 in
      record {
        points = λ f n.
            let t = there_with x.valued.mode _ (or_left _ f) in
            let u = there_with y.valued.mode _ t.1.1 in
            let first = value_there x.valued (there_some x.valued.mode t.0 t.1.0) in
            let second = value_there y.valued (there_some y.valued.mode u.0 u.1.0) in
            ap (λ ps. ps ++ (y.points (suc n) ++ error_points o y.valued.number n)) (a.1.points first n)
            ∙ ap (λ ps. term_points x.valued.tree n ++ (ps ++ error_points o y.valued.number n)) (b.1.points second (suc n))
            ∙ dyadic_points o x.valued.tree y.valued.tree y.valued.number n (b.1.number second);
        number = λ f. dyadic_number o x.valued.tree y.valued.tree;
      }
  value_level (Value-F.Call f vs) = call_is f vs

  -- ---- all levels

  rolled_callee : (x : Callee-F Callee Place Value) → out-Callee (roll-Callee x) ≡ x
  rolled_callee x = search callees.the_lemmas

  rolled_place : (x : Place-F Callee Place Value) → out-Place (roll-Place x) ≡ x
  rolled_place x = search places.the_lemmas

  rolled_value : (x : Value-F Callee Place Value) → out-Value (roll-Value x) ≡ x
  rolled_value x = search values.the_lemmas

  callee_as : (f : Callee) (y : Callee-F CalleePair PlacePair ValuePair) → out-Callee f ≡ plain_callee y → CalleeIs (callee_points c f)
  callee_as f y o = subst CalleeIs (sym (callee_at c f (plain_callee y) o)) (callee_level y)

  place_as : (p : Place) (y : Place-F CalleePair PlacePair ValuePair) → out-Place p ≡ plain_place y → PlaceIs (place_points c p)
  place_as p y o = subst PlaceIs (sym (place_at c p (plain_place y) o)) (place_level y)

  value_as : (v : Value) (y : Value-F CalleePair PlacePair ValuePair) → out-Value v ≡ plain_value y → ValueIs (value_points c v)
  value_as v y o = subst ValueIs (sym (value_at c v (plain_value y) o)) (value_level y)

  abbrev EachCallee : Callee → Type 0
  EachCallee f = CalleeIs (callee_points c f)

  abbrev EachPlace : Place → Type 0
  EachPlace p = PlaceIs (place_points c p)

  abbrev EachValue : Value → Type 0
  EachValue v = ValueIs (value_points c v)

  pub value_is : (v : Value) → ValueIs (value_points c v)
  value_is = ind-Value EachCallee EachPlace EachValue (λ x y is. callee_as (roll-Callee x) y (rolled_callee x ∙ sym is)) (λ x y is. place_as (roll-Place x) y (rolled_place x ∙ sym is))
      (λ x y is. value_as (roll-Value x) y (rolled_value x ∙ sym is))

  pub place_is : (p : Place) → PlaceIs (place_points c p)
  place_is = ind-Place EachCallee EachPlace EachValue (λ x y is. callee_as (roll-Callee x) y (rolled_callee x ∙ sym is)) (λ x y is. place_as (roll-Place x) y (rolled_place x ∙ sym is))
      (λ x y is. value_as (roll-Value x) y (rolled_value x ∙ sym is))
