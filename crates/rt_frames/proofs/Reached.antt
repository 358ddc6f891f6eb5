-- What the code keeps of places and values is that of their plain trees, in 16 bits.
use Rattle.std.proofs.Common.{◌≡◌, ◌≤◌, ℕ, zero, suc, ◌+◌, max, List, ◌++◌, length, Option, Some, None, map, refl, sym, ap, ◌∙◌, subst, arith, append_assoc}
use Rattle.std.proofs.lemmas.List.{length-map, map-append}
use Rattle.rt_modes.specs.declared.mode.Mode.{Mode, out-Mode}
use Rattle.rt_modes.specs.declared.mode.Mode.TheOpen.{Mode-F}
use Rattle.rt_tree_nodes.specs.declared.operators.Op2.{Op2}
use Rattle.rt_tree_nodes.specs.declared.operators.Op2.TheVariants as two
use Rattle.rt_tree_nodes.specs.declared.value.Callee.{Callee}
use Rattle.rt_tree_nodes.specs.declared.value.Callee.TheOpen.{Place-F, Value-F}
use Rattle.rt_tree_nodes.specs.declared.value.Place.{Place, out-Place}
use Rattle.rt_tree_nodes.specs.declared.value.Place as places
use Rattle.rt_tree_nodes.specs.declared.value.Place.TheVariants as place
use Rattle.rt_tree_nodes.specs.declared.value.Value.{Value, out-Value}
use Rattle.rt_tree_nodes.specs.declared.value.Value as values
use Rattle.rt_tree_nodes.specs.declared.value.Value.TheVariants as value
use Rattle.rt_tree_nodes.specs.Code.{mode_found, place_found}
use Rattle.rt_tree.specs.Depth.{depth, address_depth, above, behind}
use Rattle.rt_tree_nodes.specs.Scopes.{Scope, with}
use Rattle.rt_tree_nodes.specs.Tree.{Term, Path}
use Rattle.rt_tree_nodes.specs.Typing.{dyadic_mode, dyadic_tree, Placed, Found, Variable, Loop, Shared, Private, Row, Spot, OnLocal, OnPath, OnRow, field_found, field_in, field_path, element_found, element_in, element_path, read_mode, reference_mode, length_mode, read_tree, reference_tree, reference_path, length_tree, length_path, mode_at}
use Rattle.rt_frames.specs.declared.frame.CallPoint.{CallPoint}
use Rattle.rt_frames.specs.declared.frame.Target.{Target}
use Rattle.rt_frames.specs.declared.measure.Address.{Address}
use Rattle.rt_frames.specs.declared.measure.Address.TheVariants as address
use Rattle.rt_frames.specs.declared.measure.Measured.{Measured}
use Rattle.rt_frames.specs.declared.measure.Reached as reached
use Rattle.rt_frames.specs.declared.values.Called.{Called}
use Rattle.rt_frames.specs.Measures.{IsMeasured, IsReached, IsCalled, address_of, words, taken, array_address as code_array, element_address as code_element, saturated_address, int_or_none}
use Rattle.rt_frames.specs.Points.{place_points, value_points, callee_points, place_step, value_step, waits, address_words, error_points, arguments_points, call_point}
use Rattle.rt_frames.specs.Saturated.{saturated, saturated_point, saturated_points}
use Rattle.rt_frames.proofs.Fused.{place_at, value_at}
use Rattle.rt_frames.proofs.Shifted.{value_shifts, arguments_shift}
use Rattle.rt_frames.proofs.Sums.{max_saturated, above_saturated, behind_saturated}

-- ---- how places are come to

pub words_of_spot : (s : Spot) → words (address_of s) ≡ address_words s
words_of_spot (OnLocal i) = refl
words_of_spot (OnPath p) = refl
words_of_spot (OnRow v) = refl

path_of_field : (l : Mode-F Mode) (p : Path) (k : ℕ) → address_depth (field_path l p k) ≡ address_depth p
path_of_field (Mode-F.Record r) p k = refl
path_of_field _ p k = refl

pub spot_of_field : (f : Option Found) (s : Spot) (k : ℕ) → address_of (field_in f s k) ≡ address_of s
spot_of_field (Some (Shared m)) (OnPath q) k = ap (λ (d : ℕ). address.Path d) (path_of_field (out-Mode m) q k)
spot_of_field (Some (Private m)) (OnPath q) k = ap (λ (d : ℕ). address.Path d) (path_of_field (out-Mode m) q k)
spot_of_field (Some (Shared m)) (OnLocal i) k = refl
spot_of_field (Some (Shared m)) (OnRow v) k = refl
spot_of_field (Some (Private m)) (OnLocal i) k = refl
spot_of_field (Some (Private m)) (OnRow v) k = refl
spot_of_field (Some (Variable m)) s k = refl
spot_of_field (Some Loop) s k = refl
spot_of_field (Some (Row m)) s k = refl
spot_of_field None s k = refl

-- an element, by exact sums
abbrev pub array_address : Mode-F Mode → Address → ℕ → Address
array_address (Mode-F.Array n m) (address.Path d) v = address.Path (behind d v)
array_address _ a v = a

abbrev pub element_address : Option Found → Address → ℕ → Address
element_address (Some (Shared m)) a v = array_address (out-Mode m) a v
element_address (Some (Private m)) a v = array_address (out-Mode m) a v
element_address (Some (Row m)) (address.Row d) v = address.Path (above d v)
element_address _ a v = a

path_of_element : (l : Mode-F Mode) (q : Path) (v : Term) → address_of (OnPath (element_path l q v)) ≡ array_address l (address.Path (address_depth q)) (depth v)
path_of_element (Mode-F.Array n m) q v = refl
path_of_element _ q v = refl

no_path : (l : Mode-F Mode) (d v : ℕ) → address.Row d ≡ array_address l (address.Row d) v
no_path (Mode-F.Array n m) d v = refl
no_path _ d v = refl

no_path_local : (l : Mode-F Mode) (v : ℕ) → address.Local ≡ array_address l address.Local v
no_path_local (Mode-F.Array n m) v = refl
no_path_local _ v = refl

pub spot_of_element : (f : Option Found) (s : Spot) (v : Term) → address_of (element_in f s v) ≡ element_address f (address_of s) (depth v)
spot_of_element (Some (Shared m)) (OnPath q) v = path_of_element (out-Mode m) q v
spot_of_element (Some (Private m)) (OnPath q) v = path_of_element (out-Mode m) q v
spot_of_element (Some (Shared m)) (OnLocal i) v = no_path_local (out-Mode m) (depth v)
spot_of_element (Some (Private m)) (OnLocal i) v = no_path_local (out-Mode m) (depth v)
spot_of_element (Some (Shared m)) (OnRow a) v = no_path (out-Mode m) (depth a) (depth v)
spot_of_element (Some (Private m)) (OnRow a) v = no_path (out-Mode m) (depth a) (depth v)
spot_of_element (Some (Row m)) (OnRow a) v = refl
spot_of_element (Some (Row m)) (OnLocal i) v = refl
spot_of_element (Some (Row m)) (OnPath q) v = refl
spot_of_element (Some (Variable m)) s v = refl
spot_of_element (Some Loop) s v = refl
spot_of_element None s v = refl

-- the same in 16 bits
array_kept : (l : Mode-F Mode) (a : Address) (v : ℕ) → code_array l (saturated_address a) (saturated v) ≡ saturated_address (array_address l a v)
array_kept (Mode-F.Array n m) (address.Path d) v = ap (λ (k : ℕ). address.Path k) (behind_saturated d v)
array_kept (Mode-F.Array n m) address.Local v = refl
array_kept (Mode-F.Array n m) (address.Row d) v = refl
array_kept Mode-F.Byte a v = refl
array_kept Mode-F.Int a v = refl
array_kept Mode-F.Frac a v = refl
array_kept Mode-F.Label a v = refl
array_kept (Mode-F.Ref u) a v = refl
array_kept (Mode-F.RefArray u) a v = refl
array_kept (Mode-F.Record r) a v = refl
array_kept (Mode-F.Proc us r) a v = refl

element_kept : (f : Option Found) (a : Address) (v : ℕ) → code_element f (saturated_address a) (saturated v) ≡ saturated_address (element_address f a v)
element_kept (Some (Shared m)) a v = array_kept (out-Mode m) a v
element_kept (Some (Private m)) a v = array_kept (out-Mode m) a v
element_kept (Some (Row m)) (address.Row d) v = ap (λ (k : ℕ). address.Path k) (above_saturated d v)
element_kept (Some (Row m)) address.Local v = refl
element_kept (Some (Row m)) (address.Path d) v = refl
element_kept (Some (Variable m)) a v = refl
element_kept (Some Loop) a v = refl
element_kept None a v = refl

taken_kept : (a : Address) → taken (saturated_address a) ≡ saturated (taken a)
taken_kept address.Local = refl
taken_kept (address.Path d) = max_saturated 1 d
taken_kept (address.Row d) = refl

waits_kept : (d : ℕ) → waits (saturated d) ≡ waits d
waits_kept zero = refl
waits_kept (suc d) = waits_some (saturated (suc d)) (grind arith) where
  waits_some : (n : ℕ) → 1 ≤ n → waits n ≡ 1
  waits_some zero h = absurd (omega (arith, h))
  waits_some (suc n) h = refl

words_kept : (a : Address) → words (saturated_address a) ≡ words a
words_kept address.Local = refl
words_kept (address.Path d) = waits_kept d
words_kept (address.Row d) = refl

pub dyadic_depth : (o : Op2) (a b : Term) → depth (dyadic_tree o a b) ≡ above (depth a) (depth b)
dyadic_depth two.Divide a b = refl
dyadic_depth two.Mod a b = refl
dyadic_depth _ a b = refl

pub read_depth : (p : Placed) (s : Spot) → p.tree ≡ s → depth (read_tree p) ≡ taken (address_of s)
read_depth p (OnLocal i) e = rw e refl
read_depth p (OnPath q) e = rw e refl
read_depth p (OnRow v) e = rw e refl

path_of_reference : (l : Mode-F Mode) (q : Path) → depth (reference_path l q) ≡ max 1 (address_depth q)
path_of_reference (Mode-F.Array n m) q = refl
path_of_reference _ q = refl

pub reference_depth : (p : Placed) (s : Spot) → p.tree ≡ s → depth (reference_tree p) ≡ taken (address_of s)
reference_depth p (OnLocal i) e = rw e refl
reference_depth p (OnPath q) e = rw e (path_of_reference (out-Mode (mode_at p.found)) q)
reference_depth p (OnRow v) e = rw e refl

path_of_length : (l : Mode-F Mode) (q : Path) → depth (length_path l q) ≡ max 1 (address_depth q)
path_of_length (Mode-F.Array n m) q = refl
path_of_length _ q = refl

pub length_depth : (p : Placed) (s : Spot) → p.tree ≡ s → depth (length_tree p) ≡ taken (address_of s)
length_depth p (OnLocal i) e = rw e refl
length_depth p (OnPath q) e = rw e (path_of_length (out-Mode (mode_at p.found)) q)
length_depth p (OnRow v) e = rw e refl

-- ---- by the first level

out_field : (p r : Place) (k : ℕ) → p ≡ place.Field r k → out-Place p ≡ Place-F.Field r k
out_field p r k e = ap out-Place e ∙ search places.the_lemmas

out_element : (p a : Place) (v : Value) → p ≡ place.Element a v → out-Place p ≡ Place-F.Element a v
out_element p a v e = ap out-Place e ∙ search places.the_lemmas

out_read : (v : Value) (p : Place) → v ≡ value.Read p → out-Value v ≡ Value-F.Read p
out_read v p e = ap out-Value e ∙ search values.the_lemmas

out_reference : (v : Value) (p : Place) → v ≡ value.Reference p → out-Value v ≡ Value-F.Reference p
out_reference v p e = ap out-Value e ∙ search values.the_lemmas

out_length : (v : Value) (p : Place) → v ≡ value.Length p → out-Value v ≡ Value-F.Length p
out_length v p e = ap out-Value e ∙ search values.the_lemmas

out_dyadic : (v a b : Value) (k : Op2) → v ≡ value.Dyadic k a b → out-Value v ≡ Value-F.Dyadic k a b
out_dyadic v a b k e = ap out-Value e ∙ search values.the_lemmas

out_call : (v : Value) (f : Callee) (vs : List Value) → v ≡ value.Call f vs → out-Value v ≡ Value-F.Call f vs
out_call v f vs e = ap out-Value e ∙ search values.the_lemmas

-- ---- points behind points

two_parts : (old ps qs : List CallPoint) → (old ++ saturated_points ps) ++ saturated_points qs ≡ old ++ saturated_points (ps ++ qs)
two_parts old ps qs = append_assoc old (saturated_points ps) (saturated_points qs) ∙ ap (λ (cs : List CallPoint). old ++ cs) (sym (map-append saturated_point ps qs))

three_parts : (old ps qs rs : List CallPoint) → ((old ++ saturated_points ps) ++ saturated_points qs) ++ saturated_points rs ≡ old ++ saturated_points (ps ++ (qs ++ rs))
three_parts old ps qs rs = ap (λ (cs : List CallPoint). cs ++ saturated_points rs) (two_parts old ps qs) ∙ two_parts old (ps ++ qs) rs ∙ ap (λ (cs : List CallPoint). old ++ saturated_points cs) (append_assoc ps qs rs)

-- ---- what the code keeps

module _ (c : Scope) where
  pub field_reached : (p r g : Place) (k : ℕ) (x y : reached.Reached) → p ≡ place.Field r k → g ≡ r → IsReached (place_points c g).placed x
      → place_found y.found ≡ with (place_found x.found) (field_found c.records k) → y.address ≡ x.address → IsReached (place_points c p).placed y
  field_reached p r g k x y e h a f d =
      let level : place_points c p ≡ place_step c (Place-F.Field (place_points c r) k) = place_at c p (Place-F.Field r k) (out_field p r k e) in
      let inner : IsReached (place_points c r).placed x = subst (λ (q : Place). IsReached (place_points c q).placed x) h a in
      subst (λ q. IsReached q.placed y) (sym level) (record {
        found = f ∙ ap (λ o. with o (field_found c.records k)) inner.found;
        address = d ∙ inner.address ∙ ap saturated_address (sym (spot_of_field (place_points c r).placed.found (place_points c r).placed.tree k));
      })

  pub element_reached : (p a g : Place) (v w : Value) (x : reached.Reached) (m : Measured) (y : reached.Reached) → p ≡ place.Element a v → g ≡ a → w ≡ v → IsReached (place_points c g).placed x
      → IsMeasured (value_points c w).valued m → place_found y.found ≡ with (place_found x.found) (λ f. int_or_none (mode_found m.mode) (element_found f))
      → y.address ≡ code_element (place_found x.found) x.address m.depth → IsReached (place_points c p).placed y
  element_reached p a g v w x m y e h i xa wm f d =
      let level : place_points c p ≡ place_step c (Place-F.Element (place_points c a) (value_points c v)) = place_at c p (Place-F.Element a v) (out_element p a v e) in
      let inner : IsReached (place_points c a).placed x = subst (λ (q : Place). IsReached (place_points c q).placed x) h xa in
      let index : IsMeasured (value_points c v).valued m = subst (λ (q : Value). IsMeasured (value_points c q).valued m) i wm in
      subst (λ q. IsReached q.placed y) (sym level) (record {
        found = f ∙ rw (inner.found, index.mode) refl;
        address = d
            ∙ rw (inner.found, inner.address, index.depth, spot_of_element (place_points c a).placed.found (place_points c a).placed.tree (value_points c v).valued.tree)
            (element_kept (place_points c a).placed.found (address_of (place_points c a).placed.tree) (depth (value_points c v).valued.tree));
      })

  pub element_calls : (p a g : Place) (v w : Value) (x : reached.Reached) (n k : ℕ) (old mid new : List CallPoint) → p ≡ place.Element a v → g ≡ a → w ≡ v → IsReached (place_points c g).placed x
      → k ≡ saturated (n + words x.address) → mid ≡ old ++ saturated_points ((place_points c g).points n) → new ≡ mid ++ saturated_points ((value_points c w).points k)
      → new ≡ old ++ saturated_points ((place_points c p).points n)
  element_calls p a g v w x n k old mid new e h i xa s m t =
      let level : place_points c p ≡ place_step c (Place-F.Element (place_points c a) (value_points c v)) = place_at c p (Place-F.Element a v) (out_element p a v e) in
      let inner : IsReached (place_points c a).placed x = subst (λ (q : Place). IsReached (place_points c q).placed x) h xa in
      let at : k ≡ saturated (n + address_words (place_points c a).placed.tree) =
      s ∙ ap (λ (z : ℕ). saturated (n + z)) (ap words inner.address ∙ words_kept (address_of (place_points c a).placed.tree) ∙ words_of_spot (place_points c a).placed.tree) in
      t ∙ rw (m, h, i, at, level, value_shifts c v (n + address_words (place_points c a).placed.tree))
      (two_parts old ((place_points c a).points n) ((value_points c v).points (n + address_words (place_points c a).placed.tree)))

  pub read_measured : (v : Value) (p g : Place) (x : reached.Reached) (m : Measured) → v ≡ value.Read p → g ≡ p → IsReached (place_points c g).placed x
      → mode_found m.mode ≡ with (place_found x.found) read_mode → m.depth ≡ taken x.address → m.number ≡ None → IsMeasured (value_points c v).valued m
  read_measured v p g x m e h a f d n =
      let level : value_points c v ≡ value_step c (Value-F.Read (place_points c p)) = value_at c v (Value-F.Read p) (out_read v p e) in
      let inner : IsReached (place_points c p).placed x = subst (λ (q : Place). IsReached (place_points c q).placed x) h a in
      subst (λ q. IsMeasured q.valued m) (sym level) (record {
        mode = f ∙ ap (λ o. with o read_mode) inner.found;
        number = n;
        depth = d ∙ ap taken inner.address ∙ taken_kept (address_of (place_points c p).placed.tree) ∙ ap saturated (sym (read_depth (place_points c p).placed (place_points c p).placed.tree refl));
      })

  pub reference_measured : (v : Value) (p g : Place) (x : reached.Reached) (m : Measured) → v ≡ value.Reference p → g ≡ p → IsReached (place_points c g).placed x
      → mode_found m.mode ≡ with (place_found x.found) reference_mode → m.depth ≡ taken x.address → m.number ≡ None → IsMeasured (value_points c v).valued m
  reference_measured v p g x m e h a f d n =
      let level : value_points c v ≡ value_step c (Value-F.Reference (place_points c p)) = value_at c v (Value-F.Reference p) (out_reference v p e) in
      let inner : IsReached (place_points c p).placed x = subst (λ (q : Place). IsReached (place_points c q).placed x) h a in
      subst (λ q. IsMeasured q.valued m) (sym level) (record {
        mode = f ∙ ap (λ o. with o reference_mode) inner.found;
        number = n;
        depth = d ∙ ap taken inner.address ∙ taken_kept (address_of (place_points c p).placed.tree) ∙ ap saturated (sym (reference_depth (place_points c p).placed (place_points c p).placed.tree refl));
      })

  pub length_measured : (v : Value) (p g : Place) (x : reached.Reached) (m : Measured) → v ≡ value.Length p → g ≡ p → IsReached (place_points c g).placed x
      → mode_found m.mode ≡ with (place_found x.found) length_mode → m.depth ≡ taken x.address → m.number ≡ None → IsMeasured (value_points c v).valued m
  length_measured v p g x m e h a f d n =
      let level : value_points c v ≡ value_step c (Value-F.Length (place_points c p)) = value_at c v (Value-F.Length p) (out_length v p e) in
      let inner : IsReached (place_points c p).placed x = subst (λ (q : Place). IsReached (place_points c q).placed x) h a in
      subst (λ q. IsMeasured q.valued m) (sym level) (record {
        mode = f ∙ ap (λ o. with o length_mode) inner.found;
        number = n;
        depth = d ∙ ap taken inner.address ∙ taken_kept (address_of (place_points c p).placed.tree) ∙ ap saturated (sym (length_depth (place_points c p).placed (place_points c p).placed.tree refl));
      })

  one_above : (n : ℕ) → n + 1 ≡ suc n
  one_above n = grind arith

  pub dyadic_measured : (v a b g w : Value) (k : Op2) (x y m : Measured) → v ≡ value.Dyadic k a b → g ≡ a → w ≡ b → IsMeasured (value_points c g).valued x → IsMeasured (value_points c w).valued y
      → mode_found m.mode ≡ with (mode_found x.mode) (λ s. with (mode_found y.mode) (dyadic_mode k s)) → m.depth ≡ saturated (above x.depth y.depth) → m.number ≡ None → IsMeasured (value_points c v).valued m
  dyadic_measured v a b g w k x y m e h i xa yb f d n =
      let level : value_points c v ≡ value_step c (Value-F.Dyadic k (value_points c a) (value_points c b)) = value_at c v (Value-F.Dyadic k a b) (out_dyadic v a b k e) in
      let first : IsMeasured (value_points c a).valued x = subst (λ (q : Value). IsMeasured (value_points c q).valued x) h xa in
      let second : IsMeasured (value_points c b).valued y = subst (λ (q : Value). IsMeasured (value_points c q).valued y) i yb in
      subst (λ q. IsMeasured q.valued m) (sym level) (record {
        mode = f ∙ rw (first.mode, second.mode) refl;
        number = n;
        depth = d ∙ rw (first.depth, second.depth) (above_saturated (depth (value_points c a).valued.tree) (depth (value_points c b).valued.tree))
            ∙ ap saturated (sym (dyadic_depth k (value_points c a).valued.tree (value_points c b).valued.tree));
      })

  pub dyadic_calls : (v a b g w : Value) (k : Op2) (number : Option ℕ) (n s : ℕ) (old first second new : List CallPoint) → v ≡ value.Dyadic k a b → g ≡ a → w ≡ b → s ≡ saturated (n + 1)
      → number ≡ (value_points c w).valued.number → first ≡ old ++ saturated_points ((value_points c g).points n) → second ≡ first ++ saturated_points ((value_points c w).points s)
      → new ≡ second ++ saturated_points (error_points k number n) → new ≡ old ++ saturated_points ((value_points c v).points n)
  dyadic_calls v a b g w k number n s old first second new e h i j l x y z =
      let level : value_points c v ≡ value_step c (Value-F.Dyadic k (value_points c a) (value_points c b)) = value_at c v (Value-F.Dyadic k a b) (out_dyadic v a b k e) in
      z ∙ rw (y, x, l, j, h, i, value_shifts c b (n + 1), one_above n, level)
      (three_parts old ((value_points c a).points n) ((value_points c b).points (suc n)) (error_points k (value_points c b).valued.number n))

  pub call_calls : (v : Value) (f g : Callee) (vs ws : List Value) (x : Called) (n : ℕ) (old mid new : List CallPoint) → v ≡ value.Call f vs → g ≡ f → ws ≡ vs → IsCalled (callee_points c g) x
      → mid ≡ old ++ saturated_points ((callee_points c g).points n) → new ≡ mid ++ saturated_points (arguments_points (n + x.takes) (map (value_points c) ws) ++ call_point x.target n (length ws))
      → new ≡ old ++ saturated_points ((value_points c v).points n)
  call_calls v f g vs ws x n old mid new e h i a y z =
      let level : value_points c v ≡ value_step c (Value-F.Call (callee_points c f) (map (value_points c) vs)) = value_at c v (Value-F.Call f vs) (out_call v f vs e) in
      let inner : IsCalled (callee_points c f) x = subst (λ (q : Callee). IsCalled (callee_points c q) x) h a in
      z ∙ rw (y, h, i, inner.takes, inner.target, level, length-map)
      (two_parts old ((callee_points c f).points n) (arguments_points (n + (callee_points c f).takes) (map (value_points c) vs) ++ call_point (callee_points c f).target n (length vs)))

  -- the points of the arguments, and that of the call behind them
  pub arguments_called : (ws : List Value) (t : Option Target) (n k takes : ℕ) (old mid new : List CallPoint) → k ≡ saturated (n + takes) → mid ≡ old ++ saturated_points (arguments_points k (map (value_points c) ws))
      → new ≡ mid ++ saturated_points (call_point t n (length ws)) → new ≡ old ++ saturated_points (arguments_points (n + takes) (map (value_points c) ws) ++ call_point t n (length ws))
  arguments_called ws t n k takes old mid new e m z =
      z ∙ rw (m, e, arguments_shift c ws (n + takes)) (two_parts old (arguments_points (n + takes) (map (value_points c) ws)) (call_point t n (length ws)))
