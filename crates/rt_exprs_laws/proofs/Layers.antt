-- What places, values and callees of a tree are, by the form of each.
use Rattle.std.proofs.Common.{◌≡◌, ℕ, List, Some, None, map, option_map, refl, ap}
use Rattle.std.specs.Prelude.{nat_lt, slice_get, if◌then◌else◌}
use Rattle.rt_modes.specs.declared.mode.Mode.TheVariants as mode
use Rattle.rt_tree_nodes.specs.declared.operators.Op1.{Op1}
use Rattle.rt_tree_nodes.specs.declared.operators.Op2.{Op2}
use Rattle.rt_tree_nodes.specs.declared.value.Callee.{Callee, out-Callee, map-Callee}
use Rattle.rt_tree_nodes.specs.declared.value.Callee as callee_lemmas
use Rattle.rt_tree_nodes.specs.declared.value.Callee.TheFolds.{fold_out-Callee, fold_out-Place, fold_out-Value}
use Rattle.rt_tree_nodes.specs.declared.value.Callee.TheOpen.{Callee-F, Place-F, Value-F}
use Rattle.rt_tree_nodes.specs.declared.value.Callee.TheVariants as callees
use Rattle.rt_tree_nodes.specs.declared.value.Place.{Place, out-Place, map-Place}
use Rattle.rt_tree_nodes.specs.declared.value.Place as place_lemmas
use Rattle.rt_tree_nodes.specs.declared.value.Place.TheVariants as places
use Rattle.rt_tree_nodes.specs.declared.value.Value.{Value, out-Value, map-Value}
use Rattle.rt_tree_nodes.specs.declared.value.Value as value_lemmas
use Rattle.rt_tree_nodes.specs.declared.value.Value.TheVariants as values
use Rattle.rt_tree_nodes.specs.Scopes.{Scope, with, only, svc_mode, proc_mode}
use Rattle.rt_tree_nodes.specs.Tree.{Num}
use Rattle.rt_tree_nodes.specs.Typing.{Called, Placed, Valued, Private, one_callee, one_place, one_value, called, placed, valued, local_found, item_found, field_found, element_found, is_int, led, read_mode, reference_mode, length_mode, monadic_mode, dyadic_mode, call_mode}

module _ (c : Scope) where
  abbrev tree_callee : Callee-F Callee Place Value → Callee-F Called Placed Valued
  tree_callee l = map-Callee Callee Place Value Called Placed Valued (called c) (placed c) (valued c) l

  abbrev tree_place : Place-F Callee Place Value → Place-F Called Placed Valued
  tree_place l = map-Place Callee Place Value Called Placed Valued (called c) (placed c) (valued c) l

  abbrev tree_value : Value-F Callee Place Value → Value-F Called Placed Valued
  tree_value l = map-Value Callee Place Value Called Placed Valued (called c) (placed c) (valued c) l

  called_at : (f : Callee) (l : Callee-F Callee Place Value) → out-Callee f ≡ l → called c f ≡ one_callee c (tree_callee l)
  called_at f l o = rw (fold_out-Callee, o) refl

  placed_at : (p : Place) (l : Place-F Callee Place Value) → out-Place p ≡ l → placed c p ≡ one_place c (tree_place l)
  placed_at p l o = rw (fold_out-Place, o) refl

  valued_at : (v : Value) (l : Value-F Callee Place Value) → out-Value v ≡ l → valued c v ≡ one_value c (tree_value l)
  valued_at v l o = rw (fold_out-Value, o) refl

  -- ---- places

  pub local_place : (i : ℕ) → (placed c (places.Local i)).found ≡ option_map local_found (slice_get c.locals i)
  local_place i = let o : out-Place (places.Local i) ≡ Place-F.Local i = search place_lemmas.the_lemmas in ap (λ x. x.found) (placed_at (places.Local i) (Place-F.Local i) o)

  pub item_place : (b j : ℕ) → (placed c (places.Item b j)).found ≡ item_found c.bricks b j
  item_place b j = let o : out-Place (places.Item b j) ≡ Place-F.Item b j = search place_lemmas.the_lemmas in ap (λ x. x.found) (placed_at (places.Item b j) (Place-F.Item b j) o)

  pub svc_place : (k : ℕ) → (placed c (places.Svc k)).found ≡ option_map Private (svc_mode c k)
  svc_place k = let o : out-Place (places.Svc k) ≡ Place-F.Svc k = search place_lemmas.the_lemmas in ap (λ x. x.found) (placed_at (places.Svc k) (Place-F.Svc k) o)

  pub field_place : (p : Place) (k : ℕ) → (placed c (places.Field p k)).found ≡ with (placed c p).found (field_found c.records k)
  field_place p k = let o : out-Place (places.Field p k) ≡ Place-F.Field p k = search place_lemmas.the_lemmas in ap (λ x. x.found) (placed_at (places.Field p k) (Place-F.Field p k) o)

  pub element_place : (p : Place) (v : Value) → (placed c (places.Element p v)).found ≡ with (placed c p).found (λ f. with (valued c v).mode (λ m. if is_int m then element_found f else None))
  element_place p v = let o : out-Place (places.Element p v) ≡ Place-F.Element p v = search place_lemmas.the_lemmas in ap (λ x. x.found) (placed_at (places.Element p v) (Place-F.Element p v) o)

  pub through_place : (v : Value) → (placed c (places.Through v)).found ≡ with (valued c v).mode led
  through_place v =
      let o : out-Place (places.Through v) ≡ Place-F.«Place::Through» v = search place_lemmas.the_lemmas in
      ap (λ x. x.found) (placed_at (places.Through v) (Place-F.«Place::Through» v) o)

  -- ---- values

  pub number_value : (n : ℕ) → valued c (values.Number n) ≡ record { mode = Some mode.Int; number = Some n; call = None; tree = Num n }
  number_value n = let o : out-Value (values.Number n) ≡ Value-F.Number n = search value_lemmas.the_lemmas in valued_at (values.Number n) (Value-F.Number n) o

  pub text_value : (n : ℕ) → (valued c (values.Text n)).mode ≡ only (nat_lt n c.strings) (mode.RefArray mode.Byte)
  text_value n = let o : out-Value (values.Text n) ≡ Value-F.Text n = search value_lemmas.the_lemmas in ap (λ x. x.mode) (valued_at (values.Text n) (Value-F.Text n) o)

  pub brick_value : (b : ℕ) → (valued c (values.Proc b)).mode ≡ proc_mode c.bricks b
  brick_value b = let o : out-Value (values.Proc b) ≡ Value-F.Proc b = search value_lemmas.the_lemmas in ap (λ x. x.mode) (valued_at (values.Proc b) (Value-F.Proc b) o)

  pub read_value : (p : Place) → (valued c (values.Read p)).mode ≡ with (placed c p).found read_mode
  read_value p = let o : out-Value (values.Read p) ≡ Value-F.Read p = search value_lemmas.the_lemmas in ap (λ x. x.mode) (valued_at (values.Read p) (Value-F.Read p) o)

  pub reference_value : (p : Place) → (valued c (values.Reference p)).mode ≡ with (placed c p).found reference_mode
  reference_value p = let o : out-Value (values.Reference p) ≡ Value-F.Reference p = search value_lemmas.the_lemmas in ap (λ x. x.mode) (valued_at (values.Reference p) (Value-F.Reference p) o)

  pub length_value : (p : Place) → (valued c (values.Length p)).mode ≡ with (placed c p).found length_mode
  length_value p = let o : out-Value (values.Length p) ≡ Value-F.Length p = search value_lemmas.the_lemmas in ap (λ x. x.mode) (valued_at (values.Length p) (Value-F.Length p) o)

  pub monadic_value : (o : Op1) (v : Value) → (valued c (values.Monadic o v)).mode ≡ with (valued c v).mode (monadic_mode o)
  monadic_value k v = let o : out-Value (values.Monadic k v) ≡ Value-F.Monadic k v = search value_lemmas.the_lemmas in ap (λ x. x.mode) (valued_at (values.Monadic k v) (Value-F.Monadic k v) o)

  pub dyadic_value : (o : Op2) (a b : Value) → (valued c (values.Dyadic o a b)).mode ≡ with (valued c a).mode (λ x. with (valued c b).mode (dyadic_mode o x))
  dyadic_value k a b = let o : out-Value (values.Dyadic k a b) ≡ Value-F.Dyadic k a b = search value_lemmas.the_lemmas in ap (λ x. x.mode) (valued_at (values.Dyadic k a b) (Value-F.Dyadic k a b) o)

  call_layer : (f : Callee) (vs : List Value) → valued c (values.Call f vs) ≡ one_value c (Value-F.Call (called c f) (map (valued c) vs))
  call_layer f vs = let o : out-Value (values.Call f vs) ≡ Value-F.Call f vs = search value_lemmas.the_lemmas in valued_at (values.Call f vs) (Value-F.Call f vs) o

  pub call_value : (f : Callee) (vs : List Value) → (valued c (values.Call f vs)).call ≡ call_mode (called c f).mode (map (valued c) vs)
  call_value f vs = ap (λ x. x.call) (call_layer f vs)

  pub answer_value : (f : Callee) (vs : List Value) → (valued c (values.Call f vs)).mode ≡ with (call_mode (called c f).mode (map (valued c) vs)) (λ r. r)
  answer_value f vs = ap (λ x. x.mode) (call_layer f vs)

  -- ---- callees

  pub brick_callee : (b : ℕ) → (called c (callees.Brick b)).mode ≡ proc_mode c.bricks b
  brick_callee b = let o : out-Callee (callees.Brick b) ≡ Callee-F.Brick b = search callee_lemmas.the_lemmas in ap (λ x. x.mode) (called_at (callees.Brick b) (Callee-F.Brick b) o)

  pub through_callee : (v : Value) → (called c (callees.Through v)).mode ≡ (valued c v).mode
  through_callee v =
      let o : out-Callee (callees.Through v) ≡ Callee-F.«Callee::Through» v = search callee_lemmas.the_lemmas in
      ap (λ x. x.mode) (called_at (callees.Through v) (Callee-F.«Callee::Through» v) o)
