-- What the trees of places, values and callees are, by the form of each.
use Rattle.std.proofs.Common.{◌≡◌, ℕ, List, map, refl, ap}
use Rattle.rt_tree_nodes.specs.declared.operators.Op1.{Op1}
use Rattle.rt_tree_nodes.specs.declared.operators.Op2.{Op2}
use Rattle.rt_tree_nodes.specs.declared.value.Callee.{Callee, out-Callee, map-Callee}
use Rattle.rt_tree_nodes.specs.declared.value.Callee as callee_lemmas
use Rattle.rt_tree_nodes.specs.declared.value.Callee.TheFolds.{fold_out-Callee, fold_out-Place, fold_out-Value}
use Rattle.rt_tree_nodes.specs.declared.value.Callee.TheOpen.{Callee-F, Place-F, Value-F}
use Rattle.rt_tree_nodes.specs.declared.value.Callee.TheVariants as callees
use Rattle.rt_tree_nodes.specs.declared.value.Place.{Place, out-Place, map-Place}
use Rattle.rt_tree_nodes.specs.declared.value.Place as place_lemmas
use Rattle.rt_tree_nodes.specs.declared.value.Place.TheVariants as places
use Rattle.rt_tree_nodes.specs.declared.value.Value.{Value, out-Value, map-Value}
use Rattle.rt_tree_nodes.specs.declared.value.Value as value_lemmas
use Rattle.rt_tree_nodes.specs.declared.value.Value.TheVariants as values
use Rattle.rt_tree_nodes.specs.Scopes.{Scope}
use Rattle.rt_tree_nodes.specs.Tree.{Terms, Num, Str, Name, One, Apply, ApplyBy, ItemAt, Svc}
use Rattle.rt_tree_nodes.specs.Typing.{Called, Placed, Valued, OnLocal, OnPath, one_callee, one_place, one_value, called, placed, valued, field_tree, element_in, led_tree, read_tree, reference_tree, length_tree, dyadic_tree, terms_of, mode_or_int}

module _ (c : Scope) where
  callee_at : (f : Callee) (l : Callee-F Callee Place Value) → out-Callee f ≡ l → called c f ≡ one_callee c (map-Callee Callee Place Value Called Placed Valued (called c) (placed c) (valued c) l)
  callee_at f l o = rw (fold_out-Callee, o) refl

  place_at : (p : Place) (l : Place-F Callee Place Value) → out-Place p ≡ l → placed c p ≡ one_place c (map-Place Callee Place Value Called Placed Valued (called c) (placed c) (valued c) l)
  place_at p l o = rw (fold_out-Place, o) refl

  value_at : (v : Value) (l : Value-F Callee Place Value) → out-Value v ≡ l → valued c v ≡ one_value c (map-Value Callee Place Value Called Placed Valued (called c) (placed c) (valued c) l)
  value_at v l o = rw (fold_out-Value, o) refl

  -- ---- places

  pub tree_local : (i : ℕ) → (placed c (places.Local i)).tree ≡ OnLocal i
  tree_local i = let o : out-Place (places.Local i) ≡ Place-F.Local i = search place_lemmas.the_lemmas in ap (λ x. x.tree) (place_at (places.Local i) (Place-F.Local i) o)

  pub tree_item : (b j : ℕ) → (placed c (places.Item b j)).tree ≡ OnPath (ItemAt b j)
  tree_item b j = let o : out-Place (places.Item b j) ≡ Place-F.Item b j = search place_lemmas.the_lemmas in ap (λ x. x.tree) (place_at (places.Item b j) (Place-F.Item b j) o)

  pub tree_svc : (k : ℕ) → (placed c (places.Svc k)).tree ≡ OnPath (Svc k)
  tree_svc k = let o : out-Place (places.Svc k) ≡ Place-F.Svc k = search place_lemmas.the_lemmas in ap (λ x. x.tree) (place_at (places.Svc k) (Place-F.Svc k) o)

  pub tree_field : (p : Place) (k : ℕ) → (placed c (places.Field p k)).tree ≡ field_tree (placed c p) k
  tree_field p k = let o : out-Place (places.Field p k) ≡ Place-F.Field p k = search place_lemmas.the_lemmas in ap (λ x. x.tree) (place_at (places.Field p k) (Place-F.Field p k) o)

  pub tree_element : (p : Place) (v : Value) → (placed c (places.Element p v)).tree ≡ element_in (placed c p).found (placed c p).tree (valued c v).tree
  tree_element p v = let o : out-Place (places.Element p v) ≡ Place-F.Element p v = search place_lemmas.the_lemmas in ap (λ x. x.tree) (place_at (places.Element p v) (Place-F.Element p v) o)

  pub tree_through : (v : Value) → (placed c (places.Through v)).tree ≡ led_tree (valued c v).mode (valued c v).tree
  tree_through v =
      let o : out-Place (places.Through v) ≡ Place-F.«Place::Through» v = search place_lemmas.the_lemmas in
      ap (λ x. x.tree) (place_at (places.Through v) (Place-F.«Place::Through» v) o)

  -- ---- values

  pub tree_number : (n : ℕ) → (valued c (values.Number n)).tree ≡ Num n
  tree_number n = let o : out-Value (values.Number n) ≡ Value-F.Number n = search value_lemmas.the_lemmas in ap (λ x. x.tree) (value_at (values.Number n) (Value-F.Number n) o)

  pub tree_text : (n : ℕ) → (valued c (values.Text n)).tree ≡ Str n
  tree_text n = let o : out-Value (values.Text n) ≡ Value-F.Text n = search value_lemmas.the_lemmas in ap (λ x. x.tree) (value_at (values.Text n) (Value-F.Text n) o)

  pub tree_proc : (b : ℕ) → (valued c (values.Proc b)).tree ≡ Name b
  tree_proc b = let o : out-Value (values.Proc b) ≡ Value-F.Proc b = search value_lemmas.the_lemmas in ap (λ x. x.tree) (value_at (values.Proc b) (Value-F.Proc b) o)

  pub tree_read : (p : Place) → (valued c (values.Read p)).tree ≡ read_tree (placed c p)
  tree_read p = let o : out-Value (values.Read p) ≡ Value-F.Read p = search value_lemmas.the_lemmas in ap (λ x. x.tree) (value_at (values.Read p) (Value-F.Read p) o)

  pub tree_reference : (p : Place) → (valued c (values.Reference p)).tree ≡ reference_tree (placed c p)
  tree_reference p = let o : out-Value (values.Reference p) ≡ Value-F.Reference p = search value_lemmas.the_lemmas in ap (λ x. x.tree) (value_at (values.Reference p) (Value-F.Reference p) o)

  pub tree_length : (p : Place) → (valued c (values.Length p)).tree ≡ length_tree (placed c p)
  tree_length p = let o : out-Value (values.Length p) ≡ Value-F.Length p = search value_lemmas.the_lemmas in ap (λ x. x.tree) (value_at (values.Length p) (Value-F.Length p) o)

  pub tree_monadic : (k : Op1) (v : Value) → (valued c (values.Monadic k v)).tree ≡ One k (valued c v).tree
  tree_monadic k v = let o : out-Value (values.Monadic k v) ≡ Value-F.Monadic k v = search value_lemmas.the_lemmas in ap (λ x. x.tree) (value_at (values.Monadic k v) (Value-F.Monadic k v) o)

  pub tree_dyadic : (k : Op2) (a b : Value) → (valued c (values.Dyadic k a b)).tree ≡ dyadic_tree k (valued c a).tree (valued c b).tree
  tree_dyadic k a b = let o : out-Value (values.Dyadic k a b) ≡ Value-F.Dyadic k a b = search value_lemmas.the_lemmas in ap (λ x. x.tree) (value_at (values.Dyadic k a b) (Value-F.Dyadic k a b) o)

  pub tree_call : (f : Callee) (vs : List Value) → (valued c (values.Call f vs)).tree ≡ (called c f).tree (terms_of (map (valued c) vs))
  tree_call f vs = let o : out-Value (values.Call f vs) ≡ Value-F.Call f vs = search value_lemmas.the_lemmas in ap (λ x. x.tree) (value_at (values.Call f vs) (Value-F.Call f vs) o)

  -- ---- calls

  pub tree_brick : (b : ℕ) (vs : Terms) → (called c (callees.Brick b)).tree vs ≡ Apply b vs
  tree_brick b vs = let o : out-Callee (callees.Brick b) ≡ Callee-F.Brick b = search callee_lemmas.the_lemmas in ap (λ x. x.tree vs) (callee_at (callees.Brick b) (Callee-F.Brick b) o)

  pub tree_by : (v : Value) (vs : Terms) → (called c (callees.Through v)).tree vs ≡ ApplyBy (mode_or_int (valued c v).mode) (valued c v).tree vs
  tree_by v vs =
      let o : out-Callee (callees.Through v) ≡ Callee-F.«Callee::Through» v = search callee_lemmas.the_lemmas in
      ap (λ x. x.tree vs) (callee_at (callees.Through v) (Callee-F.«Callee::Through» v) o)
