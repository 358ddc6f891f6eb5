-- The trees of places, values and callees, by the form of each.
use Rattle.std.proofs.Common.{◌≡◌, ℕ, refl, ap, sym, ◌∙◌}
use Rattle.rt_tree_nodes.specs.declared.operators.Op2.{Op2}
use Rattle.rt_tree_nodes.specs.declared.value.Callee.{Callee, out-Callee, map-Callee}
use Rattle.rt_tree_nodes.specs.declared.value.Callee as callee_lemmas
use Rattle.rt_tree_nodes.specs.declared.value.Callee.TheFolds.{fold_out-Callee, fold_out-Place, fold_out-Value}
use Rattle.rt_tree_nodes.specs.declared.value.Callee.TheOpen.{Callee-F, Place-F, Value-F}
use Rattle.rt_tree_nodes.specs.declared.value.Callee.TheVariants as callees
use Rattle.rt_tree_nodes.specs.declared.value.Place.{Place, out-Place, map-Place}
use Rattle.rt_tree_nodes.specs.declared.value.Place as place_lemmas
use Rattle.rt_tree_nodes.specs.declared.value.Place.TheVariants as places
use Rattle.rt_tree_nodes.specs.declared.value.Value.{Value, out-Value, map-Value}
use Rattle.rt_tree_nodes.specs.declared.value.Value as value_lemmas
use Rattle.rt_tree_nodes.specs.declared.value.Value.TheVariants as values
use Rattle.rt_tree_nodes.specs.Scopes.{Scope}
use Rattle.rt_tree_nodes.specs.Tree.{Terms, ApplyBy}
use Rattle.rt_tree_nodes.specs.Typing.{Called, Placed, Valued, one_callee, one_place, one_value, called, placed, valued, field_tree, element_in, led_tree, read_tree, reference_tree, length_tree, dyadic_tree, mode_or_int}

module _ (c : Scope) where
  called_at : (f : Callee) (l : Callee-F Callee Place Value) → out-Callee f ≡ l → called c f ≡ one_callee c (map-Callee Callee Place Value Called Placed Valued (called c) (placed c) (valued c) l)
  called_at f l o = rw (fold_out-Callee, o) refl

  placed_at : (p : Place) (l : Place-F Callee Place Value) → out-Place p ≡ l → placed c p ≡ one_place c (map-Place Callee Place Value Called Placed Valued (called c) (placed c) (valued c) l)
  placed_at p l o = rw (fold_out-Place, o) refl

  valued_at : (v : Value) (l : Value-F Callee Place Value) → out-Value v ≡ l → valued c v ≡ one_value c (map-Value Callee Place Value Called Placed Valued (called c) (placed c) (valued c) l)
  valued_at v l o = rw (fold_out-Value, o) refl

  -- ---- places

  pub field_opened : (p : Place) (b g : Place) (k : ℕ) → p ≡ places.Field b k → g ≡ b → field_tree (placed c g) k ≡ (placed c p).tree
  field_opened p b g k is same_b =
      let o : out-Place p ≡ Place-F.Field b k = ap out-Place is ∙ search place_lemmas.the_lemmas in
      rw (same_b) (sym (ap (λ x. x.tree) (placed_at p (Place-F.Field b k) o)))

  pub element_opened : (p : Place) (b g : Place) (a h : Value) → p ≡ places.Element b a → g ≡ b → h ≡ a → element_in (placed c g).found (placed c g).tree (valued c h).tree ≡ (placed c p).tree
  element_opened p b g a h is same_b same_a =
      let o : out-Place p ≡ Place-F.Element b a = ap out-Place is ∙ search place_lemmas.the_lemmas in
      rw (same_b, same_a) (sym (ap (λ x. x.tree) (placed_at p (Place-F.Element b a) o)))

  pub through_opened : (p : Place) (a h : Value) → p ≡ places.Through a → h ≡ a → led_tree (valued c h).mode (valued c h).tree ≡ (placed c p).tree
  through_opened p a h is same_a =
      let o : out-Place p ≡ Place-F.«Place::Through» a = ap out-Place is ∙ search place_lemmas.the_lemmas in
      rw (same_a) (sym (ap (λ x. x.tree) (placed_at p (Place-F.«Place::Through» a) o)))

  -- ---- values

  pub read_opened : (v : Value) (b g : Place) → v ≡ values.Read b → g ≡ b → read_tree (placed c g) ≡ (valued c v).tree
  read_opened v b g is same_b =
      let o : out-Value v ≡ Value-F.Read b = ap out-Value is ∙ search value_lemmas.the_lemmas in
      rw (same_b) (sym (ap (λ x. x.tree) (valued_at v (Value-F.Read b) o)))

  pub reference_opened : (v : Value) (b g : Place) → v ≡ values.Reference b → g ≡ b → reference_tree (placed c g) ≡ (valued c v).tree
  reference_opened v b g is same_b =
      let o : out-Value v ≡ Value-F.Reference b = ap out-Value is ∙ search value_lemmas.the_lemmas in
      rw (same_b) (sym (ap (λ x. x.tree) (valued_at v (Value-F.Reference b) o)))

  pub length_opened : (v : Value) (b g : Place) → v ≡ values.Length b → g ≡ b → length_tree (placed c g) ≡ (valued c v).tree
  length_opened v b g is same_b =
      let o : out-Value v ≡ Value-F.Length b = ap out-Value is ∙ search value_lemmas.the_lemmas in
      rw (same_b) (sym (ap (λ x. x.tree) (valued_at v (Value-F.Length b) o)))

  pub dyadic_opened : (v : Value) (o : Op2) (a h b g : Value) → v ≡ values.Dyadic o a b → h ≡ a → g ≡ b → dyadic_tree o (valued c h).tree (valued c g).tree ≡ (valued c v).tree
  dyadic_opened v o a h b g is same_a same_b =
      let opened : out-Value v ≡ Value-F.Dyadic o a b = ap out-Value is ∙ search value_lemmas.the_lemmas in
      rw (same_a, same_b) (sym (ap (λ x. x.tree) (valued_at v (Value-F.Dyadic o a b) opened)))

  -- ---- callees

  pub callee_opened : (f : Callee) (a h : Value) (ts : Terms) → f ≡ callees.Through a → h ≡ a → ApplyBy (mode_or_int (valued c h).mode) (valued c h).tree ts ≡ (called c f).tree ts
  callee_opened f a h ts is same_a =
      let o : out-Callee f ≡ Callee-F.«Callee::Through» a = ap out-Callee is ∙ search callee_lemmas.the_lemmas in
      rw (same_a) (sym (ap (λ x. x.tree ts) (called_at f (Callee-F.«Callee::Through» a) o)))
