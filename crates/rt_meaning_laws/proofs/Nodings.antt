-- Whole values, places and callees that fit as nodes fit as plain trees.
use Rattle.std.proofs.Common.{◌≡◌, ℕ, ◌<◌, nat_lt, Bool, true, false, List, [], ◌∷◌, map, Option, Some, None, option_map, length, slice_get, refl, sym, ap, ◌∙◌, subst, arith}
use Rattle.std.specs.List.{Contains}
use Rattle.std.proofs.lemmas.Bool.Decides.{nat_tests}
use Rattle.rt_modes.specs.declared.mode.Mode.{Mode, out-Mode}
use Rattle.rt_modes.specs.declared.mode.Mode.TheOpen.{Mode-F}
use Rattle.rt_modes.specs.declared.mode.Mode.TheVariants as mode
use Rattle.rt_tree_nodes.specs.declared.value.Callee.{Callee, out-Callee, roll-Callee, map-Callee}
use Rattle.rt_tree_nodes.specs.declared.value.Callee as callees
use Rattle.rt_tree_nodes.specs.declared.value.Callee.TheFolds.{ind-Value, ind-Place, fold_out-Callee, fold_out-Place, fold_out-Value}
use Rattle.rt_tree_nodes.specs.declared.value.Callee.TheOpen.{Callee-F, Place-F, Value-F}
use Rattle.rt_tree_nodes.specs.declared.value.Place.{Place, out-Place, roll-Place, map-Place}
use Rattle.rt_tree_nodes.specs.declared.value.Place as places
use Rattle.rt_tree_nodes.specs.declared.value.Value.{Value, out-Value, roll-Value, map-Value}
use Rattle.rt_tree_nodes.specs.declared.value.Value as values
use Rattle.rt_tree_nodes.specs.Scopes.{Scope, Face, is_svc, items_of, faces, field_at, svc_mode, scope_of, with_locals}
use Rattle.rt_tree_nodes.specs.Tree.{Num, ItemAt, Svc}
use Rattle.rt_tree_nodes.specs.Typing.{Signature, Found, Variable, Loop, Shared, Private, Row, OnPath, Placed, Valued, Called, kept, item_found, suits, all_suit, terms_of, signature_by, call_mode, one_callee, one_place, one_value, called, placed, valued, mode_or_int, monadic_mode, dyadic_mode}
use Rattle.rt_tree.specs.Taken.{taken}
use Rattle.rt_meaning_laws.specs.Trees.{Started, Site, number_fits, TermsFit}
use Rattle.rt_meaning_laws.specs.Named.{TermsNamed}
use Rattle.rt_meaning_laws.proofs.Modes.{out_int, out_byte, out_row}
use Rattle.rt_meaning_laws.proofs.Values.{SvcIs, PlaceIs, PlaceGood, ValueGood, CalleeGood, suits_fits, local_place, field_good, subscript_good, led_good, read_good, reference_good, length_good, dyadic_good}
use Rattle.rt_meaning_laws.proofs.Small.{two_true, with_is, mapped_is, only_is, none_left}

-- ---- items

abbrev IsKept : Found → Type 0
IsKept (Shared m) = Unit {0}
IsKept (Private m) = Unit {0}
IsKept _ = ⊥

kept_kept : (b : Bool) (m : Mode) → IsKept (kept b m)
kept_kept true m = tt
kept_kept false m = tt

item_kept : (bs : List Face) (b j : ℕ) (f : Found) → item_found bs b j ≡ Some f → IsKept f
item_kept bs b j f e =
    let d = with_is (slice_get bs b) _ f e in
    let i = with_is (items_of d.0) _ f d.2 in
    let k = mapped_is (kept (is_svc d.0.kind)) (field_at i.0 j) f i.2 in
    subst IsKept k.2 (kept_kept (is_svc d.0.kind) k.0)

module _ (x : Site) (s : Started) (private_none : (b j : ℕ) (m : Mode) → item_found (faces x.parts.bricks) b j ≡ Some (Private m) → ⊥) (svc_is : (k : ℕ) (m : Mode) → svc_mode (scope_of x.parts) k ≡ Some m → SvcIs x.parts.modes k m) where
  abbrev c : Scope
  c = with_locals (scope_of x.parts) x.locals

  abbrev names : ℕ → Type 0
  names b = Contains (taken x.parts) b

  item_good : (b j : ℕ) (f : Found) → item_found (faces x.parts.bricks) b j ≡ Some f → IsKept f → PlaceIs x s f (OnPath (ItemAt b j))
  item_good b j (Shared m) e k = λ ready. e
  item_good b j (Private m) e k = absurd (private_none b j m e)
  item_good b j (Variable m) e k = absurd k
  item_good b j Loop e k = absurd k
  item_good b j (Row m) e k = absurd k

  svc_good : (k : ℕ) (f : Found) → option_map Private (svc_mode (scope_of x.parts) k) ≡ Some f → PlaceIs x s f (OnPath (Svc k))
  svc_good k f e =
      let r = mapped_is Private (svc_mode (scope_of x.parts) k) f e in
      subst (λ (g : Found). PlaceIs x s g (OnPath (Svc k))) r.2 (k, refl, svc_is k r.0 r.1)

  abbrev ValuePair : Type 0
  ValuePair = (v : Value) × ValueGood x s (valued c v)

  abbrev CalleePair : Type 0
  CalleePair = (f : Callee) × CalleeGood x s (called c f)

  abbrev PlacePair : Type 0
  PlacePair = (p : Place) × PlaceGood x s (placed c p)

  abbrev plain_callee : Callee-F CalleePair PlacePair ValuePair → Callee-F Callee Place Value
  plain_callee y = map-Callee CalleePair PlacePair ValuePair Callee Place Value (λ e. e.0) (λ e. e.0) (λ e. e.0) y

  abbrev plain_place : Place-F CalleePair PlacePair ValuePair → Place-F Callee Place Value
  plain_place y = map-Place CalleePair PlacePair ValuePair Callee Place Value (λ e. e.0) (λ e. e.0) (λ e. e.0) y

  abbrev plain_value : Value-F CalleePair PlacePair ValuePair → Value-F Callee Place Value
  plain_value y = map-Value CalleePair PlacePair ValuePair Callee Place Value (λ e. e.0) (λ e. e.0) (λ e. e.0) y

  abbrev tree_callee : Callee-F Callee Place Value → Callee-F Called Placed Valued
  tree_callee l = map-Callee Callee Place Value Called Placed Valued (called c) (placed c) (valued c) l

  abbrev tree_place : Place-F Callee Place Value → Place-F Called Placed Valued
  tree_place l = map-Place Callee Place Value Called Placed Valued (called c) (placed c) (valued c) l

  abbrev tree_value : Value-F Callee Place Value → Value-F Called Placed Valued
  tree_value l = map-Value Callee Place Value Called Placed Valued (called c) (placed c) (valued c) l

  called_at : (f : Callee) (l : Callee-F Callee Place Value) → out-Callee f ≡ l → called c f ≡ one_callee c (tree_callee l)
  called_at f l o = rw (fold_out-Callee, o) refl

  placed_at : (p : Place) (l : Place-F Callee Place Value) → out-Place p ≡ l → placed c p ≡ one_place c (tree_place l)
  placed_at p l o = rw (fold_out-Place, o) refl

  valued_at : (v : Value) (l : Value-F Callee Place Value) → out-Value v ≡ l → valued c v ≡ one_value c (tree_value l)
  valued_at v l o = rw (fold_out-Value, o) refl

  place_level : (y : Place-F CalleePair PlacePair ValuePair) → PlaceGood x s (one_place c (tree_place (plain_place y)))
  place_level (Place-F.Local i) = local_place x s i
  place_level (Place-F.Item b j) = λ f e. item_good b j f e (item_kept (faces x.parts.bricks) b j f e)
  place_level (Place-F.Svc k) = λ f e. svc_good k f e
  place_level (Place-F.Field p k) = λ f e. field_good x s (placed c p.0).found (placed c p.0).tree k p.1 f e
  place_level (Place-F.Element p v) = λ f e. subscript_good x s (placed c p.0).found (placed c p.0).tree (valued c v.0) p.1 v.1 f e
  place_level (Place-F.«Place::Through» v) = λ f e. led_good x s (valued c v.0) v.1 f e

  callee_level : (y : Callee-F CalleePair PlacePair ValuePair) → CalleeGood x s (one_callee c (tree_callee (plain_callee y)))
  callee_level (Callee-F.Brick b) = record {
    calls = λ w ws o ts e q f r. (w, ws, e, q, f r);
    gives = λ w ws m ts e q f r. (w, ws, e, q, f r);
  }
  callee_level (Callee-F.«Callee::Through» v) = record {
    calls = λ w ws o ts e q f r. (w, ws, q, v.1.is w e r.0, f r.1, ap mode_or_int e);
    gives = λ w ws m ts e q f r. (w, ws, q, v.1.is w e r.0, f r.1, ap mode_or_int e);
  }

  abbrev their_values : List ValuePair → List Valued
  their_values vs = map (valued c) (map (λ (e : ValuePair). e.0) vs)

  arguments_fit : (ws : List Mode) (vs : List ValuePair) → all_suit ws (their_values vs) ≡ true → TermsNamed names s (terms_of (their_values vs)) → TermsFit x s (terms_of (their_values vs)) ws
  arguments_fit [] [] e r = refl
  arguments_fit (w ∷ ws) [] e r = absurd (none_left (length ws) e)
  arguments_fit [] (v ∷ vs) e r = absurd cc
  arguments_fit (w ∷ ws) (v ∷ vs) e r =
      let both = two_true (suits w (valued c v.0)) (all_suit ws (their_values vs)) e in
      (w, ws, refl, suits_fits x s w (valued c v.0) v.1 both.0 r.0, arguments_fit ws vs both.1 r.1)

  abbrev CallIs : Callee → List ValuePair → Option Mode → Type 0
  CallIs f vs o = (w : Mode) × (ws : List Mode) × ((called c f).mode ≡ Some w) × (out-Mode w ≡ Mode-F.Proc ws o) × (all_suit ws (their_values vs) ≡ true)

  opened : (w : Mode) (g : Signature) (l : Mode-F Mode) → out-Mode w ≡ l → signature_by l ≡ Some g → (ws : List Mode) × (o : Option Mode) × (out-Mode w ≡ Mode-F.Proc ws o) × (ws ≡ g.parameters) × (o ≡ g.answer)
  opened w g (Mode-F.Proc ws o) q e = (ws, o, q, ap (λ (z : Option Signature). parameters_in z) e, ap (λ (z : Option Signature). answer_in z) e)
    where
      parameters_in : Option Signature → List Mode
      parameters_in None = []
      parameters_in (Some z) = z.parameters

      answer_in : Option Signature → Option Mode
      answer_in None = None
      answer_in (Some z) = z.answer
  opened w g _ q e = absurd cc

  call_is : (f : Callee) (vs : List ValuePair) (o : Option Mode) → call_mode (called c f).mode (their_values vs) ≡ Some o → CallIs f vs o
  call_is f vs o e =
      let w = with_is (called c f).mode _ o e in
      let g = with_is (signature_by (out-Mode w.0)) _ o w.2 in
      let k = only_is (all_suit g.0.parameters (their_values vs)) g.0.answer o g.2 in
      let p = opened w.0 g.0 (out-Mode w.0) refl g.1 in
      (w.0, p.0, w.1, p.2 ∙ ap (λ (z : Option Mode). Mode-F.Proc p.0 z) (p.4 ∙ k.1), ap (λ (z : List Mode). all_suit z (their_values vs)) p.3 ∙ k.0)

  call_good : (f : CalleePair) (vs : List ValuePair) → ValueGood x s (one_value c (Value-F.Call (called c f.0) (their_values vs)))
  call_good f vs = record {
    is = λ m e r.
        let k = with_is (call_mode (called c f.0).mode (their_values vs)) (λ o. o) m e in
        let same : k.0 ≡ Some m = k.2 in
        let h = call_is f.0 vs (Some m) (k.1 ∙ ap (λ (z : Option Mode). Some z) same) in
        f.1.gives h.0 h.1 m (terms_of (their_values vs)) h.2 h.3 (λ named. arguments_fit h.1 vs h.4 named) r;
    number = λ k e. absurd cc;
    call = λ o e r.
        let h = call_is f.0 vs o e in
        f.1.calls h.0 h.1 o (terms_of (their_values vs)) h.2 h.3 (λ named. arguments_fit h.1 vs h.4 named) r;
    result = λ m e r.
        let h = call_is f.0 vs (Some m) e in
        f.1.gives h.0 h.1 m (terms_of (their_values vs)) h.2 h.3 (λ named. arguments_fit h.1 vs h.4 named) r;
  }

  value_level : (y : Value-F CalleePair PlacePair ValuePair) → ValueGood x s (one_value c (tree_value (plain_value y)))
  value_level (Value-F.Number n) = record {
    is = λ m e r. let same : mode.Int ≡ m = cc in subst (λ (l : Mode-F Mode). number_fits n l) (sym (ap out-Mode (sym same) ∙ out_int)) r;
    number = λ k e. let same : n ≡ k = cc in ap Num same;
    call = λ o e r. absurd cc;
    result = λ q e r. absurd cc;
  }
  value_level (Value-F.Text n) = record {
    is = λ m e r. let k = only_is (nat_lt n (length x.parts.strings)) (mode.RefArray mode.Byte) m e in (mode.Byte, ap out-Mode (sym k.1) ∙ out_row mode.Byte, out_byte, low n (length x.parts.strings) k.0);
    number = λ k e. absurd cc;
    call = λ o e r. absurd cc;
    result = λ q e r. absurd cc;
  }
    where
      low : (a b : ℕ) → nat_lt a b ≡ true → a < b
      low a b h = grind (arith, nat_tests)
  value_level (Value-F.Proc b) = record { is = λ m e r. (e, r); number = λ k e. absurd cc; call = λ o e r. absurd cc; result = λ q e r. absurd cc }
  value_level (Value-F.Read p) = record { is = λ m e r. read_good x s (placed c p.0).found (placed c p.0).tree m p.1 e r; number = λ k e. absurd cc; call = λ o e r. absurd cc; result = λ q e r. absurd cc }
  value_level (Value-F.Reference p) = record { is = λ m e r. reference_good x s (placed c p.0).found (placed c p.0).tree m p.1 e r; number = λ k e. absurd cc; call = λ o e r. absurd cc; result = λ q e r. absurd cc }
  value_level (Value-F.Length p) = record { is = λ m e r. length_good x s (placed c p.0).found (placed c p.0).tree m p.1 e r; number = λ k e. absurd cc; call = λ o e r. absurd cc; result = λ q e r. absurd cc }
  value_level (Value-F.Monadic o v) = record {
    is = λ m e r. let k = with_is (valued c v.0).mode (monadic_mode o) m e in (k.0, k.2, v.1.is k.0 k.1 r);
    number = λ k e. absurd cc;
    call = λ q e r. absurd cc;
    result = λ q e r. absurd cc;
  }
  value_level (Value-F.Dyadic o a b) = record {
    is = λ m e r.
        let j = with_is (valued c a.0).mode _ m e in
        let k = with_is (valued c b.0).mode (dyadic_mode o j.0) m j.2 in
        dyadic_good x s o (valued c a.0).tree (valued c b.0).tree j.0 k.0 m k.2 (λ t. a.1.is j.0 j.1 t) (λ t. b.1.is k.0 k.1 t) r;
    number = λ k e. absurd cc;
    call = λ q e r. absurd cc;
    result = λ q e r. absurd cc;
  }
  value_level (Value-F.Call f vs) = call_good f vs

  -- ---- all levels

  abbrev EachCallee : Callee → Type 0
  EachCallee f = CalleeGood x s (called c f)

  abbrev EachPlace : Place → Type 0
  EachPlace p = PlaceGood x s (placed c p)

  abbrev EachValue : Value → Type 0
  EachValue v = ValueGood x s (valued c v)

  callee_as : (f : Callee) (y : Callee-F CalleePair PlacePair ValuePair) → out-Callee f ≡ plain_callee y → EachCallee f
  callee_as f y o = subst (λ (z : Called). CalleeGood x s z) (sym (called_at f (plain_callee y) o)) (callee_level y)

  place_as : (p : Place) (y : Place-F CalleePair PlacePair ValuePair) → out-Place p ≡ plain_place y → EachPlace p
  place_as p y o = subst (λ (z : Placed). PlaceGood x s z) (sym (placed_at p (plain_place y) o)) (place_level y)

  value_as : (v : Value) (y : Value-F CalleePair PlacePair ValuePair) → out-Value v ≡ plain_value y → EachValue v
  value_as v y o = subst (λ (z : Valued). ValueGood x s z) (sym (valued_at v (plain_value y) o)) (value_level y)

  rolled_callee : (z : Callee-F Callee Place Value) → out-Callee (roll-Callee z) ≡ z
  rolled_callee z = search callees.the_lemmas

  rolled_place : (z : Place-F Callee Place Value) → out-Place (roll-Place z) ≡ z
  rolled_place z = search places.the_lemmas

  rolled_value : (z : Value-F Callee Place Value) → out-Value (roll-Value z) ≡ z
  rolled_value z = search values.the_lemmas

  pub value_good : (v : Value) → ValueGood x s (valued c v)
  value_good = ind-Value EachCallee EachPlace EachValue (λ z y is. callee_as (roll-Callee z) y (rolled_callee z ∙ sym is)) (λ z y is. place_as (roll-Place z) y (rolled_place z ∙ sym is)) (λ z y is. value_as (roll-Value z) y (rolled_value z ∙ sym is))

  pub place_good : (p : Place) → PlaceGood x s (placed c p)
  place_good = ind-Place EachCallee EachPlace EachValue (λ z y is. callee_as (roll-Callee z) y (rolled_callee z ∙ sym is)) (λ z y is. place_as (roll-Place z) y (rolled_place z ∙ sym is)) (λ z y is. value_as (roll-Value z) y (rolled_value z ∙ sym is))
