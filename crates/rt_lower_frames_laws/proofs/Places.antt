-- The plain trees of places and values that fit are whole.
use Rattle.std.proofs.Common.{◌≡◌, ℕ, zero, suc, ◌-◌, ◌==◌, nat_lt, codes, Bool, true, false, ◌||◌, if◌then◌else◌, List, [], ◌∷◌, map, length, Option, Some, None, option_map, slice_get, refl, sym, ap, ◌∙◌, subst, arith}
use Rattle.std.proofs.lemmas.Bool.{and_parts}
use Rattle.std.proofs.lemmas.Bool.Decides.{nat_tests}
use Rattle.rt_modes.specs.declared.mode.Field.{Field}
use Rattle.rt_modes.specs.declared.mode.Mode.{Mode, out-Mode}
use Rattle.rt_modes.specs.declared.mode.Mode.TheOpen.{Mode-F}
use Rattle.rt_modes.specs.declared.mode.RecordDef.{RecordDef}
use Rattle.rt_tree_nodes.specs.declared.brick.Local.{Local}
use Rattle.rt_tree_nodes.specs.declared.brick.Local.TheVariants as local
use Rattle.rt_tree_nodes.specs.declared.brick.ModuleParts.{ModuleParts}
use Rattle.rt_tree_nodes.specs.declared.operators.Op2.{Op2}
use Rattle.rt_tree_nodes.specs.declared.operators.Op2.TheVariants as two
use Rattle.rt_tree_nodes.specs.declared.value.Callee.{Callee, out-Callee, roll-Callee, map-Callee}
use Rattle.rt_tree_nodes.specs.declared.value.Callee as callees
use Rattle.rt_tree_nodes.specs.declared.value.Callee.TheFolds.{ind-Value, ind-Place, fold_out-Callee, fold_out-Place, fold_out-Value}
use Rattle.rt_tree_nodes.specs.declared.value.Callee.TheOpen.{Callee-F, Place-F, Value-F}
use Rattle.rt_tree_nodes.specs.declared.value.Place.{Place, out-Place, roll-Place, map-Place}
use Rattle.rt_tree_nodes.specs.declared.value.Place as places
use Rattle.rt_tree_nodes.specs.declared.value.Value.{Value, out-Value, roll-Value, map-Value}
use Rattle.rt_tree_nodes.specs.declared.value.Value as values
use Rattle.rt_tree_nodes.specs.Scopes.{Scope, Face, Layer, with, passes, is_svc, items_of, field_at, field_is, fields_of, first_fields, is_errors, is_streams, errors_of, streams_of, is_error_data, is_stream_data, is_label_layer, is_int_layer, is_byte_layer, takes, gives, faces, svc_mode, scope_of}
use Rattle.rt_tree_nodes.specs.Tree.{Term, Path, ItemAt, Svc, Terms}
use Rattle.rt_tree_nodes.specs.Typing.{Valued, Placed, Called, Found, Variable, Loop, Shared, Private, Row, Spot, OnLocal, OnPath, OnRow, is_int, suits, all_suit, terms_of, local_found, kept, item_found, field_by, field_found, field_path, field_in, element_by, element_found, element_path, element_in, led, led_by, led_spot, led_tree, read_mode, read_tree, reference_mode, reference_path, reference_tree, length_by, length_mode, length_path, length_tree, dyadic_tree, call_mode, signature_by, one_callee, one_place, one_value, called, placed, valued}
use Rattle.rt_frames.proofs.Under.{is_there, there_with, there_some, there_passes, only_there, fit, value_there}
use Rattle.rt_lower_frames_laws.proofs.Sound.{TermSound, PathSound, PlaceSound, TermsSound, path_place}

-- ---- the items of the task's own data are neither records nor arrays

abbrev pub is_bare : Layer → Bool
is_bare (Mode-F.Record r) = false
is_bare (Mode-F.Array n m) = false
is_bare _ = true

label_bare : (l : Layer) → is_label_layer l ≡ true → is_bare l ≡ true
label_bare Mode-F.Label e = refl
label_bare _ e = absurd cc

int_bare : (l : Layer) → is_int_layer l ≡ true → is_bare l ≡ true
int_bare Mode-F.Int e = refl
int_bare _ e = absurd cc

takes_bare : (test : Layer → Bool) (l : Layer) → takes test l ≡ true → is_bare l ≡ true
takes_bare test (Mode-F.Proc ms r) e = refl
takes_bare test _ e = absurd cc

gives_bare : (test : Layer → Bool) (l : Layer) → gives test l ≡ true → is_bare l ≡ true
gives_bare test (Mode-F.Proc ms r) e = refl
gives_bare test _ e = absurd cc

field_bare : (name : List ℕ) (test : Layer → Bool) (f : Field) (m : Mode) → ((l : Layer) → test l ≡ true → is_bare l ≡ true) → field_is name test f ≡ true → Some f.mode ≡ Some m → is_bare (out-Mode m) ≡ true
field_bare name test f m bare e g =
    let same : f.mode ≡ m = cc in
    subst (λ (z : Mode). is_bare (out-Mode z) ≡ true) same (bare (out-Mode f.mode) (and_parts _ (test (out-Mode f.mode)) e).1)

errors_bare : (fs : List Field) → is_error_data fs ≡ true → (k : ℕ) (m : Mode) → field_at fs k ≡ Some m → is_bare (out-Mode m) ≡ true
errors_bare [] e k m g = absurd cc
errors_bare (a ∷ []) e k m g = absurd cc
errors_bare (a ∷ b ∷ []) e k m g = absurd cc
errors_bare (a ∷ b ∷ d ∷ x ∷ xs) e k m g = absurd (let long = (and_parts (length (a ∷ b ∷ d ∷ x ∷ xs) == 3) _ e).0 in grind (arith, nat_tests))
errors_bare (a ∷ b ∷ d ∷ []) e k m g =
    let first = and_parts (field_is (codes "ERL") is_label_layer a) _ e in
    let second = and_parts (field_is (codes "ERN") is_int_layer b) _ first.1 in
    by first.0 second.0 second.1 k g
  where
    by : field_is (codes "ERL") is_label_layer a ≡ true → field_is (codes "ERN") is_int_layer b ≡ true → field_is (codes "ERP") (takes is_int_layer) d ≡ true → (i : ℕ) → field_at (a ∷ b ∷ d ∷ []) i ≡ Some m → is_bare (out-Mode m) ≡ true
    by x y z zero f = field_bare (codes "ERL") is_label_layer a m label_bare x f
    by x y z (suc zero) f = field_bare (codes "ERN") is_int_layer b m int_bare y f
    by x y z (suc (suc zero)) f = field_bare (codes "ERP") (takes is_int_layer) d m (takes_bare is_int_layer) z f
    by x y z (suc (suc (suc i))) f = absurd cc

streams_bare : (fs : List Field) → is_stream_data fs ≡ true → (k : ℕ) (m : Mode) → field_at fs k ≡ Some m → is_bare (out-Mode m) ≡ true
streams_bare [] e k m g = absurd cc
streams_bare (a ∷ []) e k m g = absurd cc
streams_bare (a ∷ b ∷ x ∷ xs) e k m g = absurd (let long = (and_parts (length (a ∷ b ∷ x ∷ xs) == 2) _ e).0 in grind (arith, nat_tests))
streams_bare (a ∷ b ∷ []) e k m g =
    let first = and_parts (field_is (codes "IN") (gives is_byte_layer) a) _ e in
    by first.0 first.1 k g
  where
    by : field_is (codes "IN") (gives is_byte_layer) a ≡ true → field_is (codes "OUT") (takes is_byte_layer) b ≡ true → (i : ℕ) → field_at (a ∷ b ∷ []) i ≡ Some m → is_bare (out-Mode m) ≡ true
    by x y zero f = field_bare (codes "IN") (gives is_byte_layer) a m (gives_bare is_byte_layer) x f
    by x y (suc zero) f = field_bare (codes "OUT") (takes is_byte_layer) b m (takes_bare is_byte_layer) y f
    by x y (suc (suc i)) f = absurd cc

-- the fields that are found pass the test of the brick that has them
first_pass : (test : Face → Bool) (sort : List Field → Bool) → ((d : Face) → test d ≡ true → passes sort (fields_of d) ≡ true) → (bs : List Face) (fs : List Field) → first_fields test bs ≡ Some fs → sort fs ≡ true
first_pass test sort of [] fs e = absurd cc
first_pass test sort of (d ∷ bs) fs e = here (test d) refl e (first_pass test sort of bs fs)
  where
    here : (c : Bool) → test d ≡ c → (if c then fields_of d else first_fields test bs) ≡ Some fs → (first_fields test bs ≡ Some fs → sort fs ≡ true) → sort fs ≡ true
    here true t g later = sym (ap (passes sort) g) ∙ of d t
    here false t g later = later g

errors_pass : (d : Face) → is_errors d ≡ true → passes is_error_data (fields_of d) ≡ true
errors_pass d e = (and_parts _ _ (and_parts (is_svc d.kind) _ e).1).1

streams_pass : (d : Face) → is_streams d ≡ true → passes is_stream_data (fields_of d) ≡ true
streams_pass d e = (and_parts _ _ (and_parts (is_svc d.kind) _ e).1).1

at_field : (test : List Field → Bool) (o : Option (List Field)) (k : ℕ) (m : Mode) → ((fs : List Field) → o ≡ Some fs → test fs ≡ true) → ((fs : List Field) → test fs ≡ true → field_at fs k ≡ Some m → is_bare (out-Mode m) ≡ true) → with o (λ fs. field_at fs k) ≡ Some m → is_bare (out-Mode m) ≡ true
at_field test None k m f g e = absurd cc
at_field test (Some fs) k m f g e = g fs (f fs refl) e

abbrev pub BareSvc : Scope → Type 0
BareSvc c = (k : ℕ) (m : Mode) → svc_mode c k ≡ Some m → is_bare (out-Mode m) ≡ true

pub svc_bare : (p : ModuleParts) → BareSvc (scope_of p)
svc_bare p k m e = by (nat_lt k 3) e
  where
    by : (c : Bool) → (if c then with (errors_of (faces p.bricks)) (λ fs. field_at fs k) else with (streams_of (faces p.bricks)) (λ fs. field_at fs (k - 3))) ≡ Some m → is_bare (out-Mode m) ≡ true
    by true e = at_field is_error_data (errors_of (faces p.bricks)) k m (first_pass is_errors is_error_data errors_pass (faces p.bricks)) (λ fs d g. errors_bare fs d k m g) e
    by false e = at_field is_stream_data (streams_of (faces p.bricks)) (k - 3) m (first_pass is_streams is_stream_data streams_pass (faces p.bricks)) (λ fs d g. streams_bare fs d (k - 3) m g) e

-- ---- what holds of places, values and what is called

abbrev pub SpotWhole : Found → Spot → Type 0
SpotWhole (Variable m) (OnLocal i) = Unit {0}
SpotWhole Loop (OnLocal i) = Unit {0}
SpotWhole (Shared m) (OnPath q) = PathSound q
SpotWhole (Private m) (OnPath q) = PlaceSound q × (is_bare (out-Mode m) ≡ false → PathSound q)
SpotWhole (Row m) (OnRow v) = TermSound v
SpotWhole _ _ = ⊥

abbrev pub FoundWhole : Option Found → Spot → Type 0
FoundWhole None s = Unit {0}
FoundWhole (Some f) s = SpotWhole f s

abbrev pub PlaceWhole : Placed → Type 0
PlaceWhole x = FoundWhole x.found x.tree

abbrev pub ValueWhole : Valued → Type 0
ValueWhole x = fit x ≡ true → TermSound x.tree

abbrev pub CalleeWhole : Called → Type 0
CalleeWhole x = is_there x.mode ≡ true → (ts : Terms) → TermsSound ts → TermSound (x.tree ts)

-- ---- places

local_whole : (o : Option Local) (i : ℕ) → FoundWhole (option_map local_found o) (OnLocal i)
local_whole None i = tt
local_whole (Some (local.Variable m)) i = tt
local_whole (Some local.Loop) i = tt

item_whole : (bs : List Face) (b j : ℕ) → FoundWhole (item_found bs b j) (OnPath (ItemAt b j))
item_whole bs b j = by_face (slice_get bs b)
  where
    by_kept : (c : Bool) (m : Mode) → SpotWhole (kept c m) (OnPath (ItemAt b j))
    by_kept true m = (tt, λ e. tt)
    by_kept false m = tt

    by_field : (c : Bool) (o : Option Mode) → FoundWhole (option_map (kept c) o) (OnPath (ItemAt b j))
    by_field c None = tt
    by_field c (Some m) = by_kept c m

    by_items : (c : Bool) (o : Option (List Field)) → FoundWhole (with o (λ fs. option_map (kept c) (field_at fs j))) (OnPath (ItemAt b j))
    by_items c None = tt
    by_items c (Some fs) = by_field c (field_at fs j)

    by_face : (o : Option Face) → FoundWhole (with o (λ d. with (items_of d) (λ fs. option_map (kept (is_svc d.kind)) (field_at fs j)))) (OnPath (ItemAt b j))
    by_face None = tt
    by_face (Some d) = by_items (is_svc d.kind) (items_of d)

svc_whole : (o : Option Mode) (k : ℕ) → ((m : Mode) → o ≡ Some m → is_bare (out-Mode m) ≡ true) → FoundWhole (option_map Private o) (OnPath (Svc k))
svc_whole None k h = tt
svc_whole (Some m) k h = (tt, λ e. absurd (let both : true ≡ false = sym (h m refl) ∙ e in cc))

field_whole : (records : List RecordDef) (k : ℕ) (o : Option Found) (s : Spot) → FoundWhole o s → FoundWhole (with o (field_found records k)) (field_in o s k)
field_whole records k None s h = tt
field_whole records k (Some (Shared m)) (OnPath q) h = by_layer (out-Mode m)
  where
    there : (r : ℕ) (o : Option Mode) → FoundWhole (option_map Shared o) (OnPath (field_path (Mode-F.Record r) q k))
    there r None = tt
    there r (Some u) = h

    by_layer : (l : Layer) → FoundWhole (option_map Shared (field_by records k l)) (OnPath (field_path l q k))
    by_layer (Mode-F.Record r) = there r (field_by records k (Mode-F.Record r))
    by_layer _ = tt
field_whole records k (Some (Private m)) (OnPath q) h = by_layer (out-Mode m) h.1
  where
    there : (r : ℕ) (o : Option Mode) → PathSound q → FoundWhole (option_map Private o) (OnPath (field_path (Mode-F.Record r) q k))
    there r None g = tt
    there r (Some u) g = (g, λ e. g)

    by_layer : (l : Layer) → (is_bare l ≡ false → PathSound q) → FoundWhole (option_map Private (field_by records k l)) (OnPath (field_path l q k))
    by_layer (Mode-F.Record r) g = there r (field_by records k (Mode-F.Record r)) (g refl)
    by_layer _ g = tt
field_whole records k (Some (Shared m)) (OnLocal i) h = absurd h
field_whole records k (Some (Shared m)) (OnRow v) h = absurd h
field_whole records k (Some (Private m)) (OnLocal i) h = absurd h
field_whole records k (Some (Private m)) (OnRow v) h = absurd h
field_whole records k (Some (Variable m)) s h = tt
field_whole records k (Some Loop) s h = tt
field_whole records k (Some (Row m)) s h = tt

element_whole : (o : Option Found) (s : Spot) (v : Term) (w : Option Mode) → FoundWhole o s → (is_there w ≡ true → TermSound v) → FoundWhole (with o (λ f. with w (λ m. if is_int m then element_found f else None))) (element_in o s v)
element_whole None s v w h g = tt
element_whole (Some f) s v None h g = tt
element_whole (Some f) s v (Some m) h g = by_int (is_int m) f s h
  where
    shared : (l : Layer) (q : Path) → PathSound q → FoundWhole (option_map Shared (element_by l)) (OnPath (element_path l q v))
    shared (Mode-F.Array n u) q h = (h, g refl)
    shared _ q h = tt

    private : (l : Layer) (q : Path) → (is_bare l ≡ false → PathSound q) → FoundWhole (option_map Private (element_by l)) (OnPath (element_path l q v))
    private (Mode-F.Array n u) q h = ((h refl, g refl), λ e. (h refl, g refl))
    private _ q h = tt

    by_int : (b : Bool) (f : Found) (s : Spot) → SpotWhole f s → FoundWhole (if b then element_found f else None) (element_in (Some f) s v)
    by_int false f s h = tt
    by_int true (Shared u) (OnPath q) h = shared (out-Mode u) q h
    by_int true (Private u) (OnPath q) h = private (out-Mode u) q h.1
    by_int true (Row u) (OnRow a) h = (h, g refl)
    by_int true (Variable u) s h = tt
    by_int true Loop s h = tt
    by_int true (Shared u) (OnLocal i) h = absurd h
    by_int true (Shared u) (OnRow a) h = absurd h
    by_int true (Private u) (OnLocal i) h = absurd h
    by_int true (Private u) (OnRow a) h = absurd h
    by_int true (Row u) (OnLocal i) h = absurd h
    by_int true (Row u) (OnPath q) h = absurd h

led_whole : (o : Option Mode) (v : Term) → (is_there o ≡ true → TermSound v) → FoundWhole (with o led) (led_tree o v)
led_whole None v h = tt
led_whole (Some m) v h = by_layer (out-Mode m)
  where
    by_layer : (l : Layer) → FoundWhole (led_by l) (led_spot l v)
    by_layer (Mode-F.Ref u) = h refl
    by_layer (Mode-F.RefArray u) = h refl
    by_layer _ = tt

-- ---- what is read, referred to and counted at a place

read_whole : (o : Option Found) (s : Spot) → FoundWhole o s → is_there (with o read_mode) ≡ true → TermSound (read_tree (record { found = o; tree = s }))
read_whole None s h t = absurd cc
read_whole (Some (Shared m)) (OnPath q) h t = path_place q h
read_whole (Some (Private m)) (OnPath q) h t = h.0
read_whole (Some (Row m)) s h t = absurd cc
read_whole (Some f) (OnLocal i) h t = tt
read_whole (Some (Variable m)) (OnPath q) h t = absurd h
read_whole (Some (Variable m)) (OnRow v) h t = absurd h
read_whole (Some Loop) (OnPath q) h t = absurd h
read_whole (Some Loop) (OnRow v) h t = absurd h
read_whole (Some (Shared m)) (OnRow v) h t = absurd h
read_whole (Some (Private m)) (OnRow v) h t = absurd h

reference_whole : (o : Option Found) (s : Spot) → FoundWhole o s → is_there (with o reference_mode) ≡ true → TermSound (reference_tree (record { found = o; tree = s }))
reference_whole None s h t = absurd cc
reference_whole (Some (Shared m)) (OnPath q) h t = by_layer (out-Mode m)
  where
    by_layer : (l : Layer) → TermSound (reference_path l q)
    by_layer (Mode-F.Array k u) = h
    by_layer _ = h
reference_whole (Some (Shared m)) (OnLocal i) h t = absurd h
reference_whole (Some (Shared m)) (OnRow v) h t = absurd h
reference_whole (Some (Private m)) s h t = absurd cc
reference_whole (Some (Row m)) s h t = absurd cc
reference_whole (Some (Variable m)) s h t = absurd cc
reference_whole (Some Loop) s h t = absurd cc

length_whole : (o : Option Found) (s : Spot) → FoundWhole o s → is_there (with o length_mode) ≡ true → TermSound (length_tree (record { found = o; tree = s }))
length_whole None s h t = absurd cc
length_whole (Some (Shared m)) (OnPath q) h t = by_layer (out-Mode m)
  where
    by_layer : (l : Layer) → TermSound (length_path l q)
    by_layer (Mode-F.Array k u) = h
    by_layer _ = h
length_whole (Some (Private m)) (OnPath q) h t = by_layer (out-Mode m) h.1 t
  where
    by_layer : (l : Layer) → (is_bare l ≡ false → PathSound q) → is_there (length_by l) ≡ true → TermSound (length_path l q)
    by_layer (Mode-F.Array k u) g e = g refl
    by_layer (Mode-F.Record r) g e = absurd cc
    by_layer _ g e = absurd cc
length_whole (Some (Row m)) (OnRow v) h t = h
length_whole (Some (Row m)) (OnLocal i) h t = absurd h
length_whole (Some (Row m)) (OnPath q) h t = absurd h
length_whole (Some (Shared m)) (OnLocal i) h t = absurd h
length_whole (Some (Shared m)) (OnRow v) h t = absurd h
length_whole (Some (Private m)) (OnLocal i) h t = absurd h
length_whole (Some (Private m)) (OnRow v) h t = absurd h
length_whole (Some (Variable m)) s h t = absurd cc
length_whole (Some Loop) s h t = absurd cc

dyadic_whole : (o : Op2) (a b : Term) → TermSound a → TermSound b → TermSound (dyadic_tree o a b)
dyadic_whole two.Divide a b h g = (refl, h, g)
dyadic_whole two.Mod a b h g = (refl, h, g)
dyadic_whole _ a b h g = (h, g)

or_left : (a : Bool) → a || false ≡ true → a ≡ true
or_left true h = refl
or_left false h = absurd cc

or_second : (a b : Bool) → (b ≡ false → a ≡ false) → a || b ≡ true → b ≡ true
or_second a true f h = refl
or_second true false f h = absurd (let z = f refl in cc)
or_second false false f h = absurd cc

-- ---- one level

module _ (c : Scope) (bare : BareSvc c) where
  abbrev ValuePair : Type 0
  ValuePair = (v : Value) × ValueWhole (valued c v)

  abbrev CalleePair : Type 0
  CalleePair = (f : Callee) × CalleeWhole (called c f)

  abbrev PlacePair : Type 0
  PlacePair = (p : Place) × PlaceWhole (placed c p)

  abbrev plain_callee : Callee-F CalleePair PlacePair ValuePair → Callee-F Callee Place Value
  plain_callee y = map-Callee CalleePair PlacePair ValuePair Callee Place Value (λ e. e.0) (λ e. e.0) (λ e. e.0) y

  abbrev plain_place : Place-F CalleePair PlacePair ValuePair → Place-F Callee Place Value
  plain_place y = map-Place CalleePair PlacePair ValuePair Callee Place Value (λ e. e.0) (λ e. e.0) (λ e. e.0) y

  abbrev plain_value : Value-F CalleePair PlacePair ValuePair → Value-F Callee Place Value
  plain_value y = map-Value CalleePair PlacePair ValuePair Callee Place Value (λ e. e.0) (λ e. e.0) (λ e. e.0) y

  abbrev tree_callee : Callee-F Callee Place Value → Callee-F Called Placed Valued
  tree_callee l = map-Callee Callee Place Value Called Placed Valued (called c) (placed c) (valued c) l

  abbrev tree_place : Place-F Callee Place Value → Place-F Called Placed Valued
  tree_place l = map-Place Callee Place Value Called Placed Valued (called c) (placed c) (valued c) l

  abbrev tree_value : Value-F Callee Place Value → Value-F Called Placed Valued
  tree_value l = map-Value Callee Place Value Called Placed Valued (called c) (placed c) (valued c) l

  called_at : (f : Callee) (l : Callee-F Callee Place Value) → out-Callee f ≡ l → called c f ≡ one_callee c (tree_callee l)
  called_at f l o = rw (fold_out-Callee, o) refl

  placed_at : (p : Place) (l : Place-F Callee Place Value) → out-Place p ≡ l → placed c p ≡ one_place c (tree_place l)
  placed_at p l o = rw (fold_out-Place, o) refl

  valued_at : (v : Value) (l : Value-F Callee Place Value) → out-Value v ≡ l → valued c v ≡ one_value c (tree_value l)
  valued_at v l o = rw (fold_out-Value, o) refl

  -- a value with a mode is whole
  moded : (v : ValuePair) → is_there (valued c v.0).mode ≡ true → TermSound (valued c v.0).tree
  moded v t = v.1 (value_there (valued c v.0) t)

  abbrev their_values : List ValuePair → List Valued
  their_values vs = map (valued c) (map (λ (e : ValuePair). e.0) vs)

  arguments_whole : (ws : List Mode) (vs : List ValuePair) → all_suit ws (their_values vs) ≡ true → TermsSound (terms_of (their_values vs))
  arguments_whole ws [] h = tt
  arguments_whole [] (v ∷ vs) h = absurd cc
  arguments_whole (w ∷ ws) (v ∷ vs) h =
      let parts = and_parts (suits w (valued c v.0)) (all_suit ws (their_values vs)) h in
      (moded v (there_passes _ (valued c v.0).mode parts.0), arguments_whole ws vs parts.1)

  no_call : (f : Option Mode) (vs : List Valued) → is_there (call_mode f vs) ≡ false → is_there (with (call_mode f vs) (λ r. r)) ≡ false
  no_call f vs h = by_call (call_mode f vs) h
    where
      by_call : (o : Option (Option Mode)) → is_there o ≡ false → is_there (with o (λ r. r)) ≡ false
      by_call None h = refl
      by_call (Some r) h = absurd cc

  call_whole : (f : CalleePair) (vs : List ValuePair) → ValueWhole (one_value c (Value-F.Call (called c f.0) (their_values vs)))
  call_whole f vs e =
      let x = called c f.0 in
      let there = or_second _ (is_there (call_mode x.mode (their_values vs))) (no_call x.mode (their_values vs)) e in
      let t = there_with x.mode _ there in
      let s = there_with (signature_by (out-Mode t.0)) _ t.1.1 in
      let suit = only_there (all_suit s.0.parameters (their_values vs)) s.0.answer s.1.1 in
      f.1 (there_some x.mode t.0 t.1.0) (terms_of (their_values vs)) (arguments_whole s.0.parameters vs suit)

  callee_level : (y : Callee-F CalleePair PlacePair ValuePair) → CalleeWhole (one_callee c (tree_callee (plain_callee y)))
  callee_level (Callee-F.Brick b) t ts h = h
  callee_level (Callee-F.«Callee::Through» v) t ts h = (moded v t, h)

  place_level : (y : Place-F CalleePair PlacePair ValuePair) → PlaceWhole (one_place c (tree_place (plain_place y)))
  place_level (Place-F.Local i) = local_whole (slice_get c.locals i) i
  place_level (Place-F.Item b j) = item_whole c.bricks b j
  place_level (Place-F.Svc k) = svc_whole (svc_mode c k) k (bare k)
  place_level (Place-F.Field p k) = field_whole c.records k (placed c p.0).found (placed c p.0).tree p.1
  place_level (Place-F.Element p v) = element_whole (placed c p.0).found (placed c p.0).tree (valued c v.0).tree (valued c v.0).mode p.1 (moded v)
  place_level (Place-F.«Place::Through» v) = led_whole (valued c v.0).mode (valued c v.0).tree (moded v)

  value_level : (y : Value-F CalleePair PlacePair ValuePair) → ValueWhole (one_value c (tree_value (plain_value y)))
  value_level (Value-F.Number n) e = tt
  value_level (Value-F.Text n) e = tt
  value_level (Value-F.Proc b) e = tt
  value_level (Value-F.Read p) e = read_whole (placed c p.0).found (placed c p.0).tree p.1 (or_left _ e)
  value_level (Value-F.Reference p) e = reference_whole (placed c p.0).found (placed c p.0).tree p.1 (or_left _ e)
  value_level (Value-F.Length p) e = length_whole (placed c p.0).found (placed c p.0).tree p.1 (or_left _ e)
  value_level (Value-F.Monadic o a) e =
      let t = there_with (valued c a.0).mode _ (or_left _ e) in
      moded a (there_some (valued c a.0).mode t.0 t.1.0)
  value_level (Value-F.Dyadic o a b) e =
      let t = there_with (valued c a.0).mode _ (or_left _ e) in
      let u = there_with (valued c b.0).mode _ t.1.1 in
      dyadic_whole o (valued c a.0).tree (valued c b.0).tree (moded a (there_some (valued c a.0).mode t.0 t.1.0)) (moded b (there_some (valued c b.0).mode u.0 u.1.0))
  value_level (Value-F.Call f vs) e = call_whole f vs e

  -- ---- all levels

  abbrev EachCallee : Callee → Type 0
  EachCallee f = CalleeWhole (called c f)

  abbrev EachPlace : Place → Type 0
  EachPlace p = PlaceWhole (placed c p)

  abbrev EachValue : Value → Type 0
  EachValue v = ValueWhole (valued c v)

  callee_as : (f : Callee) (y : Callee-F CalleePair PlacePair ValuePair) → out-Callee f ≡ plain_callee y → EachCallee f
  callee_as f y o = subst (λ (z : Called). CalleeWhole z) (sym (called_at f (plain_callee y) o)) (callee_level y)

  place_as : (p : Place) (y : Place-F CalleePair PlacePair ValuePair) → out-Place p ≡ plain_place y → EachPlace p
  place_as p y o = subst (λ (z : Placed). PlaceWhole z) (sym (placed_at p (plain_place y) o)) (place_level y)

  value_as : (v : Value) (y : Value-F CalleePair PlacePair ValuePair) → out-Value v ≡ plain_value y → EachValue v
  value_as v y o = subst (λ (z : Valued). ValueWhole z) (sym (valued_at v (plain_value y) o)) (value_level y)

  rolled_callee : (z : Callee-F Callee Place Value) → out-Callee (roll-Callee z) ≡ z
  rolled_callee z = search callees.the_lemmas

  rolled_place : (z : Place-F Callee Place Value) → out-Place (roll-Place z) ≡ z
  rolled_place z = search places.the_lemmas

  rolled_value : (z : Value-F Callee Place Value) → out-Value (roll-Value z) ≡ z
  rolled_value z = search values.the_lemmas

  pub value_whole : (v : Value) → ValueWhole (valued c v)
  value_whole = ind-Value EachCallee EachPlace EachValue (λ z y is. callee_as (roll-Callee z) y (rolled_callee z ∙ sym is)) (λ z y is. place_as (roll-Place z) y (rolled_place z ∙ sym is)) (λ z y is. value_as (roll-Value z) y (rolled_value z ∙ sym is))

  pub place_whole : (p : Place) → PlaceWhole (placed c p)
  place_whole = ind-Place EachCallee EachPlace EachValue (λ z y is. callee_as (roll-Callee z) y (rolled_callee z ∙ sym is)) (λ z y is. place_as (roll-Place z) y (rolled_place z ∙ sym is)) (λ z y is. value_as (roll-Value z) y (rolled_value z ∙ sym is))
