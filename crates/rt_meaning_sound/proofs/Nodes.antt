-- The nodes of a tree whose parts name only what is seen name only what is seen, whether or not they fit.
use Rattle.std.proofs.Common.{◌≡◌, ℕ, ◌<◌, Bool, true, false, List, Option, Some, None, map, option_map, if◌then◌else◌, ◌||◌, refl, sym, subst}
use Rattle.std.specs.Prelude.{nat_lt, slice_get}
use Rattle.rt_modes.specs.declared.mode.Mode.{Mode, out-Mode}
use Rattle.rt_modes.specs.declared.mode.Mode.TheOpen.{Mode-F}
use Rattle.rt_modes.specs.declared.mode.Mode.TheVariants as mode
use Rattle.rt_modes.specs.declared.mode.Field.{Field}
use Rattle.rt_modes.specs.declared.mode.RecordDef.{RecordDef}
use Rattle.rt_tree_nodes.specs.declared.brick.Local.{Local}
use Rattle.rt_tree_nodes.specs.declared.brick.Local.TheVariants as local
use Rattle.rt_tree_nodes.specs.declared.operators.Op1.{Op1}
use Rattle.rt_tree_nodes.specs.declared.operators.Op1.TheVariants as one
use Rattle.rt_tree_nodes.specs.declared.operators.Op2.{Op2}
use Rattle.rt_tree_nodes.specs.declared.operators.Op2.TheVariants as two
use Rattle.rt_tree_nodes.specs.declared.value.Callee.{Callee, out-Callee, map-Callee}
use Rattle.rt_tree_nodes.specs.declared.value.Callee as callee_lemmas
use Rattle.rt_tree_nodes.specs.declared.value.Callee.TheFolds.{fold_out-Callee, fold_out-Place, fold_out-Value}
use Rattle.rt_tree_nodes.specs.declared.value.Callee.TheOpen.{Callee-F, Place-F, Value-F}
use Rattle.rt_tree_nodes.specs.declared.value.Callee.TheVariants as callees
use Rattle.rt_tree_nodes.specs.declared.value.Place.{Place, out-Place, map-Place}
use Rattle.rt_tree_nodes.specs.declared.value.Place as place_lemmas
use Rattle.rt_tree_nodes.specs.declared.value.Place.TheVariants as places
use Rattle.rt_tree_nodes.specs.declared.value.Value.{Value, out-Value, map-Value}
use Rattle.rt_tree_nodes.specs.declared.value.Value as value_lemmas
use Rattle.rt_tree_nodes.specs.declared.value.Value.TheVariants as values
use Rattle.rt_tree_nodes.specs.Scopes.{Scope, Face, with, only, is_svc, items_of, field_at, field_mode, svc_mode, proc_mode}
use Rattle.rt_tree_nodes.specs.Tree.{Term, Path, Terms}
use Rattle.rt_tree_nodes.specs.Typing.{Found, Variable, Loop, Shared, Private, Row, Spot, OnLocal, OnPath, OnRow, Called, Placed, Valued, one_callee, one_place, one_value, called, placed, valued, local_found, kept, field_by, field_found, field_path, field_in, element_by, element_found, element_path, element_in, led_by, led, led_spot, led_tree, is_value, is_byte, is_int, is_frac, both, read_mode, mode_at, read_tree, reference_by, reference_mode, reference_path, reference_tree, length_by, length_mode, length_path, length_tree, signed_mode, whole_mode, monadic_mode, dyadic_mode, dyadic_tree, all_suit, signature_by, call_mode, terms_of}
use Rattle.rt_meaning_laws.specs.Trees.{Started}
use Rattle.rt_meaning_laws.specs.Named.{any_name, TermNamed, PathNamed, TermsNamed}
use Rattle.rt_meaning_sound.specs.Short.{IsShort, AllShort}
use Rattle.rt_meaning_sound.proofs.Short.{byte_short, int_short, frac_short, ref_short, row_short, ref_opens, row_opens, array_opens, array_length, answer_opens}

-- ---- the modes that places and values may have

abbrev pub AnyShort : Option Mode → Type 0
AnyShort None = Unit {0}
AnyShort (Some m) = IsShort m

abbrev pub FoundShort : Option Found → Type 0
FoundShort None = Unit {0}
FoundShort (Some (Variable m)) = IsShort m
FoundShort (Some Loop) = Unit {0}
FoundShort (Some (Shared m)) = IsShort m
FoundShort (Some (Private m)) = IsShort m
FoundShort (Some (Row m)) = IsShort m

any_short : (o : Option Mode) → ((m : Mode) → o ≡ Some m → IsShort m) → AnyShort o
any_short None h = tt
any_short (Some m) h = h m refl

only_short : (b : Bool) (m : Mode) → IsShort m → AnyShort (only b m)
only_short true m h = h
only_short false m h = tt

shared_short : (o : Option Mode) → AnyShort o → FoundShort (option_map Shared o)
shared_short None h = tt
shared_short (Some m) h = h

private_short : (o : Option Mode) → AnyShort o → FoundShort (option_map Private o)
private_short None h = tt
private_short (Some m) h = h

local_short : (o : Option Local) → ((m : Mode) → o ≡ Some (local.Variable m) → IsShort m) → FoundShort (option_map local_found o)
local_short None h = tt
local_short (Some (local.Variable m)) h = h m refl
local_short (Some local.Loop) h = tt

at_short : (o : Option Found) → FoundShort o → IsShort (mode_at o)
at_short (Some (Shared m)) h = h
at_short (Some (Private m)) h = h
at_short _ h = int_short

-- an item of a data brick
abbrev ItemShort : Option Found → Type 0
ItemShort o = (f : Found) → o ≡ Some f → IsShort (mode_at (Some f))

kept_short : (svc : Bool) (o : Option Mode) → ItemShort (option_map (kept svc) o) → FoundShort (option_map (kept svc) o)
kept_short svc None h = tt
kept_short true (Some m) h = h (Private m) refl
kept_short false (Some m) h = h (Shared m) refl

fields_short : (svc : Bool) (o : Option (List Field)) (j : ℕ) → ItemShort (with o (λ fs. option_map (kept svc) (field_at fs j))) → FoundShort (with o (λ fs. option_map (kept svc) (field_at fs j)))
fields_short svc None j h = tt
fields_short svc (Some fs) j h = kept_short svc (field_at fs j) h

brick_short : (o : Option Face) (j : ℕ) → ItemShort (with o (λ d. with (items_of d) (λ fs. option_map (kept (is_svc d.kind)) (field_at fs j))))
    → FoundShort (with o (λ d. with (items_of d) (λ fs. option_map (kept (is_svc d.kind)) (field_at fs j))))
brick_short None j h = tt
brick_short (Some d) j h = fields_short (is_svc d.kind) (items_of d) j h

-- an element of an array, and where a reference leads
array_short : (m : Mode) (l : Mode-F Mode) → out-Mode m ≡ l → IsShort m → AnyShort (element_by l)
array_short m (Mode-F.Array n w) o h = array_opens m n w o h
array_short m _ o h = tt

element_short : (o : Option Found) → FoundShort o → FoundShort (with o element_found)
element_short None h = tt
element_short (Some (Variable m)) h = tt
element_short (Some Loop) h = tt
element_short (Some (Shared m)) h = shared_short (element_by (out-Mode m)) (array_short m (out-Mode m) refl h)
element_short (Some (Private m)) h = private_short (element_by (out-Mode m)) (array_short m (out-Mode m) refl h)
element_short (Some (Row m)) h = h

-- the test that a subscript is INT
subscript_short : (f : Found) (b : Bool) → FoundShort (Some f) → FoundShort (if b then element_found f else None)
subscript_short f true h = element_short (Some f) h
subscript_short f false h = tt

subscripted_short : (o : Option Found) (m : Option Mode) → FoundShort o → FoundShort (with o (λ f. with m (λ w. if is_int w then element_found f else None)))
subscripted_short None m h = tt
subscripted_short (Some f) None h = tt
subscripted_short (Some f) (Some w) h = subscript_short f (is_int w) h

led_layer : (m : Mode) (l : Mode-F Mode) → out-Mode m ≡ l → IsShort m → FoundShort (led_by l)
led_layer m (Mode-F.Ref n) o h = ref_opens m n o h
led_layer m (Mode-F.RefArray n) o h = row_opens m n o h
led_layer m _ o h = tt

led_short : (o : Option Mode) → AnyShort o → FoundShort (with o led)
led_short None h = tt
led_short (Some m) h = led_layer m (out-Mode m) refl h

-- what is read, a reference, and the result of an operator or a call
read_short : (o : Option Found) → FoundShort o → AnyShort (with o read_mode)
read_short None h = tt
read_short (Some (Variable m)) h = only_short (is_value (out-Mode m)) m h
read_short (Some Loop) h = int_short
read_short (Some (Shared m)) h = only_short (is_value (out-Mode m)) m h
read_short (Some (Private m)) h = only_short (is_value (out-Mode m)) m h
read_short (Some (Row m)) h = tt

reference_layer : (m : Mode) (l : Mode-F Mode) → out-Mode m ≡ l → IsShort m → AnyShort (reference_by l m)
reference_layer m (Mode-F.Array n w) o h = row_short w (array_opens m n w o h)
reference_layer m Mode-F.Label o h = tt
reference_layer m _ o h = ref_short m h

reference_short : (o : Option Found) → FoundShort o → AnyShort (with o reference_mode)
reference_short (Some (Shared m)) h = reference_layer m (out-Mode m) refl h
reference_short None h = tt
reference_short (Some (Variable m)) h = tt
reference_short (Some Loop) h = tt
reference_short (Some (Private m)) h = tt
reference_short (Some (Row m)) h = tt

length_layer : (l : Mode-F Mode) → AnyShort (length_by l)
length_layer (Mode-F.Array n m) = int_short
length_layer _ = tt

length_short : (o : Option Found) → AnyShort (with o length_mode)
length_short None = tt
length_short (Some (Variable m)) = tt
length_short (Some Loop) = tt
length_short (Some (Shared m)) = length_layer (out-Mode m)
length_short (Some (Private m)) = length_layer (out-Mode m)
length_short (Some (Row m)) = int_short

signed_short : (m : Mode) → IsShort m → AnyShort (signed_mode m)
signed_short m h = only_short (is_int m || is_frac m) m h

monadic_layer : (o : Op1) (m : Mode) → IsShort m → AnyShort (monadic_mode o m)
monadic_layer one.Plus m h = signed_short m h
monadic_layer one.Minus m h = signed_short m h
monadic_layer one.Abs m h = signed_short m h
monadic_layer one.Not m h = only_short (is_int m) mode.Int int_short
monadic_layer one.Byte m h = only_short (is_int m) mode.Byte byte_short
monadic_layer one.Int m h = only_short (is_byte m || (is_int m || is_frac m)) mode.Int int_short
monadic_layer one.Frac m h = only_short (is_int m || is_frac m) mode.Frac frac_short

monadic_short : (o : Op1) (m : Option Mode) → AnyShort m → AnyShort (with m (monadic_mode o))
monadic_short o None h = tt
monadic_short o (Some m) h = monadic_layer o m h

whole_short : (a b : Mode) → AnyShort (whole_mode a b)
whole_short a b = only_short (both is_int a b) mode.Int int_short

alike_split : (a b : Mode) (t : Bool) → AnyShort (if t then Some mode.Frac else whole_mode a b)
alike_split a b true = frac_short
alike_split a b false = whole_short a b

shift_split : (a : Mode) (t : Bool) → IsShort a → AnyShort (if t then signed_mode a else None)
shift_split a true h = signed_short a h
shift_split a false h = tt

dyadic_layer : (o : Op2) (a b : Mode) → IsShort a → AnyShort (dyadic_mode o a b)
dyadic_layer two.Sll a b h = shift_split a (is_int b) h
dyadic_layer two.Srl a b h = shift_split a (is_int b) h
dyadic_layer two.Sla a b h = shift_split a (is_int b) h
dyadic_layer two.Sra a b h = shift_split a (is_int b) h
dyadic_layer two.FracTimes a b h = only_short (both is_frac a b) mode.Frac frac_short
dyadic_layer two.Plus a b h = alike_split a b (both is_frac a b)
dyadic_layer two.Minus a b h = alike_split a b (both is_frac a b)
dyadic_layer _ a b h = whole_short a b

dyadic_short : (o : Op2) (a b : Option Mode) → AnyShort a → AnyShort (with a (λ x. with b (dyadic_mode o x)))
dyadic_short o None b h = tt
dyadic_short o (Some a) None h = tt
dyadic_short o (Some a) (Some b) h = dyadic_layer o a b h

answer_short : (b : Bool) (r : Option Mode) → AnyShort r → AnyShort (with (only b r) (λ z. z))
answer_short true r h = h
answer_short false r h = tt

result_short : (m : Mode) (ps : List Mode) (r : Option Mode) → out-Mode m ≡ Mode-F.Proc ps r → IsShort m → AnyShort r
result_short m ps None o h = tt
result_short m ps (Some r) o h = answer_opens m ps r o h

call_layer : (m : Mode) (l : Mode-F Mode) (vs : List Valued) → out-Mode m ≡ l → IsShort m → AnyShort (with (with (signature_by l) (λ s. only (all_suit s.parameters vs) s.answer)) (λ z. z))
call_layer m (Mode-F.Proc ps r) vs o h = answer_short (all_suit ps vs) r (result_short m ps r o h)
call_layer m _ vs o h = tt

call_short : (f : Option Mode) (vs : List Valued) → AnyShort f → AnyShort (with (call_mode f vs) (λ z. z))
call_short None vs h = tt
call_short (Some m) vs h = call_layer m (out-Mode m) vs refl h

-- ---- rows

-- A row is found where the tree is that of a row, if anything is.
abbrev pub OnlyRow : Option Found → Type 0
OnlyRow None = Unit {0}
OnlyRow (Some (Row m)) = Unit {0}
OnlyRow (Some _) = ⊥

abbrev pub RowAlone : Option Found → Spot → Type 0
RowAlone f (OnLocal i) = Unit {0}
RowAlone f (OnPath q) = Unit {0}
RowAlone f (OnRow v) = OnlyRow f

led_alone : (l : Mode-F Mode) (v : Term) → RowAlone (led_by l) (led_spot l v)
led_alone (Mode-F.Ref n) v = tt
led_alone _ v = tt

any_led_alone : (o : Option Mode) (v : Term) → RowAlone (with o led) (led_tree o v)
any_led_alone None v = tt
any_led_alone (Some m) v = led_alone (out-Mode m) v

module _ (k : Started) where
  -- ---- what is seen

  -- the tree of a place, that of a local with a value
  abbrev pub SpotSeen : Spot → Type 0
  SpotSeen (OnLocal i) = k i ≡ true
  SpotSeen (OnPath q) = PathNamed any_name k q
  SpotSeen (OnRow v) = TermNamed any_name k v

  pub record PlacedSeen (p : Placed) : Type 0 where
    pub mode : FoundShort p.found
    pub tree : SpotSeen p.tree
    pub alone : RowAlone p.found p.tree

  pub record ValuedSeen (v : Valued) : Type 0 where
    pub mode : AnyShort v.mode
    pub tree : TermNamed any_name k v.tree

  pub record CalledSeen (f : Called) : Type 0 where
    pub mode : AnyShort f.mode
    pub tree : (vs : Terms) → TermsNamed any_name k vs → TermNamed any_name k (f.tree vs)

  -- ---- the trees

  field_named : (l : Mode-F Mode) (q : Path) (j : ℕ) → PathNamed any_name k q → PathNamed any_name k (field_path l q j)
  field_named (Mode-F.Record r) q j h = h
  field_named _ q j h = h

  spot_field : (f : Option Found) (t : Spot) (j : ℕ) → SpotSeen t → SpotSeen (field_in f t j)
  spot_field (Some (Shared m)) (OnPath q) j h = field_named (out-Mode m) q j h
  spot_field (Some (Private m)) (OnPath q) j h = field_named (out-Mode m) q j h
  spot_field _ _ j h = h

  field_alone : (f : Found) (t : Spot) (records : List RecordDef) (j : ℕ) → RowAlone (Some f) t → RowAlone (field_found records j f) (field_in (Some f) t j)
  field_alone (Shared m) (OnRow v) records j h = absurd h
  field_alone (Private m) (OnRow v) records j h = absurd h
  field_alone _ (OnRow v) records j h = tt
  field_alone (Row m) (OnPath q) records j h = tt
  field_alone _ (OnPath q) records j h = tt
  field_alone (Row m) (OnLocal i) records j h = tt
  field_alone _ (OnLocal i) records j h = tt

  alone_field : (f : Option Found) (t : Spot) (records : List RecordDef) (j : ℕ) → RowAlone f t → RowAlone (with f (field_found records j)) (field_in f t j)
  alone_field None t records j h = h
  alone_field (Some f) t records j h = field_alone f t records j h

  element_named : (l : Mode-F Mode) (q : Path) (v : Term) → PathNamed any_name k q → TermNamed any_name k v → PathNamed any_name k (element_path l q v)
  element_named (Mode-F.Array n m) q v h g = (h, g)
  element_named _ q v h g = h

  spot_element : (f : Option Found) (t : Spot) (v : Term) → SpotSeen t → TermNamed any_name k v → SpotSeen (element_in f t v)
  spot_element (Some (Shared m)) (OnPath q) v h g = element_named (out-Mode m) q v h g
  spot_element (Some (Private m)) (OnPath q) v h g = element_named (out-Mode m) q v h g
  spot_element (Some (Row m)) (OnRow a) v h g = (h, g)
  spot_element _ _ v h g = h

  element_alone : (f : Found) (t : Spot) (g : Option Found) (v : Term) → RowAlone (Some f) t → RowAlone g (element_in (Some f) t v)
  element_alone (Row m) (OnRow a) g v h = tt
  element_alone _ (OnRow a) g v h = absurd h
  element_alone (Row m) (OnPath q) g v h = tt
  element_alone _ (OnPath q) g v h = tt
  element_alone (Row m) (OnLocal i) g v h = tt
  element_alone _ (OnLocal i) g v h = tt

  alone_element : (f : Option Found) (t : Spot) (m : Option Mode) (v : Term) → RowAlone f t → RowAlone (with f (λ g. with m (λ w. if is_int w then element_found g else None))) (element_in f t v)
  alone_element None t m v h = h
  alone_element (Some f) t m v h = element_alone f t (with m (λ w. if is_int w then element_found f else None)) v h

  spot_led : (l : Mode-F Mode) (v : Term) → TermNamed any_name k v → SpotSeen (led_spot l v)
  spot_led (Mode-F.Ref n) v h = h
  spot_led _ v h = h

  spot_any_led : (o : Option Mode) (v : Term) → TermNamed any_name k v → SpotSeen (led_tree o v)
  spot_any_led None v h = h
  spot_any_led (Some m) v h = spot_led (out-Mode m) v h

  read_named : (f : Option Found) (t : Spot) → SpotSeen t → TermNamed any_name k (read_tree (record { found = f; tree = t }))
  read_named f (OnLocal i) h = h
  read_named f (OnPath q) h = h
  read_named f (OnRow v) h = h

  reference_named : (l : Mode-F Mode) (q : Path) → PathNamed any_name k q → TermNamed any_name k (reference_path l q)
  reference_named (Mode-F.Array n m) q h = h
  reference_named _ q h = h

  spot_reference : (f : Option Found) (t : Spot) → SpotSeen t → TermNamed any_name k (reference_tree (record { found = f; tree = t }))
  spot_reference f (OnLocal i) h = h
  spot_reference f (OnPath q) h = reference_named (out-Mode (mode_at f)) q h
  spot_reference f (OnRow v) h = h

  length_named : (m : Mode) (l : Mode-F Mode) (q : Path) → out-Mode m ≡ l → IsShort m → PathNamed any_name k q → TermNamed any_name k (length_path l q)
  length_named m (Mode-F.Array n w) q o s h = (array_length m n w o s, h)
  length_named m _ q o s h = h

  spot_length : (f : Option Found) (t : Spot) → FoundShort f → SpotSeen t → TermNamed any_name k (length_tree (record { found = f; tree = t }))
  spot_length f (OnLocal i) s h = h
  spot_length f (OnPath q) s h = length_named (mode_at f) (out-Mode (mode_at f)) q refl (at_short f s) h
  spot_length f (OnRow v) s h = h

  dyadic_named : (o : Op2) (a b : Term) → TermNamed any_name k a → TermNamed any_name k b → TermNamed any_name k (dyadic_tree o a b)
  dyadic_named two.Divide a b h g = (h, g)
  dyadic_named two.Mod a b h g = (h, g)
  dyadic_named _ a b h g = (h, g)

  -- ---- the nodes

  module _ (c : Scope) where
    called_at : (f : Callee) (l : Callee-F Callee Place Value) → out-Callee f ≡ l → called c f ≡ one_callee c (map-Callee Callee Place Value Called Placed Valued (called c) (placed c) (valued c) l)
    called_at f l o = rw (fold_out-Callee, o) refl

    placed_at : (p : Place) (l : Place-F Callee Place Value) → out-Place p ≡ l → placed c p ≡ one_place c (map-Place Callee Place Value Called Placed Valued (called c) (placed c) (valued c) l)
    placed_at p l o = rw (fold_out-Place, o) refl

    valued_at : (v : Value) (l : Value-F Callee Place Value) → out-Value v ≡ l → valued c v ≡ one_value c (map-Value Callee Place Value Called Placed Valued (called c) (placed c) (valued c) l)
    valued_at v l o = rw (fold_out-Value, o) refl

    abbrev pub CalleeSeen : Callee → Type 0
    CalleeSeen f = CalledSeen (called c f)

    abbrev pub PlaceSeen : Place → Type 0
    PlaceSeen p = PlacedSeen (placed c p)

    abbrev pub ValueSeen : Value → Type 0
    ValueSeen v = ValuedSeen (valued c v)

    callee_is : (f : Callee) (l : Callee-F Callee Place Value) → out-Callee f ≡ l → CalledSeen (one_callee c (map-Callee Callee Place Value Called Placed Valued (called c) (placed c) (valued c) l)) → CalleeSeen f
    callee_is f l o h = subst CalledSeen (sym (called_at f l o)) h

    place_is : (p : Place) (l : Place-F Callee Place Value) → out-Place p ≡ l → PlacedSeen (one_place c (map-Place Callee Place Value Called Placed Valued (called c) (placed c) (valued c) l)) → PlaceSeen p
    place_is p l o h = subst PlacedSeen (sym (placed_at p l o)) h

    value_is : (v : Value) (l : Value-F Callee Place Value) → out-Value v ≡ l → ValuedSeen (one_value c (map-Value Callee Place Value Called Placed Valued (called c) (placed c) (valued c) l)) → ValueSeen v
    value_is v l o h = subst ValuedSeen (sym (valued_at v l o)) h

    -- what needs no mode of the scope
    pub number_seen : (n : ℕ) → n < 65536 → ValueSeen (values.Number n)
    number_seen n h = let o : out-Value (values.Number n) ≡ Value-F.Number n = search value_lemmas.the_lemmas in value_is (values.Number n) (Value-F.Number n) o (record { mode = int_short; tree = h })

    pub text_seen : (n : ℕ) → ValueSeen (values.Text n)
    text_seen n =
        let o : out-Value (values.Text n) ≡ Value-F.Text n = search value_lemmas.the_lemmas in
        value_is (values.Text n) (Value-F.Text n) o (record { mode = only_short (nat_lt n c.strings) (mode.RefArray mode.Byte) (row_short mode.Byte byte_short); tree = tt })

    pub read_seen : (p : Place) → PlaceSeen p → ValueSeen (values.Read p)
    read_seen p h =
        let o : out-Value (values.Read p) ≡ Value-F.Read p = search value_lemmas.the_lemmas in
        value_is (values.Read p) (Value-F.Read p) o (record { mode = read_short (placed c p).found h.mode; tree = read_named (placed c p).found (placed c p).tree h.tree })

    pub reference_seen : (p : Place) → PlaceSeen p → ValueSeen (values.Reference p)
    reference_seen p h =
        let o : out-Value (values.Reference p) ≡ Value-F.Reference p = search value_lemmas.the_lemmas in
        value_is (values.Reference p) (Value-F.Reference p) o (record { mode = reference_short (placed c p).found h.mode; tree = spot_reference (placed c p).found (placed c p).tree h.tree })

    pub length_seen : (p : Place) → PlaceSeen p → ValueSeen (values.Length p)
    length_seen p h =
        let o : out-Value (values.Length p) ≡ Value-F.Length p = search value_lemmas.the_lemmas in
        value_is (values.Length p) (Value-F.Length p) o (record { mode = length_short (placed c p).found; tree = spot_length (placed c p).found (placed c p).tree h.mode h.tree })

    pub monadic_seen : (op : Op1) (v : Value) → ValueSeen v → ValueSeen (values.Monadic op v)
    monadic_seen op v h =
        let o : out-Value (values.Monadic op v) ≡ Value-F.Monadic op v = search value_lemmas.the_lemmas in
        value_is (values.Monadic op v) (Value-F.Monadic op v) o (record { mode = monadic_short op (valued c v).mode h.mode; tree = h.tree })

    pub dyadic_seen : (op : Op2) (a b : Value) → ValueSeen a → ValueSeen b → ValueSeen (values.Dyadic op a b)
    dyadic_seen op a b h g =
        let o : out-Value (values.Dyadic op a b) ≡ Value-F.Dyadic op a b = search value_lemmas.the_lemmas in
        value_is (values.Dyadic op a b) (Value-F.Dyadic op a b) o
        (record { mode = dyadic_short op (valued c a).mode (valued c b).mode h.mode; tree = dyadic_named op (valued c a).tree (valued c b).tree h.tree g.tree })

    pub call_seen : (f : Callee) (vs : List Value) → CalleeSeen f → TermsNamed any_name k (terms_of (map (valued c) vs)) → ValueSeen (values.Call f vs)
    call_seen f vs h g =
        let o : out-Value (values.Call f vs) ≡ Value-F.Call f vs = search value_lemmas.the_lemmas in
        value_is (values.Call f vs) (Value-F.Call f vs) o (record { mode = call_short (called c f).mode (map (valued c) vs) h.mode; tree = h.tree (terms_of (map (valued c) vs)) g })

    pub through_seen : (v : Value) → ValueSeen v → PlaceSeen (places.Through v)
    through_seen v h =
        let o : out-Place (places.Through v) ≡ Place-F.«Place::Through» v = search place_lemmas.the_lemmas in
        place_is (places.Through v) (Place-F.«Place::Through» v) o
        (record { mode = led_short (valued c v).mode h.mode; tree = spot_any_led (valued c v).mode (valued c v).tree h.tree; alone = any_led_alone (valued c v).mode (valued c v).tree })

    pub element_seen : (p : Place) (v : Value) → PlaceSeen p → ValueSeen v → PlaceSeen (places.Element p v)
    element_seen p v h g =
        let o : out-Place (places.Element p v) ≡ Place-F.Element p v = search place_lemmas.the_lemmas in
        place_is (places.Element p v) (Place-F.Element p v) o
        (record {
          mode = subscripted_short (placed c p).found (valued c v).mode h.mode;
          tree = spot_element (placed c p).found (placed c p).tree (valued c v).tree h.tree g.tree;
          alone = alone_element (placed c p).found (placed c p).tree (valued c v).mode (valued c v).tree h.alone;
        })

    pub callee_seen : (v : Value) → ValueSeen v → CalleeSeen (callees.Through v)
    callee_seen v h =
        let o : out-Callee (callees.Through v) ≡ Callee-F.«Callee::Through» v = search callee_lemmas.the_lemmas in
        callee_is (callees.Through v) (Callee-F.«Callee::Through» v) o (record { mode = h.mode; tree = λ vs g. (h.tree, g) })

    -- what has a mode of the scope
    module _ (all : AllShort c) where
      field_short : (l : Mode-F Mode) (j : ℕ) → AnyShort (field_by c.records j l)
      field_short (Mode-F.Record r) j = any_short (field_mode c.records r j) (all.fields r j)
      field_short _ j = tt

      any_field_short : (f : Option Found) (j : ℕ) → FoundShort (with f (field_found c.records j))
      any_field_short (Some (Shared m)) j = shared_short (field_by c.records j (out-Mode m)) (field_short (out-Mode m) j)
      any_field_short (Some (Private m)) j = private_short (field_by c.records j (out-Mode m)) (field_short (out-Mode m) j)
      any_field_short None j = tt
      any_field_short (Some (Variable m)) j = tt
      any_field_short (Some Loop) j = tt
      any_field_short (Some (Row m)) j = tt

      pub local_seen : (i : ℕ) → k i ≡ true → PlaceSeen (places.Local i)
      local_seen i h =
          let o : out-Place (places.Local i) ≡ Place-F.Local i = search place_lemmas.the_lemmas in
          place_is (places.Local i) (Place-F.Local i) o (record { mode = local_short (slice_get c.locals i) (all.locals i); tree = h; alone = tt })

      pub item_seen : (b j : ℕ) → PlaceSeen (places.Item b j)
      item_seen b j =
          let o : out-Place (places.Item b j) ≡ Place-F.Item b j = search place_lemmas.the_lemmas in
          place_is (places.Item b j) (Place-F.Item b j) o (record { mode = brick_short (slice_get c.bricks b) j (all.items b j); tree = tt; alone = tt })

      pub svc_seen : (j : ℕ) → PlaceSeen (places.Svc j)
      svc_seen j =
          let o : out-Place (places.Svc j) ≡ Place-F.Svc j = search place_lemmas.the_lemmas in
          place_is (places.Svc j) (Place-F.Svc j) o (record { mode = private_short (svc_mode c j) (any_short (svc_mode c j) (all.own j)); tree = tt; alone = tt })

      pub field_seen : (p : Place) (j : ℕ) → PlaceSeen p → PlaceSeen (places.Field p j)
      field_seen p j h =
          let o : out-Place (places.Field p j) ≡ Place-F.Field p j = search place_lemmas.the_lemmas in
          place_is (places.Field p j) (Place-F.Field p j) o
          (record { mode = any_field_short (placed c p).found j; tree = spot_field (placed c p).found (placed c p).tree j h.tree; alone = alone_field (placed c p).found (placed c p).tree c.records j h.alone })

      pub proc_seen : (b : ℕ) → ValueSeen (values.Proc b)
      proc_seen b =
          let o : out-Value (values.Proc b) ≡ Value-F.Proc b = search value_lemmas.the_lemmas in
          value_is (values.Proc b) (Value-F.Proc b) o (record { mode = any_short (proc_mode c.bricks b) (all.procedures b); tree = tt })

      pub brick_seen : (b : ℕ) → CalleeSeen (callees.Brick b)
      brick_seen b =
          let o : out-Callee (callees.Brick b) ≡ Callee-F.Brick b = search callee_lemmas.the_lemmas in
          callee_is (callees.Brick b) (Callee-F.Brick b) o (record { mode = any_short (proc_mode c.bricks b) (all.procedures b); tree = λ vs g. g })
