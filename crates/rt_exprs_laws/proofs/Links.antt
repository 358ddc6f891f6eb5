-- Where links lead, what operators give, and calls are well typed.
use Rattle.std.proofs.Common.{◌≡◌, ℕ, zero, suc, ◌+◌, Bool, true, false, List, [], ◌∷◌, Option, Some, None, inl, inr, map, arith, refl, sym, ap, ◌∙◌, subst, if◌then◌else◌}
use Rattle.std.specs.List.{AllByRecursion}
use Rattle.std.specs.Str.{bytes_eq}
use Rattle.rt_modes.specs.declared.mode.Field.{Field}
use Rattle.rt_modes.specs.declared.mode.Mode.{Mode, out-Mode, roll-Mode, map-Mode, the_lemmas}
use Rattle.rt_modes.specs.declared.mode.Mode.TheFolds.{ind-Mode, fold_out-Mode}
use Rattle.rt_modes.specs.declared.mode.Mode.TheOpen.{Mode-F}
use Rattle.rt_modes.specs.declared.mode.Mode.TheVariants as mode
use Rattle.rt_tree_nodes.specs.declared.value.Callee.{Callee}
use Rattle.rt_tree_nodes.specs.declared.value.Callee.TheVariants as callees
use Rattle.rt_tree_nodes.specs.declared.value.Place.{Place}
use Rattle.rt_tree_nodes.specs.declared.value.Place.TheVariants as places
use Rattle.rt_tree_nodes.specs.declared.value.Value.{Value}
use Rattle.rt_tree_nodes.specs.declared.value.Value.TheVariants as values
use Rattle.rt_tree_nodes.specs.Scopes.{Scope, with, field_mode, field_at as field_numbered}
use Rattle.rt_tree_nodes.specs.Typing.{Found, Shared, Private, placed, valued, called as called_in, all_suit, element_found, length_mode, is_value}
use Rattle.rt_tree_nodes.proofs.Same.{same_itself}
use Rattle.rt_exprs.specs.declared.operand.Standing.{Standing}
use Rattle.rt_exprs.specs.declared.operand.Standing.TheVariants as standing
use Rattle.rt_exprs.specs.Modes.{record_of, ref_of, through, array_at, array_by}
use Rattle.rt_exprs.specs.Operands.{Is, text, brick, place, result, field_from}
use Rattle.rt_exprs.specs.Judging.{record_in, record_behind, shared_record, place_record, Reach, rows, calls, neither, reach, proc_reach, place_reach, result_reach, called, target_of, with_place, array_in, row_result}
use Rattle.rt_exprs_laws.specs.Agreeing.{stands, IsItem, IsValue}
use Rattle.rt_exprs_laws.proofs.Layers.{field_place, element_place, through_place, text_value, call_value, answer_value, brick_callee, through_callee}
use Rattle.rt_exprs_laws.proofs.Standing.{stands_at, value_item, inner_item, ref_inner, row_inner, array_inner, answer_stands}
use Rattle.rt_exprs_laws.proofs.Suiting.{Has, PlaceIs, IsTyped, read_has}

-- ---- the fields of records

pub record FieldIs (fs : List Field) (j k : ℕ) (m : Mode) : Type 0 where
  pub at : ℕ
  pub number : k ≡ j + at
  pub mode : field_numbered fs at ≡ Some m

field_split : (j : ℕ) (f : Field) (fs : List Field) (name : List ℕ) (x : ℕ × Mode) (b : Bool) → (if b then Some (j, f.mode) else field_from (j + 1) fs name) ≡ Some x
    → (field_from (j + 1) fs name ≡ Some x → FieldIs fs (j + 1) x.0 x.1) → FieldIs (f ∷ fs) j x.0 x.1
field_split j f fs name x true e go =
    let n : j ≡ x.0 = ap (λ (o : Option (ℕ × Mode)). number_in o) e in
    let m : f.mode ≡ x.1 = mode_in f.mode x e in
    record { at = 0; number = omega (arith, n); mode = ap (λ (z : Mode). Some z) m }
  where
    number_in : Option (ℕ × Mode) → ℕ
    number_in None = 0
    number_in (Some y) = y.0

    mode_in : (z : Mode) (y : ℕ × Mode) → Some (j, z) ≡ Some y → z ≡ y.1
    mode_in z y e = cc
field_split j f fs name x false e go =
    let g = go e in
    record { at = suc g.at; number = omega (arith, g.number); mode = g.mode }

pub field_found : (j : ℕ) (fs : List Field) (name : List ℕ) (x : ℕ × Mode) → field_from j fs name ≡ Some x → FieldIs fs j x.0 x.1
unfolding field_from
field_found j [] name x e = absurd cc
field_found j (f ∷ fs) name x e = field_split j f fs name x (bytes_eq f.name name) e (field_found (j + 1) fs name x)

pub item_of_all : (fs : List Field) (k : ℕ) (m : Mode) → AllByRecursion (λ (f : Field). IsItem f.mode) fs → field_numbered fs k ≡ Some m → IsItem m
item_of_all [] k m h e = absurd cc
item_of_all (f ∷ fs) zero m h e = subst IsItem (mode_is f.mode m e) h.0 where
  mode_is : (a b : Mode) → Some a ≡ Some b → a ≡ b
  mode_is a b e = cc
item_of_all (f ∷ fs) (suc k) m h e = item_of_all fs k m h.1 e

module _ (c : Scope) where
  -- ---- the record that an operand is, or to which it leads

  pub record RecordAt (p : Place) (r : ℕ) (st : Standing) : Type 0 where
    pub mode : Mode
    pub at : PlaceIs c p mode st
    pub opens : out-Mode mode ≡ Mode-F.Record r

  abbrev pub RecordTyped : Option (Place × ℕ × Standing) → Type 0
  RecordTyped None = Unit {0}
  RecordTyped (Some x) = RecordAt x.0 x.1 x.2

  -- where a reference leads
  pub led_shared : (v : Value) (m n : Mode) → Has c m v → out-Mode m ≡ Mode-F.Ref n → IsItem m → PlaceIs c (places.Through v) n standing.Shared
  led_shared v m n h o i = (through_place c v ∙ rw (h, o) refl, inner_item n (ref_inner m n o i))

  led_record : (v : Value) (m n : Mode) (l : Mode-F Mode) → Has c m v → out-Mode m ≡ Mode-F.Ref n → IsItem m → out-Mode n ≡ l → RecordTyped (shared_record (places.Through v) (record_of l))
  led_record v m n (Mode-F.Record r) h o i p = record { mode = n; at = led_shared v m n h o i; opens = p }
  led_record v m n _ h o i p = tt

  pub place_item : (p : Place) (m : Mode) (st : Standing) → PlaceIs c p m st → IsItem m
  place_item p m standing.Shared h = h.1
  place_item p m standing.Private h = elim h [
    | inl x ↦ x.1
    | inr y ↦ value_item m y.1
  ]

  place_layer : (p : Place) (m : Mode) (l : Mode-F Mode) (st : Standing) → PlaceIs c p m st → out-Mode m ≡ l → RecordTyped (place_record p st (record_of l) (record_behind (ref_of l)))
  place_layer p m (Mode-F.Record r) st h o = record { mode = m; at = h; opens = o }
  place_layer p m (Mode-F.Ref n) st h o = led_record (values.Read p) m n (out-Mode n) (read_has c p m st h (ap is_value o)) o (place_item p m st h) refl
  place_layer p m _ st h o = tt

  result_layer : (v : Value) (m : Mode) (l : Mode-F Mode) → Has c m v → IsItem m → out-Mode m ≡ l → RecordTyped (shared_record (places.Through v) (record_behind (ref_of l)))
  result_layer v m (Mode-F.Ref n) h i o = led_record v m n (out-Mode n) h o i refl
  result_layer v m _ h i o = tt

  pub record_typed : (is : Is) → IsTyped c is → RecordTyped (record_in is)
  record_typed (place p m st) h = place_layer p m (out-Mode m) st h refl
  record_typed (result v m) h = result_layer v m (out-Mode m) h.0 (value_item m h.2) refl
  record_typed _ h = tt

  no_record : (m : Mode) (r : ℕ) → out-Mode m ≡ Mode-F.Record r → IsValue m → ⊥
  no_record m r o h = let bad : false ≡ true = sym (ap (λ x. x.value) (stands_at m (Mode-F.Record r) o)) ∙ h in cc

  pub field_typed : (p : Place) (r k : ℕ) (st : Standing) (m : Mode) → RecordAt p r st → field_mode c.records r k ≡ Some m → IsItem m → PlaceIs c (places.Field p k) m st
  field_typed p r k standing.Shared m h f i = (field_place c p k ∙ rw (h.at.0, h.opens, f) refl, i)
  field_typed p r k standing.Private m h f i = elim h.at [
    | inl x ↦ inl (field_place c p k ∙ rw (x.0, h.opens, f) refl, i)
    | inr y ↦ absurd (no_record h.mode r h.opens y.1)
  ]

  -- ---- what parentheses do

  abbrev pub stand : Standing → Mode → Found
  stand standing.Shared m = Shared m
  stand standing.Private m = Private m

  pub record RowsAt (p : Place) (m : Mode) (st : Standing) : Type 0 where
    pub elements : with (placed c p).found element_found ≡ Some (stand st m)
    pub inner : (stands m).inner ≡ true

  pub record CallsAt (f : Callee) (ps : List Mode) (r : Option Mode) : Type 0 where
    pub mode : Mode
    pub is : (called_in c f).mode ≡ Some mode
    pub opens : out-Mode mode ≡ Mode-F.Proc ps r
    pub item : IsItem mode

  abbrev pub ReachTyped : Reach → Type 0
  ReachTyped (rows p m st) = RowsAt p m st
  ReachTyped (calls f ps r) = CallsAt f ps r
  ReachTyped neither = Unit {0}

  proc_typed : (f : Callee) (m : Mode) (l : Mode-F Mode) → (called_in c f).mode ≡ Some m → IsItem m → out-Mode m ≡ l → ReachTyped (proc_reach l f)
  proc_typed f m (Mode-F.Proc ps r) h i o = record { mode = m; is = h; opens = o; item = i }
  proc_typed f m _ h i o = tt

  no_array : (m : Mode) (k : ℕ) (n : Mode) → out-Mode m ≡ Mode-F.Array k n → IsValue m → ⊥
  no_array m k n o h = let bad : false ≡ true = sym (ap (λ x. x.value) (stands_at m (Mode-F.Array k n) o)) ∙ h in cc

  array_rows : (p : Place) (m : Mode) (k : ℕ) (n : Mode) (st : Standing) → PlaceIs c p m st → out-Mode m ≡ Mode-F.Array k n → RowsAt p n st
  array_rows p m k n standing.Shared h o = record { elements = rw (h.0, o) refl; inner = array_inner m k n o h.1 }
  array_rows p m k n standing.Private h o = elim h [
    | inl x ↦ record { elements = rw (x.0, o) refl; inner = array_inner m k n o x.1 }
    | inr y ↦ absurd (no_array m k n o y.1)
  ]

  led_rows : (v : Value) (m n : Mode) → Has c m v → out-Mode m ≡ Mode-F.RefArray n → IsItem m → RowsAt (places.Through v) n standing.Shared
  led_rows v m n h o i = record { elements = rw (through_place c v, h, o) refl; inner = row_inner m n o i }

  place_reaches : (p : Place) (m : Mode) (l : Mode-F Mode) (st : Standing) → PlaceIs c p m st → out-Mode m ≡ l → ReachTyped (place_reach l p st)
  place_reaches p m (Mode-F.Array k n) st h o = array_rows p m k n st h o
  place_reaches p m (Mode-F.RefArray n) st h o = led_rows (values.Read p) m n (read_has c p m st h (ap is_value o)) o (place_item p m st h)
  place_reaches p m (Mode-F.Proc ps r) st h o =
      proc_typed (callees.Through (values.Read p)) m (Mode-F.Proc ps r) (through_callee c (values.Read p) ∙ read_has c p m st h (ap is_value o)) (place_item p m st h) o
  place_reaches p m _ st h o = tt

  result_reaches : (v : Value) (m : Mode) (l : Mode-F Mode) → Has c m v → IsItem m → out-Mode m ≡ l → ReachTyped (result_reach l v)
  result_reaches v m (Mode-F.RefArray n) h i o = led_rows v m n h o i
  result_reaches v m (Mode-F.Proc ps r) h i o = proc_typed (callees.Through v) m (Mode-F.Proc ps r) (through_callee c v ∙ h) i o
  result_reaches v m _ h i o = tt

  pub reach_typed : (is : Is) → IsTyped c is → ReachTyped (reach is)
  reach_typed (brick k m) h = proc_typed (callees.Brick k) m (out-Mode m) (brick_callee c k ∙ h.0) (value_item m h.1) refl
  reach_typed (place p m st) h = place_reaches p m (out-Mode m) st h refl
  reach_typed (result v m) h = result_reaches v m (out-Mode m) h.0 (value_item m h.2) refl
  reach_typed _ h = tt

  pub element_typed : (p : Place) (m : Mode) (st : Standing) (v : Value) → RowsAt p m st → Has c mode.Int v → PlaceIs c (places.Element p v) m st
  element_typed p m standing.Shared v h i = (element_place c p v ∙ rw (i, same_itself mode.Int) h.elements, inner_item m h.inner)
  element_typed p m standing.Private v h i = inl (element_place c p v ∙ rw (i, same_itself mode.Int) h.elements, inner_item m h.inner)

  pub call_typed : (f : Callee) (ps : List Mode) (r : Option Mode) (xs : List Value) → CallsAt f ps r → all_suit ps (map (valued c) xs) ≡ true → IsTyped c (called f r xs)
  call_typed f ps None xs h s = call_value c f xs ∙ rw (h.is, h.opens, s) refl
  call_typed f ps (Some m) xs h s = (answer_value c f xs ∙ rw (h.is, h.opens, s) refl, call_value c f xs ∙ rw (h.is, h.opens, s) refl, answer_stands h.mode ps (Some m) h.opens h.item)

  -- ---- VAL

  abbrev pub TargetTyped : Option (Place × Mode) → Type 0
  TargetTyped None = Unit {0}
  TargetTyped (Some x) = PlaceIs c x.0 x.1 standing.Shared

  target_layer : (v : Value) (m : Mode) (l : Mode-F Mode) → Has c m v → IsItem m → out-Mode m ≡ l → TargetTyped (with_place (places.Through v) (ref_of l))
  target_layer v m (Mode-F.Ref n) h i o = led_shared v m n h o i
  target_layer v m _ h i o = tt

  place_target : (p : Place) (m : Mode) (l : Mode-F Mode) (st : Standing) → PlaceIs c p m st → out-Mode m ≡ l → TargetTyped (with_place (through p) (ref_of l))
  place_target p m (Mode-F.Ref n) st h o = led_shared (values.Read p) m n (read_has c p m st h (ap is_value o)) o (place_item p m st h)
  place_target p m _ st h o = tt

  pub target_typed : (is : Is) → IsTyped c is → TargetTyped (target_of is)
  target_typed (place p m st) h = place_target p m (out-Mode m) st h refl
  target_typed (result v m) h = target_layer v m (out-Mode m) h.0 (value_item m h.2) refl
  target_typed _ h = tt

  -- ---- LENGTH

  abbrev pub LengthTyped : Option Place → Type 0
  LengthTyped None = Unit {0}
  LengthTyped (Some p) = with (placed c p).found length_mode ≡ Some mode.Int

  led_length : (v : Value) (m n : Mode) → Has c m v → out-Mode m ≡ Mode-F.RefArray n → LengthTyped (Some (places.Through v))
  led_length v m n h o = rw (through_place c v, h, o) refl

  array_length : (p : Place) (m : Mode) (k : ℕ) (n : Mode) (st : Standing) → PlaceIs c p m st → out-Mode m ≡ Mode-F.Array k n → LengthTyped (Some p)
  array_length p m k n standing.Shared h o = rw (h.0, o) refl
  array_length p m k n standing.Private h o = elim h [
    | inl x ↦ rw (x.0, o) refl
    | inr y ↦ absurd (no_array m k n o y.1)
  ]

  abbrev Known : Mode → Type 0
  Known m = (p : Place) (st : Standing) → PlaceIs c p m st → LengthTyped (array_at m p)

  abbrev Pair : Type 0
  Pair = (m : Mode) × Known m

  array_opened : (m : Mode) (l : Mode-F Mode) (p : Place) → out-Mode m ≡ l → array_at m p ≡ array_by (map-Mode Mode (Place → Option Place) array_at l) p
  unfolding array_at
  array_opened m l p o = rw (fold_out-Mode, o) refl

  opened : (m : Mode) (y : Mode-F Pair) → out-Mode m ≡ map-Mode Pair Mode (λ e. e.0) y → Known m
  opened m (Mode-F.Array k n) o p st h = subst LengthTyped (sym (array_opened m (Mode-F.Array k n.0) p o)) (array_length p m k n.0 st h o)
  opened m (Mode-F.RefArray n) o p st h = subst LengthTyped (sym (array_opened m (Mode-F.RefArray n.0) p o)) (led_length (values.Read p) m n.0 (read_has c p m st h (ap is_value o)) o)
  opened m (Mode-F.Ref n) o p st h =
      subst LengthTyped (sym (array_opened m (Mode-F.Ref n.0) p o)) (n.1 (through p) standing.Shared (led_shared (values.Read p) m n.0 (read_has c p m st h (ap is_value o)) o (place_item p m st h)))
  opened m Mode-F.Byte o p st h = subst LengthTyped (sym (array_opened m Mode-F.Byte p o)) tt
  opened m Mode-F.Int o p st h = subst LengthTyped (sym (array_opened m Mode-F.Int p o)) tt
  opened m Mode-F.Frac o p st h = subst LengthTyped (sym (array_opened m Mode-F.Frac p o)) tt
  opened m Mode-F.Label o p st h = subst LengthTyped (sym (array_opened m Mode-F.Label p o)) tt
  opened m (Mode-F.Record r) o p st h = subst LengthTyped (sym (array_opened m (Mode-F.Record r) p o)) tt
  opened m (Mode-F.Proc ps None) o p st h = subst LengthTyped (sym (array_opened m (Mode-F.Proc (map (λ e. e.0) ps) None) p o)) tt
  opened m (Mode-F.Proc ps (Some r)) o p st h = subst LengthTyped (sym (array_opened m (Mode-F.Proc (map (λ e. e.0) ps) (Some r.0)) p o)) tt

  out_roll : (l : Mode-F Mode) → out-Mode (roll-Mode l) ≡ l
  out_roll l = search the_lemmas

  array_known : (m : Mode) → Known m
  array_known = ind-Mode Known (λ x y is. opened (roll-Mode x) y (out_roll x ∙ sym is))

  result_length : (v : Value) (m : Mode) (l : Mode-F Mode) → Has c m v → IsItem m → out-Mode m ≡ l → LengthTyped (row_result l v)
  result_length v m (Mode-F.RefArray n) h i o = led_length v m n h o
  result_length v m (Mode-F.Ref n) h i o = array_known n (places.Through v) standing.Shared (led_shared v m n h o i)
  result_length v m _ h i o = tt

  pub length_typed : (is : Is) → IsTyped c is → LengthTyped (array_in is)
  length_typed (text n) h =
      let o : out-Mode (mode.RefArray mode.Byte) ≡ Mode-F.RefArray mode.Byte = search the_lemmas in
      led_length (values.Text n) (mode.RefArray mode.Byte) mode.Byte (text_value c n ∙ rw h refl) o
  length_typed (place p m st) h = array_known m p st h
  length_typed (result v m) h = result_length v m (out-Mode m) h.0 (value_item m h.2) refl
  length_typed _ h = tt
