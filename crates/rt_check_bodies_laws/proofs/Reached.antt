-- Where links lead stays within the items of the chain so far.
use Rattle.std.proofs.Common.{◌≡◌, ℕ, zero, suc, ◌+◌, ◌*◌, ◌≤◌, max, Bool, true, false, List, Option, Some, None, option_map, inl, inr, map, arith, refl, sym, ap, ◌∙◌}
use Rattle.rt_modes.specs.declared.mode.Mode.{Mode, out-Mode}
use Rattle.rt_modes.specs.declared.mode.Mode.TheFolds.{fold_out-Mode}
use Rattle.rt_modes.specs.declared.mode.Mode.TheOpen.{Mode-F}
use Rattle.rt_modes.specs.declared.mode.Mode.TheVariants as mode
use Rattle.rt_modes.specs.declared.mode.RecordDef.{RecordDef}
use Rattle.rt_tree_nodes.specs.declared.value.Callee.{Callee}
use Rattle.rt_tree_nodes.specs.declared.value.Callee.TheVariants as callees
use Rattle.rt_tree_nodes.specs.declared.value.Place.{Place}
use Rattle.rt_tree_nodes.specs.declared.value.Place.TheVariants as places
use Rattle.rt_tree_nodes.specs.declared.value.Value.{Value}
use Rattle.rt_tree_nodes.specs.declared.value.Value.TheVariants as values
use Rattle.rt_tree_nodes.specs.Scopes.{Scope, layer_same, field_mode}
use Rattle.rt_tree_nodes.specs.Tree.{Term, Path, Terms, Apply, ApplyBy, FieldOf, Elem, ElemRow, Past}
use Rattle.rt_tree_nodes.specs.Typing.{Variable, Shared, Private, Row, OnPath, OnRow, kept, placed, valued, called as called_in, mode_or_int, is_value, is_byte, field_by, field_found, field_in, field_path, element_by, element_found, element_in, element_path, terms_of}
use Rattle.rt_tree_nodes.proofs.Same.{same_itself}
use Rattle.rt_exprs.specs.declared.operand.Standing.{Standing}
use Rattle.rt_exprs.specs.declared.operand.Standing.TheVariants as standing
use Rattle.rt_exprs.specs.Modes.{record_of, ref_of, through}
use Rattle.rt_exprs.specs.Operands.{Is, brick, place, result}
use Rattle.rt_exprs.specs.Judging.{record_in, record_behind, shared_record, place_record, Reach, rows, calls, neither, reach, proc_reach, place_reach, result_reach, called, target_of, with_place}
use Rattle.rt_tree.specs.Depth.{depth, address_depth, arguments_depth, behind}
use Rattle.rt_tree.specs.Weights.{read_weight, term_weight, path_weight, terms_weight}
use Rattle.rt_exprs_laws.specs.Agreeing.{IsValue}
use Rattle.rt_exprs_laws.proofs.Layers.{field_place, element_place, through_place}
use Rattle.rt_exprs_laws.proofs.Operators.{out_byte}
use Rattle.rt_exprs_laws.proofs.Standing.{stands_at}
use Rattle.rt_exprs_laws.proofs.Suiting.{Has, PlaceIs, IsTyped, read_has}
use Rattle.rt_check_bodies_laws.proofs.Followed.{tree_of}
use Rattle.rt_check_bodies_laws.proofs.Rows.{ref_few, row_few, array_few, answer_few}
use Rattle.rt_check_bodies_laws.proofs.Suited.{PlaceWithin, in_local, in_path, Within, read_within}
use Rattle.rt_check_bodies_laws.proofs.Trees.{tree_field, tree_element, tree_through, tree_call, tree_brick, tree_by}
use Rattle.rt_check_bodies_laws.specs.Parts.{ValueWithin, CallWithin, PathWithin}
use Rattle.rt_check_bodies_laws.specs.Refs.{FewRefs}

-- only a BYTE takes more than one word to read
pub reads_one : (m : Mode) (l : Mode-F Mode) → out-Mode m ≡ l → layer_same Mode-F.Byte l ≡ false → read_weight m ≡ 1
reads_one m l o f = let b : is_byte m ≡ false = rw (fold_out-Mode, out_byte, o) f in rw b refl

-- ---- items of SVC data and others alike

pub found_field : (b : Bool) (records : List RecordDef) (j : ℕ) (m : Mode) → field_found records j (kept b m) ≡ option_map (kept b) (field_by records j (out-Mode m))
found_field true records j m = refl
found_field false records j m = refl

spot_field : (b : Bool) (m : Mode) (q : Path) (j : ℕ) → field_in (Some (kept b m)) (OnPath q) j ≡ OnPath (field_path (out-Mode m) q j)
spot_field true m q j = refl
spot_field false m q j = refl

found_element : (b : Bool) (m : Mode) → element_found (kept b m) ≡ option_map (kept b) (element_by (out-Mode m))
found_element true m = refl
found_element false m = refl

spot_element : (b : Bool) (m : Mode) (q : Path) (v : Term) → element_in (Some (kept b m)) (OnPath q) v ≡ OnPath (element_path (out-Mode m) q v)
spot_element true m q v = refl
spot_element false m q v = refl

pub behind_least : (a v : ℕ) → behind a v ≤ max a (suc v)
behind_least zero v = omega arith
behind_least (suc a) v = omega arith

module _ (c : Scope) where
  -- a local is a value
  local_value : (p : Place) (m : Mode) (st : Standing) → PlaceIs c p m st → (placed c p).found ≡ Some (Variable m) → IsValue m
  local_value p m standing.Shared h e = absurd (let bad : Some (Variable m) ≡ Some (Shared m) = sym e ∙ h.0 in cc)
  local_value p m standing.Private h e = elim h [
    | inl x ↦ absurd (let bad : Some (Variable m) ≡ Some (Private m) = sym e ∙ x.0 in cc)
    | inr y ↦ y.1
  ]

  no_record : (m : Mode) (r : ℕ) → out-Mode m ≡ Mode-F.Record r → IsValue m → ⊥
  no_record m r o h = let bad : false ≡ true = sym (ap (λ x. x.value) (stands_at m (Mode-F.Record r) o)) ∙ h in cc

  no_array : (m : Mode) (k : ℕ) (n : Mode) → out-Mode m ≡ Mode-F.Array k n → IsValue m → ⊥
  no_array m k n o h = let bad : false ≡ true = sym (ap (λ x. x.value) (stands_at m (Mode-F.Array k n) o)) ∙ h in cc

  -- ---- where a REF leads

  pub found_led : (v : Value) (m n : Mode) → Has c m v → out-Mode m ≡ Mode-F.Ref n → (placed c (places.Through v)).found ≡ Some (kept false n)
  found_led v m n h o = through_place c v ∙ rw (h, o) refl

  pub spot_led : (v : Value) (m n : Mode) → Has c m v → out-Mode m ≡ Mode-F.Ref n → (placed c (places.Through v)).tree ≡ OnPath (Past (tree_of c v))
  spot_led v m n h o = tree_through c v ∙ rw (h, o) refl

  found_row : (v : Value) (m n : Mode) → Has c m v → out-Mode m ≡ Mode-F.RefArray n → (placed c (places.Through v)).found ≡ Some (Row n)
  found_row v m n h o = through_place c v ∙ rw (h, o) refl

  pub spot_row : (v : Value) (m n : Mode) → Has c m v → out-Mode m ≡ Mode-F.RefArray n → (placed c (places.Through v)).tree ≡ OnRow (tree_of c v)
  spot_row v m n h o = tree_through c v ∙ rw (h, o) refl

  -- ---- records

  -- a place of a record, which may be one REF further
  pub record RecordPath (p : Place) (r k : ℕ) : Type 0 where
    pub kind : Bool
    pub mode : Mode
    pub path : Path
    pub found : (placed c p).found ≡ Some (kept kind mode)
    pub tree : (placed c p).tree ≡ OnPath path
    pub opens : out-Mode mode ≡ Mode-F.Record r
    pub weight : path_weight path + 8 ≤ 12 * k
    pub depth : address_depth path ≤ k

  abbrev pub RecordWithin : ℕ → Option (Place × ℕ × Standing) → Type 0
  RecordWithin k None = Unit {0}
  RecordWithin k (Some x) = RecordPath x.0 x.1 k

  -- a value that leads to a place, or is called
  pub record Leading (v : Value) (k : ℕ) : Type 0 where
    pub weight : term_weight (tree_of c v) + 8 ≤ 12 * k
    pub depth : depth (tree_of c v) ≤ k

  pub read_leads : (p : Place) (m : Mode) (l : Mode-F Mode) (k : ℕ) → out-Mode m ≡ l → layer_same Mode-F.Byte l ≡ false → PlaceWithin c p m k → Leading (values.Read p) k
  read_leads p m l k o f h = let r = read_within c p m k h in record { weight = omega (arith, r.weight, reads_one m l o f); depth = r.depth }

  pub call_leads : (v : Value) (k : ℕ) → CallWithin k (tree_of c v) → Leading v k
  call_leads v k h = record { weight = omega (arith, h.weight); depth = h.depth }

  led_record : (v : Value) (m n : Mode) (l : Mode-F Mode) (k : ℕ) → Has c m v → out-Mode m ≡ Mode-F.Ref n → out-Mode n ≡ l → Leading v k → RecordWithin k (shared_record (places.Through v) (record_of l))
  led_record v m n (Mode-F.Record r) k h o p g = record { kind = false; mode = n; path = Past (tree_of c v); found = found_led v m n h o; tree = spot_led v m n h o; opens = p; weight = g.weight; depth = g.depth }
  led_record v m n _ k h o p g = tt

  record_path : (p : Place) (m : Mode) (r k : ℕ) (st : Standing) → PlaceIs c p m st → PlaceWithin c p m k → out-Mode m ≡ Mode-F.Record r → RecordPath p r k
  record_path p m r k st t (in_local i e s l) o = absurd (no_record m r o (local_value p m st t e))
  record_path p m r k st t (in_path b q e s h) o = record { kind = b; mode = m; path = q; found = e; tree = s; opens = o; weight = omega (arith, h.weight); depth = h.depth }

  place_record_within : (p : Place) (m : Mode) (l : Mode-F Mode) (k : ℕ) (st : Standing) → PlaceIs c p m st → PlaceWithin c p m k → out-Mode m ≡ l → RecordWithin k (place_record p st (record_of l) (record_behind (ref_of l)))
  place_record_within p m (Mode-F.Record r) k st t h o = record_path p m r k st t h o
  place_record_within p m (Mode-F.Ref n) k st t h o = led_record (values.Read p) m n (out-Mode n) k (read_has c p m st t (ap is_value o)) o refl (read_leads p m (Mode-F.Ref n) k o refl h)
  place_record_within p m _ k st t h o = tt

  result_record_within : (v : Value) (m : Mode) (l : Mode-F Mode) (k : ℕ) → Has c m v → CallWithin k (tree_of c v) → out-Mode m ≡ l → RecordWithin k (shared_record (places.Through v) (record_behind (ref_of l)))
  result_record_within v m (Mode-F.Ref n) k t h o = led_record v m n (out-Mode n) k t o refl (call_leads v k h)
  result_record_within v m _ k t h o = tt

  pub record_within : (is : Is) (k : ℕ) → IsTyped c is → Within c k is → RecordWithin k (record_in is)
  record_within (place p m st) k t h = place_record_within p m (out-Mode m) k st t h.0 refl
  record_within (result v m) k t h = result_record_within v m (out-Mode m) k t.0 h.0 refl
  record_within _ k t h = tt

  pub field_within : (p : Place) (r j k : ℕ) (m : Mode) → RecordPath p r k → field_mode c.records r j ≡ Some m → PlaceWithin c (places.Field p j) m (k + 2)
  field_within p r j k m h f = in_path h.kind (FieldOf h.path r j)
      (field_place c p j ∙ rw (h.found, found_field, h.opens, f) refl)
      (tree_field c p j ∙ rw (h.found, h.tree, spot_field, h.opens) refl)
      (record { weight = omega (arith, h.weight); depth = omega (arith, h.depth) })

  -- ---- rows

  pub data RowsPath (p : Place) (m : Mode) (k : ℕ) : Type 0 where
    in_array : (b : Bool) (n : Mode) (d : ℕ) (q : Path) → (placed c p).found ≡ Some (kept b n) → (placed c p).tree ≡ OnPath q → out-Mode n ≡ Mode-F.Array d m → PathWithin k q → RowsPath p m k
    in_row : (v : Value) → (placed c p).found ≡ Some (Row m) → (placed c p).tree ≡ OnRow (tree_of c v) → Leading v k → RowsPath p m k

  pub data CalledWithin (f : Callee) (k : ℕ) : Type 0 where
    by_brick : (b : ℕ) → ((vs : Terms) → (called_in c f).tree vs ≡ Apply b vs) → 1 ≤ k → CalledWithin f k
    by_value : (w : Mode) (v : Value) → ((vs : Terms) → (called_in c f).tree vs ≡ ApplyBy w (tree_of c v) vs) → Leading v k → CalledWithin f k

  abbrev pub AnswerFew : Option Mode → Type 0
  AnswerFew None = Unit {0}
  AnswerFew (Some m) = FewRefs m

  abbrev pub ReachWithin : ℕ → Reach → Type 0
  ReachWithin k (rows p m st) = RowsPath p m k × FewRefs m
  ReachWithin k (calls f ps r) = CalledWithin f k × AnswerFew r
  ReachWithin k neither = Unit {0}

  answers_few : (m : Mode) (ps : List Mode) (r : Option Mode) → out-Mode m ≡ Mode-F.Proc ps r → FewRefs m → AnswerFew r
  answers_few m ps None o h = tt
  answers_few m ps (Some r) o h = answer_few m ps r o h

  proc_within : (f : Callee) (m : Mode) (l : Mode-F Mode) (k : ℕ) → out-Mode m ≡ l → FewRefs m → CalledWithin f k → ReachWithin k (proc_reach l f)
  proc_within f m (Mode-F.Proc ps r) k o s h = (h, answers_few m ps r o s)
  proc_within f m _ k o s h = tt

  array_rows : (p : Place) (m : Mode) (d : ℕ) (n : Mode) (k : ℕ) (st : Standing) → PlaceIs c p m st → PlaceWithin c p m k → out-Mode m ≡ Mode-F.Array d n → RowsPath p n k
  array_rows p m d n k st t (in_local i e s l) o = absurd (no_array m d n o (local_value p m st t e))
  array_rows p m d n k st t (in_path b q e s h) o = in_array b m d q e s o h

  led_rows : (v : Value) (m n : Mode) (k : ℕ) → Has c m v → out-Mode m ≡ Mode-F.RefArray n → Leading v k → RowsPath (places.Through v) n k
  led_rows v m n k h o g = in_row v (found_row v m n h o) (spot_row v m n h o) g

  place_reaches : (p : Place) (m : Mode) (l : Mode-F Mode) (k : ℕ) (st : Standing) → PlaceIs c p m st → PlaceWithin c p m k → FewRefs m → out-Mode m ≡ l → ReachWithin k (place_reach l p st)
  place_reaches p m (Mode-F.Array d n) k st t h s o = (array_rows p m d n k st t h o, array_few m d n o s)
  place_reaches p m (Mode-F.RefArray n) k st t h s o = (led_rows (values.Read p) m n k (read_has c p m st t (ap is_value o)) o (read_leads p m (Mode-F.RefArray n) k o refl h), row_few m n o s)
  place_reaches p m (Mode-F.Proc ps r) k st t h s o =
      proc_within (callees.Through (values.Read p)) m (Mode-F.Proc ps r) k o s (by_value (mode_or_int (valued c (values.Read p)).mode) (values.Read p) (tree_by c (values.Read p)) (read_leads p m (Mode-F.Proc ps r) k o refl h))
  place_reaches p m _ k st t h s o = tt

  result_reaches : (v : Value) (m : Mode) (l : Mode-F Mode) (k : ℕ) → Has c m v → CallWithin k (tree_of c v) → FewRefs m → out-Mode m ≡ l → ReachWithin k (result_reach l v)
  result_reaches v m (Mode-F.RefArray n) k t h s o = (led_rows v m n k t o (call_leads v k h), row_few m n o s)
  result_reaches v m (Mode-F.Proc ps r) k t h s o = proc_within (callees.Through v) m (Mode-F.Proc ps r) k o s (by_value (mode_or_int (valued c v).mode) v (tree_by c v) (call_leads v k h))
  result_reaches v m _ k t h s o = tt

  pub reach_within : (is : Is) (k : ℕ) → IsTyped c is → Within c k is → ReachWithin k (reach is)
  reach_within (brick b m) k t h = proc_within (callees.Brick b) m (out-Mode m) k refl h.1 (by_brick b (tree_brick c b) h.0)
  reach_within (place p m st) k t h = place_reaches p m (out-Mode m) k st t h.0 h.1 refl
  reach_within (result v m) k t h = result_reaches v m (out-Mode m) k t.0 h.0 h.1 refl
  reach_within _ k t h = tt

  pub element_within : (p : Place) (m : Mode) (k n : ℕ) (v : Value) → RowsPath p m k → Has c mode.Int v → ValueWithin n (tree_of c v) → PlaceWithin c (places.Element p v) m (k + (2 + n))
  element_within p m k n v (in_array b a d q e s o h) i g = in_path b (Elem q (tree_of c v) d m)
      (element_place c p v ∙ rw (e, i, same_itself mode.Int, found_element, o) refl)
      (tree_element c p v ∙ rw (e, s, spot_element, o) refl)
      (record { weight = omega (arith, h.weight, g.weight); depth = omega (arith, h.depth, g.depth, behind_least (address_depth q) (depth (tree_of c v))) })
  element_within p m k n v (in_row a e s h) i g = in_path false (ElemRow (tree_of c a) (tree_of c v) m)
      (element_place c p v ∙ rw (e, i, same_itself mode.Int) refl)
      (tree_element c p v ∙ rw (e, s) refl)
      (record { weight = omega (arith, h.weight, g.weight); depth = omega (arith, h.depth, g.depth) })

  -- ---- calls

  -- arguments of so many items, with those between them
  pub record TermsWithin (n : ℕ) (vs : Terms) : Type 0 where
    pub weight : terms_weight vs ≤ 12 * n + 4
    pub depth : (below : ℕ) → arguments_depth below vs ≤ below + n

  pub call_within : (f : Callee) (r : Option Mode) (k n : ℕ) (xs : List Value) → CalledWithin f k → AnswerFew r → TermsWithin n (terms_of (map (valued c) xs)) → Within c (k + (2 + n)) (called f r xs)
  call_within f r k n xs h s g = by_answer r s where
    apply_weighs : (t : Term) → CalledWithin f k → t ≡ (called_in c f).tree (terms_of (map (valued c) xs)) → CallWithin (k + (2 + n)) t
    apply_weighs t (by_brick b e l) is =
        rw (is, e) (record { weight = omega (arith, g.weight, l); depth = omega (arith, g.depth 0) })
    apply_weighs t (by_value w v e h) is =
        rw (is, e) (record { weight = omega (arith, g.weight, h.weight); depth = omega (arith, g.depth 1, h.depth) })

    by_answer : (r : Option Mode) → AnswerFew r → Within c (k + (2 + n)) (called f r xs)
    by_answer None s = apply_weighs (tree_of c (values.Call f xs)) h (tree_call c f xs)
    by_answer (Some m) s = (apply_weighs (tree_of c (values.Call f xs)) h (tree_call c f xs), s)

  -- ---- VAL

  abbrev pub TargetWithin : ℕ → Option (Place × Mode) → Type 0
  TargetWithin k None = Unit {0}
  TargetWithin k (Some x) = PlaceWithin c x.0 x.1 k × FewRefs x.1

  led_target : (v : Value) (m n : Mode) (k : ℕ) → Has c m v → out-Mode m ≡ Mode-F.Ref n → FewRefs m → Leading v k → TargetWithin (1 + k) (Some (places.Through v, n))
  led_target v m n k h o s g = (in_path false (Past (tree_of c v)) (found_led v m n h o) (spot_led v m n h o) (record { weight = omega (arith, g.weight); depth = omega (arith, g.depth) }), ref_few m n o s)

  place_target : (p : Place) (m : Mode) (l : Mode-F Mode) (k : ℕ) (st : Standing) → PlaceIs c p m st → PlaceWithin c p m k → FewRefs m → out-Mode m ≡ l → TargetWithin (1 + k) (with_place (through p) (ref_of l))
  place_target p m (Mode-F.Ref n) k st t h s o = led_target (values.Read p) m n k (read_has c p m st t (ap is_value o)) o s (read_leads p m (Mode-F.Ref n) k o refl h)
  place_target p m _ k st t h s o = tt

  result_target : (v : Value) (m : Mode) (l : Mode-F Mode) (k : ℕ) → Has c m v → CallWithin k (tree_of c v) → FewRefs m → out-Mode m ≡ l → TargetWithin (1 + k) (with_place (places.Through v) (ref_of l))
  result_target v m (Mode-F.Ref n) k t h s o = led_target v m n k t o s (call_leads v k h)
  result_target v m _ k t h s o = tt

  pub target_within : (is : Is) (k : ℕ) → IsTyped c is → Within c k is → TargetWithin (1 + k) (target_of is)
  target_within (place p m st) k t h = place_target p m (out-Mode m) k st t h.0 h.1 refl
  target_within (result v m) k t h = result_target v m (out-Mode m) k t.0 h.0 h.1 refl
  target_within _ k t h = tt
