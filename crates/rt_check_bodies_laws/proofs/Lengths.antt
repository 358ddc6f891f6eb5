-- LENGTH stays within its items: the REFs in front of an array are followed.
use Rattle.std.proofs.Common.{◌≡◌, ℕ, ◌+◌, ◌-◌, ◌*◌, ◌≤◌, max, Bool, true, false, Option, Some, None, map, arith, refl, sym, ap, ◌∙◌, subst}
use Rattle.rt_modes.specs.declared.mode.Mode.{Mode, out-Mode, roll-Mode, map-Mode, the_lemmas}
use Rattle.rt_modes.specs.declared.mode.Mode.TheFolds.{ind-Mode, fold_out-Mode}
use Rattle.rt_modes.specs.declared.mode.Mode.TheOpen.{Mode-F}
use Rattle.rt_modes.specs.declared.mode.Mode.TheVariants as mode
use Rattle.rt_tree_nodes.specs.declared.value.Place.{Place}
use Rattle.rt_tree_nodes.specs.declared.value.Place.TheVariants as places
use Rattle.rt_tree_nodes.specs.declared.value.Value.{Value}
use Rattle.rt_tree_nodes.specs.declared.value.Value.TheVariants as values
use Rattle.rt_tree_nodes.specs.Scopes.{Scope}
use Rattle.rt_tree_nodes.specs.Tree.{Path, Own, CountRow, Past}
use Rattle.rt_tree_nodes.specs.Typing.{Variable, OnLocal, OnPath, kept, placed, is_value, mode_at, length_path}
use Rattle.rt_exprs.specs.declared.operand.Standing.{Standing}
use Rattle.rt_exprs.specs.declared.operand.Standing.TheVariants as standing
use Rattle.rt_exprs.specs.Modes.{through, array_at, array_by}
use Rattle.rt_exprs.specs.Operands.{Is, text, place, result}
use Rattle.rt_exprs.specs.Judging.{array_in, row_result}
use Rattle.rt_tree.specs.Depth.{depth, address_depth}
use Rattle.rt_tree.specs.Weights.{read_weight, term_weight, path_weight}
use Rattle.rt_exprs_laws.specs.Agreeing.{IsItem}
use Rattle.rt_exprs_laws.proofs.Layers.{text_value}
use Rattle.rt_exprs_laws.proofs.Links.{led_shared, place_item}
use Rattle.rt_exprs_laws.proofs.Standing.{value_item}
use Rattle.rt_exprs_laws.proofs.Suiting.{Has, PlaceIs, IsTyped, read_has}
use Rattle.rt_check_bodies_laws.proofs.Followed.{tree_of, local_read, path_read}
use Rattle.rt_check_bodies_laws.proofs.Reached.{reads_one, found_led, spot_led, spot_row}
use Rattle.rt_check_bodies_laws.proofs.Rows.{some_few, one_less_few}
use Rattle.rt_check_bodies_laws.proofs.Suited.{PlaceWithin, in_local, in_path, Within, kept_mode}
use Rattle.rt_check_bodies_laws.proofs.Trees.{tree_length, tree_text}
use Rattle.rt_check_bodies_laws.specs.Parts.{ValueWithin}
use Rattle.rt_check_bodies_laws.specs.Refs.{few}

length_weighs : (l : Mode-F Mode) (q : Path) → term_weight (length_path l q) ≤ 17 + path_weight q
length_weighs (Mode-F.Array n m) q = omega arith
length_weighs _ q = omega arith

length_takes : (l : Mode-F Mode) (q : Path) → depth (length_path l q) ≡ max 1 (address_depth q)
length_takes (Mode-F.Array n m) q = refl
length_takes _ q = refl

module _ (c : Scope) where
  -- a place whose path weighs so much, and takes so many words
  data Light (p : Place) (m : Mode) (w d : ℕ) : Type 0 where
    light_local : (i : ℕ) → (placed c p).found ≡ Some (Variable m) → (placed c p).tree ≡ OnLocal i → 3 ≤ w → Light p m w d
    light_path : (b : Bool) (q : Path) → (placed c p).found ≡ Some (kept b m) → (placed c p).tree ≡ OnPath q → path_weight q ≤ w → address_depth q ≤ d → Light p m w d

  record ReadLight (p : Place) (w d : ℕ) : Type 0 where
    weight : term_weight (tree_of c (values.Read p)) ≤ w + 1
    takes : depth (tree_of c (values.Read p)) ≤ max 1 d

  read_light : (p : Place) (m : Mode) (w d : ℕ) → Light p m w d → read_weight m ≡ 1 → ReadLight p w d
  read_light p m w d (light_local i e t l) r = record { weight = rw (local_read c p i t) (omega (arith, l)); takes = rw (local_read c p i t) (omega arith) }
  read_light p m w d (light_path b q e t l a) r = record {
    weight = rw (path_read c p (kept b m) q e t, kept_mode, r) (omega (arith, l));
    takes = rw (path_read c p (kept b m) q e t) (omega (arith, a));
  }

  through_light : (p : Place) (m n : Mode) (w d : ℕ) → Has c m (values.Read p) → out-Mode m ≡ Mode-F.Ref n → Light p m w d → Light (through p) n (w + 1) (max 1 d)
  through_light p m n w d h o g =
      let r = read_light p m w d g (reads_one m (Mode-F.Ref n) o refl) in
      light_path false (Past (tree_of c (values.Read p))) (found_led c (values.Read p) m n h o) (spot_led c (values.Read p) m n h o) r.weight r.takes

  -- its LENGTH, where so many REFs are followed
  record Lengthy (p : Place) (w d k : ℕ) : Type 0 where
    weight : term_weight (tree_of c (values.Length p)) ≤ w + (k + 17)
    takes : depth (tree_of c (values.Length p)) ≤ max 1 d

  abbrev LengthLight : Option Place → ℕ → ℕ → ℕ → Type 0
  LengthLight None w d k = Unit {0}
  LengthLight (Some p) w d k = Lengthy p w d k

  path_length : (p : Place) (m : Mode) (w d k : ℕ) → Light p m w d → Lengthy p w d k
  path_length p m w d k (light_local i e t l) =
      let tree : tree_of c (values.Length p) ≡ Own i = tree_length c p ∙ rw t refl in
      record { weight = rw tree (omega (arith, l)); takes = rw tree (omega arith) }
  path_length p m w d k (light_path b q e t l a) =
      let tree : tree_of c (values.Length p) ≡ length_path (out-Mode (mode_at (Some (kept b m)))) q = tree_length c p ∙ rw (t, e) refl in
      record { weight = rw tree (omega (arith, l, length_weighs (out-Mode (mode_at (Some (kept b m)))) q)); takes = rw (tree, length_takes) (omega (arith, a)) }

  row_length : (v : Value) (m n : Mode) → Has c m v → out-Mode m ≡ Mode-F.RefArray n → tree_of c (values.Length (places.Through v)) ≡ CountRow (tree_of c v)
  row_length v m n h o = tree_length c (places.Through v) ∙ rw (spot_row c v m n h o) refl

  abbrev Known : Mode → Type 0
  Known m = (p : Place) (st : Standing) (w d k : ℕ) → few m k ≡ true → PlaceIs c p m st → Light p m w d → LengthLight (array_at m p) w d k

  abbrev Pair : Type 0
  Pair = (m : Mode) × Known m

  array_opened : (m : Mode) (l : Mode-F Mode) (p : Place) → out-Mode m ≡ l → array_at m p ≡ array_by (map-Mode Mode (Place → Option Place) array_at l) p
  unfolding array_at
  array_opened m l p o = rw (fold_out-Mode, o) refl

  more_light : (o : Option Place) (w d k : ℕ) → 1 ≤ k → LengthLight o (w + 1) (max 1 d) (k - 1) → LengthLight o w d k
  more_light None w d k l h = tt
  more_light (Some p) w d k l h = record { weight = omega (arith, l, h.weight); takes = omega (arith, h.takes) }

  opened : (m : Mode) (y : Mode-F Pair) → out-Mode m ≡ map-Mode Pair Mode (λ e. e.0) y → Known m
  opened m (Mode-F.Array j n) o p st w d k s t h = subst (λ (z : Option Place). LengthLight z w d k) (sym (array_opened m (Mode-F.Array j n.0) p o)) (path_length p m w d k h)
  opened m (Mode-F.RefArray n) o p st w d k s t h =
      let r = read_light p m w d h (reads_one m (Mode-F.RefArray n.0) o refl) in
      let tree = row_length (values.Read p) m n.0 (read_has c p m st t (ap is_value o)) o in
      subst (λ (z : Option Place). LengthLight z w d k) (sym (array_opened m (Mode-F.RefArray n.0) p o))
      (record { weight = rw tree (omega (arith, r.weight)); takes = rw tree r.takes })
  opened m (Mode-F.Ref n) o p st w d k s t h =
      let has : Has c m (values.Read p) = read_has c p m st t (ap is_value o) in
      let go = n.1 (through p) standing.Shared (w + 1) (max 1 d) (k - 1) (one_less_few m n.0 k o s) (led_shared c (values.Read p) m n.0 has o (place_item c p m st t)) (through_light p m n.0 w d has o h) in
      subst (λ (z : Option Place). LengthLight z w d k) (sym (array_opened m (Mode-F.Ref n.0) p o)) (more_light (array_at n.0 (through p)) w d k (some_few m n.0 k o s) go)
  opened m Mode-F.Byte o p st w d k s t h = subst (λ (z : Option Place). LengthLight z w d k) (sym (array_opened m Mode-F.Byte p o)) tt
  opened m Mode-F.Int o p st w d k s t h = subst (λ (z : Option Place). LengthLight z w d k) (sym (array_opened m Mode-F.Int p o)) tt
  opened m Mode-F.Frac o p st w d k s t h = subst (λ (z : Option Place). LengthLight z w d k) (sym (array_opened m Mode-F.Frac p o)) tt
  opened m Mode-F.Label o p st w d k s t h = subst (λ (z : Option Place). LengthLight z w d k) (sym (array_opened m Mode-F.Label p o)) tt
  opened m (Mode-F.Record r) o p st w d k s t h = subst (λ (z : Option Place). LengthLight z w d k) (sym (array_opened m (Mode-F.Record r) p o)) tt
  opened m (Mode-F.Proc ps None) o p st w d k s t h = subst (λ (z : Option Place). LengthLight z w d k) (sym (array_opened m (Mode-F.Proc (map (λ e. e.0) ps) None) p o)) tt
  opened m (Mode-F.Proc ps (Some r)) o p st w d k s t h = subst (λ (z : Option Place). LengthLight z w d k) (sym (array_opened m (Mode-F.Proc (map (λ e. e.0) ps) (Some r.0)) p o)) tt

  out_roll : (l : Mode-F Mode) → out-Mode (roll-Mode l) ≡ l
  out_roll l = search the_lemmas

  array_known : (m : Mode) → Known m
  array_known = ind-Mode Known (λ x y is. opened (roll-Mode x) y (out_roll x ∙ sym is))

  -- ---- of so many items

  abbrev pub LengthWithin : ℕ → Option Place → Type 0
  LengthWithin k None = Unit {0}
  LengthWithin k (Some p) = ValueWithin k (tree_of c (values.Length p))

  light_within : (o : Option Place) (w d k : ℕ) → w + 9 ≤ 12 * k → d ≤ k → LengthLight o w d 8 → LengthWithin (1 + k) o
  light_within None w d k a b h = tt
  light_within (Some p) w d k a b h = record { weight = omega (arith, a, h.weight); depth = omega (arith, b, h.takes) }

  place_light : (p : Place) (m : Mode) (k : ℕ) → PlaceWithin c p m k → Light p m (12 * k - 9) k
  place_light p m k (in_local i e t l) = light_local i e t (omega (arith, l))
  place_light p m k (in_path b q e t h) = light_path b q e t (omega (arith, h.weight)) h.depth

  place_some : (p : Place) (m : Mode) (k : ℕ) → PlaceWithin c p m k → (12 * k - 9) + 9 ≤ 12 * k
  place_some p m k (in_local i e t l) = omega (arith, l)
  place_some p m k (in_path b q e t h) = omega (arith, h.weight)

  result_length : (v : Value) (m : Mode) (l : Mode-F Mode) (k : ℕ) → Has c m v → IsItem m → term_weight (tree_of c v) + 9 ≤ 12 * k → depth (tree_of c v) ≤ k → few m 8 ≡ true → out-Mode m ≡ l → LengthWithin (1 + k) (row_result l v)
  result_length v m (Mode-F.RefArray n) k h i w d s o = let tree = row_length v m n h o in record { weight = rw tree (omega (arith, w)); depth = rw tree (omega (arith, d)) }
  result_length v m (Mode-F.Ref n) k h i w d s o =
      let light : Light (places.Through v) n (12 * k - 9 + 1) (max 1 k) = light_path false (Past (tree_of c v)) (found_led c v m n h o) (spot_led c v m n h o) (omega (arith, w)) (omega (arith, d)) in
      let go = array_known n (places.Through v) standing.Shared (12 * k - 9 + 1) (max 1 k) 7 (one_less_few m n 8 o s) (led_shared c v m n h o i) light in
      light_within (array_at n (places.Through v)) (12 * k - 9) k k (omega (arith, w)) (omega arith) (more_light (array_at n (places.Through v)) (12 * k - 9) k 8 (omega arith) go)
  result_length v m _ k h i w d s o = tt

  text_length : (n k : ℕ) → 1 ≤ k → Has c (mode.RefArray mode.Byte) (values.Text n) → LengthWithin (1 + k) (Some (places.Through (values.Text n)))
  text_length n k l h =
      let o : out-Mode (mode.RefArray mode.Byte) ≡ Mode-F.RefArray mode.Byte = search the_lemmas in
      let tree = row_length (values.Text n) (mode.RefArray mode.Byte) mode.Byte h o in
      record { weight = rw (tree, tree_text) (omega (arith, l)); depth = rw (tree, tree_text) (omega (arith, l)) }

  pub length_within : (is : Is) (k : ℕ) → IsTyped c is → Within c k is → LengthWithin (1 + k) (array_in is)
  length_within (text n) k t h = text_length n k h (text_value c n ∙ rw t refl)
  length_within (place p m st) k t h = light_within (array_at m p) (12 * k - 9) k k (place_some p m k h.0) (omega arith) (array_known m p st (12 * k - 9) k 8 h.1 t (place_light p m k h.0))
  length_within (result v m) k t h = result_length v m (out-Mode m) k t.0 (value_item m t.2) (omega (arith, h.0.weight)) h.0.depth h.1 refl
  length_within _ k t h = tt
