-- What an expression is by itself is well typed, and so is what it becomes where a mode is wanted.
use Rattle.std.proofs.Common.{◌≡◌, ℕ, zero, suc, ◌&&◌, ◌||◌, Bool, true, false, Option, Some, None, Ok, Err, ◌⊎◌, inl, inr, refl, sym, ap, ◌∙◌, subst, if◌then◌else◌}
use Rattle.std.specs.Prelude.{nat_lt, nat_le, slice_get}
use Rattle.rt_grammar.specs.declared.at.At.{At}
use Rattle.rt_modes.specs.declared.mode.Mode.{Mode, out-Mode, the_lemmas}
use Rattle.rt_modes.specs.declared.mode.Mode.TheOpen.{Mode-F}
use Rattle.rt_modes.specs.declared.mode.Mode.TheVariants as mode
use Rattle.rt_tree_nodes.specs.declared.brick.Local.TheVariants as local
use Rattle.rt_tree_nodes.specs.declared.operators.Op1.TheVariants as one
use Rattle.rt_tree_nodes.specs.declared.value.Place.{Place}
use Rattle.rt_tree_nodes.specs.declared.value.Place.TheVariants as places
use Rattle.rt_tree_nodes.specs.declared.value.Value.{Value}
use Rattle.rt_tree_nodes.specs.declared.value.Value.TheVariants as values
use Rattle.rt_tree_nodes.specs.Scopes.{Scope, passes, proc_mode, same}
use Rattle.rt_tree_nodes.specs.Typing.{Valued, Found, Variable, Shared, Private, placed, valued, suits, is_byte, is_value, read_mode, value_mode, reference_by}
use Rattle.rt_tree_nodes.proofs.Same.{same_equal, same_itself}
use Rattle.rt_check_faults.specs.declared.fault.CheckFault.{CheckFault}
use Rattle.rt_check_faults.specs.declared.fault.CheckFault.TheVariants as fault
use Rattle.rt_exprs.specs.declared.operand.Base.{Base}
use Rattle.rt_exprs.specs.declared.operand.Base.TheVariants as base
use Rattle.rt_exprs.specs.declared.operand.Standing.{Standing}
use Rattle.rt_exprs.specs.declared.operand.Standing.TheVariants as standing
use Rattle.rt_exprs.specs.Following.{Becomes, followed_to, widened, refs, followed}
use Rattle.rt_exprs.specs.Modes.{nothing, want, want_by, becomes, basic_becomes, past, only_if, is_ref, is_row, is_proc, is_int as is_int_layer, is_byte as is_byte_layer, same as names_same}
use Rattle.rt_exprs.specs.Operands.{Is, number, text, brick, place, loop, result, computed, done, suits_by, number_fits, row_by, refer, place_suits}
use Rattle.rt_check_faults.specs.Outcomes.{Outcome, or_fault}
use Rattle.rt_exprs.proofs.Following.{becomes_follows}
use Rattle.rt_exprs.proofs.Same.{same_equal as names_equal}
use Rattle.rt_exprs_laws.specs.Agreeing.{stands, IsItem, IsValue}
use Rattle.rt_exprs_laws.proofs.Layers.{local_place, through_place, number_value, text_value, brick_value, read_value, reference_value, monadic_value}
use Rattle.rt_exprs_laws.proofs.Standing.{stands_at, value_item, ref_inner, is_byte as byte_mode, is_int as int_mode, is_frac as frac_mode}
use Rattle.rt_exprs_laws.proofs.Wanted.{of_base, byte_held, ref_wanted, row_wanted, proc_wanted}

-- ---- answers

pub or_some : {A : Type 0} (f : CheckFault) (o : Option A) (x : A) → or_fault f o ≡ Ok x → o ≡ Some x
or_some f (Some y) x e = cc
or_some f None x e = absurd cc

pub ok_is : (x y : Value) (o : Outcome Value) → o ≡ Ok x → o ≡ Ok y → x ≡ y
ok_is x y o e h = cc

some_is : {A : Type 0} (x y : A) → Some x ≡ Some y → x ≡ y
some_is x y e = cc

passed : {A : Type 0} (b : Bool) (v x : A) → only_if b v ≡ Some x → b ≡ true
passed true v x e = refl
passed false v x e = absurd cc

kept : {A : Type 0} (b : Bool) (v x : A) → only_if b v ≡ Some x → v ≡ x
kept true v x e = cc
kept false v x e = absurd cc

-- ---- a value of a mode suits it

or_true : (a b : Bool) → b ≡ true → a || b ≡ true
or_true true b e = refl
or_true false b e = e

both_true : (a b : Bool) → a ≡ true → b ≡ true → a && b ≡ true
both_true a b e h = rw (e, h) refl

left_of : (a b : Bool) → a && b ≡ true → a ≡ true
left_of true b e = refl
left_of false b e = e

or_left : (a b s : Bool) → b ≡ false → a || (b && s) ≡ true → a ≡ true
or_left true b s e h = refl
or_left false b s e h = absurd (let bad : false ≡ true = sym e ∙ left_of b s h in cc)

mode_suits : (m : Mode) (v : Valued) → v.mode ≡ Some m → suits m v ≡ true
mode_suits m v h = rw (h, same_itself m) refl

pub suits_mode : (m : Mode) (o : Option Mode) (s : Bool) → is_byte m ≡ false → passes (λ k. same m k || (is_byte m && s)) o ≡ true → o ≡ Some m
suits_mode m None s b h = absurd cc
suits_mode m (Some k) s b h = ap (λ (z : Mode). Some z) (sym (same_equal m k (or_left (same m k) (is_byte m) s b h)))

-- ---- what may be read and followed

held_layer : (m : Mode) (l : Mode-F Mode) → (want_by m l ≡ nothing → ⊥) → is_value l ≡ true
held_layer m (Mode-F.Record r) h = absurd (h refl)
held_layer m (Mode-F.Array n e) h = absurd (h refl)
held_layer m Mode-F.Label h = absurd (h refl)
held_layer m _ h = refl

refs_value : (k : ℕ) (m : Mode) → (want m ≡ nothing → ⊥) → is_value (out-Mode (refs k m)) ≡ true
refs_value zero m h = held_layer m (out-Mode m) h
refs_value (suc k) m h = let o : out-Mode (mode.Ref (refs k m)) ≡ Mode-F.Ref (refs k m) = search the_lemmas in ap is_value o

becomes_read : (m w : Mode) (v x : Value) → Becomes m w v x → is_value (out-Mode m) ≡ true
becomes_read m w v x (followed_to k e held) = subst (λ (z : Mode). is_value (out-Mode z) ≡ true) (sym e) (refs_value k w held)
becomes_read m w v x (widened k e i) = subst (λ (z : Mode). is_value (out-Mode z) ≡ true) (sym e) (refs_value k mode.Byte byte_held)

read_itself : (m : Mode) → is_value (out-Mode m) ≡ true → value_mode m ≡ Some m
read_itself m t = rw t refl

-- ---- the reference of what isn't an array

plain_reference : (m : Mode) (l : Mode-F Mode) → out-Mode m ≡ l → (stands m).inner ≡ true → reference_by l m ≡ Some (mode.Ref m)
plain_reference m (Mode-F.Array n e) o h = absurd (let bad : false ≡ true = sym (ap (λ x. x.inner) (stands_at m (Mode-F.Array n e) o)) ∙ h in cc)
plain_reference m Mode-F.Label o h = absurd (let bad : false ≡ true = sym (ap (λ x. x.inner) (stands_at m Mode-F.Label o)) ∙ h in cc)
plain_reference m _ o h = refl

module _ (c : Scope) where
  abbrev pub Has : Mode → Value → Type 0
  Has m v = (valued c v).mode ≡ Some m

  -- A place of this mode, whose reference may be taken or may not.
  abbrev pub PlaceIs : Place → Mode → Standing → Type 0
  PlaceIs p m standing.Shared = ((placed c p).found ≡ Some (Shared m)) × IsItem m
  PlaceIs p m standing.Private = (((placed c p).found ≡ Some (Private m)) × IsItem m) ⊎ (((placed c p).found ≡ Some (Variable m)) × IsValue m)

  -- What an expression is by itself is well typed.
  abbrev pub IsTyped : Is → Type 0
  IsTyped (number n) = Unit {0}
  IsTyped (text n) = nat_lt n c.strings ≡ true
  IsTyped (brick k m) = (proc_mode c.bricks k ≡ Some m) × IsValue m
  IsTyped (place p m st) = PlaceIs p m st
  IsTyped (loop k) = slice_get c.locals k ≡ Some local.Loop
  IsTyped (result v m) = ((valued c v).mode ≡ Some m) × ((valued c v).call ≡ Some (Some m)) × IsValue m
  IsTyped (computed v b) = (valued c v).mode ≡ Some (of_base b)
  IsTyped (done v) = (valued c v).call ≡ Some None

  pub has_suits : (m : Mode) (v : Value) → Has m v → suits m (valued c v) ≡ true
  has_suits m v h = mode_suits m (valued c v) h

  -- ---- followed

  past_has : (n : Mode) (v : Value) → is_value (out-Mode n) ≡ true → Has (mode.Ref n) v → Has n (past v)
  past_has n v t h =
      let o : out-Mode (mode.Ref n) ≡ Mode-F.Ref n = search the_lemmas in
      read_value c (places.Through v) ∙ rw (through_place c v, h, o) (read_itself n t)

  followed_has : (k : ℕ) (m : Mode) (v : Value) → (want m ≡ nothing → ⊥) → Has (refs k m) v → Has m (followed k v)
  followed_has zero m v held h = h
  followed_has (suc k) m v held h = followed_has k m (past v) held (past_has (refs k m) v (refs_value k m held) h)

  widen_has : (v : Value) → Has mode.Byte v → Has mode.Int (values.Monadic one.Int v)
  widen_has v h = monadic_value c one.Int v ∙ rw (h, same_itself mode.Byte) refl

  becomes_has : (m w : Mode) (v x : Value) → Becomes m w v x → Has m v → Has w x
  becomes_has m w v x (followed_to k e held) h = followed_has k w v held (subst (λ (z : Mode). Has z v) e h)
  becomes_has m w v x (widened k e i) h =
      subst (λ (z : Mode). Has z (values.Monadic one.Int (followed k v))) (sym i)
      (widen_has (followed k v) (followed_has k mode.Byte v byte_held (subst (λ (z : Mode). Has z v) e h)))

  -- ---- places

  found_read : (p : Place) (m : Mode) (f : Found) → (placed c p).found ≡ Some f → read_mode f ≡ Some m → Has m (values.Read p)
  found_read p m f e r = read_value c p ∙ rw e r

  pub read_has : (p : Place) (m : Mode) (st : Standing) → PlaceIs p m st → is_value (out-Mode m) ≡ true → Has m (values.Read p)
  read_has p m standing.Shared h t = found_read p m (Shared m) h.0 (read_itself m t)
  read_has p m standing.Private h t = elim h [
    | inl x ↦ found_read p m (Private m) x.0 (read_itself m t)
    | inr y ↦ found_read p m (Variable m) y.0 (read_itself m t)
  ]

  refer_has : (at : At) (p : Place) (m q : Mode) (st : Standing) (x : Value) → PlaceIs p m st → reference_by (out-Mode m) m ≡ Some q → refer at p st ≡ Ok x → Has q x
  refer_has at p m q standing.Shared x h r e = subst (λ (z : Value). Has q z) (ok_is (values.Reference p) x (Ok (values.Reference p)) refl e) (reference_value c p ∙ rw h.0 r)
  refer_has at p m q standing.Private x h r e = absurd cc

  ref_has : (at : At) (p : Place) (m : Mode) (st : Standing) (w : Mode) (x : Value) → PlaceIs p m st → IsValue w → is_ref (names_same m) (want w) ≡ true → refer at p st ≡ Ok x → Has w x
  ref_has at p m st w x h v t e =
      let f = ref_wanted w (names_same m) t in
      let is : m ≡ f.to = names_equal m f.to f.passes in
      let inner : (stands m).inner ≡ true = subst (λ (z : Mode). (stands z).inner ≡ true) (sym is) (ref_inner w f.to f.opens (value_item w v)) in
      subst (λ (z : Mode). Has z x) (ap (λ (z : Mode). mode.Ref z) is ∙ sym f.is) (refer_has at p m (mode.Ref m) st x h (plain_reference m (out-Mode m) refl inner) e)

  row_has : (at : At) (p : Place) (m : Mode) (l : Mode-F Mode) (st : Standing) (w : Mode) (x : Value) → PlaceIs p m st → out-Mode m ≡ l → row_by l (want w) ≡ true → refer at p st ≡ Ok x → Has w x
  row_has at p m (Mode-F.Array k n) st w x h o t e =
      let f = row_wanted w (names_same n) t in
      subst (λ (z : Mode). Has z x) (ap (λ (z : Mode). mode.RefArray z) (names_equal n f.of f.passes) ∙ sym f.is) (refer_has at p m (mode.RefArray n) st x h (rw o refl) e)
  row_has at p m _ st w x h o t e = absurd cc

  followed_place : (at : At) (p : Place) (m : Mode) (st : Standing) (w : Mode) (x : Value) → PlaceIs p m st → or_fault (fault.WrongMode at) (becomes m (want w) (values.Read p)) ≡ Ok x → Has w x
  followed_place at p m st w x h e =
      let b = becomes_follows m w (values.Read p) x (or_some (fault.WrongMode at) (becomes m (want w) (values.Read p)) x e) in
      becomes_has m w (values.Read p) x b (read_has p m st h (becomes_read m w (values.Read p) x b))

  place_split : (at : At) (p : Place) (m : Mode) (st : Standing) (w : Mode) (x : Value) (a b : Bool) → is_ref (names_same m) (want w) ≡ a → row_by (out-Mode m) (want w) ≡ b → PlaceIs p m st → IsValue w
      → (if a || b then refer at p st else or_fault (fault.WrongMode at) (becomes m (want w) (values.Read p))) ≡ Ok x → Has w x
  place_split at p m st w x true b r q h v e = ref_has at p m st w x h v r e
  place_split at p m st w x false true r q h v e = row_has at p m (out-Mode m) st w x h refl q e
  place_split at p m st w x false false r q h v e = followed_place at p m st w x h e

  place_has : (at : At) (p : Place) (m : Mode) (st : Standing) (w : Mode) (x : Value) → PlaceIs p m st → IsValue w → place_suits at p m st (want w) ≡ Ok x → Has w x
  place_has at p m st w x h v e = place_split at p m st w x (is_ref (names_same m) (want w)) (row_by (out-Mode m) (want w)) refl refl h v e

  -- ---- values of one word

  basic_layer : (b : Base) (w : Mode) (l : Mode-F Mode) (v x : Value) → out-Mode w ≡ l → Has (of_base b) v → basic_becomes b (want_by w l) v ≡ Some x → Has w x
  basic_layer base.Byte w Mode-F.Byte v x o h e = subst (λ (z : Mode). Has z x) (sym (byte_mode w o)) (subst (λ (z : Value). Has mode.Byte z) (some_is v x e) h)
  basic_layer base.Byte w Mode-F.Int v x o h e =
      subst (λ (z : Mode). Has z x) (sym (int_mode w o)) (subst (λ (z : Value). Has mode.Int z) (some_is (values.Monadic one.Int v) x e) (widen_has v h))
  basic_layer base.Byte w _ v x o h e = absurd cc
  basic_layer base.Int w Mode-F.Int v x o h e = subst (λ (z : Mode). Has z x) (sym (int_mode w o)) (subst (λ (z : Value). Has mode.Int z) (some_is v x e) h)
  basic_layer base.Int w _ v x o h e = absurd cc
  basic_layer base.Frac w Mode-F.Frac v x o h e = subst (λ (z : Mode). Has z x) (sym (frac_mode w o)) (subst (λ (z : Value). Has mode.Frac z) (some_is v x e) h)
  basic_layer base.Frac w _ v x o h e = absurd cc

  basic_has : (b : Base) (w : Mode) (v x : Value) → Has (of_base b) v → basic_becomes b (want w) v ≡ Some x → Has w x
  basic_has b w v x h e = basic_layer b w (out-Mode w) v x refl h e

  loop_split : (at : At) (k : ℕ) (w : Mode) (x : Value) (b : Bool) → slice_get c.locals k ≡ Some local.Loop
      → (if b then Err (fault.RefOfLocal at) else or_fault (fault.WrongMode at) (basic_becomes base.Int (want w) (values.Read (places.Local k)))) ≡ Ok x → Has w x
  loop_split at k w x true h e = absurd cc
  loop_split at k w x false h e =
      basic_has base.Int w (values.Read (places.Local k)) x (read_value c (places.Local k) ∙ rw (local_place c k, h) refl)
      (or_some (fault.WrongMode at) (basic_becomes base.Int (want w) (values.Read (places.Local k))) x e)

  -- ---- numbers

  number_layer : (at : At) (n : ℕ) (w : Mode) (l : Mode-F Mode) (x : Value) → out-Mode w ≡ l → or_fault (fault.WrongMode at) (only_if (number_fits n (want_by w l)) (values.Number n)) ≡ Ok x → suits w (valued c x) ≡ true
  number_layer at n w Mode-F.Int x o e =
      subst (λ (z : Value). suits w (valued c z) ≡ true) (ok_is (values.Number n) x (Ok (values.Number n)) refl e)
      (subst (λ (z : Mode). suits z (valued c (values.Number n)) ≡ true) (sym (int_mode w o)) (has_suits mode.Int (values.Number n) (ap (λ y. y.mode) (number_value c n))))
  number_layer at n w Mode-F.Byte x o e =
      let f : only_if (nat_le n 255) (values.Number n) ≡ Some x = or_some (fault.WrongMode at) (only_if (nat_le n 255) (values.Number n)) x e in
      subst (λ (z : Value). suits w (valued c z) ≡ true) (kept (nat_le n 255) (values.Number n) x f)
      (subst (λ (z : Mode). suits z (valued c (values.Number n)) ≡ true) (sym (byte_mode w o)) (small_suits n (passed (nat_le n 255) (values.Number n) x f)))
    where
      small_suits : (n : ℕ) → nat_le n 255 ≡ true → suits mode.Byte (valued c (values.Number n)) ≡ true
      small_suits n t = rw number_value (or_true (same mode.Byte mode.Int) (is_byte mode.Byte && nat_le n 255) (both_true (is_byte mode.Byte) (nat_le n 255) (same_itself mode.Byte) t))
  number_layer at n w _ x o e = absurd cc

  -- ---- the whole

  abbrev pub IsOther : Is → Type 0
  IsOther (number n) = ⊥
  IsOther _ = Unit {0}

  -- what suits a mode has it, but for a number
  pub here : (at : At) (is : Is) (w : Mode) (x : Value) → IsOther is → IsTyped is → IsValue w → suits_by at is (want w) ≡ Ok x → Has w x
  here at (number n) w x other h v e = absurd other
  here at (text n) w x other h v e =
      let f : only_if (is_row (λ (k : Mode). is_byte_layer (out-Mode k)) (want w)) (values.Text n) ≡ Some x = or_some (fault.WrongMode at) _ x e in
      let t = row_wanted w (λ (k : Mode). is_byte_layer (out-Mode k)) (passed _ (values.Text n) x f) in
      text_has n w x t.of t.is (byte_of t.of (out-Mode t.of) refl t.passes) h (kept _ (values.Text n) x f)
    where
      byte_of : (m : Mode) (l : Mode-F Mode) → out-Mode m ≡ l → is_byte_layer l ≡ true → m ≡ mode.Byte
      byte_of m Mode-F.Byte o t = byte_mode m o
      byte_of m _ o t = absurd cc

      text_has : (n : ℕ) (w : Mode) (x : Value) (m : Mode) → w ≡ mode.RefArray m → m ≡ mode.Byte → nat_lt n c.strings ≡ true → values.Text n ≡ x → Has w x
      text_has n w x m e i t k =
          subst (λ (z : Value). Has w z) k (subst (λ (z : Mode). Has z (values.Text n)) (sym (e ∙ ap (λ (z : Mode). mode.RefArray z) i)) (text_value c n ∙ rw t refl))
  here at (brick k m) w x other h v e =
      let f : only_if (is_proc (names_same m) (want w)) (values.Proc k) ≡ Some x = or_some (fault.WrongMode at) _ x e in
      let t : m ≡ w = names_equal m w (proc_wanted w (names_same m) (passed _ (values.Proc k) x f)) in
      subst (λ (z : Value). Has w z) (kept _ (values.Proc k) x f) (subst (λ (z : Mode). Has z (values.Proc k)) t (brick_value c k ∙ h.0))
  here at (place p m st) w x other h v e = place_has at p m st w x h v e
  here at (loop k) w x other h v e = loop_split at k w x (is_ref (λ m. is_int_layer (out-Mode m)) (want w)) h e
  here at (result y m) w x other h v e = becomes_has m w y x (becomes_follows m w y x (or_some (fault.WrongMode at) (becomes m (want w) y) x e)) h.0
  here at (computed y b) w x other h v e = basic_has b w y x h (or_some (fault.WrongMode at) (basic_becomes b (want w) y) x e)
  here at (done y) w x other h v e = absurd cc

  pub suits_here : (at : At) (is : Is) (w : Mode) (x : Value) → IsTyped is → IsValue w → suits_by at is (want w) ≡ Ok x → suits w (valued c x) ≡ true
  suits_here at (number n) w x h v e = number_layer at n w (out-Mode w) x refl e
  suits_here at (text n) w x h v e = has_suits w x (here at (text n) w x tt h v e)
  suits_here at (brick k m) w x h v e = has_suits w x (here at (brick k m) w x tt h v e)
  suits_here at (place p m st) w x h v e = has_suits w x (here at (place p m st) w x tt h v e)
  suits_here at (loop k) w x h v e = has_suits w x (here at (loop k) w x tt h v e)
  suits_here at (result y m) w x h v e = has_suits w x (here at (result y m) w x tt h v e)
  suits_here at (computed y b) w x h v e = has_suits w x (here at (computed y b) w x tt h v e)
  suits_here at (done y) w x h v e = has_suits w x (here at (done y) w x tt h v e)
