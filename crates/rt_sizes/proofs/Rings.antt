-- A record that has a size doesn't contain itself.
use Rattle.std.proofs.Common.{◌≡◌, ℕ, zero, suc, ◌+◌, ◌*◌, ◌⊎◌, inl, inr, Bool, true, false, List, [], ◌∷◌, Option, Some, None, option_map, slice_get, map, refl, sym, ◌∙◌, subst}
use Rattle.rt_modes.specs.declared.mode.Field.{Field}
use Rattle.rt_modes.specs.declared.mode.Mode.{Mode, out-Mode, roll-Mode, map-Mode}
use Rattle.rt_modes.specs.declared.mode.Mode.TheFolds.{ind-Mode, fold_out-Mode}
use Rattle.rt_modes.specs.declared.mode.Mode.TheOpen.{Mode-F}
use Rattle.rt_modes.specs.declared.mode.RecordDef.{RecordDef}
use Rattle.rt_modes.specs.FullMode.{fields_in}
use Rattle.rt_sizes.specs.declared.size.Size.{Size}
use Rattle.rt_sizes.specs.Capped.{counted, size_in, AreSizes}
use Rattle.rt_sizes.specs.Containing.{held, held_layer, HaveOne, fields_of, Contains, directly, through}
use Rattle.rt_sizes.specs.Sizes as layout
use Rattle.rt_sizes.specs.Sizes.{Table, within, even, and_then, size, field_begins, field_end, fields_end, record_layer, fields_if}
use Rattle.rt_sizes.proofs.Layers.{out_roll, size_at}

held_at : (m : Mode) (l : Mode-F Mode) → out-Mode m ≡ l → held m ≡ held_layer (map-Mode Mode (Option ℕ) held l)
held_at m l o = rw (fold_out-Mode, o) refl

some_left : {A B : Type 0} (op : A → B) (o : Option A) (y : B) → option_map op o ≡ Some y → (x : A) × (o ≡ Some x)
some_left op None y e = absurd cc
some_left op (Some x) y e = (x, refl)

-- ---- what is held has a size

module _ (f : ℕ → Option ℕ) (s : ℕ) where
  abbrev Sized : Type 0
  Sized = (n : ℕ) × (f s ≡ Some n)

  abbrev HeldSized : Mode → Type 0
  HeldSized m = (x : ℕ) → held m ≡ Some s → size f m ≡ Some x → Sized

  abbrev HeldPair : Type 0
  HeldPair = (m : Mode) × HeldSized m

  none_held : (m : Mode) (l : Mode-F Mode) → out-Mode m ≡ l → held_layer (map-Mode Mode (Option ℕ) held l) ≡ None → held m ≡ Some s → Sized
  none_held m l o n h = absurd (let bad : None ≡ Some s = sym n ∙ sym (held_at m l o) ∙ h in cc)

  held_by_name : (r x : ℕ) → Some r ≡ Some s → f r ≡ Some x → Sized
  held_by_name r x e h = (x, let same : r ≡ s = cc in subst (λ (z : ℕ). f z ≡ Some x) same h)

  held_level : (m : Mode) (y : Mode-F HeldPair) → out-Mode m ≡ map-Mode HeldPair Mode (λ e. e.0) y → HeldSized m
  held_level m Mode-F.Byte o x h e = none_held m Mode-F.Byte o refl h
  held_level m Mode-F.Int o x h e = none_held m Mode-F.Int o refl h
  held_level m Mode-F.Frac o x h e = none_held m Mode-F.Frac o refl h
  held_level m Mode-F.Label o x h e = none_held m Mode-F.Label o refl h
  held_level m (Mode-F.Ref a) o x h e = none_held m (Mode-F.Ref a.0) o refl h
  held_level m (Mode-F.RefArray a) o x h e = none_held m (Mode-F.RefArray a.0) o refl h
  held_level m (Mode-F.Array k a) o x h e =
      let inner = some_left (λ z. even (2 + k * z)) (size f a.0) x (sym (size_at f m (Mode-F.Array k a.0) o) ∙ e) in a.1 inner.0 (sym (held_at m (Mode-F.Array k a.0) o) ∙ h) inner.1
  held_level m (Mode-F.Record r) o x h e = held_by_name r x (sym (held_at m (Mode-F.Record r) o) ∙ h) (sym (size_at f m (Mode-F.Record r) o) ∙ e)
  held_level m (Mode-F.Proc ps None) o x h e = none_held m (Mode-F.Proc (map (λ (e : HeldPair). e.0) ps) None) o refl h
  held_level m (Mode-F.Proc ps (Some r)) o x h e = none_held m (Mode-F.Proc (map (λ (e : HeldPair). e.0) ps) (Some r.0)) o refl h

  held_sized : (m : Mode) → HeldSized m
  held_sized = ind-Mode HeldSized (λ x y is. held_level (roll-Mode x) y (out_roll x ∙ sym is))

  then_left : {B : Type 0} (o : Option ℕ) (go : ℕ → Option B) (y : B) → and_then o go ≡ Some y → (x : ℕ) × (o ≡ Some x) × (go x ≡ Some y)
  then_left None go y e = absurd cc
  then_left (Some x) go y e = (x, refl, e)

  have_sized : (fs : List Field) (n e : ℕ) → fields_end f fs n ≡ Some e → HaveOne fs s → Sized
  have_sized [] n e is h = absurd h
  have_sized (field ∷ fs) n e is (inl h) =
      let first = then_left (field_end f field n) (fields_end f fs) e is in
      let inner = some_left (λ z. field_begins f field n + z) (size f field.mode) first.0 first.1 in held_sized field.mode inner.0 h inner.1
  have_sized (field ∷ fs) n e is (inr h) = let first = then_left (field_end f field n) (fields_end f fs) e is in have_sized fs first.0 e first.2 h

-- ---- the first step of a way

module _ (t : Table) where
  abbrev Step : ℕ → ℕ → Type 0
  Step k u = (s : ℕ) × HaveOne (fields_of t.records k) s × ((s ≡ u) ⊎ Contains t.records s u)

  one_more : (k s u : ℕ) → Step k s → HaveOne (fields_of t.records s) u → Step k u
  one_more k s u step h = elim (step.2) [
    | inl e ↦ (step.0, step.1, inr (directly (subst (λ (x : ℕ). HaveOne (fields_of t.records x) u) (sym e) h)))
    | inr c ↦ (step.0, step.1, inr (through c h))
  ]

  first_step : (k u : ℕ) → Contains t.records k u → Step k u
  first_step k u (directly h) = (u, h, inl refl)
  first_step k u (through {s = s} c h) = one_more k s u (first_step k s c) h

  same_fields : (b : Option Bool) (o : Option RecordDef) (fs : List Field) → fields_if b o ≡ Some fs → fields_in o ≡ fs
  same_fields (Some true) (Some r) fs e = cc
  same_fields (Some true) None fs e = absurd cc
  same_fields (Some false) o fs e = absurd cc
  same_fields None o fs e = absurd cc

  record_sized : (f : ℕ → Option ℕ) (o : Option (List Field)) (n s : ℕ) (all : List Field) → ((fs : List Field) → o ≡ Some fs → all ≡ fs) → record_layer f o ≡ Some n → HaveOne all s → Sized f s
  record_sized f None n s all same e h = absurd cc
  record_sized f (Some fs) n s all same e h =
      let inner = some_left even (fields_end f fs 0) n e in have_sized f s fs 0 inner.0 inner.1 (subst (λ (x : List Field). HaveOne x s) (same fs refl) h)

  pub no_ring : (d k n : ℕ) → within t d k ≡ Some n → Contains t.records k k → ⊥
  unfolding within
  no_ring zero k n e c = cc
  no_ring (suc d) k n e c =
      let step = first_step k k c in
      let sized = record_sized (within t d) (layout.fields_of t k) n step.0 (fields_of t.records k) (λ fs. same_fields (slice_get t.known k) (slice_get t.records k) fs) e step.1 in
      no_ring d step.0 sized.0 sized.1 (elim (step.2) [ inl same ↦ subst (λ (x : ℕ). Contains t.records x x) (sym same) c | inr back ↦ through back step.1 ])

  sized_at : (s : List (Option Size)) (k d : ℕ) (x : Size) (o : Option ℕ) → within t d k ≡ o → option_map counted o ≡ Some x → Contains t.records k k → ⊥
  sized_at s k d x None e is c = cc
  sized_at s k d x (Some n) e is c = no_ring d k n e c

  pub sized_no_ring : (s : List (Option Size)) (k : ℕ) (x : Size) → AreSizes t s → size_in s k ≡ Some x → Contains t.records k k → ⊥
  sized_no_ring s k x sizes e c = sized_at s k sizes.right.0 x (within t sizes.right.0 k) refl (sizes.right.1 k x e) c
