-- What has a size has no ring: each record that it contains has a size too.
use Rattle.std.proofs.Common.{◌≡◌, ℕ, zero, suc, ◌+◌, ◌*◌, inl, inr, Bool, true, false, List, [], ◌∷◌, Option, Some, None, option_map, slice_get, map, refl, sym, ◌∙◌, subst}
use Rattle.rt_modes.specs.declared.mode.Field.{Field}
use Rattle.rt_modes.specs.declared.mode.Mode.{Mode, out-Mode, roll-Mode, map-Mode}
use Rattle.rt_modes.specs.declared.mode.Mode.TheFolds.{ind-Mode}
use Rattle.rt_modes.specs.declared.mode.Mode.TheOpen.{Mode-F}
use Rattle.rt_modes.specs.declared.mode.RecordDef.{RecordDef}
use Rattle.rt_modes.specs.FullMode.{fields_in}
use Rattle.rt_sizes.specs.Containing.{held, held_layer, HaveOne, fields_of, Contains, directly, through}
use Rattle.rt_sizes.specs.Sizes.{Table, within, even, and_then, size, field_begins, field_end, fields_end, record_layer, fields_if}
use Rattle.rt_sizes.proofs.Layers.{out_roll, size_at, some_is}
use Rattle.rt_sizes.proofs.Rings.{no_ring}
use Rattle.rt_sizes_laws.specs.Laws.{SizesHaveNoRing}
use Rattle.rt_sizes_laws.proofs.Sized.{held_at, Is}

mapped_left : (op : ℕ → ℕ) (o : Option ℕ) (y : ℕ) → option_map op o ≡ Some y → Is o
mapped_left op None y e = absurd cc
mapped_left op (Some x) y e = (x, refl)

then_left : (o : Option ℕ) (go : ℕ → Option ℕ) (y : ℕ) → and_then o go ≡ Some y → (x : ℕ) × (o ≡ Some x) × (go x ≡ Some y)
then_left None go y e = absurd cc
then_left (Some x) go y e = (x, refl, e)

-- ---- what a mode with a size holds has one

module _ (f : ℕ → Option ℕ) where
  abbrev Holds : Mode → Type 0
  Holds m = (r x : ℕ) → held m ≡ Some r → size f m ≡ Some x → Is (f r)

  abbrev HoldsPair : Type 0
  HoldsPair = (m : Mode) × Holds m

  none_held : (m : Mode) (l : Mode-F Mode) (r : ℕ) → out-Mode m ≡ l → held_layer (map-Mode Mode (Option ℕ) held l) ≡ None → held m ≡ Some r → Is (f r)
  none_held m l r o n h = absurd (let bad : None ≡ Some r = sym n ∙ sym (held_at m l o) ∙ h in cc)

  holds_level : (m : Mode) (y : Mode-F HoldsPair) → out-Mode m ≡ map-Mode HoldsPair Mode (λ e. e.0) y → Holds m
  holds_level m Mode-F.Byte o r x h e = none_held m Mode-F.Byte r o refl h
  holds_level m Mode-F.Int o r x h e = none_held m Mode-F.Int r o refl h
  holds_level m Mode-F.Frac o r x h e = none_held m Mode-F.Frac r o refl h
  holds_level m Mode-F.Label o r x h e = none_held m Mode-F.Label r o refl h
  holds_level m (Mode-F.Ref a) o r x h e = none_held m (Mode-F.Ref a.0) r o refl h
  holds_level m (Mode-F.RefArray a) o r x h e = none_held m (Mode-F.RefArray a.0) r o refl h
  holds_level m (Mode-F.Array k a) o r x h e =
      let inner = mapped_left (λ z. even (2 + k * z)) (size f a.0) x (sym (size_at f m (Mode-F.Array k a.0) o) ∙ e) in a.1 r inner.0 (sym (held_at m (Mode-F.Array k a.0) o) ∙ h) inner.1
  holds_level m (Mode-F.Record q) o r x h e = subst (λ (z : ℕ). Is (f z)) (some_is q r (sym (held_at m (Mode-F.Record q) o) ∙ h)) (x, sym (size_at f m (Mode-F.Record q) o) ∙ e)
  holds_level m (Mode-F.Proc ps None) o r x h e = none_held m (Mode-F.Proc (map (λ (e : HoldsPair). e.0) ps) None) r o refl h
  holds_level m (Mode-F.Proc ps (Some q)) o r x h e = none_held m (Mode-F.Proc (map (λ (e : HoldsPair). e.0) ps) (Some q.0)) r o refl h

  holds : (m : Mode) → Holds m
  holds = ind-Mode Holds (λ x y is. holds_level (roll-Mode x) y (out_roll x ∙ sym is))

  fields_hold : (fs : List Field) (s n e : ℕ) → fields_end f fs n ≡ Some e → HaveOne fs s → Is (f s)
  fields_hold [] s n e is h = absurd h
  fields_hold (x ∷ fs) s n e is (inl h) =
      let first = then_left (field_end f x n) (fields_end f fs) e is in
      let inner = mapped_left (λ z. field_begins f x n + z) (size f x.mode) first.0 first.1 in
      holds x.mode s inner.0 h inner.1
  fields_hold (x ∷ fs) s n e is (inr h) = let first = then_left (field_end f x n) (fields_end f fs) e is in fields_hold fs s first.0 e first.2 h

  record_holds : (b : Option Bool) (o : Option RecordDef) (s n : ℕ) → record_layer f (fields_if b o) ≡ Some n → HaveOne (fields_in o) s → Is (f s)
  record_holds None o s n e h = absurd cc
  record_holds (Some false) o s n e h = absurd cc
  record_holds (Some true) None s n e h = absurd cc
  record_holds (Some true) (Some d) s n e h = let inner = mapped_left even (fields_end f d.fields 0) n e in fields_hold d.fields s 0 inner.0 inner.1 h

-- ---- what a record with a size contains has one

module _ (t : Table) where
  abbrev Sized : ℕ → Type 0
  Sized k = (d n : ℕ) × (within t d k ≡ Some n)

  inner_sized : (d k s n : ℕ) → within t d k ≡ Some n → HaveOne (fields_of t.records k) s → Sized s
  unfolding within
  inner_sized zero k s n e h = absurd cc
  inner_sized (suc d) k s n e h = let is = record_holds (within t d) (slice_get t.known k) (slice_get t.records k) s n e h in (d, is.0, is.1)

  contained_sized : (k s : ℕ) → Sized k → Contains t.records k s → Sized s
  contained_sized k s z (directly h) = inner_sized z.0 k s z.1 z.2 h
  contained_sized k w z (through {s = s} c h) = let inner = contained_sized k s z c in inner_sized inner.0 s w inner.1 inner.2 h

  pub sized_ringless : (k : ℕ) → Sized k → (Contains t.records k k → ⊥) × ((s : ℕ) → Contains t.records k s → Contains t.records s s → ⊥)
  sized_ringless k z = (no_ring t z.0 k z.1 z.2, λ s c. let inner = contained_sized k s z c in no_ring t inner.0 s inner.1 inner.2)

pub sizes_have_no_ring : SizesHaveNoRing
sizes_have_no_ring t m n (d, e) r h = let is = holds (within t d) m r n h e in sized_ringless t r (d, is.0, is.1)
