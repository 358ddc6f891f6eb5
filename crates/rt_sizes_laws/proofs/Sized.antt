-- A mode that may stand has a size unless a record of it contains itself: a way from record to record that is longer than the list
-- of records comes back to where it was.
use Rattle.std.proofs.Common.{◌≡◌, ℕ, zero, suc, ◌+◌, ◌*◌, ◌≤◌, ◌<◌, inl, inr, Bool, true, false, List, [], ◌∷◌, length, replicate, take, map, Option, Some, None, option_map, slice_get, slice_set, refl, sym, ap, ◌∙◌, subst, arith}
use Rattle.std.specs.List.{AllByRecursion}
use Rattle.std.proofs.lemmas.Option.{slice_get_within}
use Rattle.rt_modes.specs.declared.mode.Field.{Field}
use Rattle.rt_modes.specs.declared.mode.Mode.{Mode, out-Mode, roll-Mode, map-Mode}
use Rattle.rt_modes.specs.declared.mode.Mode.TheFolds.{ind-Mode, fold_out-Mode}
use Rattle.rt_modes.specs.declared.mode.Mode.TheOpen.{Mode-F}
use Rattle.rt_modes.specs.declared.mode.ModeTable.{ModeTable}
use Rattle.rt_modes.specs.declared.mode.RecordDef.{RecordDef}
use Rattle.rt_modes.specs.FullMode.{fields_in}
use Rattle.rt_tree.specs.FullModes.{MayStand}
use Rattle.rt_tree.specs.Opened.{IsTable}
use Rattle.rt_tree_laws.proofs.Telling.{array_stands, in_table}
use Rattle.rt_sizes.specs.Capped.{table}
use Rattle.rt_sizes.specs.Containing.{held, held_layer, HaveOne, fields_of, Contains, directly, through}
use Rattle.rt_sizes.specs.Reaching.{unmarked}
use Rattle.rt_sizes.specs.Sizes as layout
use Rattle.rt_sizes.specs.Sizes.{Table, within, even, and_then, begins, fields_if, size, size_layer, field_begins, field_end, fields_end, record_layer, offset, offset_by}
use Rattle.rt_sizes.proofs.Layers.{out_roll, size_at, some_is}
use Rattle.rt_sizes.proofs.Reaching.{set_from, set_count, set_long, none_marked}
use Rattle.rt_sizes_laws.specs.Laws.{AllKnown, AllStand, HasNoRing, HavePlaces, ModesHaveSizes, FieldsHavePlaces, NoRings}
use Rattle.rt_sizes_laws.proofs.Alike.{fields_stand, known_fields}

pub held_at : (m : Mode) (l : Mode-F Mode) → out-Mode m ≡ l → held m ≡ held_layer (map-Mode Mode (Option ℕ) held l)
held_at m l o = rw (fold_out-Mode, o) refl

-- there is a number
abbrev pub Is : Option ℕ → Type 0
Is o = (n : ℕ) × (o ≡ Some n)

mapped_is : (op : ℕ → ℕ) (o p : Option ℕ) → p ≡ option_map op o → Is o → Is p
mapped_is op o p e (n, is) = (op n, e ∙ ap (option_map op) is)

-- ---- modes and fields have sizes where the records that they hold do

module _ (f : ℕ → Option ℕ) where
  abbrev HeldIs : Mode → Type 0
  HeldIs m = (r : ℕ) → held m ≡ Some r → Is (f r)

  abbrev FromHeld : Mode → Type 0
  FromHeld m = HeldIs m → Is (size f m)

  abbrev FromPair : Type 0
  FromPair = (m : Mode) × FromHeld m

  from_level : (m : Mode) (y : Mode-F FromPair) → out-Mode m ≡ map-Mode FromPair Mode (λ e. e.0) y → FromHeld m
  from_level m Mode-F.Byte o h = (1, size_at f m Mode-F.Byte o)
  from_level m Mode-F.Int o h = (2, size_at f m Mode-F.Int o)
  from_level m Mode-F.Frac o h = (2, size_at f m Mode-F.Frac o)
  from_level m Mode-F.Label o h = (2, size_at f m Mode-F.Label o)
  from_level m (Mode-F.Ref a) o h = (2, size_at f m (Mode-F.Ref a.0) o)
  from_level m (Mode-F.RefArray a) o h = (2, size_at f m (Mode-F.RefArray a.0) o)
  from_level m (Mode-F.Array k a) o h = mapped_is (λ s. even (2 + k * s)) (size f a.0) (size f m) (size_at f m (Mode-F.Array k a.0) o) (a.1 (λ r e. h r (held_at m (Mode-F.Array k a.0) o ∙ e)))
  from_level m (Mode-F.Record r) o h = let is = h r (held_at m (Mode-F.Record r) o) in (is.0, size_at f m (Mode-F.Record r) o ∙ is.1)
  from_level m (Mode-F.Proc ps None) o h = (2, size_at f m (Mode-F.Proc (map (λ (e : FromPair). e.0) ps) None) o)
  from_level m (Mode-F.Proc ps (Some r)) o h = (2, size_at f m (Mode-F.Proc (map (λ (e : FromPair). e.0) ps) (Some r.0)) o)

  from_held : (m : Mode) → FromHeld m
  from_held = ind-Mode FromHeld (λ x y is. from_level (roll-Mode x) y (out_roll x ∙ sym is))

  abbrev AllHeld : List Field → Type 0
  AllHeld fs = AllByRecursion (λ (x : Field). HeldIs x.mode) fs

  ends_at : (fs : List Field) (n : ℕ) → AllHeld fs → Is (fields_end f fs n)
  ends_at [] n h = (n, refl)
  ends_at (x ∷ fs) n h =
      let first = mapped_is (λ s. field_begins f x n + s) (size f x.mode) (field_end f x n) refl (from_held x.mode h.0) in
      let rest = ends_at fs first.0 h.1 in
      (rest.0, ap (λ (z : Option ℕ). and_then z (fields_end f fs)) first.1 ∙ rest.1)

  taken_held : (fs : List Field) (k : ℕ) → AllHeld fs → AllHeld (take k fs)
  taken_held fs zero h = tt
  taken_held [] (suc k) h = tt
  taken_held (x ∷ fs) (suc k) h = (h.0, taken_held fs k h.1)

  begins_at : (fs : List Field) (k : ℕ) (x : Field) → slice_get fs k ≡ Some x → AllHeld fs → Is (offset f fs k)
  begins_at fs k x e h =
      let end = ends_at (take k fs) 0 (taken_held fs k h) in
      mapped_is (begins (out-Mode x.mode)) (fields_end f (take k fs) 0) (offset f fs k) (ap (λ (z : Option Field). offset_by f z (fields_end f (take k fs) 0)) e) end

  all_held : (fs : List Field) → ((s : ℕ) → HaveOne fs s → Is (f s)) → AllHeld fs
  all_held [] h = tt
  all_held (x ∷ fs) h = (λ s e. h s (inl e), all_held fs (λ s g. h s (inr g)))

-- ---- marks

mark_there : (ms : List Bool) (k : ℕ) → k < length ms → (b : Bool) × (slice_get ms k ≡ Some b)
mark_there [] k h = absurd (omega arith)
mark_there (m ∷ ms) zero h = (m, refl)
mark_there (m ∷ ms) (suc k) h = mark_there ms k (omega arith)

long_replicate : (n : ℕ) → length (replicate n false) ≡ n
long_replicate zero = refl
long_replicate (suc n) = ap suc (long_replicate n)

-- ---- records

module _ (t : ModeTable) (gt : IsTable t) where
  abbrev There : ℕ → Type 0
  There r = (d : RecordDef) × (slice_get t.records r ≡ Some d)

  -- what a mode holds that may stand is a record of the module
  abbrev HoldsThere : Mode → Type 0
  HoldsThere m = (r : ℕ) → MayStand t m → held m ≡ Some r → There r

  abbrev HoldsPair : Type 0
  HoldsPair = (m : Mode) × HoldsThere m

  holds_none : (m : Mode) (l : Mode-F Mode) (r : ℕ) → out-Mode m ≡ l → held_layer (map-Mode Mode (Option ℕ) held l) ≡ None → held m ≡ Some r → There r
  holds_none m l r o n h = absurd (let bad : None ≡ Some r = sym n ∙ sym (held_at m l o) ∙ h in cc)

  holds_level : (m : Mode) (y : Mode-F HoldsPair) → out-Mode m ≡ map-Mode HoldsPair Mode (λ e. e.0) y → HoldsThere m
  holds_level m Mode-F.Byte o r s h = holds_none m Mode-F.Byte r o refl h
  holds_level m Mode-F.Int o r s h = holds_none m Mode-F.Int r o refl h
  holds_level m Mode-F.Frac o r s h = holds_none m Mode-F.Frac r o refl h
  holds_level m Mode-F.Label o r s h = holds_none m Mode-F.Label r o refl h
  holds_level m (Mode-F.Ref a) o r s h = holds_none m (Mode-F.Ref a.0) r o refl h
  holds_level m (Mode-F.RefArray a) o r s h = holds_none m (Mode-F.RefArray a.0) r o refl h
  holds_level m (Mode-F.Array k a) o r s h = a.1 r (array_stands t gt.names gt.apart m a.0 k o s) (sym (held_at m (Mode-F.Array k a.0) o) ∙ h)
  holds_level m (Mode-F.Record q) o r s h = subst There (some_is q r (sym (held_at m (Mode-F.Record q) o) ∙ h)) (in_table t gt.names gt.apart m (Mode-F.Record q) s o)
  holds_level m (Mode-F.Proc ps None) o r s h = holds_none m (Mode-F.Proc (map (λ (e : HoldsPair). e.0) ps) None) r o refl h
  holds_level m (Mode-F.Proc ps (Some q)) o r s h = holds_none m (Mode-F.Proc (map (λ (e : HoldsPair). e.0) ps) (Some q.0)) r o refl h

  holds_there : (m : Mode) → HoldsThere m
  holds_there = ind-Mode HoldsThere (λ x y is. holds_level (roll-Mode x) y (out_roll x ∙ sym is))

  have_there : (fs : List Field) (s : ℕ) → AllStand t fs → HaveOne fs s → There s
  have_there [] s a h = absurd h
  have_there (x ∷ fs) s a (inl e) = holds_there x.mode s a.0 e
  have_there (x ∷ fs) s a (inr h) = have_there fs s a.1 h

  -- ---- no ring

  abbrev Ringless : ℕ → Type 0
  Ringless r = (Contains t.records r r → ⊥) × ((s : ℕ) → Contains t.records r s → Contains t.records s s → ⊥)

  in_front : (r s w : ℕ) → HaveOne (fields_of t.records r) s → Contains t.records s w → Contains t.records r w
  in_front r s w h (directly g) = through (directly h) g
  in_front r s w h (through {s = v} c g) = through (in_front r s v h c) g

  inner_ringless : (r s : ℕ) → Ringless r → HaveOne (fields_of t.records r) s → Ringless s
  inner_ringless r s ok h = (ok.1 s (directly h), λ w c. ok.1 w (in_front r s w h c))

  module _ (known : List Bool) (all : AllKnown (table t.records known)) where
    abbrev whole : Table
    whole = table t.records known

    -- marked is what contains the record, on the way to it
    pub record OnWay (ms : List Bool) (k : ℕ) : Type 0 where
      pub there : There k
      pub ringless : Ringless k
      pub long : length ms ≡ length t.records
      pub above : (s : ℕ) → slice_get ms s ≡ Some true → Contains t.records s k

    abbrev SizedIn : ℕ → Type 0
    SizedIn fuel = (ms : List Bool) (k : ℕ) → unmarked ms ≤ fuel → OnWay ms k → Is (within whole fuel k)

    unmarked_here : (ms : List Bool) (k : ℕ) (b : Bool) → OnWay ms k → slice_get ms k ≡ Some b → slice_get ms k ≡ Some false
    unmarked_here ms k true w e = absurd (w.ringless.0 (w.above k e))
    unmarked_here ms k false w e = e

    is_unmarked : (ms : List Bool) (k : ℕ) → OnWay ms k → slice_get ms k ≡ Some false
    is_unmarked ms k w =
        let l : k < length t.records = slice_get_within t.records k w.there.0 w.there.1 in
        let same : length ms ≡ length t.records = w.long in
        let found = mark_there ms k (omega arith) in
        unmarked_here ms k found.0 w found.1

    further_on : (ms : List Bool) (k s : ℕ) → OnWay ms k → HaveOne (fields_of t.records k) s → OnWay (slice_set ms k true) s
    further_on ms k s w h = record {
      there = have_there w.there.0.fields s (fields_stand t w.there.0.fields (gt.fields k w.there.0 w.there.1)) (subst (λ (o : Option RecordDef). HaveOne (fields_in o) s) w.there.1 h);
      ringless = inner_ringless k s w.ringless h;
      long = set_long ms k ∙ w.long;
      above = λ j m. elim (set_from ms k j m) [ inl g ↦ through (w.above j g) h | inr same ↦ directly (subst (λ (x : ℕ). HaveOne (fields_of t.records x) s) (sym same) h) ];
    }

    sized_next : (fuel : ℕ) (f : ℕ → Option ℕ) → ((ms : List Bool) (k : ℕ) → unmarked ms ≤ fuel → OnWay ms k → Is (f k)) → (ms : List Bool) (k : ℕ) → unmarked ms ≤ suc fuel → OnWay ms k → Is (record_layer f (layout.fields_of whole k))
    sized_next fuel f sized ms k h w =
        let d : RecordDef = w.there.0 in
        let free = is_unmarked ms k w in
        let count = set_count ms k free in
        let less : unmarked (slice_set ms k true) ≤ fuel = omega (arith, count, h) in
        let inner : (s : ℕ) → HaveOne d.fields s → Is (f s) =
        λ s g. sized (slice_set ms k true) s less (further_on ms k s w (subst (λ (o : Option RecordDef). HaveOne (fields_in o) s) (sym w.there.1) g)) in
        mapped_is even (fields_end f d.fields 0) (record_layer f (layout.fields_of whole k))
        (ap (record_layer f) (known_fields (slice_get known k) (slice_get t.records k) d (all k d w.there.1) w.there.1))
        (ends_at f d.fields 0 (all_held f d.fields inner))

    sized_in : (fuel : ℕ) → SizedIn fuel
    unfolding within
    sized_in zero ms k h w = absurd (let free = is_unmarked ms k w in let count = set_count ms k free in omega (arith, count, h))
    sized_in (suc fuel) ms k h w = sized_next fuel (within whole fuel) (sized_in fuel) ms k h w

    abbrev depth : ℕ
    depth = unmarked (replicate (length t.records) false)

    sized : (k : ℕ) → There k → Ringless k → Is (within whole depth k)
    sized k there ok =
        sized_in depth (replicate (length t.records) false) k (omega arith)
        (record { there = there; ringless = ok; long = long_replicate (length t.records); above = λ s m. absurd (none_marked (length t.records) s m) })

    mode_held : (m : Mode) → MayStand t m → HasNoRing t.records m → HeldIs (within whole depth) m
    mode_held m stands ok r e = sized r (holds_there m r stands e) (ok r e)

    pub mode_sized : (m : Mode) → MayStand t m → HasNoRing t.records m → Is (size (within whole depth) m)
    mode_sized m stands ok = from_held (within whole depth) m (mode_held m stands ok)

    fields_held : (fs : List Field) → AllStand t fs → AllByRecursion (λ f. HasNoRing t.records f.mode) fs → AllHeld (within whole depth) fs
    fields_held [] stand ok = tt
    fields_held (x ∷ fs) stand ok = (mode_held x.mode stand.0 ok.0, fields_held fs stand.1 ok.1)

    pub have_places : (fs : List Field) → AllStand t fs → AllByRecursion (λ f. HasNoRing t.records f.mode) fs → HavePlaces whole fs
    have_places fs stand ok =
        let held : AllHeld (within whole depth) fs = fields_held fs stand ok in record {
          begins = λ k f e. let at = begins_at (within whole depth) fs k f e held in (at.0, (depth, at.1));
          ends = let at = ends_at (within whole depth) fs 0 held in (at.0, (depth, at.1));
        }

pub modes_have_sizes : ModesHaveSizes
modes_have_sizes t known m gt all stands ok = let is = mode_sized t gt known all m stands ok in (is.0, (depth t gt known all, is.1))

pub fields_have_places : FieldsHavePlaces
fields_have_places t known fs gt all stand ok = have_places t gt known all fs stand ok

pub no_rings : NoRings
no_rings records m none r e = (none r, λ s c. none s)
