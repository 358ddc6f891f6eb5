-- A path leads as far on by the records of one module as by those of another, from modes of one full mode.
use Rattle.std.proofs.Common.{true, ◌≡◌, ℕ, zero, suc, ◌+◌, ◌*◌, ◌<◌, inl, inr, List, [], ◌∷◌, length, replicate, map, Option, Some, None, option_map, slice_get, refl, sym, ap, ◌∙◌, subst, arith}
use Rattle.std.proofs.lemmas.Option.{slice_get_within}
use Rattle.rt_modes.specs.declared.mode.Mode.{Mode, out-Mode, roll-Mode, map-Mode}
use Rattle.rt_modes.specs.declared.mode.Mode.TheFolds.{ind-Mode}
use Rattle.rt_modes.specs.declared.mode.Mode.TheOpen.{Mode-F}
use Rattle.rt_modes.specs.declared.mode.RecordDef.{RecordDef}
use Rattle.rt_tree_nodes.specs.declared.brick.ModuleParts.{ModuleParts}
use Rattle.rt_tree.specs.Opened.{IsTable, LevelSame, FullModesOpen}
use Rattle.rt_sizes.specs.Sizes.{even, within, size, offset}
use Rattle.rt_sizes.proofs.Layers.{out_roll, size_at, some_is}
use Rattle.rt_sizes_laws.specs.Laws.{AreOne}
use Rattle.rt_sizes_laws.proofs.Deeper.{Quantity, Grows, Has, size_of, size_grows, place_of, place_grows, whole_lists_are_known}
use Rattle.rt_sizes_laws.proofs.Alike.{level_at}
use Rattle.rt_sizes_laws.proofs.Lying.{records_lie_alike, one_element}
use Rattle.rt_tree_laws.proofs.Telling.{in_table}
use Rattle.rt_lower.specs.declared.layouts.Layouts.{Layouts}
use Rattle.rt_lower.specs.Layouts.{AreLayouts, FieldsBegin, table_of}
use Rattle.rt_icode_meaning.specs.Typed.{IsSize, BeginsAt}
use Rattle.rt_places.specs.Places.{IsField, IsElement, IsPart, Leads}
use Rattle.rt_places.proofs.Fields.{mapped_left}
use Rattle.rt_places.proofs.Told as told
use Rattle.rt_laid.proofs.Laying.{has_field}

-- ---- what a list of sizes tells, some depth tells

module _ (p : ModuleParts) (l : Layouts) (right : AreLayouts p l) where
  abbrev pub S : ℕ → Option ℕ
  S k = slice_get l.sizes k

  abbrev Back : Mode → Type 0
  Back m = (n : ℕ) → size S m ≡ Some n → IsSize p.modes m n

  abbrev BackPair : Type 0
  BackPair = (m : Mode) × Back m

  plain_back : (m : Mode) (z : Mode-F Mode) (n : ℕ) → out-Mode m ≡ z → ((f : ℕ → Option ℕ) → size f m ≡ Some 2) → size S m ≡ Some n → IsSize p.modes m n
  plain_back m z n o two h = (0, two (within (table_of p.modes.records) 0) ∙ (sym (two S) ∙ h))

  back_level : (m : Mode) (y : Mode-F BackPair) → out-Mode m ≡ map-Mode BackPair Mode (λ e. e.0) y → Back m
  back_level m Mode-F.Byte o n h = (0, size_at (within (table_of p.modes.records) 0) m Mode-F.Byte o ∙ (sym (size_at S m Mode-F.Byte o) ∙ h))
  back_level m Mode-F.Int o n h = plain_back m Mode-F.Int n o (λ f. size_at f m Mode-F.Int o) h
  back_level m Mode-F.Frac o n h = plain_back m Mode-F.Frac n o (λ f. size_at f m Mode-F.Frac o) h
  back_level m Mode-F.Label o n h = plain_back m Mode-F.Label n o (λ f. size_at f m Mode-F.Label o) h
  back_level m (Mode-F.Ref a) o n h = plain_back m (Mode-F.Ref a.0) n o (λ f. size_at f m (Mode-F.Ref a.0) o) h
  back_level m (Mode-F.RefArray a) o n h = plain_back m (Mode-F.RefArray a.0) n o (λ f. size_at f m (Mode-F.RefArray a.0) o) h
  back_level m (Mode-F.Array k a) o n h =
      let in_it = mapped_left (λ x. even (2 + k * x)) (size S a.0) n (sym (size_at S m (Mode-F.Array k a.0) o) ∙ h) in
      let deep = a.1 in_it.0 in_it.1 in
      (deep.0, size_at (within (table_of p.modes.records) deep.0) m (Mode-F.Array k a.0) o ∙ ap (option_map (λ x. even (2 + k * x))) deep.1 ∙ ap (λ (z : ℕ). Some z) in_it.2)
  back_level m (Mode-F.Record r) o n h =
      let own : S r ≡ Some n = sym (size_at S m (Mode-F.Record r) o) ∙ h in
      let deep = right.sizes.right r n own in
      (deep.0, size_at (within (table_of p.modes.records) deep.0) m (Mode-F.Record r) o ∙ deep.1)
  back_level m (Mode-F.Proc ps None) o n h = plain_back m (Mode-F.Proc (map (λ (e : BackPair). e.0) ps) None) n o (λ f. size_at f m (Mode-F.Proc (map (λ (e : BackPair). e.0) ps) None) o) h
  back_level m (Mode-F.Proc ps (Some r)) o n h = plain_back m (Mode-F.Proc (map (λ (e : BackPair). e.0) ps) (Some r.0)) n o (λ f. size_at f m (Mode-F.Proc (map (λ (e : BackPair). e.0) ps) (Some r.0)) o) h

  pub size_back : (m : Mode) → Back m
  size_back = ind-Mode Back (λ x y is. back_level (roll-Mode x) y (out_roll x ∙ sym is))

  pub tells : (q : Quantity) → Grows q → (n : ℕ) → Has (table_of p.modes.records) q n → q S ≡ Some n
  tells q grows n h = told.told p.modes.records l.sizes right.sizes.each right.sizes.right q grows n h

  there_is : {A : Type 0} (xs : List A) (k : ℕ) → k < length xs → (x : A) × (slice_get xs k ≡ Some x)
  there_is [] k less = absurd (omega arith)
  there_is (x ∷ xs) zero less = (x, refl)
  there_is (x ∷ xs) (suc k) less = there_is xs k (omega arith)

  pub begins_back : (r k a : ℕ) (d : RecordDef) → slice_get p.modes.records r ≡ Some d → offset S d.fields k ≡ Some a → BeginsAt p.modes d.fields k a
  begins_back r k a d at h =
      let less = slice_get_within p.modes.records r d at in
      let each : length l.fields ≡ length p.modes.records = right.fields.each in
      let row = there_is l.fields r (omega arith) in
      let offsets : FieldsBegin (table_of p.modes.records) d row.0 = right.fields.right r d row.0 at row.1 in
      let field = has_field S d.fields k a h in
      let within_fields = slice_get_within d.fields k field.0 field.1 in
      let many : length row.0 ≡ length d.fields = offsets.each in
      let n = there_is row.0 k (omega arith) in
      let begins = offsets.begin k n.0 n.1 in
      let same : n.0 ≡ a = some_is n.0 a (sym (tells (place_of d.fields k) (place_grows d.fields k) n.0 begins) ∙ h) in
      subst (λ (z : ℕ). BeginsAt p.modes d.fields k z) same begins

-- ---- two modules

module _ (opens : FullModesOpen) (p q : ModuleParts) (l j : Layouts) (left : AreLayouts p l) (right : AreLayouts q j) (gt : IsTable p.modes) (gu : IsTable q.modes) where
  abbrev St : ℕ → Option ℕ
  St k = slice_get l.sizes k

  abbrev Su : ℕ → Option ℕ
  Su k = slice_get j.sizes k

  record_right : (r : ℕ) (z : Mode-F Mode) → LevelSame p.modes q.modes (Mode-F.Record r) z → (s : ℕ) × (z ≡ Mode-F.Record s)
  record_right r (Mode-F.Record s) h = (s, refl)
  record_right r _ h = absurd h

  array_right : (n : ℕ) (e : Mode) (z : Mode-F Mode) → LevelSame p.modes q.modes (Mode-F.Array n e) z → (k : ℕ) × (f : Mode) × (z ≡ Mode-F.Array k f)
  array_right n e (Mode-F.Array k f) h = (k, f, refl)
  array_right n e _ h = absurd h

  abbrev One : Mode → Mode → Type 0
  One m n = AreOne p.modes q.modes m n

  record Other (k : ℕ) (n e : Mode) (a : ℕ) : Type 0 where
    pub other : Mode
    pub part : IsPart q.modes.records Su k n other a
    pub one : One e other

  other_field : (k : ℕ) (m n e : Mode) (a : ℕ) → One m n → IsField p.modes.records St k m e a → Other k n e a
  other_field k m n e a one h =
      let level : LevelSame p.modes q.modes (Mode-F.Record h.number) (out-Mode n) = level_at opens p.modes q.modes gt gu m n (Mode-F.Record h.number) (out-Mode n) h.is refl one in
      let s = record_right h.number (out-Mode n) level in
      let d = in_table q.modes gu.names gu.apart n (Mode-F.Record s.0) one.right s.1 in
      let alike = records_lie_alike opens p.modes q.modes m n h.number s.0 h.def d.0 gt gu one h.is s.1 h.at d.1 in
      let less = slice_get_within h.def.fields k h.field h.has in
      let many : length h.def.fields ≡ length d.0.fields = alike.each in
      let f = there_is q j right d.0.fields k (omega arith) in
      let begins = begins_back p l left h.number k a h.def h.at h.begins in
      let too = alike.begin_too (replicate (length p.modes.records) true) (replicate (length q.modes.records) true) k a (whole_lists_are_known q.modes.records) begins in
      record {
        other = f.0.mode;
        part = inl (record { number = s.0; def = d.0; field = f.0; is = s.1; at = d.1; has = f.1; mode = refl; begins = tells q j right (place_of d.0.fields k) (place_grows d.0.fields k) a too });
        one = subst (λ (z : Mode). One z f.0.mode) h.mode (alike.modes k h.field f.0 h.has f.1);
      }

  other_element : (k : ℕ) (m n e : Mode) (a : ℕ) → One m n → IsElement p.modes.records St k m e a → Other k n e a
  other_element k m n e a one h =
      let level : LevelSame p.modes q.modes (Mode-F.Array h.count e) (out-Mode n) = level_at opens p.modes q.modes gt gu m n (Mode-F.Array h.count e) (out-Mode n) h.is refl one in
      let s = array_right h.count e (out-Mode n) level in
      let inner = one_element opens p.modes q.modes m n e s.1 h.count s.0 gt gu one h.is s.2 in
      let count : h.count ≡ s.0 = inner.0 in
      let in_it : k < h.count = h.in_it in
      let sized = size_back p l left e h.bytes h.sized in
      let too = inner.2.too (replicate (length p.modes.records) true) (replicate (length q.modes.records) true) h.bytes (whole_lists_are_known q.modes.records) sized in
      record {
        other = s.1;
        part = inr (record { count = s.0; bytes = h.bytes; is = s.2; in_it = omega arith; sized = tells q j right (size_of s.1) (size_grows s.1) h.bytes too; begins = h.begins });
        one = inner.1;
      }

  other_part : (k : ℕ) (m n e : Mode) (a : ℕ) → One m n → IsPart p.modes.records St k m e a → Other k n e a
  other_part k m n e a one (inl h) = other_field k m n e a one h
  other_part k m n e a one (inr h) = other_element k m n e a one h

  -- as far on, and to a mode of one full mode
  pub leads_alike : (path : List ℕ) (m n v : Mode) (a : ℕ) → One m n → Leads p.modes.records St path m v a → (w : Mode) × Leads q.modes.records Su path n w a × One v w
  leads_alike [] m n v a one h = (n, (refl, h.1), subst (λ (z : Mode). One z n) h.0 one)
  leads_alike (k ∷ ks) m n v a one (e, x, y, part, rest, is) =
      let first = other_part k m n e x one part in
      let deep = leads_alike ks e first.other v y first.one rest in
      (deep.0, (first.other, x, y, first.part, deep.1, is), deep.2)
