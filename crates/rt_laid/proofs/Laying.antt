-- A layout keeps what is asked of places.
use Rattle.std.specs.Prelude.{nat_lt}
use Rattle.std.proofs.Common.{◌≡◌, ◌⊎◌, inl, inr, ℕ, zero, suc, ◌+◌, ◌*◌, ◌%◌, ◌<◌, ◌≤◌, true, false, Bool, ◌&&◌, ◌-◌, List, [], ◌∷◌, length, replicate, take, Option, Some, None, slice_get, refl, sym, ap, ◌∙◌, subst, arith}
use Rattle.rt_modes.specs.declared.mode.Field.{Field}
use Rattle.rt_modes.specs.declared.mode.Mode.{Mode, out-Mode, roll-Mode, map-Mode, the_lemmas}
use Rattle.rt_modes.specs.declared.mode.Mode.TheOpen.{Mode-F}
use Rattle.rt_modes.specs.declared.mode.ModeTable.{ModeTable}
use Rattle.rt_modes.specs.declared.mode.RecordDef.{RecordDef}
use Rattle.rt_modes.specs.FullMode.{FullMode}
use Rattle.rt_tree_nodes.specs.declared.brick.ModuleParts.{ModuleParts}
use Rattle.rt_tree_nodes.specs.declared.store.Datum.TheVariants.{Row}
use Rattle.rt_tree_nodes.specs.declared.store.Location.{Location}
use Rattle.rt_tree_nodes.specs.declared.store.Location.TheVariants.{Shared}
use Rattle.rt_tree_nodes.specs.declared.store.Origin.{Origin}
use Rattle.rt_tree_nodes.specs.declared.store.Origin.TheVariants as origin
use Rattle.rt_tree.specs.FullModes.{MayStand, FullModesTell}
use Rattle.rt_tree.specs.Opened.{IsTable, LevelSame, FullModesOpen}
use Rattle.rt_tree.specs.Stored as stored
use Rattle.rt_tree.specs.Stored.{StandsAt, Suits, module_of, text_mode}
use Rattle.rt_sizes.specs.Capped.{table}
use Rattle.rt_sizes.specs.Sizes.{size, offset, offset_by, fields_end}
use Rattle.rt_sizes_laws.specs.Laws.{AreOne}
use Rattle.rt_sizes_laws.proofs.Deeper.{whole_lists_are_known}
use Rattle.rt_sizes_laws.proofs.Lying.{records_lie_alike, one_size}
use Rattle.rt_tree_laws.proofs.Telling.{array_stands, in_table, row_stands}
use Rattle.rt_work_state.specs.Stores.{deeper}
use Rattle.rt_meaning_laws.specs.Grounds.{Sound}
use Rattle.rt_meaning_laws.specs.Levels.{IsTableOf, of_module, MayBe, IsEmptyString}
use Rattle.rt_tree.specs.declared.standing.Standing.TheVariants as standing
use Rattle.rt_tree.specs.Modules.{Stands as Standings, is_alone, is_length, stands, layer_stands}
use Rattle.rt_modes.specs.declared.mode.Mode.TheFolds.{fold_out-Mode}
use Rattle.rt_meaning_laws.specs.Slots.{LeadsTo, IsByte, IsOf}
use Rattle.rt_icode_meaning.specs.Typed.{IsSize, BeginsAt}
use Rattle.rt_places.specs.Places as spot
use Rattle.rt_places.specs.Places.{IsPart}
use Rattle.rt_places.specs.Along.{by, reach}
use Rattle.rt_places.specs.Systems as places
use Rattle.rt_places.specs.Systems.{module_in, records_in, string_in}
use Rattle.rt_places.proofs.Standing.{Stands, Place, place}
use Rattle.rt_places.proofs.Whole.{above, evenly_at, word_below, byte_below, all_apart, all_one}
use Rattle.rt_places.proofs.Deeper.{part_lies_at}
use Rattle.rt_follows.specs.Whole.{Whole, IsDataWord, IsDataByte, room_by, Apart}
use Rattle.rt_laid.specs.Laid.{IsLaid, PlacesLie}

room_same : (z : Mode-F Mode) → spot.room_by z ≡ room_by z
room_same Mode-F.Byte = refl
room_same (Mode-F.Record r) = refl
room_same _ = refl

stands_at : (n : ℕ) (m : Mode) (l : Mode-F Mode) → out-Mode m ≡ l → stands n m ≡ layer_stands n (map-Mode Mode Standings (stands n) l)
stands_at n m l o = rw (fold_out-Mode, o) refl

third : (a b c d : Bool) → a && (b && (c && d)) ≡ true → c ≡ true
third true true true d e = refl
third true true false d e = absurd cc
third true false c d e = absurd cc
third false b c d e = absurd cc

-- the length of an array that may stand
array_length : (t : ModeTable) (m w : Mode) (n : ℕ) → out-Mode m ≡ Mode-F.Array n w → MayStand t m → is_length n ≡ true
array_length t m w n e h =
    third (is_alone h.place) (nat_lt 0 h.levels) (is_length n) (stands (length t.records) w standing.Inside (h.levels - 1) 8) (sym (ap (λ (f : Standings). f h.place h.levels h.refs) (stands_at (length t.records) m (Mode-F.Array n w) e)) ∙ h.passes)

one_out : (m n : Mode) → out-Mode m ≡ out-Mode n → m ≡ n
one_out m n e =
    let a : roll-Mode (out-Mode m) ≡ m = search the_lemmas in
    let b : roll-Mode (out-Mode n) ≡ n = search the_lemmas in sym a ∙ ap roll-Mode e ∙ b

one_empty : (m n : Mode) → IsEmptyString m → IsEmptyString n → m ≡ n
one_empty m n a b =
    let inner = one_out a.0 b.0 (a.2 ∙ sym b.2) in
    one_out m n (a.1 ∙ ap (λ (z : Mode). Mode-F.Array 0 z) inner ∙ sym b.1)

never_empty : (k : ℕ) → 0 ≡ k → is_length k ≡ true → ⊥
never_empty zero e h = absurd cc
never_empty (suc k) e h = absurd (omega arith)

row_is : (z : Mode-F Mode) (c e : Mode) → z ≡ Mode-F.RefArray c → z ≡ Mode-F.RefArray e → c ≡ e
row_is z c e o i = cc

has_field_by : (S : ℕ → Option ℕ) (f : Option Field) (x : Option ℕ) (o : ℕ) → offset_by S f x ≡ Some o → (d : Field) × (f ≡ Some d)
has_field_by S None x o h = absurd cc
has_field_by S (Some d) x o h = (d, refl)

pub has_field : (S : ℕ → Option ℕ) (fs : List Field) (k o : ℕ) → offset S fs k ≡ Some o → (d : Field) × (slice_get fs k ≡ Some d)
has_field S fs k o h = has_field_by S (slice_get fs k) (fields_end S (take k fs) 0) o h

pub no_text : (S : ℕ → Option ℕ) (records : List RecordDef) (o : Option (List ℕ)) → by (λ s. reach records S [] (text_mode s)) o ≡ 0
no_text S records None = refl
no_text S records (Some s) = refl

module _ (opens : FullModesOpen) (tells : FullModesTell) (w : Whole) (S : ℕ → ℕ → Option ℕ) (so : Sound w.ps) (known : (t : ModeTable) → IsTableOf w.ps t → IsTable t) (laid : IsLaid w S) where
  abbrev At : Location → ℕ
  At l = places.address w.ps S w.base l

  abbrev PlaceOf : Location → ModeTable → Mode → Type 0
  PlaceOf l t v = Place w.ps S laid.sized l t v

  placed : {l : Location} {t : ModeTable} {v : Mode} → StandsAt w.ps l t v → PlaceOf l t v
  placed {l} {t} {v} h = place w.ps S laid.sized l t v h

  -- ---- in the data, even, and apart

  words : {l : Location} {u : ModeTable} {v : Mode} → StandsAt w.ps l u v → (IsByte v → ⊥) → ((r : ℕ) → out-Mode v ≡ Mode-F.Record r → ⊥) → IsDataWord w (w.address l)
  words {l} {u} {v} h isnt nor =
      let p = placed h in
      let e : w.address l ≡ At l = laid.address l in record {
        even = subst (λ (x : ℕ). x % 2 ≡ 0) (sym e) (evenly_at w.ps S laid.sized w.base w.code_end w.data_end laid.bases l u v p isnt);
        above = subst (λ (x : ℕ). w.code_end ≤ x) (sym e) (above w.ps S laid.sized w.base w.code_end w.data_end laid.bases l u v p);
        below = subst (λ (x : ℕ). x + 1 < w.data_end) (sym e) (word_below w.ps S laid.sized w.base w.code_end w.data_end laid.bases l u v p isnt nor);
      }

  bytes : {l : Location} {u : ModeTable} {v : Mode} → StandsAt w.ps l u v → IsByte v → IsDataByte w (w.address l)
  bytes {l} {u} {v} h is =
      let p = placed h in
      let e : w.address l ≡ At l = laid.address l in record {
        above = subst (λ (x : ℕ). w.code_end ≤ x) (sym e) (above w.ps S laid.sized w.base w.code_end w.data_end laid.bases l u v p);
        below = subst (λ (x : ℕ). x < w.data_end) (sym e) (byte_below w.ps S laid.sized w.base w.code_end w.data_end laid.bases l u v p);
      }

  small : {l : Location} {u : ModeTable} {v : Mode} → StandsAt w.ps l u v → w.address l < 65536
  small {l} {u} {v} h =
      let e : w.address l ≡ At l = laid.address l in
      let b : At l < w.data_end = byte_below w.ps S laid.sized w.base w.code_end w.data_end laid.bases l u v (placed h) in
      let s = laid.small in omega arith

  roomy : {l k : Location} (x y : Mode-F Mode) → (l ≡ k) ⊎ Apart (At l) (spot.room_by x) (At k) (spot.room_by y) → (l ≡ k) ⊎ Apart (At l) (room_by x) (At k) (room_by y)
  roomy {l} {k} x y h = subst (λ (n : ℕ). (l ≡ k) ⊎ Apart (At l) n (At k) (room_by y)) (room_same x) (subst (λ (n : ℕ). (l ≡ k) ⊎ Apart (At l) (spot.room_by x) (At k) n) (room_same y) h)

  apart : {l k : Location} {t u : ModeTable} {v e : Mode} → StandsAt w.ps l t v → StandsAt w.ps k u e → (l ≡ k) ⊎ Apart (w.address l) (room_by (out-Mode v)) (w.address k) (room_by (out-Mode e))
  apart {l} {k} {t} {u} {v} {e} h i =
      let all = all_apart w.ps S laid.sized w.base w.code_end w.data_end laid.bases l k t u v e (placed h) (placed i) in
      subst (λ (x : ℕ). (l ≡ k) ⊎ Apart x (room_by (out-Mode v)) (w.address k) (room_by (out-Mode e))) (sym (laid.address l))
      (subst (λ (x : ℕ). (l ≡ k) ⊎ Apart (At l) (room_by (out-Mode v)) x (room_by (out-Mode e))) (sym (laid.address k)) (roomy {l = l} {k = k} (out-Mode v) (out-Mode e) all))

  -- ---- one to one

  -- modes of one table of one full mode are one, also that of a string without a byte
  levels : (t u : ModeTable) (v x : Mode) → IsTableOf w.ps t → IsTableOf w.ps u → MayBe t v → MayBe u x → FullMode t v ≡ FullMode u x → LevelSame t u (out-Mode v) (out-Mode x)
  levels t u v x a b c d e = so.tells t u a b v x c d e

  array_level : (t u : ModeTable) (n : ℕ) (a : Mode) (z : Mode-F Mode) → LevelSame t u (Mode-F.Array n a) z → (k : ℕ) × (b : Mode) × (z ≡ Mode-F.Array k b) × (n ≡ k)
  array_level t u n a (Mode-F.Array k b) h = (k, b, refl, h.0)
  array_level t u n a _ h = absurd h

  no_empty : (t u : ModeTable) (v x : Mode) → IsTableOf w.ps t → IsTableOf w.ps u → IsEmptyString v → MayStand u x → FullMode t v ≡ FullMode u x → ⊥
  no_empty t u v x a b c d e =
      let equals = levels t u v x a b (inr c) (inl d) e in
      let is = array_level t u 0 c.0 (out-Mode x) (subst (λ (z : Mode-F Mode). LevelSame t u z (out-Mode x)) c.1 equals) in
      never_empty is.0 is.3 (array_length u x is.1 is.0 is.2 d)

  -- a place to which one leads of a mode is of a mode that may stand
  stands_there : (t : ModeTable) (v : Mode) (l : Location) (h : LeadsTo w.ps t v l) → IsTableOf w.ps t → MayStand h.table h.is
  stands_there t v l h k = elim (h.there) [ inl s ↦ s | inr e ↦ absurd (no_empty h.table t h.is v h.known k e h.here h.same) ]

  are_one : (t : ModeTable) (v : Mode) (l : Location) (h : LeadsTo w.ps t v l) → IsTableOf w.ps t → AreOne h.table t h.is v
  are_one t v l h k = record { left = stands_there t v l h k; right = h.here; same = h.same }

  -- two modes of one full mode of one table are one
  mode_by : (t : ModeTable) (m n : Mode) → IsTableOf w.ps t → MayStand t m → MayStand t n → FullMode t m ≡ FullMode t n → m ≡ n
  mode_by t m n it sm sn e = let g = known t it in tells t m n g.names g.apart sm sn e

  modes_by : (t : ModeTable) (m n : Mode) → IsTableOf w.ps t → MayBe t m → MayBe t n → FullMode t m ≡ FullMode t n → m ≡ n
  modes_by t m n it (inl a) (inl b) e = mode_by t m n it a b e
  modes_by t m n it (inl a) (inr b) e = absurd (no_empty t t n m it it b a (sym e))
  modes_by t m n it (inr a) (inl b) e = absurd (no_empty t t m n it it a b e)
  modes_by t m n it (inr a) (inr b) e = one_empty m n a b

  one_mode : (t : ModeTable) (v : Mode) (l k : Location) (h : LeadsTo w.ps t v l) (i : LeadsTo w.ps t v k) → h.table ≡ i.table → h.is ≡ i.is
  one_mode t v l k h i e =
      let back : FullMode h.table i.is ≡ FullMode t v = ap (λ (z : ModeTable). FullMode z i.is) e ∙ i.same in
      modes_by h.table h.is i.is h.known h.there (subst (λ (z : ModeTable). MayBe z i.is) (sym e) i.there) (h.same ∙ sym back)

  one_to_one : (t : ModeTable) (v : Mode) (l k : Location) → LeadsTo w.ps t v l → LeadsTo w.ps t v k → w.address l ≡ w.address k → l ≡ k
  one_to_one t v l k h i e =
      all_one w.ps S laid.sized w.base w.code_end w.data_end laid.bases l k h.table i.table h.is i.is (placed h.at) (placed i.at) (one_mode t v l k h i) (sym (laid.address l) ∙ e ∙ laid.address k)

  -- ---- parts

  its_by : (o : Origin) (path : List ℕ) (t : ModeTable) (v : Mode) (x : ℕ) → Stands w.ps S laid.sized (Shared o path) t v x → (p : ModuleParts) × (module_of w.ps (module_in o) ≡ Some p) × (t ≡ p.modes)
  its_by (origin.Brick m b) [] t v x h = absurd h
  its_by (origin.Brick m b) (j ∷ path) t v x h = (h.room.parts, h.room.has.of, h.table)
  its_by (origin.Text m k) path t v x h = (h.room.parts, h.room.of, h.table)

  -- the part of a place that begins a bytes on
  part_at : (l : Location) (t : ModeTable) (v e : Mode) (a k : ℕ) (p : PlaceOf l t v) → IsPart t.records (S (module_in p.origin)) k v e a → w.address (deeper l k) ≡ w.address l + a
  part_at l t v e a k p part =
      let next = part_lies_at w.ps S laid.sized w.base l t v e a k p part in
      laid.address (deeper l k) ∙ next ∙ ap (λ (x : ℕ). x + a) (sym (laid.address l))

  field_at : (l : Location) (u : ModeTable) (x : Mode) (q k o : ℕ) (d : RecordDef) → StandsAt w.ps l u x → out-Mode x ≡ Mode-F.Record q → slice_get u.records q ≡ Some d → BeginsAt u d.fields k o → w.address (deeper l k) ≡ w.address l + o
  field_at l u x q k o d h is at begins =
      let p = placed h in
      let its = its_by p.origin p.path u x p.at p.stands in
      let place : offset (S (module_in p.origin)) d.fields k ≡ Some o = laid.begin (module_in p.origin) its.0 d.fields k o its.1 (subst (λ (z : ModeTable). BeginsAt z d.fields k o) its.2 begins) in
      let field = has_field (S (module_in p.origin)) d.fields k o place in
      part_at l u x field.0.mode o k p (inl (record { number = q; def = d; field = field.0; is = is; at = at; has = field.1; mode = refl; begins = place }))

  element_at : (l : Location) (u : ModeTable) (x e : Mode) (n i s : ℕ) → StandsAt w.ps l u x → out-Mode x ≡ Mode-F.Array n e → IsSize u e s → i < n → w.address (deeper l i) ≡ w.address l + (2 + s * i)
  element_at l u x e n i s h is sized less =
      let p = placed h in
      let its = its_by p.origin p.path u x p.at p.stands in
      let bytes : size (S (module_in p.origin)) e ≡ Some s = laid.bytes (module_in p.origin) its.0 e s its.1 (subst (λ (z : ModeTable). IsSize z e s) its.2 sized) in
      part_at l u x e (2 + s * i) i p (inr (record { count = n; bytes = s; is = is; in_it = less; sized = bytes; begins = refl }))

  record_level : (t u : ModeTable) (r : ℕ) (z : Mode-F Mode) → LevelSame t u z (Mode-F.Record r) → (q : ℕ) × (z ≡ Mode-F.Record q)
  record_level t u r (Mode-F.Record q) h = (q, refl)
  record_level t u r _ h = absurd h

  fields : (t : ModeTable) (v : Mode) (l : Location) (r k o : ℕ) (d : RecordDef) → IsTableOf w.ps t → LeadsTo w.ps t v l → out-Mode v ≡ Mode-F.Record r → slice_get t.records r ≡ Some d → BeginsAt t d.fields k o → w.address (deeper l k) ≡ w.address l + o
  fields t v l r k o d it h is at begins =
      let one = are_one t v l h it in
      let gu = known h.table h.known in
      let gt = known t it in
      let level : LevelSame h.table t (out-Mode h.is) (Mode-F.Record r) = subst (λ (z : Mode-F Mode). LevelSame h.table t (out-Mode h.is) z) is (levels h.table t h.is v h.known it h.there (inl h.here) h.same) in
      let q = record_level h.table t r (out-Mode h.is) level in
      let e = in_table h.table gu.names gu.apart h.is (Mode-F.Record q.0) one.left q.1 in
      let back : AreOne t h.table v h.is = record { left = one.right; right = one.left; same = sym one.same } in
      let alike = records_lie_alike opens t h.table v h.is r q.0 d e.0 gt gu back is q.1 at e.1 in
      let there : BeginsAt h.table e.0.fields k o = alike.begin_too (replicate (length t.records) true) (replicate (length h.table.records) true) k o (whole_lists_are_known h.table.records) begins in
      field_at l h.table h.is q.0 k o e.0 h.at q.1 e.1 there

  array_back : (t u : ModeTable) (n : ℕ) (e : Mode) (z : Mode-F Mode) → LevelSame t u z (Mode-F.Array n e) → (k : ℕ) × (b : Mode) × (z ≡ Mode-F.Array k b) × (k ≡ n) × (FullMode t b ≡ FullMode u e)
  array_back t u n e (Mode-F.Array k b) h = (k, b, refl, h.0, h.1)
  array_back t u n e _ h = absurd h

  elements : (t : ModeTable) (v e : Mode) (l : Location) (n i s : ℕ) → IsTableOf w.ps t → LeadsTo w.ps t v l → out-Mode v ≡ Mode-F.Array n e → IsSize t e s → i < n → w.address (deeper l i) ≡ w.address l + (2 + s * i)
  elements t v e l n i s it h is sized less =
      let one = are_one t v l h it in
      let gu = known h.table h.known in
      let gt = known t it in
      let level : LevelSame h.table t (out-Mode h.is) (Mode-F.Array n e) = subst (λ (z : Mode-F Mode). LevelSame h.table t (out-Mode h.is) z) is (levels h.table t h.is v h.known it h.there (inl h.here) h.same) in
      let q = array_back h.table t n e (out-Mode h.is) level in
      let inner : AreOne t h.table e q.1 = record { left = array_stands t gt.names gt.apart v e n is one.right; right = array_stands h.table gu.names gu.apart h.is q.1 q.0 q.2 one.left; same = sym q.4 } in
      let bytes : IsSize h.table q.1 s = (one_size opens t h.table e q.1 gt gu inner).too (replicate (length t.records) true) (replicate (length h.table.records) true) s (whole_lists_are_known h.table.records) sized in
      let count : q.0 ≡ n = q.3 in
      element_at l h.table h.is q.1 q.0 i s h.at q.2 bytes (omega arith)

  table_at : (l : Location) (u : ModeTable) (x : Mode) → StandsAt w.ps l u x → IsTableOf w.ps u
  table_at l u x h =
      let p = placed h in
      let its = its_by p.origin p.path u x p.at p.stands in
      subst (λ (z : ModeTable). IsTableOf w.ps z) (sym its.2) (of_module (module_in p.origin) its.1)

  row_by : (t : ModeTable) (v e : Mode) (l : Location) (n i s : ℕ) → IsTableOf w.ps t → MayStand t v → out-Mode v ≡ Mode-F.RefArray e → IsSize t e s → i < n → Suits w.ps t v (Row l n) → w.address (deeper l i) ≡ w.address l + (2 + s * i)
  row_by t v e l n i s it may is sized less (stored.row {u = u} {v = x} {e = b} {w = c} o h array full) =
      let elem : c ≡ e = row_is (out-Mode v) c e o is in
      let gt = known t it in
      let at = table_at l u x h in
      let gu = known u at in
      let inner : AreOne t u e b = record { left = row_stands t gt.names gt.apart v e is may; right = (so.elements l u x b n h array).0; same = sym (full ∙ ap (FullMode t) elem) } in
      let bytes : IsSize u b s = (one_size opens t u e b gt gu inner).too (replicate (length t.records) true) (replicate (length u.records) true) s (whole_lists_are_known u.records) sized in
      element_at l u x b n i s h array bytes less

  rows : (t : ModeTable) (v e : Mode) (l : Location) (n i s : ℕ) → IsTableOf w.ps t → IsOf w.ps t v (Row l n) → out-Mode v ≡ Mode-F.RefArray e → IsSize t e s → i < n → w.address (deeper l i) ≡ w.address l + (2 + s * i)
  rows t v e l n i s it h is sized less = row_by t v e l n i s it h.1 is sized less h.0

  texts : (m k : ℕ) → w.address (Shared (origin.Text m k) []) ≡ w.base (origin.Text m k)
  texts m k =
      let e : w.address (Shared (origin.Text m k) []) ≡ At (Shared (origin.Text m k) []) = laid.address (Shared (origin.Text m k) []) in
      let none = no_text (S m) (records_in (module_of w.ps m)) (string_in (module_of w.ps m) k) in omega arith

  pub places_lie : PlacesLie w
  places_lie = record { words = words; bytes = bytes; small = small; apart = apart; one_to_one = one_to_one; fields = fields; elements = elements; rows = rows; texts = texts }
