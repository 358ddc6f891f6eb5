-- Fields and elements of places that are there.
use Rattle.std.proofs.Common.{◌≡◌, inl, ℕ, zero, suc, ◌-◌, nat_lt, ◌&&◌, Bool, true, false, List, [], ◌∷◌, ◌++◌, Option, Some, None, length, slice_get, refl, sym, ap, ◌∙◌, subst, arith}
use Rattle.std.proofs.lemmas.Bool.Decides.{nat_tests}
use Rattle.rt_modes.specs.declared.mode.Field.{Field}
use Rattle.rt_modes.specs.declared.mode.Mode.{Mode, out-Mode}
use Rattle.rt_modes.specs.declared.mode.Mode.TheOpen.{Mode-F}
use Rattle.rt_modes.specs.declared.mode.Mode.TheVariants as mode
use Rattle.rt_modes.specs.declared.mode.ModeTable.{ModeTable}
use Rattle.rt_modes.specs.declared.mode.RecordDef.{RecordDef}
use Rattle.rt_modes.specs.FullMode.{FullMode, fields_in, fields_of}
use Rattle.rt_tree_nodes.specs.declared.store.Datum.{Datum}
use Rattle.rt_tree_nodes.specs.declared.store.Datum.TheVariants.{Reference, Row}
use Rattle.rt_tree_nodes.specs.declared.store.Location.{Location}
use Rattle.rt_tree_nodes.specs.Scopes.{with, field_at, field_mode}
use Rattle.rt_tree.specs.declared.standing.Standing.{Standing}
use Rattle.rt_tree.specs.declared.standing.Standing.TheVariants as standing
use Rattle.rt_tree.specs.Modules.{Stands, stands, is_alone, is_length, part_mode, mode_along}
use Rattle.rt_tree.specs.Stored as s
use Rattle.rt_tree.specs.Stored.{System, StandsAt, Suits}
use Rattle.rt_work_state.specs.Stores.{deeper}
use Rattle.rt_work.specs.Task.{in_row}
use Rattle.rt_tree.specs.FullModes.{MayStand}
use Rattle.rt_tree.specs.Opened.{Same, FieldsSame, LevelSame}
use Rattle.rt_meaning_laws.specs.Levels.{IsTableOf, of_module}
use Rattle.rt_meaning_laws.specs.Slots.{LeadsTo, IsOf}
use Rattle.rt_meaning_laws.specs.Grounds.{Sound}
use Rattle.rt_meaning_laws.proofs.Modes.{out_ref, stands_at, IsRow}

-- ---- one level further along a path

onward : (records : List RecordDef) (path : List ℕ) (k : ℕ) (o : Option Mode) (v w : Mode) → with o (mode_along records path) ≡ Some v → part_mode records k (out-Mode v) ≡ Some w
    → ((n : Mode) → mode_along records path n ≡ Some v → mode_along records (path ++ k ∷ []) n ≡ Some w) → with o (mode_along records (path ++ k ∷ [])) ≡ Some w
onward records path k None v w e p go = absurd cc
onward records path k (Some n) v w e p go = go n e

along_more : (records : List RecordDef) (path : List ℕ) (k : ℕ) (n v w : Mode) → mode_along records path n ≡ Some v → part_mode records k (out-Mode v) ≡ Some w → mode_along records (path ++ k ∷ []) n ≡ Some w
along_more records [] k n v w e p =
    let same : n ≡ v = cc in
    rw (same, p) refl
along_more records (j ∷ path) k n v w e p = onward records path k (part_mode records j (out-Mode n)) v w e p (λ m h. along_more records path k m v w h p)

-- a part of a place that is there is there
pub part_stands : {ps : System} {l : Location} {u : ModeTable} {v : Mode} → StandsAt ps l u v → (k : ℕ) (w : Mode) → part_mode u.records k (out-Mode v) ≡ Some w → StandsAt ps (deeper l k) u w
part_stands (s.in_brick {j = j} {path = path} {p = p} {v = v} {w = x} h is so f a) k w e = s.in_brick {j = j} {path = path ++ k ∷ []} h is so f (along_more p.modes.records path k v x w a e)
part_stands (s.in_text {path = path} {p = p} {s = text} {w = x} m g a) k w e = s.in_text {path = path ++ k ∷ []} m g (along_more p.modes.records path k (s.text_mode text) x w a e)

pub known_table : {ps : System} {l : Location} {u : ModeTable} {v : Mode} → StandsAt ps l u v → IsTableOf ps u
known_table (s.in_brick {m = m} h is so f a) = of_module m h.of
known_table (s.in_text {m = n} m g a) = of_module n m

-- ---- levels

pub ArrayLike : (t u : ModeTable) → ℕ → Mode → Mode-F Mode → Type 0
ArrayLike t u n w l = (v : Mode) × (l ≡ Mode-F.Array n v) × Same t u v w

pub array_level : (t u : ModeTable) (n : ℕ) (w : Mode) (l : Mode-F Mode) → LevelSame t u l (Mode-F.Array n w) → ArrayLike t u n w l
unfolding ArrayLike
array_level t u n w (Mode-F.Array k v) h = (v, ap (λ (i : ℕ). Mode-F.Array i v) h.0, h.1)
array_level t u n w _ h = absurd h

pub RecordLike : (t u : ModeTable) → ℕ → Mode-F Mode → Type 0
RecordLike t u r l = (q : ℕ) × (l ≡ Mode-F.Record q) × FieldsSame t u (fields_of t q) (fields_of u r)

pub record_level : (t u : ModeTable) (r : ℕ) (l : Mode-F Mode) → LevelSame t u l (Mode-F.Record r) → RecordLike t u r l
unfolding RecordLike
record_level t u r (Mode-F.Record q) h = (q, refl, h.1)
record_level t u r _ h = absurd h

module _ (ps : System) (so : Sound ps) (t : ModeTable) (known : IsTableOf ps t) where
  level : (m : Mode) (l : Location) (h : LeadsTo ps t m l) → LevelSame h.table t (out-Mode h.is) (out-Mode m)
  level m l h = so.tells h.table t h.known known h.is m h.there (inl h.here) h.same

  -- ---- elements

  array_of : (m w : Mode) (n : ℕ) (l : Location) (h : LeadsTo ps t m l) → out-Mode m ≡ Mode-F.Array n w → ArrayLike h.table t n w (out-Mode h.is)
  array_of m w n l h e = array_level h.table t n w (out-Mode h.is) (subst (λ (z : Mode-F Mode). LevelSame h.table t (out-Mode h.is) z) e (level m l h))

  -- the row of an array that is there
  pub row_of : (m w k : Mode) (n : ℕ) (l : Location) → LeadsTo ps t m l → out-Mode m ≡ Mode-F.Array n w → out-Mode k ≡ Mode-F.RefArray w → MayStand t k → IsOf ps t k (Row l n)
  unfolding ArrayLike
  row_of m w k n l h e o st =
      let a : ArrayLike h.table t n w (out-Mode h.is) = array_of m w n l h e in
      (s.row o h.at a.1 a.2, st)

  in_range : (i n : ℕ) → in_row i n ≡ true → nat_lt (i - 1) n ≡ true
  in_range i n e = grind (arith, nat_tests)

  picked_part : (records : List RecordDef) (i n : ℕ) (v : Mode) (l : Mode-F Mode) → l ≡ Mode-F.Array n v → in_row i n ≡ true → part_mode records (i - 1) l ≡ Some v
  picked_part records i n v l e h = rw (e, in_range i n h) refl

  -- the element of a place that is an array
  pub element_leads : (m w : Mode) (n i : ℕ) (l : Location) → LeadsTo ps t m l → out-Mode m ≡ Mode-F.Array n w → MayStand t w → in_row i n ≡ true → LeadsTo ps t w (deeper l (i - 1))
  unfolding ArrayLike
  element_leads m w n i l h e st r =
      let a : ArrayLike h.table t n w (out-Mode h.is) = array_of m w n l h e in
      record {
        table = h.table;
        is = a.0;
        known = h.known;
        at = part_stands h.at (i - 1) a.0 (picked_part h.table.records i n a.0 (out-Mode h.is) a.1 r);
        same = a.2;
        here = st;
        there = inl (so.elements l h.table h.is a.0 n h.at a.1).0;
      }

  -- the element of a row
  pub row_leads : (w : Mode) (n i : ℕ) (l : Location) → IsRow ps t w l n → MayStand t w → in_row i n ≡ true → LeadsTo ps t w (deeper l (i - 1))
  row_leads w n i l h st r = record {
    table = h.table;
    is = h.element;
    known = known_table h.at;
    at = part_stands h.at (i - 1) h.element (picked_part h.table.records i n h.element (out-Mode h.is) h.array r);
    same = h.same;
    here = st;
    there = inl (so.elements l h.table h.is h.element n h.at h.array).0;
  }

  -- ---- fields

  -- the field of the same number in a record of the same fields
  pub same_field : (a b : ModeTable) (fs gs : List Field) (k : ℕ) (m : Mode) → FieldsSame a b fs gs → field_at gs k ≡ Some m → (v : Mode) × (field_at fs k ≡ Some v) × Same a b v m
  same_field a b [] [] k m h e = absurd cc
  same_field a b [] (g ∷ gs) k m h e = absurd h
  same_field a b (f ∷ fs) [] k m h e = absurd h
  same_field a b (f ∷ fs) (g ∷ gs) zero m h e =
      let of : g.mode ≡ m = cc in
      (f.mode, refl, h.1 ∙ ap (λ (x : Mode). FullMode b x) of)
  same_field a b (f ∷ fs) (g ∷ gs) (suc k) m h e = same_field a b fs gs k m h.2 e

  opened : (o : Option RecordDef) (k : ℕ) (m : Mode) → with o (λ d. field_at d.fields k) ≡ Some m → field_at (fields_in o) k ≡ Some m
  opened None k m e = absurd cc
  opened (Some d) k m e = e

  closed : (o : Option RecordDef) (k : ℕ) (m : Mode) → field_at (fields_in o) k ≡ Some m → with o (λ d. field_at d.fields k) ≡ Some m
  closed None k m e = absurd cc
  closed (Some d) k m e = e

  pub field_leads : (m w : Mode) (r k : ℕ) (l : Location) → LeadsTo ps t m l → out-Mode m ≡ Mode-F.Record r → field_mode t.records r k ≡ Some w → LeadsTo ps t w (deeper l k)
  unfolding RecordLike
  field_leads m w r k l h e f =
      let a : RecordLike h.table t r (out-Mode h.is) = record_level h.table t r (out-Mode h.is) (subst (λ (z : Mode-F Mode). LevelSame h.table t (out-Mode h.is) z) e (level m l h)) in
      let v = same_field h.table t (fields_of h.table a.0) (fields_of t r) k w a.2 (opened (slice_get t.records r) k w f) in
      let of : field_mode h.table.records a.0 k ≡ Some v.0 = closed (slice_get h.table.records a.0) k v.0 v.1 in
      record {
        table = h.table;
        is = v.0;
        known = h.known;
        at = part_stands h.at k v.0 (ap (λ (z : Mode-F Mode). part_mode h.table.records k z) a.1 ∙ of);
        same = v.2;
        here = so.fields t known r k w f;
        there = inl (so.fields h.table h.known a.0 k v.0 of);
      }

  -- ---- values

  -- the reference of a place that is there
  pub place_is : (m : Mode) (l : Location) → LeadsTo ps t m l → IsOf ps t (mode.Ref m) (Reference l)
  place_is m l h = (s.reference (out_ref m) h.at h.same, (m, out_ref m, h))

  -- what suits a mode that may stand is of it
  pub of_suits : {m : Mode} {d : Datum} → MayStand t m → Suits ps t m d → IsOf ps t m d
  of_suits st (s.byte e r) = (s.byte e r, st)
  of_suits st (s.int e r) = (s.int e r, st)
  of_suits st (s.frac e r) = (s.frac e r, st)
  of_suits st (s.unset e) = (s.unset e, st)
  of_suits {m} st (s.reference {l = l} {w = w} e a f) = (s.reference e a f, (w, e, so.leads t m w l known st e (s.reference e a f)))
  of_suits st (s.row e a o f) = (s.row e a o f, st)
  of_suits st (s.procedure e c) = (s.procedure e c, st)

-- ---- which modes may stand

-- the elements of an array, and a REF ARRAY to it
tests : (a b c d : Bool) → a && (b && (c && d)) ≡ true → (b ≡ true) × (d ≡ true)
tests true true true true e = (refl, refl)
tests true true true false e = absurd cc
tests true true false d e = absurd cc
tests true false c d e = absurd cc
tests false b c d e = absurd cc

array_tests : (n : ℕ) (m w : Mode) (k : ℕ) (place : Standing) (levels refs : ℕ) → out-Mode m ≡ Mode-F.Array k w → stands n m place levels refs ≡ true → (nat_lt 0 levels ≡ true) × (stands n w standing.Inside (levels - 1) 8 ≡ true)
array_tests n m w k place levels refs e h =
    tests (is_alone place) (nat_lt 0 levels) (is_length k) (stands n w standing.Inside (levels - 1) 8) (sym (ap (λ (f : Stands). f place levels refs) (stands_at n m (Mode-F.Array k w) e)) ∙ h)

both : (a b : Bool) → a ≡ true → b ≡ true → a && b ≡ true
both true true a b = refl
both true false a b = absurd cc
both false b c d = absurd cc

third : (a b c d : Bool) → a && (b && (c && d)) ≡ true → c ≡ true
third true true true d e = refl
third true true false d e = absurd cc
third true false c d e = absurd cc
third false b c d e = absurd cc

-- the length of an array that may stand
pub array_length : (t : ModeTable) (m w : Mode) (n : ℕ) → out-Mode m ≡ Mode-F.Array n w → MayStand t m → is_length n ≡ true
array_length t m w n e h =
    third (is_alone h.place) (nat_lt 0 h.levels) (is_length n) (stands (length t.records) w standing.Inside (h.levels - 1) 8) (sym (ap (λ (f : Stands). f h.place h.levels h.refs) (stands_at (length t.records) m (Mode-F.Array n w) e)) ∙ h.passes)

-- an array of bytes
pub bytes_stand : (t : ModeTable) (m w : Mode) (n : ℕ) → out-Mode m ≡ Mode-F.Array n w → out-Mode w ≡ Mode-F.Byte → is_length n ≡ true → MayStand t m
bytes_stand t m w n e b l = record {
  place = standing.Alone;
  levels = 1;
  refs = 0;
  passes = ap (λ (f : Stands). f standing.Alone 1 0) (stands_at (length t.records) m (Mode-F.Array n w) e) ∙ both (is_length n) (stands (length t.records) w standing.Inside 0 8) l (ap (λ (f : Stands). f standing.Inside 0 8) (stands_at (length t.records) w Mode-F.Byte b));
}

pub elements_stand : (t : ModeTable) (m w : Mode) (k : ℕ) → out-Mode m ≡ Mode-F.Array k w → MayStand t m → MayStand t w
elements_stand t m w k e h = record { place = standing.Inside; levels = h.levels - 1; refs = 8; passes = (array_tests (length t.records) m w k h.place h.levels h.refs e h.passes).1 }

pub rows_stand : (t : ModeTable) (m w k : Mode) (n : ℕ) → out-Mode m ≡ Mode-F.Array n w → out-Mode k ≡ Mode-F.RefArray w → MayStand t m → MayStand t k
rows_stand t m w k n e o h =
    let a = array_tests (length t.records) m w n h.place h.levels h.refs e h.passes in
    record {
      place = standing.Alone;
      levels = h.levels;
      refs = 1;
      passes = ap (λ (f : Stands). f standing.Alone h.levels 1) (stands_at (length t.records) k (Mode-F.RefArray w) o) ∙ both (nat_lt 0 h.levels) (stands (length t.records) w standing.Inside (h.levels - 1) 8) a.0 a.1;
    }

row_tests : (a b : Bool) → a && (true && b) ≡ true → b ≡ true
row_tests true b e = e
row_tests false b e = absurd cc

three : (a b c : Bool) → a && (b && c) ≡ true → c ≡ true
three true true c e = e
three true false c e = absurd cc
three false b c e = absurd cc

pub row_elements_stand : (t : ModeTable) (k w : Mode) → out-Mode k ≡ Mode-F.RefArray w → MayStand t k → MayStand t w
row_elements_stand t k w e h = record {
  place = standing.Inside;
  levels = h.levels - 1;
  refs = 8;
  passes = three (nat_lt 0 h.levels) (nat_lt 0 h.refs) (stands (length t.records) w standing.Inside (h.levels - 1) 8) (sym (ap (λ (f : Stands). f h.place h.levels h.refs) (stands_at (length t.records) k (Mode-F.RefArray w) e)) ∙ h.passes);
}

pub byte_rows_stand : (t : ModeTable) (k w : Mode) → out-Mode k ≡ Mode-F.RefArray w → out-Mode w ≡ Mode-F.Byte → MayStand t k
byte_rows_stand t k w e b = record {
  place = standing.Alone;
  levels = 1;
  refs = 1;
  passes = ap (λ (f : Stands). f standing.Alone 1 1) (stands_at (length t.records) k (Mode-F.RefArray w) e) ∙ ap (λ (f : Stands). f standing.Inside 0 8) (stands_at (length t.records) w Mode-F.Byte b);
}
