-- What is read in a typed store is of the mode of its place, and a typed store stays typed where such a value is written.
use Rattle.std.proofs.Common.{◌≡◌, inl, ℕ, zero, suc, true, false, List, ◌∷◌, Option, Some, slice_get, refl, sym, ap, ◌∙◌, subst, arith}
use Rattle.rt_modes.specs.declared.mode.Field.{Field}
use Rattle.rt_modes.specs.declared.mode.Mode.{Mode, out-Mode}
use Rattle.rt_modes.specs.declared.mode.Mode.TheOpen.{Mode-F}
use Rattle.rt_modes.specs.declared.mode.ModeTable.{ModeTable}
use Rattle.rt_modes.specs.FullMode.{FullMode}
use Rattle.rt_tree_nodes.specs.declared.store.Contents.{Contents, out-Contents}
use Rattle.rt_tree_nodes.specs.declared.store.Contents.TheOpen.{Contents-F}
use Rattle.rt_tree_nodes.specs.declared.store.Datum.{Datum}
use Rattle.rt_tree_nodes.specs.declared.store.Datum.TheVariants.{Word, Reference, Row, Procedure}
use Rattle.rt_tree_nodes.specs.declared.store.Location.{Location}
use Rattle.rt_tree_nodes.specs.declared.store.Location.TheVariants as location
use Rattle.rt_tree_nodes.specs.Scopes.{field_at}
use Rattle.rt_tree_nodes.specs.Typing.{is_value}
use Rattle.rt_tree.specs.Stored as s
use Rattle.rt_tree.specs.Stored.{System, StandsAt, Suits, Holds, HoldAll, HoldEach, Typed, TypedOwn, IsCandidate, part, part_of, inside, change_found, changed, with_part, written, HoldsInside}
use Rattle.rt_work_state.specs.Stores.{Store, datum_in, datum_at, datum_of, origin_in, read, first_own}
use Rattle.rt_tree.specs.FullModes.{MayStand}
use Rattle.rt_tree.specs.Opened.{LevelSame}
use Rattle.rt_meaning_laws.specs.Levels.{MayBe, IsTableOf}
use Rattle.rt_meaning_laws.specs.Slots.{LeadsTo, IsInt, IsOwn, IsOf}
use Rattle.rt_meaning_laws.specs.Slots as slots
use Rattle.rt_meaning_laws.specs.Grounds.{Sound}
use Rattle.rt_meaning_laws.specs.Tasks.{TypedStore}
use Rattle.rt_meaning_laws.proofs.Places.{of_suits}

-- the data that each task has at the start
pub own_typed : (ps : System) → TypedOwn ps first_own
own_typed ps = record {
  erl = refl;
  ern = (0, omega arith, refl);
  erp = (s.brick 0 10, s.standard s.rrgel, refl);
  input = (s.brick 0 1, s.standard s.rrin, refl);
  output = (s.brick 0 2, s.standard s.rrout, refl);
}

-- ---- the same value in another module

module _ (ps : System) (so : Sound ps) (t u : ModeTable) (kt : IsTableOf ps t) (ku : IsTableOf ps u) where
  over_level : {m : Mode} {d : Datum} → Suits ps t m d → (n : Mode) → FullMode t m ≡ FullMode u n → (k : Mode-F Mode) → out-Mode n ≡ k → LevelSame t u (out-Mode m) k → Suits ps u n d
  over_level {m} (s.byte {n = i} e r) n f k o h = at k o (subst (λ (l : Mode-F Mode). LevelSame t u l k) e h)
    where
      at : (k : Mode-F Mode) → out-Mode n ≡ k → LevelSame t u Mode-F.Byte k → Suits ps u n (Word i)
      at Mode-F.Byte o h = s.byte o r
      at _ o h = absurd h
  over_level {m} (s.int {n = i} e r) n f k o h = at k o (subst (λ (l : Mode-F Mode). LevelSame t u l k) e h)
    where
      at : (k : Mode-F Mode) → out-Mode n ≡ k → LevelSame t u Mode-F.Int k → Suits ps u n (Word i)
      at Mode-F.Int o h = s.int o r
      at _ o h = absurd h
  over_level {m} (s.frac {n = i} e r) n f k o h = at k o (subst (λ (l : Mode-F Mode). LevelSame t u l k) e h)
    where
      at : (k : Mode-F Mode) → out-Mode n ≡ k → LevelSame t u Mode-F.Frac k → Suits ps u n (Word i)
      at Mode-F.Frac o h = s.frac o r
      at _ o h = absurd h
  over_level {m} (s.unset e) n f k o h = at k o (subst (λ (l : Mode-F Mode). LevelSame t u l k) e h)
    where
      at : (k : Mode-F Mode) → out-Mode n ≡ k → LevelSame t u Mode-F.Label k → Suits ps u n (Word 0)
      at Mode-F.Label o h = s.unset o
      at _ o h = absurd h
  over_level {m} (s.reference {l = l} {w = w} e a g) n f k o h = at k o (subst (λ (l : Mode-F Mode). LevelSame t u l k) e h)
    where
      at : (k : Mode-F Mode) → out-Mode n ≡ k → LevelSame t u (Mode-F.Ref w) k → Suits ps u n (Reference l)
      at (Mode-F.Ref v) o h = s.reference o a (g ∙ h)
      at _ o h = absurd h
  over_level {m} (s.row {l = l} {n = i} {w = w} e a q g) n f k o h = at k o (subst (λ (l : Mode-F Mode). LevelSame t u l k) e h)
    where
      at : (k : Mode-F Mode) → out-Mode n ≡ k → LevelSame t u (Mode-F.RefArray w) k → Suits ps u n (Row l i)
      at (Mode-F.RefArray v) o h = s.row o a q (g ∙ h)
      at _ o h = absurd h
  over_level {m} (s.procedure {f = p} {ws = ws} {r = r} e c) n f k o h = at k o (subst (λ (l : Mode-F Mode). LevelSame t u l k) e h)
    where
      at : (k : Mode-F Mode) → out-Mode n ≡ k → LevelSame t u (Mode-F.Proc ws r) k → Suits ps u n (Procedure p)
      at (Mode-F.Proc vs q) o h = s.procedure o (subst (λ (z : List ℕ). IsCandidate ps z p) f c)
      at _ o h = absurd h

  pub suits_over : (m n : Mode) (d : Datum) → MayBe t m → MayBe u n → FullMode t m ≡ FullMode u n → Suits ps t m d → Suits ps u n d
  suits_over m n d sm sn f h = over_level h n f (out-Mode n) refl (so.tells t u kt ku m n sm sn f)

  -- the first levels of two modes with one full mode are both of values
  value_levels : (l k : Mode-F Mode) → LevelSame t u l k → is_value k ≡ true → is_value l ≡ true
  value_levels Mode-F.Byte k h v = refl
  value_levels Mode-F.Int k h v = refl
  value_levels Mode-F.Frac k h v = refl
  value_levels (Mode-F.Ref m) k h v = refl
  value_levels (Mode-F.RefArray m) k h v = refl
  value_levels (Mode-F.Proc ws r) k h v = refl
  value_levels Mode-F.Label Mode-F.Label h v = absurd cc
  value_levels Mode-F.Label _ h v = absurd h
  value_levels (Mode-F.Array i m) (Mode-F.Array j n) h v = absurd cc
  value_levels (Mode-F.Array i m) _ h v = absurd h
  value_levels (Mode-F.Record i) (Mode-F.Record j) h v = absurd cc
  value_levels (Mode-F.Record i) _ h v = absurd h

  pub values_over : (m n : Mode) → MayBe t m → MayBe u n → FullMode t m ≡ FullMode u n → is_value (out-Mode n) ≡ true → is_value (out-Mode m) ≡ true
  values_over m n sm sn f v = value_levels (out-Mode m) (out-Mode n) (so.tells t u kt ku m n sm sn f) v

-- ---- reading

-- what contents of a value's mode hold
pub value_held : {ps : System} {t : ModeTable} {m : Mode} {c : Contents} → Holds ps t m c → is_value (out-Mode m) ≡ true → (d : Datum) × (out-Contents c ≡ Contents-F.Datum d) × Suits ps t m d
value_held (s.one {d = d} o h) v = (d, o, h)
value_held (s.of_array {w = w} {cs = cs} o p hs) v = let no : false ≡ true = sym (ap is_value o) ∙ v in absurd cc
value_held (s.of_record {r = r} o q p hs) v = let no : false ≡ true = sym (ap is_value o) ∙ v in absurd cc

abbrev Found : System → ModeTable → Mode → Option Contents → Type 0
Found ps t w o = (d : Contents) × (o ≡ Some d) × Holds ps t w d

item_held : {ps : System} {t : ModeTable} {fs : List Field} {cs : List Contents} → HoldEach ps t fs cs → (k : ℕ) (w : Mode) → field_at fs k ≡ Some w → Found ps t w (slice_get cs k)
item_held s.no_field k w e = absurd cc
item_held {ps} {t} (s.one_field {f = f} {c = c} h hs) zero w e = let same : f.mode ≡ w = cc in (c, refl, subst (λ (m : Mode). Holds ps t m c) same h)
item_held (s.one_field h hs) (suc k) w e = item_held hs k w e

-- what stands at a location of a typed store
abbrev pub Standing : System → Store → ModeTable → Mode → Location → Type 0
Standing ps S t w (location.Shared o path) = Found ps t w (inside (origin_in S o) path)
Standing ps S t w (location.Own k) = ⊥

pub stands_held : HoldsInside → {ps : System} {l : Location} {u : ModeTable} {v : Mode} → StandsAt ps l u v → (S : Store) → TypedStore ps S → Standing ps S u v l
stands_held holds_inside {ps} (s.in_brick {m = m} {b = b} {j = j} {path = path} {p = p} {v = v} {w = w} h is so f a) S g =
    let b_held = g.bricks h is so in
    let item = item_held b_held.4 j v f in
    let in_item = holds_inside ps p.modes v w item.0 path item.2 a in (
      in_item.0,
      ap (λ (o : Option Contents). inside o (j ∷ path)) b_held.2 ∙ ap (λ (z : Contents-F Contents). inside (part_of z j) path) b_held.3 ∙ ap (λ (o : Option Contents). inside o path) item.1 ∙ in_item.1,
      in_item.2,
    )
stands_held holds_inside {ps} (s.in_text {m = m} {k = k} {path = path} {p = p} {s = text} {w = w} q e a) S g =
    let held = g.texts q e in
    let in_text = holds_inside ps p.modes (s.text_mode text) w held.0 path held.2 a in
    (in_text.0, ap (λ (o : Option Contents). inside o path) held.1 ∙ in_text.1, in_text.2)

read_at : {ps : System} (S : Store) (own : List Datum) (u : ModeTable) (v : Mode) (l : Location) → Standing ps S u v l → is_value (out-Mode v) ≡ true → Suits ps u v (read S own l)
read_at {ps} S own u v (location.Shared o path) h i =
    let d = value_held h.2 i in
    subst (λ (z : Option Contents). Suits ps u v (datum_of z)) (sym h.1) (subst (λ (z : Contents-F Contents). Suits ps u v (datum_at z)) (sym d.1) d.2)
read_at S own u v (location.Own k) h i = absurd h

-- what is read where a place leads is of the place's mode
pub read_leads : HoldsInside → (ps : System) (so : Sound ps) (t : ModeTable) (kt : IsTableOf ps t) (S : Store) (own : List Datum) (m : Mode) (l : Location) → TypedStore ps S → LeadsTo ps t m l → is_value (out-Mode m) ≡ true → IsOf ps t m (read S own l)
read_leads holds_inside ps so t kt S own m l g h i =
    let value : is_value (out-Mode h.is) ≡ true = values_over ps so h.table t h.known kt h.is m h.there (inl h.here) h.same i in
    of_suits ps so t kt h.here (suits_over ps so h.table t h.known kt h.is m (read S own l) h.there (inl h.here) h.same (read_at S own h.table h.is l (stands_held holds_inside h.at S g) value))

own_read : (ps : System) (t : ModeTable) (own : List Datum) (k : ℕ) (m : Mode) → TypedOwn ps own → IsOwn t k m → Suits ps t m (datum_in (slice_get own k))
own_read ps t own _ m g (slots.ern e) = let n = g.ern in subst (λ (o : Option Datum). Suits ps t m (datum_in o)) (sym n.2) (s.int e n.1)
own_read ps t own _ m g (slots.erp e f) = let n = g.erp in subst (λ (o : Option Datum). Suits ps t m (datum_in o)) (sym n.2) (s.procedure e (subst (λ (z : List ℕ). IsCandidate ps z n.0) (sym f) n.1))
own_read ps t own _ m g (slots.input e f) = let n = g.input in subst (λ (o : Option Datum). Suits ps t m (datum_in o)) (sym n.2) (s.procedure e (subst (λ (z : List ℕ). IsCandidate ps z n.0) (sym f) n.1))
own_read ps t own _ m g (slots.output e f) = let n = g.output in subst (λ (o : Option Datum). Suits ps t m (datum_in o)) (sym n.2) (s.procedure e (subst (λ (z : List ℕ). IsCandidate ps z n.0) (sym f) n.1))

pub read_own : (ps : System) (so : Sound ps) (t : ModeTable) (kt : IsTableOf ps t) (S : Store) (own : List Datum) (m : Mode) (l : Location) → TypedOwn ps own → MayStand t m → slots.LeadsOwn ps t m (Reference l) → IsOf ps t m (read S own l)
read_own ps so t kt S own m (location.Own k) g st h = of_suits ps so t kt st (own_read ps t own k m g h)
read_own ps so t kt S own m (location.Shared o path) g st h = absurd h
