-- Modes of one full mode have one size, and fields of one full mode lie alike.
use Rattle.std.proofs.Common.{◌≡◌, ℕ, zero, suc, ◌+◌, ◌*◌, Bool, true, false, List, [], ◌∷◌, length, replicate, take, map, Option, Some, None, option_map, slice_get, refl, sym, ap, ◌∙◌, subst}
use Rattle.std.specs.List.{AllByRecursion}
use Rattle.rt_modes.specs.declared.mode.Field.{Field}
use Rattle.rt_modes.specs.declared.mode.Mode.{Mode, out-Mode, roll-Mode, map-Mode}
use Rattle.rt_modes.specs.declared.mode.Mode.TheFolds.{ind-Mode}
use Rattle.rt_modes.specs.declared.mode.Mode.TheOpen.{Mode-F}
use Rattle.rt_modes.specs.declared.mode.ModeTable.{ModeTable}
use Rattle.rt_modes.specs.declared.mode.RecordDef.{RecordDef}
use Rattle.rt_modes.specs.FullMode.{fields_in}
use Rattle.rt_tree.specs.Opened.{IsTable, IsField, FieldsSame, LevelSame, FullModesOpen}
use Rattle.rt_tree_laws.proofs.Telling.{array_stands, in_table}
use Rattle.rt_sizes.specs.Capped.{table}
use Rattle.rt_sizes.specs.Sizes.{even, begins, within, fields_if, size, size_layer, field_end, fields_end, record_layer, offset, offset_by}
use Rattle.rt_sizes.proofs.Layers.{out_roll, size_at, some_is, more_mapped, more_then}
use Rattle.rt_sizes_laws.specs.Laws.{AllKnown, AllStand, AreOne}
use Rattle.rt_sizes_laws.proofs.Deeper.{Quantity, Has, Grows, once, whole_lists_are_known, known_tells, size_of, end_of, place_of}

mapped_alike : (op oq : ℕ → ℕ) → ((x : ℕ) → op x ≡ oq x) → (o : Option ℕ) → option_map op o ≡ option_map oq o
mapped_alike op oq h None = refl
mapped_alike op oq h (Some x) = ap (λ (z : ℕ). Some z) (h x)

pub fields_stand : (t : ModeTable) (fs : List Field) → AllByRecursion (IsField t) fs → AllStand t fs
fields_stand t [] h = tt
fields_stand t (f ∷ fs) h = (h.0.stands, fields_stand t fs h.1)

-- the fields of a record that has a size
record_left : (f : ℕ → Option ℕ) (b : Option Bool) (o : Option RecordDef) (d : RecordDef) (n : ℕ) → o ≡ Some d → record_layer f (fields_if b o) ≡ Some n → option_map even (fields_end f d.fields 0) ≡ Some n
record_left f None o d n e h = absurd cc
record_left f (Some false) o d n e h = absurd cc
record_left f (Some true) None d n e h = absurd cc
record_left f (Some true) (Some x) d n e h = ap (λ (z : RecordDef). option_map even (fields_end f z.fields 0)) (sym (some_is x d e)) ∙ h

-- the fields of a record that is known
pub known_fields : (b : Option Bool) (o : Option RecordDef) (d : RecordDef) → b ≡ Some true → o ≡ Some d → fields_if b o ≡ Some d.fields
known_fields b o d e h = ap (λ (z : Option Bool). fields_if z o) e ∙ ap (λ (z : Option RecordDef). fields_if (Some true) z) h

module _ (opens : FullModesOpen) (t u : ModeTable) (gt : IsTable t) (gu : IsTable u) where
  -- ---- one level

  pub level_at : (m n : Mode) (l k : Mode-F Mode) → out-Mode m ≡ l → out-Mode n ≡ k → AreOne t u m n → LevelSame t u l k
  level_at m n l k o p one =
      subst (λ (x : Mode-F Mode). LevelSame t u x k) o (subst (λ (x : Mode-F Mode). LevelSame t u (out-Mode m) x) p (opens t u m n gt gu one.left one.right one.same))

  pub elements_one : (m n e f : Mode) (j k : ℕ) → out-Mode m ≡ Mode-F.Array j e → out-Mode n ≡ Mode-F.Array k f → AreOne t u m n → (j ≡ k) × AreOne t u e f
  elements_one m n e f j k o p one =
      let h : LevelSame t u (Mode-F.Array j e) (Mode-F.Array k f) = level_at m n (Mode-F.Array j e) (Mode-F.Array k f) o p one in
      (h.0, record { left = array_stands t gt.names gt.apart m e j o one.left; right = array_stands u gu.names gu.apart n f k p one.right; same = h.1 })

  -- ---- fields

  abbrev pub AllOne : List Field → List Field → Type 0
  AllOne [] [] = Unit {0}
  AllOne (f ∷ fs) (g ∷ gs) = (f.name ≡ g.name) × AreOne t u f.mode g.mode × AllOne fs gs
  AllOne _ _ = ⊥

  pub all_one : (fs gs : List Field) → AllStand t fs → AllStand u gs → FieldsSame t u fs gs → AllOne fs gs
  all_one [] [] a b h = tt
  all_one [] (g ∷ gs) a b h = absurd h
  all_one (f ∷ fs) [] a b h = absurd h
  all_one (f ∷ fs) (g ∷ gs) a b h = (h.0, record { left = a.0; right = b.0; same = h.1 }, all_one fs gs a.1 b.1 h.2)

  abbrev pub BothOne : Option Field → Option Field → Type 0
  BothOne None None = Unit {0}
  BothOne (Some f) (Some g) = (f.name ≡ g.name) × AreOne t u f.mode g.mode
  BothOne _ _ = ⊥

  pub one_got : (fs gs : List Field) (k : ℕ) → AllOne fs gs → BothOne (slice_get fs k) (slice_get gs k)
  one_got [] [] k h = tt
  one_got [] (g ∷ gs) k h = absurd h
  one_got (f ∷ fs) [] k h = absurd h
  one_got (f ∷ fs) (g ∷ gs) zero h = (h.0, h.1)
  one_got (f ∷ fs) (g ∷ gs) (suc k) h = one_got fs gs k h.2

  one_taken : (fs gs : List Field) (k : ℕ) → AllOne fs gs → AllOne (take k fs) (take k gs)
  one_taken fs gs zero h = tt
  one_taken [] [] (suc k) h = tt
  one_taken [] (g ∷ gs) (suc k) h = absurd h
  one_taken (f ∷ fs) [] (suc k) h = absurd h
  one_taken (f ∷ fs) (g ∷ gs) (suc k) h = (h.0, h.1, one_taken fs gs k h.2)

  pub one_each : (fs gs : List Field) → AllOne fs gs → length fs ≡ length gs
  one_each [] [] h = refl
  one_each [] (g ∷ gs) h = absurd h
  one_each (f ∷ fs) [] h = absurd h
  one_each (f ∷ fs) (g ∷ gs) h = ap suc (one_each fs gs h.2)

  -- two records of one full mode
  pub record RecordsOne (r q : ℕ) : Type 0 where
    pub m : Mode
    pub n : Mode
    pub is : out-Mode m ≡ Mode-F.Record r
    pub are : out-Mode n ≡ Mode-F.Record q
    pub one : AreOne t u m n

  pub records_one : (r q : ℕ) (d e : RecordDef) → RecordsOne r q → slice_get t.records r ≡ Some d → slice_get u.records q ≡ Some e → AllOne d.fields e.fields
  records_one r q d e both a b =
      let h : LevelSame t u (Mode-F.Record r) (Mode-F.Record q) = level_at both.m both.n (Mode-F.Record r) (Mode-F.Record q) both.is both.are both.one in
      all_one d.fields e.fields (fields_stand t d.fields (gt.fields r d a)) (fields_stand u e.fields (gu.fields q e b))
      (subst (λ (x : Option RecordDef). FieldsSame t u (fields_in x) e.fields) a (subst (λ (x : Option RecordDef). FieldsSame t u (fields_in (slice_get t.records r)) (fields_in x)) b h.1))

  -- ---- where values begin

  begins_by : (l k : Mode-F Mode) → LevelSame t u l k → (x : ℕ) → begins l x ≡ begins k x
  begins_by Mode-F.Byte Mode-F.Byte h x = refl
  begins_by Mode-F.Byte _ h x = absurd h
  begins_by Mode-F.Int Mode-F.Int h x = refl
  begins_by Mode-F.Int _ h x = absurd h
  begins_by Mode-F.Frac Mode-F.Frac h x = refl
  begins_by Mode-F.Frac _ h x = absurd h
  begins_by Mode-F.Label Mode-F.Label h x = refl
  begins_by Mode-F.Label _ h x = absurd h
  begins_by (Mode-F.Ref m) (Mode-F.Ref n) h x = refl
  begins_by (Mode-F.Ref m) _ h x = absurd h
  begins_by (Mode-F.RefArray m) (Mode-F.RefArray n) h x = refl
  begins_by (Mode-F.RefArray m) _ h x = absurd h
  begins_by (Mode-F.Array j m) (Mode-F.Array k n) h x = refl
  begins_by (Mode-F.Array j m) _ h x = absurd h
  begins_by (Mode-F.Record r) (Mode-F.Record q) h x = refl
  begins_by (Mode-F.Record r) _ h x = absurd h
  begins_by (Mode-F.Proc ps r) (Mode-F.Proc qs q) h x = refl
  begins_by (Mode-F.Proc ps r) _ h x = absurd h

  begins_one : (m n : Mode) → AreOne t u m n → (x : ℕ) → begins (out-Mode m) x ≡ begins (out-Mode n) x
  begins_one m n one x = begins_by (out-Mode m) (out-Mode n) (level_at m n (out-Mode m) (out-Mode n) refl refl one) x

  -- ---- where records of one full mode have one size

  abbrev pub AreUp : (ℕ → Option ℕ) → (ℕ → Option ℕ) → Type 0
  AreUp f g = (r q n : ℕ) → RecordsOne r q → f r ≡ Some n → g q ≡ Some n

  abbrev pub Carries : Quantity → Quantity → Type 0
  Carries p q = (f g : ℕ → Option ℕ) → AreUp f g → (n : ℕ) → p f ≡ Some n → q g ≡ Some n

  module _ (f g : ℕ → Option ℕ) (up : AreUp f g) where
    abbrev Up : Mode → Type 0
    Up m = (n : Mode) (a : ℕ) → AreOne t u m n → size f m ≡ Some a → size g n ≡ Some a

    abbrev UpPair : Type 0
    UpPair = (m : Mode) × Up m

    -- modes of which neither the elements nor the fields tell the size
    plain : (m n : Mode) (l k : Mode-F Mode) (s a : ℕ) → out-Mode m ≡ l → out-Mode n ≡ k → size_layer f (map-Mode Mode (Option ℕ) (size f) l) ≡ Some s → size_layer g (map-Mode Mode (Option ℕ) (size g) k) ≡ Some s → size f m ≡ Some a → size g n ≡ Some a
    plain m n l k s a o p x y e = size_at g n k p ∙ y ∙ sym x ∙ sym (size_at f m l o) ∙ e

    up_by : (m n : Mode) (y : Mode-F UpPair) (l : Mode-F Mode) (a : ℕ) → out-Mode m ≡ map-Mode UpPair Mode (λ e. e.0) y → out-Mode n ≡ l → AreOne t u m n → LevelSame t u (map-Mode UpPair Mode (λ e. e.0) y) l → size f m ≡ Some a
        → size g n ≡ Some a
    up_by m n Mode-F.Byte Mode-F.Byte a o p one h e = plain m n Mode-F.Byte Mode-F.Byte 1 a o p refl refl e
    up_by m n Mode-F.Byte _ a o p one h e = absurd h
    up_by m n Mode-F.Int Mode-F.Int a o p one h e = plain m n Mode-F.Int Mode-F.Int 2 a o p refl refl e
    up_by m n Mode-F.Int _ a o p one h e = absurd h
    up_by m n Mode-F.Frac Mode-F.Frac a o p one h e = plain m n Mode-F.Frac Mode-F.Frac 2 a o p refl refl e
    up_by m n Mode-F.Frac _ a o p one h e = absurd h
    up_by m n Mode-F.Label Mode-F.Label a o p one h e = plain m n Mode-F.Label Mode-F.Label 2 a o p refl refl e
    up_by m n Mode-F.Label _ a o p one h e = absurd h
    up_by m n (Mode-F.Ref x) (Mode-F.Ref w) a o p one h e = plain m n (Mode-F.Ref x.0) (Mode-F.Ref w) 2 a o p refl refl e
    up_by m n (Mode-F.Ref x) _ a o p one h e = absurd h
    up_by m n (Mode-F.RefArray x) (Mode-F.RefArray w) a o p one h e = plain m n (Mode-F.RefArray x.0) (Mode-F.RefArray w) 2 a o p refl refl e
    up_by m n (Mode-F.RefArray x) _ a o p one h e = absurd h
    up_by m n (Mode-F.Array j x) (Mode-F.Array k w) a o p one h e =
        let inner = elements_one m n x.0 w j k o p one in
        size_at g n (Mode-F.Array k w) p
        ∙ ap (λ (z : ℕ). option_map (λ s. even (2 + z * s)) (size g w)) (sym inner.0)
        ∙ more_mapped (λ s. even (2 + j * s)) (size f x.0) (size g w) (λ s. x.1 w s inner.1) a (sym (size_at f m (Mode-F.Array j x.0) o) ∙ e)
    up_by m n (Mode-F.Array j x) _ a o p one h e = absurd h
    up_by m n (Mode-F.Record r) (Mode-F.Record q) a o p one h e =
        size_at g n (Mode-F.Record q) p ∙ up r q a (record { m = m; n = n; is = o; are = p; one = one }) (sym (size_at f m (Mode-F.Record r) o) ∙ e)
    up_by m n (Mode-F.Record r) _ a o p one h e = absurd h
    up_by m n (Mode-F.Proc ps None) (Mode-F.Proc qs None) a o p one h e = plain m n (Mode-F.Proc (map (λ (e : UpPair). e.0) ps) None) (Mode-F.Proc qs None) 2 a o p refl refl e
    up_by m n (Mode-F.Proc ps None) (Mode-F.Proc qs (Some q)) a o p one h e = plain m n (Mode-F.Proc (map (λ (e : UpPair). e.0) ps) None) (Mode-F.Proc qs (Some q)) 2 a o p refl refl e
    up_by m n (Mode-F.Proc ps None) _ a o p one h e = absurd h
    up_by m n (Mode-F.Proc ps (Some r)) (Mode-F.Proc qs None) a o p one h e = plain m n (Mode-F.Proc (map (λ (e : UpPair). e.0) ps) (Some r.0)) (Mode-F.Proc qs None) 2 a o p refl refl e
    up_by m n (Mode-F.Proc ps (Some r)) (Mode-F.Proc qs (Some q)) a o p one h e = plain m n (Mode-F.Proc (map (λ (e : UpPair). e.0) ps) (Some r.0)) (Mode-F.Proc qs (Some q)) 2 a o p refl refl e
    up_by m n (Mode-F.Proc ps (Some r)) _ a o p one h e = absurd h

    up_level : (m : Mode) (y : Mode-F UpPair) → out-Mode m ≡ map-Mode UpPair Mode (λ e. e.0) y → Up m
    up_level m y o n a one e = up_by m n y (out-Mode n) a o refl one (level_at m n (map-Mode UpPair Mode (λ (e : UpPair). e.0) y) (out-Mode n) o refl one) e

    pub up_size : (m : Mode) → Up m
    up_size = ind-Mode Up (λ x y is. up_level (roll-Mode x) y (out_roll x ∙ sym is))

    up_field_end : (x y : Field) (n e : ℕ) → AreOne t u x.mode y.mode → field_end f x n ≡ Some e → field_end g y n ≡ Some e
    up_field_end x y n e one is =
        ap (λ (z : ℕ). option_map (λ s. z + s) (size g y.mode)) (sym (begins_one x.mode y.mode one n))
        ∙ more_mapped (λ s. begins (out-Mode x.mode) n + s) (size f x.mode) (size g y.mode) (λ s. up_size x.mode y.mode s one) e is

    pub up_fields_end : (fs gs : List Field) (n e : ℕ) → AllOne fs gs → fields_end f fs n ≡ Some e → fields_end g gs n ≡ Some e
    up_fields_end [] [] n e h is = is
    up_fields_end [] (y ∷ gs) n e h is = absurd h
    up_fields_end (x ∷ fs) [] n e h is = absurd h
    up_fields_end (x ∷ fs) (y ∷ gs) n e h is =
        more_then (field_end f x n) (field_end g y n) (fields_end f fs) (fields_end g gs) e (λ z. up_field_end x y n z h.1) (λ z. up_fields_end fs gs z e h.2) is

    up_place_by : (o p : Option Field) (a b : Option ℕ) (n : ℕ) → BothOne o p → ((x : ℕ) → a ≡ Some x → b ≡ Some x) → offset_by f o a ≡ Some n → offset_by g p b ≡ Some n
    up_place_by None None a b n h more e = absurd cc
    up_place_by None (Some y) a b n h more e = absurd h
    up_place_by (Some x) None a b n h more e = absurd h
    up_place_by (Some x) (Some y) a b n h more e =
        sym (mapped_alike (begins (out-Mode x.mode)) (begins (out-Mode y.mode)) (begins_one x.mode y.mode h.1) b) ∙ more_mapped (begins (out-Mode x.mode)) a b more n e

    pub up_place : (fs gs : List Field) (k n : ℕ) → AllOne fs gs → offset f fs k ≡ Some n → offset g gs k ≡ Some n
    up_place fs gs k n h e =
        up_place_by (slice_get fs k) (slice_get gs k) (fields_end f (take k fs) 0) (fields_end g (take k gs) 0) n (one_got fs gs k h) (λ x. up_fields_end (take k fs) (take k gs) 0 x (one_taken fs gs k h)) e

  pub size_carries : (m n : Mode) → AreOne t u m n → Carries (size_of m) (size_of n)
  size_carries m n one f g up a e = up_size f g up m n a one e

  pub end_carries : (fs gs : List Field) → AllOne fs gs → Carries (end_of fs) (end_of gs)
  end_carries fs gs h f g up n e = up_fields_end f g up fs gs 0 n h e

  pub place_carries : (fs gs : List Field) (k : ℕ) → AllOne fs gs → Carries (place_of fs k) (place_of gs k)
  place_carries fs gs k h f g up n e = up_place f g up fs gs k n h e

  -- ---- they have

  module _ (known others : List Bool) (all : AllKnown (table u.records others)) where
    record_up : (f g : ℕ → Option ℕ) → AreUp f g → (r q n : ℕ) → RecordsOne r q → record_layer f (fields_if (slice_get known r) (slice_get t.records r)) ≡ Some n → record_layer g (fields_if (slice_get others q) (slice_get u.records q)) ≡ Some n
    record_up f g up r q n both e =
        let left = in_table t gt.names gt.apart both.m (Mode-F.Record r) both.one.left both.is in
        let right = in_table u gu.names gu.apart both.n (Mode-F.Record q) both.one.right both.are in
        ap (record_layer g) (known_fields (slice_get others q) (slice_get u.records q) right.0 (all q right.0 right.1) right.1)
        ∙ more_mapped even (fields_end f left.0.fields 0) (fields_end g right.0.fields 0) (λ z. up_fields_end f g up left.0.fields right.0.fields 0 z (records_one r q left.0 right.0 both left.1 right.1)) n
        (record_left f (slice_get known r) (slice_get t.records r) left.0 n left.1 e)

    within_up : (d : ℕ) → AreUp (within (table t.records known) d) (within (table u.records others) d)
    unfolding within
    within_up zero r q n both e = absurd cc
    within_up (suc d) r q n both e = record_up (within (table t.records known) d) (within (table u.records others) d) (within_up d) r q n both e

    -- what the first module tells the second tells
    pub carried : (p q : Quantity) → Carries p q → (n : ℕ) → Has (table t.records known) p n → Has (table u.records others) q n
    carried p q carries n (d, e) = (d, carries (within (table t.records known) d) (within (table u.records others) d) (within_up d) n e)

  -- the two modules tell one number
  pub agreed : (p q : Quantity) → Carries p q → Grows q → (known others : List Bool) (a b : ℕ) → Has (table t.records known) p a → Has (table u.records others) q b → a ≡ b
  agreed p q carries grows known others a b x y =
      let whole : List Bool = replicate (length u.records) true in
      let all = whole_lists_are_known u.records in
      once (table u.records whole) q grows a b (carried known whole all p q carries a x) (known_tells u.records others whole q grows all b y)
