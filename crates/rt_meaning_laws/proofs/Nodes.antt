-- What fitting nodes of a module say of its modes: those of records, of items and of procedures may stand.
use Rattle.std.proofs.Common.{◌≡◌, ℕ, zero, suc, nat_lt, ◌&&◌, ◌||◌, Bool, true, false, if◌then◌else◌, List, [], ◌∷◌, Option, Some, None, length, codes, slice_get, refl, sym, ap, ◌∙◌, subst, arith, ◌≤◌}
use Rattle.std.specs.List.{list_all}
use Rattle.std.specs.Str.{bytes_eq}
use Rattle.std.proofs.lemmas.Bool.Decides.{nat_tests}
use Rattle.rt_modes.specs.declared.mode.Field.{Field}
use Rattle.rt_modes.specs.declared.mode.Mode.{Mode, out-Mode}
use Rattle.rt_modes.specs.declared.mode.Mode.TheOpen.{Mode-F}
use Rattle.rt_modes.specs.declared.mode.ModeTable.{ModeTable}
use Rattle.rt_modes.specs.declared.mode.RecordDef.{RecordDef}
use Rattle.rt_tree_nodes.specs.declared.brick.Brick.{Brick}
use Rattle.rt_tree_nodes.specs.declared.brick.BrickSort.{BrickSort}
use Rattle.rt_tree_nodes.specs.declared.brick.BrickSort.TheVariants as sort
use Rattle.rt_tree_nodes.specs.declared.brick.DataStart.{DataStart}
use Rattle.rt_tree_nodes.specs.declared.brick.Kind.{Kind}
use Rattle.rt_tree_nodes.specs.declared.brick.ModuleParts.{ModuleParts}
use Rattle.rt_tree_nodes.specs.declared.brick.ProcBody.{ProcBody}
use Rattle.rt_tree_nodes.specs.Scopes.{with, passes, field_at, field_mode, is_svc, field_is, is_label_layer, scope_of}
use Rattle.rt_tree_nodes.specs.Typing.{Signature, signature_by}
use Rattle.rt_tree.specs.declared.standing.Standing.TheVariants as standing
use Rattle.rt_tree.specs.Modules.{stands_alone, field_stands, item_stands, body_fits, brick_fits, sort_fits, record_stands, is_short, every_node_fits, part_mode, mode_along}
use Rattle.rt_tree.specs.FullModes.{MayStand}
use Rattle.rt_meaning_laws.proofs.Places.{elements_stand}
use Rattle.rt_meaning_laws.proofs.Small.{left_of, right_of}

pub one_of_all : {A : Type 0} (f : A → Bool) (xs : List A) (k : ℕ) (x : A) → list_all f xs ≡ true → slice_get xs k ≡ Some x → f x ≡ true
one_of_all f [] k x h e = absurd cc
one_of_all f (y ∷ ys) zero x h e = let same : y ≡ x = cc in ap f (sym same) ∙ left_of (f y) (list_all f ys) h
one_of_all f (y ∷ ys) (suc k) x h e = one_of_all f ys k x (right_of (f y) (list_all f ys) h) e

alone : (t : ModeTable) (m : Mode) → stands_alone (length t.records) m ≡ true → MayStand t m
alone t m h = record { place = standing.Alone; levels = 100; refs = 8; passes = h }

module _ (p : ModuleParts) (fits : every_node_fits p ≡ true) where
  abbrev R : ℕ
  R = length p.modes.records

  records_fit : list_all (record_stands R) p.modes.records ≡ true
  records_fit = left_of (list_all (record_stands R) p.modes.records) _ fits

  pub brick_fit : (b : ℕ) (d : Brick) → slice_get p.bricks b ≡ Some d → brick_fits (scope_of p) d ≡ true
  brick_fit b d e = one_of_all (brick_fits (scope_of p)) p.bricks b d (left_of (list_all (brick_fits (scope_of p)) p.bricks) _ (right_of (list_all (record_stands R) p.modes.records) _ fits)) e

  pub short : (k : ℕ) (text : List ℕ) → slice_get p.strings k ≡ Some text → length text ≤ 8191
  short k text e =
      let h : is_short text ≡ true = one_of_all is_short p.strings k text (right_of (list_all (brick_fits (scope_of p)) p.bricks) _ (right_of (list_all (record_stands R) p.modes.records) _ fits)) e in
      grind (arith, nat_tests)

  field_of : (fs : List Field) (k : ℕ) (m : Mode) → list_all (field_stands R) fs ≡ true → field_at fs k ≡ Some m → MayStand p.modes m
  field_of [] k m h e = absurd cc
  field_of (f ∷ fs) zero m h e = let same : f.mode ≡ m = cc in subst (λ (x : Mode). MayStand p.modes x) same (alone p.modes f.mode (left_of (field_stands R f) (list_all (field_stands R) fs) h))
  field_of (f ∷ fs) (suc k) m h e = field_of fs k m (right_of (field_stands R f) (list_all (field_stands R) fs) h) e

  field_by : (o : Option RecordDef) (r k : ℕ) (m : Mode) → slice_get p.modes.records r ≡ o → with o (λ d. field_at d.fields k) ≡ Some m → MayStand p.modes m
  field_by None r k m g e = absurd cc
  field_by (Some d) r k m g e = field_of d.fields k m (one_of_all (record_stands R) p.modes.records r d records_fit g) e

  pub field_may : (r k : ℕ) (m : Mode) → field_mode p.modes.records r k ≡ Some m → MayStand p.modes m
  field_may r k m e = field_by (slice_get p.modes.records r) r k m refl e

  -- a shared item
  by_tests : (a b c : Bool) → c ≡ false → a || (c && b) ≡ true → a ≡ true
  by_tests true b c e h = refl
  by_tests false b true e h = absurd cc
  by_tests false b false e h = absurd cc

  item_alone : (k : Kind) (name : List ℕ) (f : Field) → is_svc k ≡ false → item_stands R k name f ≡ true → field_stands R f ≡ true
  item_alone k name f e h = by_tests (field_stands R f) (bytes_eq name (codes "RRERR") && field_is (codes "ERL") is_label_layer f) (is_svc k) e h

  items_of : (k : Kind) (name : List ℕ) (fs : List Field) (i : ℕ) (m : Mode) → is_svc k ≡ false → list_all (item_stands R k name) fs ≡ true → field_at fs i ≡ Some m → MayStand p.modes m
  items_of k name [] i m v h e = absurd cc
  items_of k name (f ∷ fs) zero m v h e =
      let same : f.mode ≡ m = cc in
      subst (λ (x : Mode). MayStand p.modes x) same (alone p.modes f.mode (item_alone k name f v (left_of (item_stands R k name f) (list_all (item_stands R k name) fs) h)))
  items_of k name (f ∷ fs) (suc i) m v h e = items_of k name fs i m v (right_of (item_stands R k name f) (list_all (item_stands R k name) fs) h) e

  pub data_fits : (b : ℕ) (d : Brick) (fs : List Field) (ss : List DataStart) → slice_get p.bricks b ≡ Some d → d.sort ≡ sort.Data fs ss → list_all (item_stands R d.kind d.name) fs ≡ true
  data_fits b d fs ss e so =
      let h : sort_fits (scope_of p) d.kind d.name (sort.Data fs ss) ≡ true = ap (λ (x : BrickSort). sort_fits (scope_of p) d.kind d.name x) (sym so) ∙ brick_fit b d e in
      left_of (list_all (item_stands R d.kind d.name) fs) _ h

  pub item_may : (b : ℕ) (d : Brick) (fs : List Field) (ss : List DataStart) (i : ℕ) (m : Mode) → slice_get p.bricks b ≡ Some d → d.sort ≡ sort.Data fs ss → is_svc d.kind ≡ false → field_at fs i ≡ Some m → MayStand p.modes m
  item_may b d fs ss i m e so v f = items_of d.kind d.name fs i m v (data_fits b d fs ss e so) f

  -- a procedure
  pub proc_opens : (b : ℕ) (d : Brick) (w : Mode) (body : Option ProcBody) → slice_get p.bricks b ≡ Some d → d.sort ≡ sort.Proc w body
      → (ws : List Mode) × (r : Option Mode) × (out-Mode w ≡ Mode-F.Proc ws r) × MayStand p.modes w × (body_fits (scope_of p) d.kind (record { parameters = ws; answer = r }) body ≡ true)
  proc_opens b d w body e so = opened (out-Mode w) refl (ap (λ (x : BrickSort). sort_fits (scope_of p) d.kind d.name x) (sym so) ∙ brick_fit b d e)
    where
      opened : (l : Mode-F Mode) → out-Mode w ≡ l → passes (λ (g : Signature). stands_alone R w && body_fits (scope_of p) d.kind g body) (signature_by l) ≡ true
          → (ws : List Mode) × (r : Option Mode) × (out-Mode w ≡ Mode-F.Proc ws r) × MayStand p.modes w × (body_fits (scope_of p) d.kind (record { parameters = ws; answer = r }) body ≡ true)
      opened (Mode-F.Proc ws r) o h = (ws, r, o, alone p.modes w (left_of (stands_alone R w) _ h), right_of (stands_alone R w) _ h)
      opened _ o h = absurd cc

  -- ---- along paths

  part_may : (m w : Mode) (k : ℕ) (l : Mode-F Mode) → out-Mode m ≡ l → MayStand p.modes m → part_mode p.modes.records k l ≡ Some w → MayStand p.modes w
  part_may m w k (Mode-F.Record r) o h e = field_may r k w e
  part_may m w k (Mode-F.Array n v) o h e = in_array (nat_lt k n) e
    where
      in_array : (c : Bool) → (if c then Some v else None) ≡ Some w → MayStand p.modes w
      in_array true e = let same : v ≡ w = cc in subst (λ (x : Mode). MayStand p.modes x) same (elements_stand p.modes m v n o h)
      in_array false e = absurd cc
  part_may m w k _ o h e = absurd cc

  onward : (path : List ℕ) (o : Option Mode) (w : Mode) → ((v : Mode) → o ≡ Some v → MayStand p.modes v) → ((v : Mode) → MayStand p.modes v → mode_along p.modes.records path v ≡ Some w → MayStand p.modes w) → with o (mode_along p.modes.records path) ≡ Some w → MayStand p.modes w
  onward path None w f g e = absurd cc
  onward path (Some v) w f g e = g v (f v refl) e

  pub along_may : (path : List ℕ) (m w : Mode) → MayStand p.modes m → mode_along p.modes.records path m ≡ Some w → MayStand p.modes w
  along_may [] m w h e = let same : m ≡ w = cc in subst (λ (x : Mode). MayStand p.modes x) same h
  along_may (k ∷ path) m w h e = onward path (part_mode p.modes.records k (out-Mode m)) w (λ v q. part_may m v k (out-Mode m) refl h q) (λ v g q. along_may path v w g q) e
