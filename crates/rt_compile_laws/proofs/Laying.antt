-- The data of a module whose nodes fit lie somewhere.
use Rattle.std.proofs.Common.{◌≡◌, ℕ, zero, suc, ◌+◌, ◌&&◌, ◌||◌, ◌<◌, nat_lt, Bool, true, false, List, [], ◌∷◌, length, replicate, take, map, Option, Some, None, option_map, refl, sym, ap, ◌∙◌, arith}
use Rattle.std.specs.Prelude.{slice_get, codes}
use Rattle.std.specs.List.{list_all, AllByRecursion}
use Rattle.std.specs.Str.{bytes_eq}
use Rattle.std.proofs.lemmas.Bool.Decides.{nat_tests}
use Rattle.std.proofs.lemmas.Option.{slice_get_within}
use Rattle.rt_bricks_laws.proofs.AllLists.{some_is, left_of, right_of}
use Rattle.rt_modes.specs.declared.mode.Field.{Field}
use Rattle.rt_modes.specs.declared.mode.Mode.{Mode, out-Mode, the_lemmas}
use Rattle.rt_modes.specs.declared.mode.Mode.TheOpen.{Mode-F}
use Rattle.rt_modes.specs.declared.mode.Mode.TheVariants as mode
use Rattle.rt_modes.specs.declared.mode.RecordDef.{RecordDef}
use Rattle.rt_sizes.specs.Containing.{Contains}
use Rattle.rt_sizes.specs.Sizes.{Table, within, and_then, begins, size, field_begins, field_end, fields_end, offset, offset_by, RecordHasSize, Begins}
use Rattle.rt_sizes.proofs.Layers.{size_at}
use Rattle.rt_sizes_laws.specs.Laws.{AllKnown, AllStand, HasNoRing, HavePlaces, ModesHaveSizes, FieldsHavePlaces, NoRings, WholeListsAreKnown}
use Rattle.rt_tree_nodes.specs.declared.brick.Brick.{Brick}
use Rattle.rt_tree_nodes.specs.declared.brick.BrickSort.{BrickSort}
use Rattle.rt_tree_nodes.specs.declared.brick.BrickSort.TheVariants as sort
use Rattle.rt_tree_nodes.specs.declared.brick.DataStart.{DataStart}
use Rattle.rt_tree_nodes.specs.declared.brick.Kind.{Kind}
use Rattle.rt_tree_nodes.specs.declared.brick.ModuleParts.{ModuleParts}
use Rattle.rt_tree_nodes.specs.Scopes.{is_svc, is_label_layer}
use Rattle.rt_tree.specs.declared.standing.Standing.TheVariants as standing
use Rattle.rt_tree.specs.FullModes.{MayStand}
use Rattle.rt_tree.specs.Modules.{stands, field_stands, item_stands, every_node_fits}
use Rattle.rt_tree.specs.Opened.{IsTable}
use Rattle.rt_sizes_laws.proofs.Alike.{fields_stand}
use Rattle.rt_meaning_laws.proofs.Modes.{stands_at}
use Rattle.rt_meaning_laws.proofs.Nodes.{data_fits}
use Rattle.rt_lower.specs.declared.layouts.Layouts.{Layouts}
use Rattle.rt_lower.specs.Layouts.{table_of, AreOffsets, fields_in, ItemsBegin, FieldsBegin, AreLayouts}
use Rattle.rt_compile_laws.proofs.Chosen.{choose, there}

-- the laws of sizes that are cited
pub record Sizing : Type 0 where
  pub modes : ModesHaveSizes
  pub fields : FieldsHavePlaces
  pub rings : NoRings
  pub known : WholeListsAreKnown

-- ---- a LABEL is as large as an INT, and lies like one

abbrev worded : Mode-F Mode → Mode → Mode
worded Mode-F.Label m = mode.Int
worded _ m = m

abbrev as_word : Field → Field
as_word f = record { name = f.name; mode = worded (out-Mode f.mode) f.mode }

out_int : out-Mode mode.Int ≡ Mode-F.Int
out_int = search the_lemmas

then_same : (o : Option ℕ) (f g : ℕ → Option ℕ) → ((n : ℕ) → f n ≡ g n) → and_then o f ≡ and_then o g
then_same None f g h = refl
then_same (Some n) f g h = h n

module _ (r : ℕ → Option ℕ) where
  same_size : (m : Mode) (l : Mode-F Mode) → out-Mode m ≡ l → size r (worded l m) ≡ size r m
  same_size m Mode-F.Label o = size_at r mode.Int Mode-F.Int out_int ∙ sym (size_at r m Mode-F.Label o)
  same_size m Mode-F.Byte o = refl
  same_size m Mode-F.Int o = refl
  same_size m Mode-F.Frac o = refl
  same_size m (Mode-F.Ref a) o = refl
  same_size m (Mode-F.RefArray a) o = refl
  same_size m (Mode-F.Array k a) o = refl
  same_size m (Mode-F.Record q) o = refl
  same_size m (Mode-F.Proc ps q) o = refl

  same_begin : (m : Mode) (l : Mode-F Mode) (n : ℕ) → out-Mode m ≡ l → begins (out-Mode (worded l m)) n ≡ begins (out-Mode m) n
  same_begin m Mode-F.Label n o = ap (λ (x : Mode-F Mode). begins x n) out_int ∙ sym (ap (λ (x : Mode-F Mode). begins x n) o)
  same_begin m Mode-F.Byte n o = refl
  same_begin m Mode-F.Int n o = refl
  same_begin m Mode-F.Frac n o = refl
  same_begin m (Mode-F.Ref a) n o = refl
  same_begin m (Mode-F.RefArray a) n o = refl
  same_begin m (Mode-F.Array k a) n o = refl
  same_begin m (Mode-F.Record q) n o = refl
  same_begin m (Mode-F.Proc ps q) n o = refl

  same_end : (f : Field) (n : ℕ) → field_end r (as_word f) n ≡ field_end r f n
  same_end f n =
      ap (λ (b : ℕ). option_map (λ s. b + s) (size r (as_word f).mode)) (same_begin f.mode (out-Mode f.mode) n refl) ∙ ap (option_map (λ s. field_begins r f n + s)) (same_size f.mode (out-Mode f.mode) refl)

  same_ends : (fs : List Field) (n : ℕ) → fields_end r (map as_word fs) n ≡ fields_end r fs n
  same_ends [] n = refl
  same_ends (f ∷ fs) n = ap (λ (o : Option ℕ). and_then o (fields_end r (map as_word fs))) (same_end f n) ∙ then_same (field_end r f n) (fields_end r (map as_word fs)) (fields_end r fs) (same_ends fs)

  taken_words : (k : ℕ) (fs : List Field) → take k (map as_word fs) ≡ map as_word (take k fs)
  taken_words zero fs = refl
  taken_words (suc k) [] = refl
  taken_words (suc k) (f ∷ fs) = ap (λ (xs : List Field). as_word f ∷ xs) (taken_words k fs)

  word_at : (fs : List Field) (k : ℕ) (f : Field) → slice_get fs k ≡ Some f → slice_get (map as_word fs) k ≡ Some (as_word f)
  word_at [] k f e = absurd cc
  word_at (g ∷ fs) zero f e = ap (λ (x : Field). Some (as_word x)) (some_is g f e)
  word_at (g ∷ fs) (suc k) f e = word_at fs k f e

  by_word : (f : Field) (o : Option ℕ) → offset_by r (Some (as_word f)) o ≡ offset_by r (Some f) o
  by_word f None = refl
  by_word f (Some n) = ap (λ (x : ℕ). Some x) (same_begin f.mode (out-Mode f.mode) n refl)

  same_offset : (fs : List Field) (k : ℕ) (f : Field) → slice_get fs k ≡ Some f → offset r (map as_word fs) k ≡ offset r fs k
  same_offset fs k f e =
      ap (λ (o : Option Field). offset_by r o (fields_end r (take k (map as_word fs)) 0)) (word_at fs k f e)
      ∙ ap (λ (xs : List Field). offset_by r (Some (as_word f)) (fields_end r xs 0)) (taken_words k fs)
      ∙ ap (offset_by r (Some (as_word f))) (same_ends (take k fs) 0)
      ∙ by_word f (fields_end r (take k fs) 0)
      ∙ sym (ap (λ (o : Option Field). offset_by r o (fields_end r (take k fs) 0)) e)

words_have_places : (t : Table) (fs : List Field) → HavePlaces t (map as_word fs) → HavePlaces t fs
words_have_places t fs h = record {
  begins = λ k f e. let at = h.begins k (as_word f) (word_at (within t 0) fs k f e) in (at.0, (at.1.0, sym (same_offset (within t at.1.0) fs k f e) ∙ at.1.1));
  ends = let at = h.ends in (at.0, (at.1.0, sym (same_ends (within t at.1.0) fs 0) ∙ at.1.1));
}

-- ---- items of data may stand, or are LABELs

no_label : (b : Bool) → b || false ≡ true → b ≡ true
no_label true e = refl
no_label false e = absurd cc

allowed : (a c b x y : Bool) → a || (c && (b && (x && y))) ≡ true → a || y ≡ true
allowed true c b x y h = refl
allowed false true true true y h = h
allowed false true true false y h = absurd cc
allowed false true false x y h = absurd cc
allowed false false b x y h = absurd cc

module _ (n : ℕ) where
  int_stands : stands n mode.Int standing.Alone 100 8 ≡ true
  int_stands = ap (λ f. f standing.Alone 100 8) (stands_at n mode.Int Mode-F.Int out_int)

  word_stands : (f : Field) (l : Mode-F Mode) → out-Mode f.mode ≡ l → field_stands n f || is_label_layer l ≡ true → stands n (worded l f.mode) standing.Alone 100 8 ≡ true
  word_stands f Mode-F.Label o h = int_stands
  word_stands f Mode-F.Byte o h = no_label (field_stands n f) h
  word_stands f Mode-F.Int o h = no_label (field_stands n f) h
  word_stands f Mode-F.Frac o h = no_label (field_stands n f) h
  word_stands f (Mode-F.Ref a) o h = no_label (field_stands n f) h
  word_stands f (Mode-F.RefArray a) o h = no_label (field_stands n f) h
  word_stands f (Mode-F.Array k a) o h = no_label (field_stands n f) h
  word_stands f (Mode-F.Record q) o h = no_label (field_stands n f) h
  word_stands f (Mode-F.Proc ps q) o h = no_label (field_stands n f) h

  item_may : (k : Kind) (name : List ℕ) (f : Field) → item_stands n k name f ≡ true → field_stands n (as_word f) ≡ true
  item_may k name f h =
      word_stands f (out-Mode f.mode) refl (allowed (field_stands n f) (is_svc k) (bytes_eq name (codes "RRERR")) (bytes_eq f.name (codes "ERL")) (is_label_layer (out-Mode f.mode)) h)

module _ (laws : Sizing) (p : ModuleParts) (fits : every_node_fits p ≡ true) (tabled : IsTable p.modes) (apart : (k : ℕ) → Contains p.modes.records k k → ⊥) where
  abbrev t : Table
  t = table_of p.modes.records

  known : AllKnown t
  known = laws.known p.modes.records

  no_ring : (m : Mode) → HasNoRing p.modes.records m
  no_ring m = laws.rings p.modes.records m apart

  ringless : (fs : List Field) → AllByRecursion (λ f. HasNoRing p.modes.records f.mode) fs
  ringless [] = tt
  ringless (f ∷ fs) = (no_ring f.mode, ringless fs)

  pub have_places : (fs : List Field) → AllStand p.modes fs → HavePlaces t fs
  have_places fs stand = laws.fields p.modes (replicate (length p.modes.records) true) fs tabled known stand (ringless fs)

  -- items of a data brick of any kind
  words_stand : (k : Kind) (name : List ℕ) (fs : List Field) → list_all (item_stands (length p.modes.records) k name) fs ≡ true → AllStand p.modes (map as_word fs)
  words_stand k name [] h = tt
  words_stand k name (f ∷ fs) h =
      let here = item_may (length p.modes.records) k name f (left_of (item_stands (length p.modes.records) k name f) (list_all (item_stands (length p.modes.records) k name) fs) h) in
      (record { place = standing.Alone; levels = 100; refs = 8; passes = here }, words_stand k name fs (right_of (item_stands (length p.modes.records) k name f) (list_all (item_stands (length p.modes.records) k name) fs) h))

  pub items_have_places : (b : ℕ) (d : Brick) (fs : List Field) (ss : List DataStart) → slice_get p.bricks b ≡ Some d → d.sort ≡ sort.Data fs ss → HavePlaces t fs
  items_have_places b d fs ss at is = words_have_places t fs (have_places (map as_word fs) (words_stand d.kind d.name fs (data_fits p fits b d fs ss at is)))

  offsets : (fs : List Field) → HavePlaces t fs → (ns : List ℕ) × AreOffsets t fs ns
  offsets fs h =
      let c = choose fs (λ k f n. Begins t fs k n) (λ k f e. h.begins k f e) in
      (c.all, record { each = c.each; begin = λ k n e. let x = there fs c.all k n c.each e in c.right k x.0 n x.1 e })

  brick_rows : (b : ℕ) (d : Brick) (s : BrickSort) → slice_get p.bricks b ≡ Some d → d.sort ≡ s → (ns : List ℕ) × AreOffsets t (fields_in s) ns
  brick_rows b d (sort.Data fs ss) at is = offsets fs (items_have_places b d fs ss at is)
  brick_rows b d (sort.Proc m body) at is = ([], record { each = refl; begin = λ k n e. absurd cc })
  brick_rows b d (sort.Stack n) at is = ([], record { each = refl; begin = λ k n e. absurd cc })

  record_stands_alone : (k : ℕ) (d : RecordDef) → slice_get p.modes.records k ≡ Some d → MayStand p.modes (mode.Record k)
  record_stands_alone k d e = record {
    place = standing.Alone;
    levels = 100;
    refs = 8;
    passes = let o : out-Mode (mode.Record k) ≡ Mode-F.Record k = search the_lemmas in ap (λ f. f standing.Alone 100 8) (stands_at (length p.modes.records) (mode.Record k) (Mode-F.Record k) o) ∙ is_less k (length p.modes.records) (slice_get_within p.modes.records k d e);
  } where
    is_less : (a b : ℕ) → a < b → nat_lt a b ≡ true
    is_less a b h = grind (arith, nat_tests)

  pub record_size : (k : ℕ) (d : RecordDef) → slice_get p.modes.records k ≡ Some d → (n : ℕ) × RecordHasSize t k n
  record_size k d e =
      let o : out-Mode (mode.Record k) ≡ Mode-F.Record k = search the_lemmas in
      let is = laws.modes p.modes (replicate (length p.modes.records) true) (mode.Record k) tabled known (record_stands_alone k d e) (no_ring (mode.Record k)) in
      (is.0, (is.1.0, sym (size_at (within t is.1.0) (mode.Record k) (Mode-F.Record k) o) ∙ is.1.1))

  pub layouts : (l : Layouts) × AreLayouts p l
  layouts =
      let items = choose p.bricks (λ k d ns. ItemsBegin t d ns) (λ k d e. brick_rows k d d.sort e refl) in
      let fields = choose p.modes.records (λ k r ns. FieldsBegin t r ns) (λ k r e. offsets r.fields (have_places r.fields (fields_stand p.modes r.fields (tabled.fields k r e)))) in
      let sizes = choose p.modes.records (λ k r n. RecordHasSize t k n) (λ k r e. record_size k r e) in (
        record { items = items.all; fields = fields.all; sizes = sizes.all },
        record {
          items = record { each = items.each; right = items.right };
          fields = record { each = fields.each; right = fields.right };
          sizes = record { each = sizes.each; right = λ k n e. let x = there p.modes.records sizes.all k n sizes.each e in sizes.right k x.0 n x.1 e };
        },
      )
