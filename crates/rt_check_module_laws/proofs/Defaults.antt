-- The start of an item for which nothing is written fits: no record contains itself, so that a start is made of every record that it
-- holds.
use Rattle.std.proofs.Common.{◌≡◌, inl, inr, ℕ, zero, suc, ◌<◌, ◌≤◌, Bool, true, false, List, [], ◌∷◌, Option, Some, None, length, map, slice_get, slice_set, refl, sym, ap, ◌∙◌, subst, arith}
use Rattle.std.specs.Prelude.{replicate}
use Rattle.std.specs.List.{AllByRecursion}
use Rattle.std.proofs.lemmas.List.{length-replicate}
use Rattle.rt_modes.specs.declared.mode.Field.{Field}
use Rattle.rt_modes.specs.declared.mode.Mode.{Mode, out-Mode, map-Mode}
use Rattle.rt_modes.specs.declared.mode.Mode.TheFolds.{fold_out-Mode}
use Rattle.rt_modes.specs.declared.mode.Mode.TheOpen.{Mode-F}
use Rattle.rt_modes.specs.declared.mode.RecordDef.{RecordDef}
use Rattle.rt_modes.specs.FullMode.{fields_in}
use Rattle.rt_sizes.specs.Containing.{held, held_layer, HaveOne, Contains, directly, through}
use Rattle.rt_sizes.specs.Containing as containing
use Rattle.rt_sizes.specs.Reaching.{unmarked}
use Rattle.rt_sizes.proofs.Reaching.{set_from, set_count, set_long, none_marked}
use Rattle.rt_tree_nodes.specs.declared.brick.DataStart.{DataStart}
use Rattle.rt_tree_nodes.specs.declared.brick.DataStart.TheVariants as start
use Rattle.rt_tree_nodes.specs.Scopes.{Scope}
use Rattle.rt_tree.specs.Modules.{number_starts, starts, fields_start}
use Rattle.rt_exprs.specs.Operands.{is_label}
use Rattle.rt_exprs_laws.specs.Agreeing.{IsItem}
use Rattle.rt_exprs_laws.proofs.Standing.{array_inner, inner_item}
use Rattle.rt_check_bodies_laws.proofs.Certain.{no_label}
use Rattle.rt_check_module.specs.Defaults.{element_has, has, all_have, fields_have, element_made, default_by, fields_made, record_has, record_made, has_default, default}
use Rattle.rt_check_module_laws.specs.Starts.{AreRecordsWhole}
use Rattle.rt_check_module_laws.proofs.Tests.{left_of, right_of, both}
use Rattle.rt_check_module_laws.proofs.Layers.{a_number, an_array, a_record, copies_start}

label_item : (m : Mode) → out-Mode m ≡ Mode-F.Label → IsItem m → ⊥
label_item m o h = let bad : true ≡ false = sym (ap is_label o) ∙ no_label m h in cc

-- ---- the record that a mode holds

held_at : (m : Mode) (l : Mode-F Mode) → out-Mode m ≡ l → held m ≡ held_layer (map-Mode Mode (Option ℕ) held l)
held_at m l o = rw (fold_out-Mode, o) refl

-- ---- marks

mark_there : (ms : List Bool) (k : ℕ) → k < length ms → (b : Bool) × (slice_get ms k ≡ Some b)
mark_there [] k h = absurd (omega arith)
mark_there (m ∷ ms) zero h = (m, refl)
mark_there (m ∷ ms) (suc k) h = mark_there ms k (omega arith)

all_unmarked : (n : ℕ) → unmarked (replicate n false) ≡ n
all_unmarked zero = refl
all_unmarked (suc n) = ap suc (all_unmarked n)

module _ (c : Scope) (records : List RecordDef) (same_records : records ≡ c.records) (whole : AreRecordsWhole records) where
  zero_fits : (m : Mode) (l : Mode-F Mode) → out-Mode m ≡ l → number_starts 0 l ≡ true → starts c (start.Number 0) m ≡ true
  zero_fits m l o h = a_number c 0 m ∙ ap (number_starts 0) o ∙ h

  -- ---- one level, where the records that are held fit

  module _ (levels : ℕ) (Good : ℕ → Type 0) (known : (r : ℕ) (m : Mode) → Good r → out-Mode m ≡ Mode-F.Record r → record_has records levels r ≡ true → starts c (record_made records levels r) m ≡ true) where
    abbrev HoldsGood : Mode → Type 0
    HoldsGood m = (r : ℕ) → held m ≡ Some r → Good r

    element_fits : (m : Mode) (l : Mode-F Mode) → out-Mode m ≡ l → IsItem m → HoldsGood m → element_has (record_has records levels) l ≡ true → starts c (element_made (record_made records levels) l) m ≡ true
    element_fits m Mode-F.Byte o i g h = zero_fits m Mode-F.Byte o refl
    element_fits m Mode-F.Int o i g h = zero_fits m Mode-F.Int o refl
    element_fits m Mode-F.Frac o i g h = zero_fits m Mode-F.Frac o refl
    element_fits m (Mode-F.Record r) o i g h = known r m (g r (held_at m (Mode-F.Record r) o)) o h
    element_fits m Mode-F.Label o i g h = absurd (label_item m o i)
    element_fits m (Mode-F.Ref n) o i g h = absurd cc
    element_fits m (Mode-F.RefArray n) o i g h = absurd cc
    element_fits m (Mode-F.Array n e) o i g h = absurd cc
    element_fits m (Mode-F.Proc ps r) o i g h = absurd cc

    mode_fits : (m : Mode) (l : Mode-F Mode) → out-Mode m ≡ l → IsItem m → HoldsGood m → has (record_has records levels) l ≡ true → starts c (default_by (record_made records levels) l) m ≡ true
    mode_fits m (Mode-F.Array n e) o i g h =
        let x : DataStart = element_made (record_made records levels) (out-Mode e) in
        let inner : HoldsGood e = λ r q. g r (held_at m (Mode-F.Array n e) o ∙ q) in
        an_array c (replicate n x) m n e o (length-replicate n x) (copies_start c n x e (element_fits e (out-Mode e) refl (inner_item e (array_inner m n e o i)) inner h))
    mode_fits m Mode-F.Byte o i g h = element_fits m Mode-F.Byte o i g h
    mode_fits m Mode-F.Int o i g h = element_fits m Mode-F.Int o i g h
    mode_fits m Mode-F.Frac o i g h = element_fits m Mode-F.Frac o i g h
    mode_fits m (Mode-F.Record r) o i g h = element_fits m (Mode-F.Record r) o i g h
    mode_fits m Mode-F.Label o i g h = absurd (label_item m o i)
    mode_fits m (Mode-F.Ref n) o i g h = absurd cc
    mode_fits m (Mode-F.RefArray n) o i g h = absurd cc
    mode_fits m (Mode-F.Proc ps r) o i g h = absurd cc

    all_fit : (fs : List Field) → AllByRecursion (λ (f : Field). IsItem f.mode) fs → ((s : ℕ) → HaveOne fs s → Good s) → all_have (record_has records levels) fs ≡ true
        → fields_start (map (starts c) (map (λ (f : Field). default_by (record_made records levels) (out-Mode f.mode)) fs)) fs ≡ true
    all_fit [] i g h = refl
    all_fit (f ∷ fs) i g h =
        let a : Bool = has (record_has records levels) (out-Mode f.mode) in
        let b : Bool = all_have (record_has records levels) fs in
        both (starts c (default_by (record_made records levels) (out-Mode f.mode)) f.mode) _ (mode_fits f.mode (out-Mode f.mode) refl i.0 (λ r q. g r (inl q)) (left_of a b h)) (all_fit fs i.1 (λ s q. g s (inr q)) (right_of a b h))

    definition_fits : (r : ℕ) (m : Mode) (o : Option RecordDef) → out-Mode m ≡ Mode-F.Record r → slice_get records r ≡ o → ((s : ℕ) → HaveOne (fields_in o) s → Good s) → fields_have (record_has records levels) o ≡ true
        → starts c (fields_made (record_made records levels) o) m ≡ true
    definition_fits r m None is o g h = absurd cc
    definition_fits r m (Some d) is o g h = a_record c _ m r d is (ap (λ (rs : List RecordDef). slice_get rs r) (sym same_records) ∙ o) (all_fit d.fields (whole.items r d o) g h)

  -- ---- from record to record

  -- marked is what contains the record, on the way to it
  record OnWay (ms : List Bool) (k : ℕ) : Type 0 where
    there : k < length records
    long : length ms ≡ length records
    above : (s : ℕ) → slice_get ms s ≡ Some true → Contains records s k

  unmarked_here : (ms : List Bool) (k : ℕ) (b : Bool) → OnWay ms k → slice_get ms k ≡ Some b → slice_get ms k ≡ Some false
  unmarked_here ms k true w e = absurd (whole.apart k (w.above k e))
  unmarked_here ms k false w e = e

  is_unmarked : (ms : List Bool) (k : ℕ) → OnWay ms k → slice_get ms k ≡ Some false
  is_unmarked ms k w =
      let l : k < length records = w.there in
      let same : length ms ≡ length records = w.long in
      let found = mark_there ms k (omega arith) in
      unmarked_here ms k found.0 w found.1

  further_on : (ms : List Bool) (k s : ℕ) → OnWay ms k → HaveOne (containing.fields_of records k) s → OnWay (slice_set ms k true) s
  further_on ms k s w h = record {
    there = whole.below k s h;
    long = set_long ms k ∙ w.long;
    above = λ j m. elim (set_from ms k j m) [ inl g ↦ through (w.above j g) h | inr same ↦ directly (subst (λ (x : ℕ). HaveOne (containing.fields_of records x) s) (sym same) h) ];
  }

  abbrev RecordsFit : ℕ → Type 0
  RecordsFit fuel = (ms : List Bool) (k : ℕ) (m : Mode) → unmarked ms ≤ fuel → OnWay ms k → out-Mode m ≡ Mode-F.Record k → record_has records fuel k ≡ true → starts c (record_made records fuel k) m ≡ true

  records_fit : (fuel : ℕ) → RecordsFit fuel
  unfolding record_has record_made
  records_fit zero ms k m less w o h = absurd (let free = is_unmarked ms k w in let count = set_count ms k free in omega (arith, count, less))
  records_fit (suc fuel) ms k m less w o h =
      let free = is_unmarked ms k w in
      let count = set_count ms k free in
      let fewer : unmarked (slice_set ms k true) ≤ fuel = omega (arith, count, less) in
      definition_fits fuel (λ s. OnWay (slice_set ms k true) s) (λ r n g is q. records_fit fuel (slice_set ms k true) r n fewer g is q) k m (slice_get records k) o refl (λ s q. further_on ms k s w q) h

  first_on : (k : ℕ) → k < length records → OnWay (replicate (length records) false) k
  first_on k there = record { there = there; long = length-replicate (length records) false; above = λ s m. absurd (none_marked (length records) s m) }

  pub default_fits : (m : Mode) → IsItem m → ((r : ℕ) → held m ≡ Some r → r < length records) → has_default records m ≡ true → starts c (default records m) m ≡ true
  default_fits m i below h =
      let n : ℕ = length records in
      let ms : List Bool = replicate n false in
      let all : unmarked ms ≡ n = all_unmarked n in
      mode_fits n (λ s. OnWay ms s) (λ r k g is q. records_fit n ms r k (omega (arith, all)) g is q) m (out-Mode m) refl i (λ r q. first_on r (below r q)) h
