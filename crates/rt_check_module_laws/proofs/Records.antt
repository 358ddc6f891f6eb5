-- The records of a module in which no fault stands.
use Rattle.std.proofs.Common.{◌≡◌, inl, inr, ℕ, zero, suc, ◌<◌, ◌-◌, ◌&&◌, not, true, List, [], ◌∷◌, length, map, Option, Some, None, arith, refl, sym, ap, ◌∙◌, subst}
use Rattle.std.proofs.lemmas.Bool.Decides.{nat_tests}
use Rattle.std.specs.Prelude.{nat_lt, slice_get}
use Rattle.std.specs.List.{list_all, AllByRecursion}
use Rattle.rt_bricks.specs.declared.tree.Declaration.{Declaration}
use Rattle.rt_bricks.specs.declared.tree.Module.{Module}
use Rattle.rt_pieces.specs.declared.item.Item.{Item}
use Rattle.rt_check_declared.specs.Names.{scope}
use Rattle.rt_bricks.specs.declared.tree.RecordMode.{RecordMode}
use Rattle.rt_check_faults.specs.declared.fault.CheckFault.{CheckFault}
use Rattle.rt_check_faults.specs.declared.fault.CheckFault.TheVariants as fault
use Rattle.rt_modes.specs.declared.mode.Field.{Field}
use Rattle.rt_modes.specs.declared.mode.Mode.{Mode, out-Mode, roll-Mode, map-Mode, the_lemmas}
use Rattle.rt_modes.specs.declared.mode.Mode.TheFolds.{ind-Mode, fold_out-Mode}
use Rattle.rt_modes.specs.declared.mode.Mode.TheOpen.{Mode-F}
use Rattle.rt_modes.specs.declared.mode.RecordDef.{RecordDef}
use Rattle.rt_modes.specs.FullMode.{fields_in}
use Rattle.rt_sizes.specs.Containing.{held, held_layer, HaveOne, fields_of, Contains, directly, through}
use Rattle.rt_check_declared.specs.Records.{definition, record_modes, field_faults, in_fields, in_itself, of_modes}
use Rattle.rt_check_declared.specs.Verdicts.{IsIn}
use Rattle.rt_check_declared.specs.Written.{Names}
use Rattle.rt_tree.specs.declared.standing.Standing.{Standing}
use Rattle.rt_tree.specs.declared.standing.Standing.TheVariants as standing
use Rattle.rt_tree.specs.Modules.{Stands, is_alone, is_passed, is_length, layer_stands, stands, field_stands, record_stands}
use Rattle.rt_check_bodies_laws.specs.Standing.{AreRecords}
use Rattle.rt_bricks_laws.specs.Modes.{ModesShallow}
use Rattle.rt_bricks_laws.proofs.ShallowBricks.{modes_shallow}
use Rattle.rt_check_module.specs.Tree.{modes_seen, records}
use Rattle.rt_check_module.specs.Faults.{in_modes}
use Rattle.rt_check_module_laws.specs.Modules.{IsText, IsFaultless}
use Rattle.rt_check_module_laws.proofs.Known.{scope_once, scope_below}
use Rattle.rt_check_module_laws.proofs.Levels.{mode_below}
use Rattle.rt_bricks_laws.proofs.AllLists.{length_mapped, all_get, true_all, right_of}
use Rattle.rt_check_module_laws.proofs.Modes.{records_stand, records_have_items}
use Rattle.rt_check_module_laws.specs.Starts.{AreRecordsWhole}

-- how many records there are
pub record_count : (ds : List Declaration) → length (records ds).records ≡ length (record_modes ds)
record_count ds = length_mapped (definition (modes_seen ds)) (record_modes ds)

-- a name that stands for a MODE stands for one of them
pub modes_are_records : (ds : List Declaration) → AreRecords (length (records ds).records) (modes_seen ds)
modes_are_records ds n r e = ap (nat_lt r) (record_count ds) ∙ mode_below (length (record_modes ds)) n r (scope ds) (scope_once ds) (scope_below ds) e

pub text_shallow : (items : List Item) (m : Module) → IsText items m → AllByRecursion ModesShallow m.declarations
text_shallow items m t = modes_shallow items m t.derived

-- ---- what has no fault

pub nothing_in : (fs : List CheckFault) → ((g : CheckFault) → IsIn g fs → ⊥) → fs ≡ []
nothing_in [] h = refl
nothing_in (f ∷ fs) h = absurd (h f (inl refl))

-- no fault stands in the modes of a MODE's fields
abbrev pub ModesFit : Names → RecordMode → Type 0
ModesFit names r = field_faults names r ≡ []

all_got : {A : Type 0} (P : A → Type 0) (xs : List A) → ((k : ℕ) (x : A) → slice_get xs k ≡ Some x → P x) → AllByRecursion P xs
all_got P [] h = tt
all_got P (x ∷ xs) h = (h 0 x refl, all_got P xs (λ k y e. h (suc k) y e))

pub modes_fit : (ds : List Declaration) → IsFaultless ds → AllByRecursion (ModesFit (modes_seen ds)) (record_modes ds)
modes_fit ds fine = all_got (ModesFit (modes_seen ds)) (record_modes ds) (λ k r e. nothing_in (field_faults (modes_seen ds) r) (λ g i. fine g (in_modes (k, r, e, of_modes (in_fields i)))))

pub all_stand : (ds : List Declaration) → AllByRecursion ModesShallow ds → IsFaultless ds → list_all (record_stands (length (records ds).records)) (records ds).records ≡ true
all_stand ds h fine = records_stand (modes_seen ds) (length (records ds).records) (modes_are_records ds) ds h (modes_fit ds fine)

pub records_are_fit : (items : List Item) (m : Module) → IsText items m → IsFaultless m.declarations → list_all (record_stands (length (records m.declarations).records)) (records m.declarations).records ≡ true
records_are_fit items m t fine = all_stand m.declarations (text_shallow items m t) fine

-- ---- no record contains itself

all_at : {A : Type 0} (xs : List A) (k : ℕ) → (o : Option A) → slice_get xs k ≡ o → (o ≡ None → ⊥) → (x : A) × (slice_get xs k ≡ Some x)
all_at xs k None e h = absurd (h refl)
all_at xs k (Some x) e h = (x, e)

fields_there : (all : List RecordDef) (k s : ℕ) → HaveOne (fields_of all k) s → slice_get all k ≡ None → ⊥
fields_there all k s h e = subst (λ (o : Option RecordDef). HaveOne (fields_in o) s) e h

contains_there : (records : List RecordDef) (k s : ℕ) → Contains records k s → slice_get records k ≡ None → ⊥
contains_there records k s (directly h) e = fields_there records k s h e
contains_there records k s (through c h) e = contains_there records k _ c e

mapped_there : {A B : Type 0} (f : A → B) (xs : List A) (k : ℕ) (y : B) → slice_get (map f xs) k ≡ Some y → (x : A) × (slice_get xs k ≡ Some x)
mapped_there f [] k y e = absurd cc
mapped_there f (x ∷ xs) zero y e = (x, refl)
mapped_there f (x ∷ xs) (suc k) y e = mapped_there f xs k y e

pub none_in_itself : (ds : List Declaration) → IsFaultless ds → (k : ℕ) → Contains (records ds).records k k → ⊥
none_in_itself ds fine k c =
    let there = all_at (records ds).records k (slice_get (records ds).records k) refl (contains_there (records ds).records k k c) in
    let r = mapped_there (definition (modes_seen ds)) (record_modes ds) k there.0 there.1 in
    fine (fault.DeclaredTwice r.0.name.at) (in_modes (k, r.0, r.1, of_modes (in_itself (all_get (ModesFit (modes_seen ds)) (record_modes ds) k r.0 (modes_fit ds fine) r.1) c)))

-- ---- what fields hold is there

held_level : (n : ℕ) (m : Mode) (l : Mode-F Mode) → out-Mode m ≡ l → held m ≡ held_layer (map-Mode Mode (Option ℕ) held l)
held_level n m l o = rw (fold_out-Mode, o) refl

some_same : (a b : ℕ) → Some a ≡ Some b → a ≡ b
some_same a b e = cc

is_less : (r n : ℕ) → nat_lt r n ≡ true → r < n
is_less r n e = grind (arith, nat_tests)

module _ (n : ℕ) where
  abbrev Below : Mode → Type 0
  Below m = (p : Standing) (levels refs r : ℕ) → stands n m p levels refs ≡ true → held m ≡ Some r → r < n

  abbrev BelowPair : Type 0
  BelowPair = (m : Mode) × Below m

  stands_level : (m : Mode) (l : Mode-F Mode) (p : Standing) (levels refs : ℕ) → out-Mode m ≡ l → stands n m p levels refs ≡ layer_stands n (map-Mode Mode Stands (stands n) l) p levels refs
  stands_level m l p levels refs o = ap (λ (f : Stands). f p levels refs) (let e : stands n m ≡ layer_stands n (map-Mode Mode Stands (stands n) l) = rw (fold_out-Mode, o) refl in e)

  no_held : (m : Mode) (l : Mode-F Mode) (r : ℕ) → out-Mode m ≡ l → held_layer (map-Mode Mode (Option ℕ) held l) ≡ None → held m ≡ Some r → r < n
  no_held m l r o none e = absurd (let bad : None ≡ Some r = sym none ∙ sym (held_level n m l o) ∙ e in cc)

  below_level : (m : Mode) (y : Mode-F BelowPair) → out-Mode m ≡ map-Mode BelowPair Mode (λ e. e.0) y → Below m
  below_level m Mode-F.Byte o p levels refs r h e = no_held m Mode-F.Byte r o refl e
  below_level m Mode-F.Int o p levels refs r h e = no_held m Mode-F.Int r o refl e
  below_level m Mode-F.Frac o p levels refs r h e = no_held m Mode-F.Frac r o refl e
  below_level m Mode-F.Label o p levels refs r h e = no_held m Mode-F.Label r o refl e
  below_level m (Mode-F.Ref a) o p levels refs r h e = no_held m (Mode-F.Ref a.0) r o refl e
  below_level m (Mode-F.RefArray a) o p levels refs r h e = no_held m (Mode-F.RefArray a.0) r o refl e
  below_level m (Mode-F.Array k a) o p levels refs r h e =
      let here : is_alone p && (nat_lt 0 levels && (is_length k && stands n a.0 standing.Inside (levels - 1) 8)) ≡ true = sym (stands_level m (Mode-F.Array k a.0) p levels refs o) ∙ h in
      let inner = right_of (is_length k) (stands n a.0 standing.Inside (levels - 1) 8) (right_of (nat_lt 0 levels) (is_length k && stands n a.0 standing.Inside (levels - 1) 8) (right_of (is_alone p) (nat_lt 0 levels && (is_length k && stands n a.0 standing.Inside (levels - 1) 8)) here)) in
      a.1 standing.Inside (levels - 1) 8 r inner (sym (held_level n m (Mode-F.Array k a.0) o) ∙ e)
  below_level m (Mode-F.Record q) o p levels refs r h e =
      let here : not (is_passed p) && nat_lt q n ≡ true = sym (stands_level m (Mode-F.Record q) p levels refs o) ∙ h in
      subst (λ (x : ℕ). x < n) (some_same q r (sym (held_level n m (Mode-F.Record q) o) ∙ e)) (is_less q n (right_of (not (is_passed p)) (nat_lt q n) here))
  below_level m (Mode-F.Proc ps None) o p levels refs r h e = no_held m (Mode-F.Proc (map (λ (z : BelowPair). z.0) ps) None) r o refl e
  below_level m (Mode-F.Proc ps (Some q)) o p levels refs r h e = no_held m (Mode-F.Proc (map (λ (z : BelowPair). z.0) ps) (Some q.0)) r o refl e

  rolled : (l : Mode-F Mode) → out-Mode (roll-Mode l) ≡ l
  rolled l = search the_lemmas

  pub held_below : (m : Mode) → Below m
  held_below = ind-Mode Below (λ x y is. below_level (roll-Mode x) y (rolled x ∙ sym is))

  fields_below : (fs : List Field) (s : ℕ) → AllByRecursion (λ (f : Field). field_stands n f ≡ true) fs → HaveOne fs s → s < n
  fields_below [] s h g = absurd g
  fields_below (f ∷ fs) s h (inl e) = held_below f.mode standing.Alone 100 8 s h.0 e
  fields_below (f ∷ fs) s h (inr g) = fields_below fs s h.1 g

pub all_below : (records : List RecordDef) → list_all (record_stands (length records)) records ≡ true → (k s : ℕ) → HaveOne (fields_of records k) s → s < length records
all_below records h k s g = by_record (slice_get records k) refl g where
  by_record : (o : Option RecordDef) → slice_get records k ≡ o → HaveOne (fields_in o) s → s < length records
  by_record None e g = absurd g
  by_record (Some d) e g =
      let stand : record_stands (length records) d ≡ true = all_get (λ x. record_stands (length records) x ≡ true) records k d (true_all (record_stands (length records)) records h) e in
      fields_below (length records) d.fields s (true_all (field_stands (length records)) d.fields stand) g

pub records_whole : (ds : List Declaration) → AllByRecursion ModesShallow ds → IsFaultless ds → AreRecordsWhole (records ds).records
records_whole ds h fine = record {
  apart = none_in_itself ds fine;
  items = records_have_items (modes_seen ds) (length (records ds).records) (modes_are_records ds) ds h (modes_fit ds fine);
  below = all_below (records ds).records (all_stand ds h fine);
}
