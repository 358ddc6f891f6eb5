-- What fits the parts of an object is the spelling of a part in its ranges, and the other way round.
use Rattle.std.proofs.Common.{◌≡◌, ℕ, zero, suc, ◌*◌, ◌/◌, ◌%◌, ◌^◌, ◌<◌, ◌≤◌, Bool, true, false, ◌&&◌, eqb, ltb, inl, inr, List, [], ◌∷◌, ◌++◌, length, map, Option, Some, None, refl, sym, ap, subst, ◌∙◌, arith}
use Rattle.std.specs.List.{AllByRecursion, slice_get}
use Rattle.std.proofs.lemmas.Bool.{eqb-true, leb-true, le-leb, ltb-true, lt-ltb}
use Rattle.std.proofs.lemmas.Bool.Decides.{nat_tests}
use Rattle.std.proofs.lemmas.Slice.Eq.{bytes_eq-Decides}
use Rattle.rt_words.specs.Bytes.{word_bytes}
use Rattle.rt_words.specs.Format.{Format, nothing, byte, word, block, name, where_true, any, within, ◌>>=◌, passing}
use Rattle.rt_words.specs.Spelling.{name_bytes}
use Rattle.rt_words.proofs.Spelled.{AreBytes, AllStand}
use Rattle.rt_modes.proofs.Spelled.{fits_stands, stands_fits}
use Rattle.rt_modes.specs.Spelling.{spelling, mode_format, MayStand}
use Rattle.rt_modes.specs.declared.mode.Field.{Field}
use Rattle.rt_modes.specs.declared.mode.Mode.{Mode, out-Mode}
use Rattle.rt_modes.specs.declared.mode.Mode.TheOpen.{Mode-F}
use Rattle.rt_modes.specs.declared.mode.RecordDef.{RecordDef}
use Rattle.rt_sizes.specs.Sizes.{even}
use Rattle.rt_object.specs.Grammar.{is_no_label_layer, is_no_label, may_be, is_rrerr, is_proc_layer, is_proc_code, is_value_layer, is_value_code, begins, beginning, size_of, is_within_most, is_size, is_behind, is_place}
use Rattle.rt_object.specs.Grammar as spec
use Rattle.rt_object.specs.Ranges.{IsByte, IsWord, IsName, IsCounted, AreDifferent, Rise, IsLabel, IsProcLayer, IsProcMode, IsValueLayer, IsValueMode, IsNoLabel, field_names, HaveFieldRanges, HasRecordRanges, table_of, HaveSize, HaveBytes, IsNamed, HaveRelocationRanges}
use Rattle.rt_object.specs.Ranges as ranges
use Rattle.rt_object.specs.Spelling.{counted_spelling, field_spelling, fields_spelling, record_spelling, block_spelling, relocated_spelling, relocation_spelling, relocations_spelling, target_spelling, call_spelling}
use Rattle.rt_object.specs.declared.object.Call.{Call}
use Rattle.rt_object.specs.declared.object.Relocated.{Relocated}
use Rattle.rt_object.specs.declared.object.Relocated.TheVariants as relocated
use Rattle.rt_object.specs.declared.object.Relocation.{Relocation}
use Rattle.rt_object.specs.declared.object.Target.{Target}
use Rattle.rt_object.specs.declared.object.Target.TheVariants as target
use Rattle.rt_object.specs.declared.tag.Called.{Called}
use Rattle.rt_object.specs.declared.tag.Called.TheVariants as callees
use Rattle.rt_object.specs.declared.tag.Named.{Named}
use Rattle.rt_object.specs.declared.tag.Named.TheVariants as namings
use Rattle.rt_object.proofs.Beginning.{spelt_beginning}
use Rattle.rt_object.proofs.Depth.{end_is_size, size_is_end}
use Rattle.rt_object.proofs.ModeBytes.{mode_bytes, code_in, coded, begins_coded}
use Rattle.rt_object.proofs.Differing.{either_way, no_names, Fresh, fresh_all, all_fresh, no_numbers, Later, later_all, all_later}
use Rattle.rt_object.proofs.Spelt.{few_spelled, Spelt, spelt_name, spelt_block, spelt_same, spelt_passing, spelt_any, spelt_within, spelt_below, spelt_test, spelt_code, spelt_nothing, spelt_then, spelt_made, spelt_counted, spelt_list, both_true}

-- ---- modes

pub spelt_mode : (records : ℕ) → records ≤ 2 ^ 16 → Spelt (mode_format records) spelling (MayStand records)
spelt_mode records small = record { spelled = record { there = fits_stands records; back = stands_fits records }; bytes = mode_bytes records small }

pub no_label_is : (m : Mode) → is_no_label m ≡ true → IsNoLabel m
no_label_is m e label = let bad : false ≡ true = subst (λ l. is_no_label_layer l ≡ true) label e in cc

pub no_label_layer : (l : Mode-F Mode) → (l ≡ Mode-F.Label → ⊥) → is_no_label_layer l ≡ true
no_label_layer Mode-F.Label h = absurd (h refl)
no_label_layer Mode-F.Byte h = refl
no_label_layer Mode-F.Int h = refl
no_label_layer Mode-F.Frac h = refl
no_label_layer (Mode-F.Ref m) h = refl
no_label_layer (Mode-F.RefArray m) h = refl
no_label_layer (Mode-F.Array n m) h = refl
no_label_layer (Mode-F.Record k) h = refl
no_label_layer (Mode-F.Proc ps r) h = refl

-- what a test of a mode says: labels stand in RRERR alone
abbrev pub IsInRrerr : List ℕ → Mode → Type 0
IsInRrerr n m = IsLabel m → n ≡ ranges.rrerr

pub in_rrerr_is : (n : List ℕ) (m : Mode) → may_be (is_rrerr n) m ≡ true → IsInRrerr n m
in_rrerr_is n m e label = elim (either_way (is_rrerr n)) [
  | inl k ↦ (bytes_eq-Decides n ranges.rrerr).0 k
  | inr k ↦ absurd (no_label_is m (subst (λ b. may_be b m ≡ true) k e) label)
]

pub in_rrerr_back : (n : List ℕ) (m : Mode) → IsInRrerr n m → may_be (is_rrerr n) m ≡ true
in_rrerr_back n m h = elim (either_way (is_rrerr n)) [
  | inl k ↦ subst (λ b. may_be b m ≡ true) (sym k) refl
  | inr k ↦ subst (λ b. may_be b m ≡ true) (sym k) (no_label_layer (out-Mode m) (λ label. let same = (bytes_eq-Decides n ranges.rrerr).1 (h label) in let bad : true ≡ false = sym same ∙ k in cc))
]

no_label_back : (m : Mode) → IsNoLabel m → may_be false m ≡ true
no_label_back m h = no_label_layer (out-Mode m) h

pub proc_is : (l : Mode-F Mode) → is_proc_layer l ≡ true → IsProcLayer l
proc_is Mode-F.Label h = absurd cc
proc_is Mode-F.Byte h = absurd cc
proc_is Mode-F.Int h = absurd cc
proc_is Mode-F.Frac h = absurd cc
proc_is (Mode-F.Ref m) h = absurd cc
proc_is (Mode-F.RefArray m) h = absurd cc
proc_is (Mode-F.Array n m) h = absurd cc
proc_is (Mode-F.Record k) h = absurd cc
proc_is (Mode-F.Proc ps r) h = tt

pub proc_back : (l : Mode-F Mode) → IsProcLayer l → is_proc_layer l ≡ true
proc_back Mode-F.Label h = absurd h
proc_back Mode-F.Byte h = absurd h
proc_back Mode-F.Int h = absurd h
proc_back Mode-F.Frac h = absurd h
proc_back (Mode-F.Ref m) h = absurd h
proc_back (Mode-F.RefArray m) h = absurd h
proc_back (Mode-F.Array n m) h = absurd h
proc_back (Mode-F.Record k) h = absurd h
proc_back (Mode-F.Proc ps r) h = refl

pub value_is : (l : Mode-F Mode) → is_value_layer l ≡ true → IsValueLayer l
value_is Mode-F.Label h = absurd cc
value_is Mode-F.Byte h = tt
value_is Mode-F.Int h = tt
value_is Mode-F.Frac h = tt
value_is (Mode-F.Ref m) h = tt
value_is (Mode-F.RefArray m) h = tt
value_is (Mode-F.Array n m) h = absurd cc
value_is (Mode-F.Record k) h = tt
value_is (Mode-F.Proc ps r) h = tt

pub value_back : (l : Mode-F Mode) → IsValueLayer l → is_value_layer l ≡ true
value_back Mode-F.Label h = absurd h
value_back Mode-F.Byte h = refl
value_back Mode-F.Int h = refl
value_back Mode-F.Frac h = refl
value_back (Mode-F.Ref m) h = refl
value_back (Mode-F.RefArray m) h = refl
value_back (Mode-F.Array n m) h = absurd h
value_back (Mode-F.Record k) h = refl
value_back (Mode-F.Proc ps r) h = refl

-- the code of a mode says whether it is that of a procedure, or of a value
proc_coded : (l : Mode-F Mode) → is_proc_code (code_in l) ≡ is_proc_layer l
proc_coded Mode-F.Label = refl
proc_coded Mode-F.Byte = refl
proc_coded Mode-F.Int = refl
proc_coded Mode-F.Frac = refl
proc_coded (Mode-F.Ref m) = refl
proc_coded (Mode-F.RefArray m) = refl
proc_coded (Mode-F.Array n m) = refl
proc_coded (Mode-F.Record k) = refl
proc_coded (Mode-F.Proc ps r) = refl

value_coded : (l : Mode-F Mode) → is_value_code (code_in l) ≡ is_value_layer l
value_coded Mode-F.Label = refl
value_coded Mode-F.Byte = refl
value_coded Mode-F.Int = refl
value_coded Mode-F.Frac = refl
value_coded (Mode-F.Ref m) = refl
value_coded (Mode-F.RefArray m) = refl
value_coded (Mode-F.Array n m) = refl
value_coded (Mode-F.Record k) = refl
value_coded (Mode-F.Proc ps r) = refl

proc_begins : (m : Mode) → begins is_proc_code (spelling m) ≡ is_proc_layer (out-Mode m)
proc_begins m = begins_coded is_proc_code m ∙ proc_coded (out-Mode m)

value_begins : (m : Mode) → begins is_value_code (spelling m) ≡ is_value_layer (out-Mode m)
value_begins m = begins_coded is_value_code m ∙ value_coded (out-Mode m)

spelt_begun : (test : ℕ → Bool) (records : ℕ) → records ≤ 2 ^ 16 → Spelt (beginning test (mode_format records)) spelling (λ m. MayStand records m × (begins test (spelling m) ≡ true))
spelt_begun test records small = spelt_beginning test (mode_format records) spelling (MayStand records) (λ m. let k = coded m in (code_in (out-Mode m), k.0, k.1)) (spelt_mode records small)

pub spelt_proc_mode : (records : ℕ) → records ≤ 2 ^ 16 → Spelt (beginning is_proc_code (mode_format records)) spelling (λ m. MayStand records m × IsProcMode m)
spelt_proc_mode records small = spelt_same (beginning is_proc_code (mode_format records)) spelling spelling (λ m. MayStand records m × (begins is_proc_code (spelling m) ≡ true)) (λ m. MayStand records m × IsProcMode m)
    (spelt_begun is_proc_code records small) (λ m h. refl) (λ m h. (h.0, proc_is (out-Mode m) (sym (proc_begins m) ∙ h.1))) (λ m h. (h.0, proc_begins m ∙ proc_back (out-Mode m) h.1))

pub spelt_value_mode : (records : ℕ) → records ≤ 2 ^ 16 → Spelt (beginning is_value_code (mode_format records)) spelling (λ m. MayStand records m × IsValueMode m)
spelt_value_mode records small = spelt_same (beginning is_value_code (mode_format records)) spelling spelling (λ m. MayStand records m × (begins is_value_code (spelling m) ≡ true)) (λ m. MayStand records m × IsValueMode m)
    (spelt_begun is_value_code records small) (λ m h. refl) (λ m h. (h.0, value_is (out-Mode m) (sym (value_begins m) ∙ h.1))) (λ m h. (h.0, value_begins m ∙ value_back (out-Mode m) h.1))

-- ---- a name that others lack

pub spelt_new : (names : List (List ℕ)) → Spelt (passing (spec.is_new names) name) name_bytes (λ n. IsName n × (spec.is_new names n ≡ true))
spelt_new names = spelt_passing (spec.is_new names) name name_bytes IsName spelt_name

-- ---- fields

abbrev IsField : ℕ → Bool → Field → Type 0
IsField records labels f = IsName f.name × (MayStand records f.mode × (may_be labels f.mode ≡ true))

abbrev made_field : List ℕ → Mode → Field
made_field n m = record { name = n; mode = m }

module _ (records : ℕ) (small : records ≤ 2 ^ 16) (labels : Bool) where
  spelt_field_mode : Spelt (passing (may_be labels) (mode_format records)) spelling (λ m. MayStand records m × (may_be labels m ≡ true))
  spelt_field_mode = spelt_passing (may_be labels) (mode_format records) spelling (MayStand records) (spelt_mode records small)

  spelt_field : (before : List Field) → Spelt (spec.field_format records labels before) field_spelling (Fresh (λ (f : Field). f.name) (IsField records labels) before)
  spelt_field before =
      let names : List (List ℕ) = map (λ (f : Field). f.name) before in
      let rest : List ℕ → Format Field = λ new. passing (may_be labels) (mode_format records) >>= (λ mode. nothing (made_field new mode)) in
      let fits : List ℕ → Field → Type 0 = λ new f. (MayStand records f.mode × (may_be labels f.mode ≡ true)) × (made_field new f.mode ≡ f) in
      spelt_same (spec.field_format records labels before) field_spelling field_spelling (λ f. (IsName f.name × (spec.is_new names f.name ≡ true)) × fits f.name f) (Fresh (λ (f : Field). f.name) (IsField records labels) before)
      (spelt_then (passing (spec.is_new names) name) name_bytes (λ n. IsName n × (spec.is_new names n ≡ true)) (spelt_new names) rest (λ f. spelling f.mode) fits (λ f. f.name)
      (λ new k. spelt_made (passing (may_be labels) (mode_format records)) spelling (λ m. MayStand records m × (may_be labels m ≡ true)) spelt_field_mode (made_field new) (λ f. f.mode) (λ m. refl)) (λ new f h. ap (λ (x : Field). x.name) h.1))
      (λ f h. refl) (λ f h. (h.0.1, (h.0.0, h.1.0))) (λ f h. ((h.1.0, h.0), (h.1.1, refl)))

  names_are : (fs : List Field) → AllByRecursion (IsField records labels) fs → AllByRecursion IsName (field_names fs)
  names_are [] h = tt
  names_are (f ∷ fs) h = (h.0.0, names_are fs h.1)

  module _ (MayBe : Mode → Type 0) (to : (m : Mode) → may_be labels m ≡ true → MayBe m) (from : (m : Mode) → MayBe m → may_be labels m ≡ true) where
    modes_are : (fs : List Field) → AllByRecursion (IsField records labels) fs → AllByRecursion (λ f. MayStand records f.mode × MayBe f.mode) fs
    modes_are [] h = tt
    modes_are (f ∷ fs) h = ((h.0.1.0, to f.mode h.0.1.1), modes_are fs h.1)

    fields_are : (fs : List Field) → AllByRecursion IsName (field_names fs) → AllByRecursion (λ f. MayStand records f.mode × MayBe f.mode) fs → AllByRecursion (IsField records labels) fs
    fields_are [] h k = tt
    fields_are (f ∷ fs) h k = ((h.0, (k.0.0, from f.mode k.0.1)), fields_are fs h.1 k.1)

    pub spelt_fields : Spelt (spec.fields_format records labels) fields_spelling (HaveFieldRanges records MayBe)
    spelt_fields = spelt_same (spec.fields_format records labels) (counted_spelling field_spelling) fields_spelling (λ fs. (length fs < 2 ^ 16) × AllStand (Fresh (λ (f : Field). f.name) (IsField records labels)) [] fs) (HaveFieldRanges records MayBe)
        (spelt_counted (λ _. spec.field_format records labels) field_spelling (λ _. Fresh (λ (f : Field). f.name) (IsField records labels)) (λ n few before. spelt_field before)) (λ fs h. refl)
        (λ fs h. let few = h.0 in let all = fresh_all (λ (f : Field). f.name) (IsField records labels) [] fs no_names h.1 in record { count = omega arith; each_name = names_are fs all.1; names = all.0; modes = modes_are fs all.1 })
        (λ fs h. let few = h.count in (omega arith, all_fresh (λ (f : Field). f.name) (IsField records labels) [] fs h.names (fields_are fs h.each_name h.modes)))

pub spelt_plain_fields : (records : ℕ) → records ≤ 2 ^ 16 → Spelt (spec.fields_format records false) fields_spelling (HaveFieldRanges records IsNoLabel)
spelt_plain_fields records small = spelt_fields records small false IsNoLabel no_label_is no_label_back

-- ---- records

abbrev made_record : List ℕ → List Field → RecordDef
made_record n fs = record { name = n; fields = fs }

pub spelt_record : (records : ℕ) → records ≤ 2 ^ 16 → (before : List RecordDef) → Spelt (spec.record_format records before) record_spelling (Fresh (λ (r : RecordDef). r.name) (HasRecordRanges records) before)
spelt_record records small before =
    let names : List (List ℕ) = map (λ (r : RecordDef). r.name) before in
    let rest : List ℕ → Format RecordDef = λ new. spec.fields_format records false >>= (λ fields. nothing (made_record new fields)) in
    let fits : List ℕ → RecordDef → Type 0 = λ new r. HaveFieldRanges records IsNoLabel r.fields × (made_record new r.fields ≡ r) in
    spelt_same (spec.record_format records before) record_spelling record_spelling (λ r. (IsName r.name × (spec.is_new names r.name ≡ true)) × fits r.name r) (Fresh (λ (r : RecordDef). r.name) (HasRecordRanges records) before)
    (spelt_then (passing (spec.is_new names) name) name_bytes (λ n. IsName n × (spec.is_new names n ≡ true)) (spelt_new names) rest (λ r. fields_spelling r.fields) fits (λ r. r.name)
    (λ new k. spelt_made (spec.fields_format records false) fields_spelling (HaveFieldRanges records IsNoLabel) (spelt_plain_fields records small) (made_record new) (λ r. r.fields) (λ fs. refl)) (λ new r h. ap (λ (x : RecordDef). x.name) h.1))
    (λ r h. refl) (λ r h. (h.0.1, record { name = h.0.0; fields = h.1.0 })) (λ r h. ((h.1.name, h.0), (h.1.fields, refl)))

-- ---- bytes behind their number

-- a number of bytes, and so many
pub spelt_sized : (P : Format ℕ) (K : ℕ → Type 0) → Spelt P word_bytes K → ((n : ℕ) → K n → n < 2 ^ 16) → Spelt (P >>= block) block_spelling (λ x. K (length x) × AreBytes x)
spelt_sized P K g small = spelt_same (P >>= block) (λ x. word_bytes (length x) ++ x) block_spelling (λ x. K (length x) × ((length x ≡ length x) × AreBytes x)) (λ x. K (length x) × AreBytes x)
    (spelt_then P word_bytes K g block (λ x. x) (λ n x. (length x ≡ n) × AreBytes x) length (λ n k. spelt_block n) (λ n x h. sym h.0)) (λ x h. ap (λ z. z ++ x) (few_spelled (length x) (small (length x) h.0))) (λ x h. (h.0, h.1.1)) (λ x h. (h.0, (refl, h.1)))

pub spelt_string : Spelt spec.string_format block_spelling (λ s. (length s ≤ 8191) × AllByRecursion IsByte s)
spelt_string = spelt_same spec.string_format block_spelling block_spelling (λ s. ((0 ≤ length s) × (length s ≤ 8191)) × AreBytes s) (λ s. (length s ≤ 8191) × AllByRecursion IsByte s)
    (spelt_sized (word (within 0 8191)) (λ n. (0 ≤ n) × (n ≤ 8191)) (spelt_within 0 8191 (omega arith)) (λ n h. let most = h.1 in omega arith)) (λ s h. refl) (λ s h. (h.0.1, h.1)) (λ s h. ((omega arith, h.0), h.1))

-- ---- sizes

module _ (records : List RecordDef) where
  most_is : (o : Option ℕ) → is_within_most o ≡ true → (n : ℕ) × ((o ≡ Some n) × (n ≤ 57344))
  most_is None e = absurd cc
  most_is (Some n) e = (n, (refl, leb-true n 57344 e))

  pub within_has_size : (fields : List Field) → is_within_most (size_of records fields) ≡ true → (n : ℕ) × HaveSize records fields n
  within_has_size fields e = let k = most_is (size_of records fields) e in (k.0, (size_is_end records fields k.0 k.1.0, k.1.1))

  pub has_size_within : (fields : List Field) (n : ℕ) → HaveSize records fields n → is_within_most (size_of records fields) ≡ true
  has_size_within fields n h = subst (λ o. is_within_most o ≡ true) (sym (end_is_size records fields n h.0)) (le-leb n 57344 h.1)

  size_is : (o : Option ℕ) (n : ℕ) → is_size o n ≡ true → (m : ℕ) × (o ≡ Some m) × (n ≡ even m)
  size_is None n e = absurd cc
  size_is (Some m) n e = (m, refl, sym (eqb-true (even m) n e))

  pub is_size_has : (fields : List Field) (n : ℕ) → is_within_most (size_of records fields) ≡ true → is_size (size_of records fields) n ≡ true → HaveBytes records fields n
  is_size_has fields n most e =
      let k = size_is (size_of records fields) n e in (k.0, (size_is_end records fields k.0 k.1, leb-true k.0 57344 (subst (λ o. is_within_most o ≡ true) k.1 most)), k.2)

  same_test : (n : ℕ) → eqb n n ≡ true
  same_test n = grind (arith, nat_tests)

  pub has_is_size : (fields : List Field) (n : ℕ) → HaveBytes records fields n → is_size (size_of records fields) n ≡ true
  has_is_size fields n h = subst (λ o. is_size o n ≡ true) (sym (end_is_size records fields h.0 h.1.0)) (subst (λ k. eqb (even h.0) k ≡ true) (sym h.2) (same_test (even h.0)))

-- ---- relocations

abbrev named_tag : Relocated → Named
named_tag (relocated.Brick k) = namings.Brick
named_tag (relocated.String k) = namings.String
named_tag (relocated.Support k) = namings.Support

abbrev named_number : Relocated → ℕ
named_number (relocated.Brick k) = k
named_number (relocated.String k) = k
named_number (relocated.Support k) = k

abbrev named_code : Named → ℕ
named_code namings.Brick = 1
named_code namings.String = 2
named_code namings.Support = 3

named_is : (b : ℕ) (n : Named) → spec.named_of b ≡ Some n → b ≡ named_code n
named_is b namings.Brick e = grind (arith, nat_tests)
named_is b namings.String e = grind (arith, nat_tests)
named_is b namings.Support e = grind (arith, nat_tests)

named_small : (n : Named) → named_code n < 256
named_small namings.Brick = omega arith
named_small namings.String = omega arith
named_small namings.Support = omega arith

named_stands : (n : Named) → spec.named_of (named_code n) ≡ Some n
named_stands namings.Brick = refl
named_stands namings.String = refl
named_stands namings.Support = refl

named_spelled : (of : Relocated) → (named_code (named_tag of) ∷ []) ++ word_bytes (named_number of) ≡ relocated_spelling of
named_spelled (relocated.Brick k) = refl
named_spelled (relocated.String k) = refl
named_spelled (relocated.Support k) = refl

module _ (records : List RecordDef) (strings bricks : ℕ) (few_strings : strings ≤ 2 ^ 16) (few_bricks : bricks ≤ 2 ^ 16) where
  abbrev IsOf : Named → Relocated → Type 0
  IsOf n of = (n ≡ named_tag of) × IsNamed strings bricks of

  brick_from : (of : Relocated) → IsOf namings.Brick of → (named_number of < bricks) × (relocated.Brick (named_number of) ≡ of)
  brick_from (relocated.Brick k) h = (h.1, refl)
  brick_from (relocated.String k) h = absurd (let bad = h.0 in cc)
  brick_from (relocated.Support k) h = absurd (let bad = h.0 in cc)

  string_from : (of : Relocated) → IsOf namings.String of → (named_number of < strings) × (relocated.String (named_number of) ≡ of)
  string_from (relocated.Brick k) h = absurd (let bad = h.0 in cc)
  string_from (relocated.String k) h = (h.1, refl)
  string_from (relocated.Support k) h = absurd (let bad = h.0 in cc)

  support_from : (of : Relocated) → IsOf namings.Support of → ((1 ≤ named_number of) × (named_number of ≤ 32)) × (relocated.Support (named_number of) ≡ of)
  support_from (relocated.Brick k) h = absurd (let bad = h.0 in cc)
  support_from (relocated.String k) h = absurd (let bad = h.0 in cc)
  support_from (relocated.Support k) h = (h.1, refl)

  abbrev number_spelling : Relocated → List ℕ
  number_spelling of = word_bytes (named_number of)

  spelt_named : (n : Named) → Spelt (spec.named_format records strings bricks n) number_spelling (IsOf n)
  spelt_named namings.Brick = spelt_same (spec.named_format records strings bricks namings.Brick) number_spelling number_spelling (λ of. (named_number of < bricks) × (relocated.Brick (named_number of) ≡ of)) (IsOf namings.Brick)
      (spelt_made (word (spec.below bricks)) word_bytes (λ k. k < bricks) (spelt_below bricks few_bricks) relocated.Brick named_number (λ k. refl)) (λ of h. refl) (λ of h. subst (IsOf namings.Brick) h.1 (refl, h.0)) brick_from
  spelt_named namings.String = spelt_same (spec.named_format records strings bricks namings.String) number_spelling number_spelling (λ of. (named_number of < strings) × (relocated.String (named_number of) ≡ of)) (IsOf namings.String)
      (spelt_made (word (spec.below strings)) word_bytes (λ k. k < strings) (spelt_below strings few_strings) relocated.String named_number (λ k. refl)) (λ of h. refl) (λ of h. subst (IsOf namings.String) h.1 (refl, h.0)) string_from
  spelt_named namings.Support = spelt_same (spec.named_format records strings bricks namings.Support) number_spelling number_spelling (λ of. ((1 ≤ named_number of) × (named_number of ≤ 32)) × (relocated.Support (named_number of) ≡ of)) (IsOf namings.Support)
      (spelt_made (word (within 1 32)) word_bytes (λ k. (1 ≤ k) × (k ≤ 32)) (spelt_within 1 32 (omega arith)) relocated.Support named_number (λ k. refl)) (λ of h. refl) (λ of h. subst (IsOf namings.Support) h.1 (refl, h.0)) support_from

  -- the places before one
  behind_is : (before : List Relocation) (place : ℕ) → is_behind before place ≡ true → (i m : ℕ) → slice_get (map (λ (r : Relocation). r.place) before) i ≡ Some m → m < place
  behind_is [] place e i m g = absurd cc
  behind_is (r ∷ before) place e zero m g =
      let b = both_true (ltb r.place place) (is_behind before place) e in let less = ltb-true r.place place b.0 in let same : r.place ≡ m = cc in omega arith
  behind_is (r ∷ before) place e (suc i) m g = let b = both_true (ltb r.place place) (is_behind before place) e in behind_is before place b.1 i m g

  behind_where : (before : List Relocation) (place : ℕ) → ((i m : ℕ) → slice_get (map (λ (r : Relocation). r.place) before) i ≡ Some m → m < place) → is_behind before place ≡ true
  behind_where [] place h = refl
  behind_where (r ∷ before) place h = let rest = behind_where before place (λ i m g. h (suc i) m g) in rw (lt-ltb r.place place (h zero r.place refl), rest) refl

  -- the part has so many places, of which each is a multiple of step
  module _ (step places : ℕ) (few : places ≤ 2 ^ 16) (multiple : (p : ℕ) → p % step ≡ 0 → (k : ℕ) × (p ≡ step * k)) (no_rest : (p k : ℕ) → p ≡ step * k → p % step ≡ 0) where
    abbrev IsInside : ℕ → Type 0
    IsInside p = (p < places) × ((k : ℕ) × (p ≡ step * k))

    abbrev IsRelocation : Relocation → Type 0
    IsRelocation r = IsInside r.place × (IsNamed strings bricks r.of × IsWord r.offset)

    abbrev Next : List Relocation → Relocation → Type 0
    Next = Later (λ (r : Relocation). r.place) IsRelocation

    place_is : (before : List Relocation) (p : ℕ) → is_place step places before p ≡ true → ((i m : ℕ) → slice_get (map (λ (r : Relocation). r.place) before) i ≡ Some m → m < p) × IsInside p
    place_is before p e =
        let outer = both_true (is_behind before p) (eqb (p % step) 0 && ltb p places) e in
        let inner = both_true (eqb (p % step) 0) (ltb p places) outer.1 in
        (behind_is before p outer.0, (ltb-true p places inner.1, multiple p (eqb-true (p % step) 0 inner.0)))

    zero_test : (n : ℕ) → n ≡ 0 → eqb n 0 ≡ true
    zero_test n e = grind (arith, nat_tests)

    place_back : (before : List Relocation) (p : ℕ) → ((i m : ℕ) → slice_get (map (λ (r : Relocation). r.place) before) i ≡ Some m → m < p) → IsInside p → is_place step places before p ≡ true
    place_back before p h k = rw (behind_where before p h, zero_test (p % step) (no_rest p k.1.0 k.1.1), lt-ltb p places k.0) refl

    abbrev made_relocation : ℕ → Relocated → ℕ → Relocation
    made_relocation p of o = record { place = p; of = of; offset = o }

    spelt_relocation : (before : List Relocation) → Spelt (spec.relocation_format records strings bricks step places before) relocation_spelling (Next before)
    spelt_relocation before =
        let test : ℕ → Bool = is_place step places before in
        let made : ℕ → Relocated → Format Relocation = λ p of. word any >>= (λ offset. nothing (made_relocation p of offset)) in
        let fits_of : ℕ → Relocated → Relocation → Type 0 = λ p of r. IsWord r.offset × (made_relocation p of r.offset ≡ r) in
        let behind_kind : ℕ → Named → Format Relocation = λ p kind. spec.named_format records strings bricks kind >>= made p in
        let fits_kind : ℕ → Named → Relocation → Type 0 = λ p kind r. IsOf kind r.of × fits_of p r.of r in
        let behind_place : ℕ → Format Relocation = λ p. byte spec.named_of >>= behind_kind p in
        let fits_place : ℕ → Relocation → Type 0 = λ p r. (spec.named_of (named_code (named_tag r.of)) ≡ Some (named_tag r.of)) × fits_kind p (named_tag r.of) r in
        let spelt_of : (p : ℕ) (of : Relocated) → Spelt (made p of) (λ r. word_bytes r.offset) (fits_of p of) = λ p of. spelt_made (word any) word_bytes IsWord spelt_any (made_relocation p of) (λ r. r.offset) (λ o. refl) in
        let spelt_kind : (p : ℕ) (kind : Named) → Spelt (behind_kind p kind) (λ r. number_spelling r.of ++ word_bytes r.offset) (fits_kind p kind) =
        λ p kind. spelt_then (spec.named_format records strings bricks kind) number_spelling (IsOf kind) (spelt_named kind) (made p) (λ r. word_bytes r.offset) (fits_of p) (λ r. r.of) (λ of k. spelt_of p of) (λ of r h. ap (λ (x : Relocation). x.of) h.1) in
        let spelt_place : (p : ℕ) → Spelt (behind_place p) (λ r. (named_code (named_tag r.of) ∷ []) ++ (number_spelling r.of ++ word_bytes r.offset)) (fits_place p) =
        λ p. spelt_then (byte spec.named_of) (λ n. named_code n ∷ []) (λ n. spec.named_of (named_code n) ≡ Some n) (spelt_code spec.named_of named_code named_is named_small) (behind_kind p) (λ r. number_spelling r.of ++ word_bytes r.offset) (fits_kind p) (λ r. named_tag r.of)
        (λ kind k. spelt_kind p kind) (λ kind r h. h.0.0) in
        spelt_same (spec.relocation_format records strings bricks step places before) (λ r. word_bytes r.place ++ ((named_code (named_tag r.of) ∷ []) ++ (number_spelling r.of ++ word_bytes r.offset))) relocation_spelling
        (λ r. ((r.place < 2 ^ 16) × (test r.place ≡ true)) × fits_place r.place r) (Next before)
        (spelt_then (word (where_true test)) word_bytes (λ p. (p < 2 ^ 16) × (test p ≡ true)) (spelt_test test) behind_place (λ r. (named_code (named_tag r.of) ∷ []) ++ (number_spelling r.of ++ word_bytes r.offset)) fits_place (λ r. r.place) (λ p k. spelt_place p)
        (λ p r h. ap (λ (x : Relocation). x.place) h.1.1.1))
        (λ r h. ap (λ z. word_bytes r.place ++ (z ++ word_bytes r.offset)) (named_spelled r.of))
        (λ r h. let place = place_is before r.place h.0.1 in (place.0, (place.1, (h.1.1.0.1, h.1.1.1.0))))
        (λ r h. let below = h.1.0.0 in ((omega arith, place_back before r.place h.0 h.1.0), (named_stands (named_tag r.of), ((refl, h.1.1.0), (h.1.1.1, refl)))))

    insides : (rs : List Relocation) → AllByRecursion IsRelocation rs → AllByRecursion (λ (r : Relocation). (r.place < places) × ((k : ℕ) × (r.place ≡ step * k))) rs
    insides [] h = tt
    insides (r ∷ rs) h = (h.0.0, insides rs h.1)

    names_of : (rs : List Relocation) → AllByRecursion IsRelocation rs → AllByRecursion (λ (r : Relocation). IsNamed strings bricks r.of) rs
    names_of [] h = tt
    names_of (r ∷ rs) h = (h.0.1.0, names_of rs h.1)

    offsets : (rs : List Relocation) → AllByRecursion IsRelocation rs → AllByRecursion (λ (r : Relocation). IsWord r.offset) rs
    offsets [] h = tt
    offsets (r ∷ rs) h = (h.0.1.1, offsets rs h.1)

    together : (rs : List Relocation) → AllByRecursion (λ (r : Relocation). (r.place < places) × ((k : ℕ) × (r.place ≡ step * k))) rs → AllByRecursion (λ (r : Relocation). IsNamed strings bricks r.of) rs
        → AllByRecursion (λ (r : Relocation). IsWord r.offset) rs → AllByRecursion IsRelocation rs
    together [] a b c = tt
    together (r ∷ rs) a b c = ((a.0, (b.0, c.0)), together rs a.1 b.1 c.1)

    pub spelt_relocations : Spelt (spec.relocations_format records strings bricks step places) relocations_spelling (HaveRelocationRanges strings bricks step places)
    spelt_relocations = spelt_same (spec.relocations_format records strings bricks step places) (counted_spelling relocation_spelling) relocations_spelling (λ rs. (length rs < 2 ^ 16) × AllStand Next [] rs) (HaveRelocationRanges strings bricks step places)
        (spelt_counted (λ _. spec.relocation_format records strings bricks step places) relocation_spelling (λ _. Next) (λ n small before. spelt_relocation before)) (λ rs h. refl)
        (λ rs h. let few = h.0 in let all = later_all (λ (r : Relocation). r.place) IsRelocation [] rs no_numbers h.1 in record { count = omega arith; rise = all.0; inside = insides rs all.1; named = names_of rs all.1; offsets = offsets rs all.1 })
        (λ rs h. let few = h.count in (omega arith, all_later (λ (r : Relocation). r.place) IsRelocation [] rs h.rise (together rs h.inside h.named h.offsets)))

  pub spelt_code_relocations : (places : ℕ) → places ≤ 2 ^ 16 → Spelt (spec.relocations_format records strings bricks 1 places) relocations_spelling (HaveRelocationRanges strings bricks 1 places)
  spelt_code_relocations places few = spelt_relocations 1 places few (λ p e. (p, omega arith)) (λ p k e. omega arith)

  pub spelt_data_relocations : (places : ℕ) → places ≤ 2 ^ 16 → Spelt (spec.relocations_format records strings bricks 2 places) relocations_spelling (HaveRelocationRanges strings bricks 2 places)
  spelt_data_relocations places few = spelt_relocations 2 places few (λ p e. (p / 2, omega arith)) (λ p k e. omega arith)

  -- ---- calls

  abbrev called_tag : Target → Called
  called_tag (target.Brick k) = callees.Brick
  called_tag (target.Mode m) = callees.Mode
  called_tag target.Error = callees.Error

  abbrev called_rest : Target → List ℕ
  called_rest (target.Brick k) = word_bytes k
  called_rest (target.Mode m) = spelling m
  called_rest target.Error = []

  abbrev called_code : Called → ℕ
  called_code callees.Brick = 1
  called_code callees.Mode = 2
  called_code callees.Error = 3

  called_is : (b : ℕ) (c : Called) → spec.called_of b ≡ Some c → b ≡ called_code c
  called_is b callees.Brick e = grind (arith, nat_tests)
  called_is b callees.Mode e = grind (arith, nat_tests)
  called_is b callees.Error e = grind (arith, nat_tests)

  called_small : (c : Called) → called_code c < 256
  called_small callees.Brick = omega arith
  called_small callees.Mode = omega arith
  called_small callees.Error = omega arith

  called_stands : (c : Called) → spec.called_of (called_code c) ≡ Some c
  called_stands callees.Brick = refl
  called_stands callees.Mode = refl
  called_stands callees.Error = refl

  called_spelled : (t : Target) → (called_code (called_tag t) ∷ []) ++ called_rest t ≡ target_spelling t
  called_spelled (target.Brick k) = refl
  called_spelled (target.Mode m) = refl
  called_spelled target.Error = refl

  abbrev IsTarget : Target → Type 0
  IsTarget = ranges.IsTarget records strings bricks

  abbrev IsCalled : Called → Target → Type 0
  IsCalled c t = (c ≡ called_tag t) × IsTarget t

  module _ (few_records : length records ≤ 2 ^ 16) where
    abbrev number_of : Target → ℕ
    number_of (target.Brick k) = k
    number_of _ = 0

    spelt_brick_target : Spelt (spec.called_format records strings bricks callees.Brick) called_rest (IsCalled callees.Brick)
    spelt_brick_target = spelt_same (spec.called_format records strings bricks callees.Brick) (λ t. word_bytes (number_of t)) called_rest (λ t. (number_of t < bricks) × (target.Brick (number_of t) ≡ t)) (IsCalled callees.Brick)
        (spelt_made (word (spec.below bricks)) word_bytes (λ k. k < bricks) (spelt_below bricks few_bricks) target.Brick number_of (λ k. refl)) same (λ t h. subst (IsCalled callees.Brick) h.1 (refl, h.0)) from
      where
        same : (t : Target) → (number_of t < bricks) × (target.Brick (number_of t) ≡ t) → word_bytes (number_of t) ≡ called_rest t
        same (target.Brick k) h = refl
        same (target.Mode m) h = absurd (let bad = h.1 in cc)
        same target.Error h = absurd (let bad = h.1 in cc)

        from : (t : Target) → IsCalled callees.Brick t → (number_of t < bricks) × (target.Brick (number_of t) ≡ t)
        from (target.Brick k) h = (h.1, refl)
        from (target.Mode m) h = absurd (let bad = h.0 in cc)
        from target.Error h = absurd (let bad = h.0 in cc)

    -- a target that is a mode, spelled, and that stands
    spelt_mode_target : Spelt (spec.called_format records strings bricks callees.Mode) called_rest (IsCalled callees.Mode)
    spelt_mode_target =
        let g = spelt_value_mode (length records) few_records in
        record {
          spelled = record {
            there = λ l r t h (m, a, k, (e, is)).
                let x = g.spelled.there l m a h k in
                subst (λ t. (l ≡ called_rest t ++ r) × IsCalled callees.Mode t) is (x.0 ∙ ap (λ z. spelling a ++ z) e, (refl, x.1));
            back = back;
          };
          bytes = bytes;
        }
      where
        back : (r : List ℕ) (t : Target) → IsCalled callees.Mode t → (spec.called_format records strings bricks callees.Mode).Fits (called_rest t ++ r) r t
        back r (target.Mode m) h = (r, m, (spelt_value_mode (length records) few_records).spelled.back r m h.1, (refl, refl))
        back r (target.Brick k) h = absurd (let bad = h.0 in cc)
        back r target.Error h = absurd (let bad = h.0 in cc)

        bytes : (t : Target) → IsCalled callees.Mode t → AreBytes (called_rest t)
        bytes (target.Mode m) h = (spelt_value_mode (length records) few_records).bytes m h.1
        bytes (target.Brick k) h = absurd (let bad = h.0 in cc)
        bytes target.Error h = absurd (let bad = h.0 in cc)

    spelt_error_target : Spelt (spec.called_format records strings bricks callees.Error) called_rest (IsCalled callees.Error)
    spelt_error_target = spelt_same (spec.called_format records strings bricks callees.Error) (λ t. []) called_rest (λ t. target.Error ≡ t) (IsCalled callees.Error) (spelt_nothing target.Error) (λ t h. ap called_rest h) (λ t h. subst (IsCalled callees.Error) h (refl, tt)) from
      where
        from : (t : Target) → IsCalled callees.Error t → target.Error ≡ t
        from target.Error h = refl
        from (target.Brick k) h = absurd (let bad = h.0 in cc)
        from (target.Mode m) h = absurd (let bad = h.0 in cc)

    spelt_called : (c : Called) → Spelt (spec.called_format records strings bricks c) called_rest (IsCalled c)
    spelt_called callees.Brick = spelt_brick_target
    spelt_called callees.Mode = spelt_mode_target
    spelt_called callees.Error = spelt_error_target

    abbrev made_call : ℕ → ℕ → Target → Call
    made_call d a t = record { depth = d; args = a; target = t }

    spelt_call : Spelt (spec.call_format records strings bricks) call_spelling (ranges.HasCallRanges records strings bricks)
    spelt_call =
        let made : ℕ → ℕ → Called → Format Call = λ d a c. spec.called_format records strings bricks c >>= (λ t. nothing (made_call d a t)) in
        let fits_called : ℕ → ℕ → Called → Call → Type 0 = λ d a c x. IsCalled c x.target × (made_call d a x.target ≡ x) in
        let behind_args : ℕ → ℕ → Format Call = λ d a. byte spec.called_of >>= made d a in
        let fits_args : ℕ → ℕ → Call → Type 0 = λ d a x. (spec.called_of (called_code (called_tag x.target)) ≡ Some (called_tag x.target)) × fits_called d a (called_tag x.target) x in
        let behind_depth : ℕ → Format Call = λ d. word any >>= behind_args d in
        let fits_depth : ℕ → Call → Type 0 = λ d x. IsWord x.args × fits_args d x.args x in
        let target_of : Call → List ℕ = λ x. (called_code (called_tag x.target) ∷ []) ++ called_rest x.target in
        let spelt_args : (d a : ℕ) → Spelt (behind_args d a) target_of (fits_args d a) =
        λ d a. spelt_then (byte spec.called_of) (λ c. called_code c ∷ []) (λ c. spec.called_of (called_code c) ≡ Some c) (spelt_code spec.called_of called_code called_is called_small) (made d a) (λ x. called_rest x.target) (fits_called d a) (λ x. called_tag x.target)
        (λ c k. spelt_made (spec.called_format records strings bricks c) called_rest (IsCalled c) (spelt_called c) (made_call d a) (λ x. x.target) (λ t. refl)) (λ c x h. h.0.0) in
        let spelt_depth : (d : ℕ) → Spelt (behind_depth d) (λ x. word_bytes x.args ++ target_of x) (fits_depth d) =
        λ d. spelt_then (word any) word_bytes IsWord spelt_any (behind_args d) target_of (fits_args d) (λ x. x.args) (λ a k. spelt_args d a) (λ a x h. ap (λ (y : Call). y.args) h.1.1) in
        spelt_same (spec.call_format records strings bricks) (λ x. word_bytes x.depth ++ (word_bytes x.args ++ target_of x)) call_spelling (λ x. IsWord x.depth × fits_depth x.depth x) (ranges.HasCallRanges records strings bricks)
        (spelt_then (word any) word_bytes IsWord spelt_any behind_depth (λ x. word_bytes x.args ++ target_of x) fits_depth (λ x. x.depth) (λ d k. spelt_depth d) (λ d x h. ap (λ (y : Call). y.depth) h.1.1.1))
        (λ x h. ap (λ z. word_bytes x.depth ++ (word_bytes x.args ++ z)) (called_spelled x.target))
        (λ x h. record { depth = h.0; args = h.1.0; target = h.1.1.1.0.1 })
        (λ x h. (h.depth, (h.args, (called_stands (called_tag x.target), ((refl, h.target), refl)))))

    pub spelt_calls : Spelt (spec.calls_format records strings bricks) (counted_spelling call_spelling) (λ xs. (length xs < 2 ^ 16) × AllByRecursion (ranges.HasCallRanges records strings bricks) xs)
    spelt_calls = spelt_list (spec.call_format records strings bricks) call_spelling (ranges.HasCallRanges records strings bricks) spelt_call
