-- What fits the format of an object is the spelling of an object in its ranges, and the other way round.
use Rattle.std.proofs.Common.{◌≡◌, ℕ, ◌^◌, ◌<◌, ◌≤◌, true, false, not, leb, List, [], ◌∷◌, ◌++◌, length, map, codes, Option, Some, None, zero, suc, refl, sym, ap, subst, arith}
use Rattle.std.specs.List.{AllByRecursion, slice_get, list_any}
use Rattle.rt_words.specs.Bytes.{word_bytes}
use Rattle.rt_words.specs.Format.{Format, nothing, word, tag, name, where_true, any, ◌>>=◌, each}
use Rattle.rt_words.specs.Spelling.{name_bytes}
use Rattle.rt_words.proofs.Spelled.{AreBytes, AllStand}
use Rattle.rt_modes.specs.declared.mode.RecordDef.{RecordDef}
use Rattle.rt_object.specs.Grammar.{is_proc_content, is_proc_kind, is_proc_at, is_taken, object_format}
use Rattle.rt_object.specs.Grammar as spec
use Rattle.rt_object.specs.Ranges.{IsByte, IsName, HasRecordRanges, IsBadRecord, HaveRecordRanges, HasBrickRanges, AreDifferent, IsProcKind, IsProcNumber, Rise, HasObjectRanges}
use Rattle.rt_object.specs.Spelling.{counted_spelling, record_spelling, block_spelling, brick_spelling, object_spelling}
use Rattle.rt_object.specs.declared.object.Brick.{Brick}
use Rattle.rt_object.specs.declared.object.BrickKind.{BrickKind}
use Rattle.rt_object.specs.declared.object.BrickKind.TheVariants.{Own, Ent, Ext, Svc}
use Rattle.rt_object.specs.declared.object.Content.{Content}
use Rattle.rt_object.specs.declared.object.Content.TheVariants as content
use Rattle.rt_object.specs.declared.object.External.TheVariants as external
use Rattle.rt_object.specs.declared.object.ObjectParts.{ObjectParts}
use Rattle.rt_object.specs.declared.object.Supplied.TheVariants as supplied
use Rattle.rt_object.proofs.SpeltBricks.{spelt_brick}
use Rattle.rt_object.proofs.Differing.{either_any, no_names, Fresh, fresh_all, all_fresh, no_numbers, Later, later_all, all_later}
use Rattle.rt_object.proofs.SpeltParts.{spelt_record, spelt_string}
use Rattle.rt_object.proofs.Spelt.{Spelt, spelt_name, spelt_same, spelt_test, spelt_then, spelt_made, spelt_counted, spelt_list, spelt_tag, both_true}

-- ---- records

abbrev name_of : RecordDef → List ℕ
name_of r = r.name

-- a format whose meaning has no bad record
spelt_without_bad : (front : ℕ → Format (List RecordDef)) (P : Format (List RecordDef)) (s : List RecordDef → List ℕ) (K : List RecordDef → Type 0) → Spelt P s K
    → Spelt (spec.without_bad front P) s (λ rs. K rs × ((k : ℕ) → k < length rs → IsBadRecord rs k → ⊥))
spelt_without_bad front P s K g = record {
  spelled = record { there = λ l r x h f. let k = g.spelled.there l r x h f.0 in (k.0, (k.1, f.1)); back = λ r x h. (g.spelled.back r x h.0, h.1) };
  bytes = λ x h. g.bytes x h.0;
}

spelt_records : Spelt spec.records_format (counted_spelling record_spelling) HaveRecordRanges
spelt_records =
    let all : Format (List RecordDef) = word any >>= (λ count. each (spec.record_format count) count []) in
    let stand : List RecordDef → Type 0 = λ rs. (length rs < 2 ^ 16) × AllStand (Fresh name_of (HasRecordRanges (length rs))) [] rs in
    spelt_same spec.records_format (counted_spelling record_spelling) (counted_spelling record_spelling) (λ rs. stand rs × ((k : ℕ) → k < length rs → IsBadRecord rs k → ⊥)) HaveRecordRanges
    (spelt_without_bad spec.front_records all (counted_spelling record_spelling) stand (spelt_counted spec.record_format record_spelling (λ n. Fresh name_of (HasRecordRanges n)) (λ n small before. spelt_record n (omega arith) before)))
    (λ rs h. refl)
    (λ rs h. let few = h.0.0 in let each_one = fresh_all name_of (HasRecordRanges (length rs)) [] rs no_names h.0.1 in record { count = omega arith; names = each_one.0; each = each_one.1; none_bad = h.1 })
    (λ rs h. let few = h.count in ((omega arith, all_fresh name_of (HasRecordRanges (length rs)) [] rs h.names h.each), h.none_bad))

-- ---- strings

abbrev IsString : List ℕ → Type 0
IsString s = (length s ≤ 8191) × AllByRecursion IsByte s

abbrev AreStrings : List (List ℕ) → Type 0
AreStrings xs = (length xs < 2 ^ 16) × AllByRecursion IsString xs

spelt_strings : Spelt spec.strings_format (counted_spelling block_spelling) AreStrings
spelt_strings = spelt_list spec.string_format block_spelling IsString spelt_string

-- ---- bricks

abbrev brick_name : Brick → List ℕ
brick_name b = b.name

record AreBricks (records : List RecordDef) (strings : ℕ) (bs : List Brick) : Type 0 where
  count : length bs < 2 ^ 16
  names : AreDifferent (map brick_name bs)
  each : AllByRecursion (HasBrickRanges records strings (length bs)) bs

spelt_bricks : (records : List RecordDef) (strings : ℕ) → length records ≤ 2 ^ 16 → strings ≤ 2 ^ 16 → Spelt (spec.bricks_format records strings) (counted_spelling brick_spelling) (AreBricks records strings)
spelt_bricks records strings few few_strings =
    let stand : List Brick → Type 0 = λ bs. (length bs < 2 ^ 16) × AllStand (Fresh brick_name (HasBrickRanges records strings (length bs))) [] bs in
    spelt_same (spec.bricks_format records strings) (counted_spelling brick_spelling) (counted_spelling brick_spelling) stand (AreBricks records strings)
    (spelt_counted (λ n. spec.brick_format records strings n) brick_spelling (λ n. Fresh brick_name (HasBrickRanges records strings n)) (λ n small before. spelt_brick records strings n few few_strings (omega arith) before))
    (λ bs h. refl)
    (λ bs h. let each_one = fresh_all brick_name (HasBrickRanges records strings (length bs)) [] bs no_names h.1 in record { count = h.0; names = each_one.0; each = each_one.1 })
    (λ bs h. (h.count, all_fresh brick_name (HasBrickRanges records strings (length bs)) [] bs h.names h.each))

-- ---- taken numbers

proc_content_is : (c : Content) → is_proc_content c ≡ true → IsProcKind (Own c)
proc_content_is (content.Proc p) e = tt
proc_content_is (content.Data d) e = absurd cc
proc_content_is (content.Stack n) e = absurd cc

proc_kind_is : (h : BrickKind) → is_proc_kind h ≡ true → IsProcKind h
proc_kind_is (Own (content.Proc p)) e = tt
proc_kind_is (Own (content.Data d)) e = absurd cc
proc_kind_is (Own (content.Stack n)) e = absurd cc
proc_kind_is (Ent (content.Proc p)) e = tt
proc_kind_is (Ent (content.Data d)) e = absurd cc
proc_kind_is (Ent (content.Stack n)) e = absurd cc
proc_kind_is (Ext (external.Proc m)) e = tt
proc_kind_is (Ext (external.Data fs)) e = absurd cc
proc_kind_is (Ext external.Stack) e = absurd cc
proc_kind_is (Svc (supplied.Proc m)) e = tt
proc_kind_is (Svc (supplied.Data fs)) e = absurd cc

proc_kind_back : (h : BrickKind) → IsProcKind h → is_proc_kind h ≡ true
proc_kind_back (Own (content.Proc p)) e = refl
proc_kind_back (Own (content.Data d)) e = absurd e
proc_kind_back (Own (content.Stack n)) e = absurd e
proc_kind_back (Ent (content.Proc p)) e = refl
proc_kind_back (Ent (content.Data d)) e = absurd e
proc_kind_back (Ent (content.Stack n)) e = absurd e
proc_kind_back (Ext (external.Proc m)) e = refl
proc_kind_back (Ext (external.Data fs)) e = absurd e
proc_kind_back (Ext external.Stack) e = absurd e
proc_kind_back (Svc (supplied.Proc m)) e = refl
proc_kind_back (Svc (supplied.Data fs)) e = absurd e

pub proc_at_is : (bricks : List Brick) (k : ℕ) (o : Option Brick) → slice_get bricks k ≡ o → is_proc_at o ≡ true → IsProcNumber bricks k
proc_at_is bricks k None is e = absurd cc
proc_at_is bricks k (Some b) is e = (b, is, proc_kind_is b.kind e)

pub proc_at_back : (bricks : List Brick) (k : ℕ) → IsProcNumber bricks k → is_proc_at (slice_get bricks k) ≡ true
proc_at_back bricks k (b, is, kind) = subst (λ o. is_proc_at o ≡ true) (sym is) (proc_kind_back b.kind kind)

above_is : (before : List ℕ) (k : ℕ) → not (list_any (λ m. leb k m) before) ≡ true → (i m : ℕ) → slice_get before i ≡ Some m → m < k
above_is [] k e i m g = absurd cc
above_is (x ∷ before) k e zero m g = let b = either_any (leb k x) (list_any (λ m. leb k m) before) e in let not_below = b.0 in let same : x ≡ m = cc in less k x m not_below same
  where
    less : (k x m : ℕ) → leb k x ≡ false → x ≡ m → m < k
    less k x m e same = grind (arith, e)
above_is (x ∷ before) k e (suc i) m g = let b = either_any (leb k x) (list_any (λ m. leb k m) before) e in above_is before k b.1 i m g

above_where : (before : List ℕ) (k : ℕ) → ((i m : ℕ) → slice_get before i ≡ Some m → m < k) → not (list_any (λ m. leb k m) before) ≡ true
above_where [] k h = refl
above_where (x ∷ before) k h = let first : leb k x ≡ false = more k x (h zero x refl) in let rest = above_where before k (λ i m g. h (suc i) m g) in rw first rest
  where
    more : (k x : ℕ) → x < k → leb k x ≡ false
    more k x below = grind arith

abbrev same_number : ℕ → ℕ
same_number k = k

map_same : (ns : List ℕ) → map same_number ns ≡ ns
map_same [] = refl
map_same (n ∷ ns) = ap (λ t. n ∷ t) (map_same ns)

module _ (bricks : List Brick) where
  abbrev Next : List ℕ → ℕ → Type 0
  Next = Later same_number (IsProcNumber bricks)

  number_small : (k : ℕ) (bs : List Brick) (b : Brick) → slice_get bs k ≡ Some b → k < length bs
  number_small k [] b e = absurd cc
  number_small zero (x ∷ bs) b e = omega arith
  number_small (suc k) (x ∷ bs) b e = let l = number_small k bs b e in omega arith

  record AreTaken (ks : List ℕ) : Type 0 where
    count : length ks < 2 ^ 16
    rise : Rise ks
    each : AllByRecursion (IsProcNumber bricks) ks

  module _ (few : length bricks ≤ 2 ^ 16) where
    spelt_one_taken : (before : List ℕ) → Spelt (word (where_true (is_taken bricks before))) word_bytes (Next before)
    spelt_one_taken before = spelt_same (word (where_true (is_taken bricks before))) word_bytes word_bytes (λ k. (k < 2 ^ 16) × (is_taken bricks before k ≡ true)) (Next before) (spelt_test (is_taken bricks before)) (λ k h. refl)
        (λ k h. let b = both_true (not (list_any (λ m. leb k m) before)) (is_proc_at (slice_get bricks k)) h.1 in
        ((λ i m g. above_is before k b.0 i m (subst (λ ns. slice_get ns i ≡ Some m) (map_same before) g)), proc_at_is bricks k (slice_get bricks k) refl b.1))
        (λ k h. let small = number_small k bricks h.1.0 h.1.1 in
        (omega arith, rw (above_where before k (λ i m g. h.0 i m (subst (λ ns. slice_get ns i ≡ Some m) (sym (map_same before)) g)), proc_at_back bricks k h.1) refl))

    spelt_taken : Spelt (spec.taken_format bricks) (counted_spelling word_bytes) AreTaken
    spelt_taken = spelt_same (spec.taken_format bricks) (counted_spelling word_bytes) (counted_spelling word_bytes) (λ ks. (length ks < 2 ^ 16) × AllStand Next [] ks) AreTaken
        (spelt_counted (λ n before. word (where_true (is_taken bricks before))) word_bytes (λ n. Next) (λ n small before. spelt_one_taken before))
        (λ ks h. refl)
        (λ ks h. let all = later_all same_number (IsProcNumber bricks) [] ks no_numbers h.1 in record { count = h.0; rise = subst Rise (map_same ks) all.0; each = all.1 })
        (λ ks h. (h.count, all_later same_number (IsProcNumber bricks) [] ks (subst Rise (sym (map_same ks)) h.rise) h.each))

-- ---- the object

abbrev magic : List ℕ
magic = codes "RTO" ++ 1 ∷ []

abbrev made_object : List ℕ → List RecordDef → List (List ℕ) → List Brick → List ℕ → ObjectParts
made_object t rs ss bs ks = record { title = t; records = record { records = rs }; strings = ss; bricks = bs; taken = ks }

magic_bytes : AreBytes magic
magic_bytes = (omega arith, (omega arith, (omega arith, (omega arith, tt))))

pub spelt_object : Spelt object_format object_spelling HasObjectRanges
spelt_object =
    let f5 : List ℕ → List RecordDef → List (List ℕ) → List Brick → Format ObjectParts = λ t rs ss bs. spec.taken_format bs >>= (λ ks. nothing (made_object t rs ss bs ks)) in
    let k5 : List ℕ → List RecordDef → List (List ℕ) → List Brick → ObjectParts → Type 0 = λ t rs ss bs o. AreTaken bs o.taken × (made_object t rs ss bs o.taken ≡ o) in
    let s5 : ObjectParts → List ℕ = λ o. counted_spelling word_bytes o.taken in
    let f4 : List ℕ → List RecordDef → List (List ℕ) → Format ObjectParts = λ t rs ss. spec.bricks_format rs (length ss) >>= f5 t rs ss in
    let k4 : List ℕ → List RecordDef → List (List ℕ) → ObjectParts → Type 0 = λ t rs ss o. AreBricks rs (length ss) o.bricks × k5 t rs ss o.bricks o in
    let s4 : ObjectParts → List ℕ = λ o. counted_spelling brick_spelling o.bricks ++ s5 o in
    let f3 : List ℕ → List RecordDef → Format ObjectParts = λ t rs. spec.strings_format >>= f4 t rs in
    let k3 : List ℕ → List RecordDef → ObjectParts → Type 0 = λ t rs o. AreStrings o.strings × k4 t rs o.strings o in
    let s3 : ObjectParts → List ℕ = λ o. counted_spelling block_spelling o.strings ++ s4 o in
    let f2 : List ℕ → Format ObjectParts = λ t. spec.records_format >>= f3 t in
    let k2 : List ℕ → ObjectParts → Type 0 = λ t o. HaveRecordRanges o.records.records × k3 t o.records.records o in
    let s2 : ObjectParts → List ℕ = λ o. counted_spelling record_spelling o.records.records ++ s3 o in
    let f1 : Unit {0} → Format ObjectParts = λ u. name >>= f2 in
    let k1 : Unit {0} → ObjectParts → Type 0 = λ u o. IsName o.title × k2 o.title o in
    let s1 : ObjectParts → List ℕ = λ o. name_bytes o.title ++ s2 o in
    let g5 : (t : List ℕ) (rs : List RecordDef) (ss : List (List ℕ)) (bs : List Brick) → length bs ≤ 2 ^ 16 → Spelt (f5 t rs ss bs) s5 (k5 t rs ss bs) =
    λ t rs ss bs few. spelt_made (spec.taken_format bs) (counted_spelling word_bytes) (AreTaken bs) (spelt_taken bs few) (made_object t rs ss bs) (λ o. o.taken) (λ ks. refl) in
    let g4 : (t : List ℕ) (rs : List RecordDef) (ss : List (List ℕ)) → length rs ≤ 2 ^ 16 → length ss ≤ 2 ^ 16 → Spelt (f4 t rs ss) s4 (k4 t rs ss) =
    λ t rs ss few few_strings. spelt_then (spec.bricks_format rs (length ss)) (counted_spelling brick_spelling) (AreBricks rs (length ss)) (spelt_bricks rs (length ss) few few_strings) (f5 t rs ss) s5 (k5 t rs ss) (λ o. o.bricks)
    (λ bs k. let small = k.count in g5 t rs ss bs (omega arith)) (λ bs o h. ap (λ (y : ObjectParts). y.bricks) h.1) in
    let g3 : (t : List ℕ) (rs : List RecordDef) → length rs ≤ 2 ^ 16 → Spelt (f3 t rs) s3 (k3 t rs) =
    λ t rs few. spelt_then spec.strings_format (counted_spelling block_spelling) AreStrings spelt_strings (f4 t rs) s4 (k4 t rs) (λ o. o.strings) (λ ss k. let small = k.0 in g4 t rs ss few (omega arith)) (λ ss o h. ap (λ (y : ObjectParts). y.strings) h.1.1) in
    let g2 : (t : List ℕ) → Spelt (f2 t) s2 (k2 t) =
    λ t. spelt_then spec.records_format (counted_spelling record_spelling) HaveRecordRanges spelt_records (f3 t) s3 (k3 t) (λ o. o.records.records) (λ rs k. let few = k.count in g3 t rs (omega arith)) (λ rs o h. ap (λ (y : ObjectParts). y.records.records) h.1.1.1) in
    let g1 : (u : Unit {0}) → Spelt (f1 u) s1 (k1 u) = λ u. spelt_then name name_bytes IsName spelt_name f2 s2 k2 (λ o. o.title) (λ t k. g2 t) (λ t o h. ap (λ (y : ObjectParts). y.title) h.1.1.1.1) in
    spelt_same object_format (λ o. magic ++ s1 o) object_spelling (λ o. Unit {0} × k1 tt o) HasObjectRanges
    (spelt_then (tag magic) (λ u. magic) (λ u. Unit {0}) (spelt_tag magic magic_bytes) f1 s1 k1 (λ o. tt) (λ u k. g1 u) (λ u o h. refl))
    (λ o h. refl)
    (λ o h. let body = h.1.1 in let bricks = body.1.1.0 in let taken = body.1.1.1.0 in let strings = body.1.0 in let few = strings.0 in let few_bricks = bricks.count in let few_taken = taken.count in record {
      title = h.1.0;
      records = body.0;
      strings = omega arith;
      each_string = strings.1;
      bricks = omega arith;
      brick_names = bricks.names;
      each_brick = bricks.each;
      taken = omega arith;
      taken_rise = taken.rise;
      each_taken = taken.each;
    })
    (λ o h. let few = h.strings in let few_bricks = h.bricks in let few_taken = h.taken in
    (tt, (h.title, (h.records, ((omega arith, h.each_string), (record { count = omega arith; names = h.brick_names; each = h.each_brick }, (record { count = omega arith; rise = h.taken_rise; each = h.each_taken }, refl)))))))
