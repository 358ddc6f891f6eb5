-- What fits a brick is the spelling of a brick in its ranges, and the other way round.
use Rattle.std.proofs.Common.{◌≡◌, ℕ, ◌^◌, ◌<◌, ◌≤◌, Bool, true, false, List, [], ◌∷◌, ◌++◌, length, map, Some, None, refl, sym, ap, subst, ◌∙◌, arith}
use Rattle.std.specs.List.{AllByRecursion}
use Rattle.std.proofs.lemmas.Bool.Decides.{nat_tests}
use Rattle.rt_words.specs.Bytes.{word_bytes}
use Rattle.rt_words.specs.Format.{Format, nothing, byte, word, name, where_true, any, within, ◌>>=◌, times, passing}
use Rattle.rt_words.specs.Spelling.{words_bytes, name_bytes}
use Rattle.rt_words.proofs.Spelled.{AreBytes}
use Rattle.rt_modes.specs.Spelling.{spelling, MayStand}
use Rattle.rt_modes.specs.declared.mode.Field.{Field}
use Rattle.rt_modes.specs.declared.mode.Mode.{Mode}
use Rattle.rt_modes.specs.declared.mode.RecordDef.{RecordDef}
use Rattle.rt_object.specs.Grammar.{may_be, is_rrerr, is_proc_code, beginning, size_of, is_within_most, is_size}
use Rattle.rt_object.specs.Grammar as spec
use Rattle.rt_object.specs.Ranges.{IsWord, IsName, IsProcMode, IsNoLabel, HaveFieldRanges, HaveBytes, HaveRelocationRanges, HasCallRanges, HasProcRanges, HasDataRanges, HaveOutsideRanges, HasContentRanges, HasExternalRanges, HasSuppliedRanges, HasKindRanges, HasBrickRanges}
use Rattle.rt_object.specs.Spelling.{counted_spelling, fields_spelling, block_spelling, relocations_spelling, call_spelling, code_spelling, proc_spelling, data_spelling, kind_spelling, content_spelling, external_spelling, supplied_spelling, holds_spelling, brick_spelling}
use Rattle.rt_object.specs.declared.object.Brick.{Brick}
use Rattle.rt_object.specs.declared.object.BrickKind.{BrickKind}
use Rattle.rt_object.specs.declared.object.BrickKind.TheVariants.{Own, Ent, Ext, Svc}
use Rattle.rt_object.specs.declared.object.Call.{Call}
use Rattle.rt_object.specs.declared.object.Content.{Content}
use Rattle.rt_object.specs.declared.object.Content.TheVariants as content
use Rattle.rt_object.specs.declared.object.DataContent.{DataContent}
use Rattle.rt_object.specs.declared.object.External.{External}
use Rattle.rt_object.specs.declared.object.External.TheVariants as external
use Rattle.rt_object.specs.declared.object.ProcContent.{ProcContent}
use Rattle.rt_object.specs.declared.object.Relocation.{Relocation}
use Rattle.rt_object.specs.declared.object.Supplied.{Supplied}
use Rattle.rt_object.specs.declared.object.Supplied.TheVariants as supplied
use Rattle.rt_object.specs.declared.tag.Kind.{Kind}
use Rattle.rt_object.specs.declared.tag.Kind.TheVariants as kinds
use Rattle.rt_object.specs.declared.tag.Sort.{Sort}
use Rattle.rt_object.specs.declared.tag.Sort.TheVariants as sorts
use Rattle.rt_object.proofs.Differing.{Fresh}
use Rattle.rt_object.proofs.SpeltParts.{spelt_new, spelt_fields, spelt_plain_fields, spelt_proc_mode, spelt_sized, spelt_code_relocations, spelt_data_relocations, spelt_calls, within_has_size, has_size_within, is_size_has, has_is_size, IsInRrerr, in_rrerr_is, in_rrerr_back}
use Rattle.rt_object.proofs.Spelt.{few_spelled, Spelt, spelt_same, spelt_passing, spelt_any, spelt_within, spelt_test, spelt_code, spelt_nothing, spelt_then, spelt_made, spelt_words, spelt_marks}

-- ---- the code

abbrev IsCode : List ℕ × List ℕ → Type 0
IsCode x = (length x.0 ≤ 16383) × (AllByRecursion IsWord x.0 × ((length x.1 ≡ length x.0) × AllByRecursion (λ m. m ≤ 2) x.1))

spelt_code_part : Spelt spec.code_format (λ x. code_spelling x.0 x.1) IsCode
spelt_code_part =
    let made : ℕ → List ℕ → Format (List ℕ × List ℕ) = λ n words. times (byte (within 0 2)) n [] >>= (λ marks. nothing (words, marks)) in
    let fits_marks : ℕ → List ℕ → List ℕ × List ℕ → Type 0 = λ n words x. ((length x.1 ≡ n) × AllByRecursion (λ m. m ≤ 2) x.1) × ((words, x.1) ≡ x) in
    let behind : ℕ → Format (List ℕ × List ℕ) = λ n. times (word any) n [] >>= made n in
    let fits : ℕ → List ℕ × List ℕ → Type 0 = λ n x. ((length x.0 ≡ n) × AllByRecursion IsWord x.0) × fits_marks n x.0 x in
    let spelt_behind : (n : ℕ) → Spelt (behind n) (λ x. words_bytes x.0 ++ x.1) (fits n) =
    λ n. spelt_then (times (word any) n []) words_bytes (λ xs. (length xs ≡ n) × AllByRecursion IsWord xs) (spelt_words n) (made n) (λ x. x.1) (fits_marks n) (λ x. x.0)
    (λ words k. spelt_made (times (byte (within 0 2)) n []) (λ xs. xs) (λ xs. (length xs ≡ n) × AllByRecursion (λ m. m ≤ 2) xs) (spelt_marks n) (λ marks. (words, marks)) (λ x. x.1) (λ marks. refl)) (λ words x h. ap (λ (y : List ℕ × List ℕ). y.0) h.1) in
    spelt_same spec.code_format (λ x. word_bytes (length x.0) ++ (words_bytes x.0 ++ x.1)) (λ x. code_spelling x.0 x.1) (λ x. ((0 ≤ length x.0) × (length x.0 ≤ 16383)) × fits (length x.0) x) IsCode
    (spelt_then (word (within 0 16383)) word_bytes (λ n. (0 ≤ n) × (n ≤ 16383)) (spelt_within 0 16383 (omega arith)) behind (λ x. words_bytes x.0 ++ x.1) fits (λ x. length x.0) (λ n k. spelt_behind n) (λ n x h. sym h.0.0))
    (λ x h. let few = h.0.1 in ap (λ z. z ++ (words_bytes x.0 ++ x.1)) (few_spelled (length x.0) (omega arith)))
    (λ x h. (h.0.1, (h.1.0.1, h.1.1.0)))
    (λ x h. ((omega arith, h.0), ((refl, h.1.0), (h.1.1, refl))))

-- ---- procedures and data

module _ (records : List RecordDef) (strings bricks : ℕ) (few_records : length records ≤ 2 ^ 16) (few_strings : strings ≤ 2 ^ 16) (few_bricks : bricks ≤ 2 ^ 16) where
  abbrev Body : Type 0
  Body = (List ℕ × List ℕ) × List Relocation

  abbrev body_spelling : Body → List ℕ
  body_spelling b = code_spelling b.0.0 b.0.1 ++ relocations_spelling b.1

  abbrev IsBody : Body → Type 0
  IsBody b = IsCode b.0 × HaveRelocationRanges strings bricks 1 (length b.0.0) b.1

  spelt_body : Spelt (spec.body_format records strings bricks) body_spelling IsBody
  spelt_body =
      let made : List ℕ × List ℕ → Format Body = λ code. spec.relocations_format records strings bricks 1 (length code.0) >>= (λ rs. nothing (code, rs)) in
      let fits : List ℕ × List ℕ → Body → Type 0 = λ code b. HaveRelocationRanges strings bricks 1 (length code.0) b.1 × ((code, b.1) ≡ b) in
      spelt_same (spec.body_format records strings bricks) body_spelling body_spelling (λ b. IsCode b.0 × fits b.0 b) IsBody
      (spelt_then spec.code_format (λ x. code_spelling x.0 x.1) IsCode spelt_code_part made (λ b. relocations_spelling b.1) fits (λ b. b.0)
      (λ code k. spelt_made (spec.relocations_format records strings bricks 1 (length code.0)) relocations_spelling (HaveRelocationRanges strings bricks 1 (length code.0))
      (let few = k.0 in spelt_code_relocations records strings bricks few_strings few_bricks (length code.0) (omega arith)) (λ rs. (code, rs)) (λ b. b.1) (λ rs. refl))
      (λ code b h. ap (λ (y : Body). y.0) h.1))
      (λ b h. refl) (λ b h. (h.0, h.1.0)) (λ b h. (h.0, (h.1, refl)))

  abbrev body_of : ProcContent → Body
  body_of p = ((p.words, p.marks), p.relocations)

  abbrev made_proc : Mode → ℕ → ℕ → ℕ → List Call → Body → ProcContent
  made_proc m i l d cs b = record { mode = m; items = i; locals = l; deep = d; calls = cs; words = b.0.0; marks = b.0.1; relocations = b.1 }

  abbrev AreCalls : List Call → Type 0
  AreCalls cs = (length cs < 2 ^ 16) × AllByRecursion (HasCallRanges records strings bricks) cs

  spelt_proc : Spelt (spec.proc_format records strings bricks) proc_spelling (HasProcRanges records strings bricks)
  spelt_proc =
      let f5 : Mode → ℕ → ℕ → ℕ → List Call → Format ProcContent = λ m i l d cs. spec.body_format records strings bricks >>= (λ b. nothing (made_proc m i l d cs b)) in
      let k5 : Mode → ℕ → ℕ → ℕ → List Call → ProcContent → Type 0 = λ m i l d cs p. IsBody (body_of p) × (made_proc m i l d cs (body_of p) ≡ p) in
      let s5 : ProcContent → List ℕ = λ p. body_spelling (body_of p) in
      let f4 : Mode → ℕ → ℕ → ℕ → Format ProcContent = λ m i l d. spec.calls_format records strings bricks >>= f5 m i l d in
      let k4 : Mode → ℕ → ℕ → ℕ → ProcContent → Type 0 = λ m i l d p. AreCalls p.calls × k5 m i l d p.calls p in
      let s4 : ProcContent → List ℕ = λ p. counted_spelling call_spelling p.calls ++ s5 p in
      let f3 : Mode → ℕ → ℕ → Format ProcContent = λ m i l. word any >>= f4 m i l in
      let k3 : Mode → ℕ → ℕ → ProcContent → Type 0 = λ m i l p. IsWord p.deep × k4 m i l p.deep p in
      let s3 : ProcContent → List ℕ = λ p. word_bytes p.deep ++ s4 p in
      let f2 : Mode → ℕ → Format ProcContent = λ m i. word any >>= f3 m i in
      let k2 : Mode → ℕ → ProcContent → Type 0 = λ m i p. IsWord p.locals × k3 m i p.locals p in
      let s2 : ProcContent → List ℕ = λ p. word_bytes p.locals ++ s3 p in
      let f1 : Mode → Format ProcContent = λ m. word any >>= f2 m in
      let k1 : Mode → ProcContent → Type 0 = λ m p. IsWord p.items × k2 m p.items p in
      let s1 : ProcContent → List ℕ = λ p. word_bytes p.items ++ s2 p in
      let g5 : (m : Mode) (i l d : ℕ) (cs : List Call) → Spelt (f5 m i l d cs) s5 (k5 m i l d cs) = λ m i l d cs. spelt_made (spec.body_format records strings bricks) body_spelling IsBody spelt_body (made_proc m i l d cs) body_of (λ b. refl) in
      let g4 : (m : Mode) (i l d : ℕ) → Spelt (f4 m i l d) s4 (k4 m i l d) =
      λ m i l d. spelt_then (spec.calls_format records strings bricks) (counted_spelling call_spelling) AreCalls (spelt_calls records strings bricks few_strings few_bricks few_records) (f5 m i l d) s5 (k5 m i l d) (λ p. p.calls) (λ cs k. g5 m i l d cs) (λ cs p h. ap (λ (y : ProcContent). y.calls) h.1) in
      let g3 : (m : Mode) (i l : ℕ) → Spelt (f3 m i l) s3 (k3 m i l) = λ m i l. spelt_then (word any) word_bytes IsWord spelt_any (f4 m i l) s4 (k4 m i l) (λ p. p.deep) (λ d k. g4 m i l d) (λ d p h. ap (λ (y : ProcContent). y.deep) h.1.1) in
      let g2 : (m : Mode) (i : ℕ) → Spelt (f2 m i) s2 (k2 m i) = λ m i. spelt_then (word any) word_bytes IsWord spelt_any (f3 m i) s3 (k3 m i) (λ p. p.locals) (λ l k. g3 m i l) (λ l p h. ap (λ (y : ProcContent). y.locals) h.1.1.1) in
      let g1 : (m : Mode) → Spelt (f1 m) s1 (k1 m) = λ m. spelt_then (word any) word_bytes IsWord spelt_any (f2 m) s2 (k2 m) (λ p. p.items) (λ i k. g2 m i) (λ i p h. ap (λ (y : ProcContent). y.items) h.1.1.1.1) in
      spelt_same (spec.proc_format records strings bricks) (λ p. spelling p.mode ++ s1 p) proc_spelling (λ p. (MayStand (length records) p.mode × IsProcMode p.mode) × k1 p.mode p) (HasProcRanges records strings bricks)
      (spelt_then (beginning is_proc_code (spec.mode records strings bricks)) spelling (λ m. MayStand (length records) m × IsProcMode m) (spelt_proc_mode (length records) few_records) f1 s1 k1 (λ p. p.mode) (λ m k. g1 m)
      (λ m p h. ap (λ (y : ProcContent). y.mode) h.1.1.1.1.1))
      (λ p h. refl)
      (λ p h. let calls = h.1.1.1.1.0 in let few = calls.0 in let body = h.1.1.1.1.1.0 in record {
        mode = h.0.0;
        is_proc = h.0.1;
        items = h.1.0;
        locals = h.1.1.0;
        deep = h.1.1.1.0;
        calls = omega arith;
        each_call = calls.1;
        words = body.0.0;
        each_word = body.0.1.0;
        marks = body.0.1.1.0;
        each_mark = body.0.1.1.1;
        relocations = body.1;
      })
      (λ p h. let few = h.calls in ((h.mode, h.is_proc), (h.items, (h.locals, (h.deep, ((omega arith, h.each_call), (((h.words, (h.each_word, (h.marks, h.each_mark))), h.relocations), refl)))))))

  -- the fields of a data brick and a size of them
  module _ (labels : Bool) (MayBe : Mode → Type 0) (g : Spelt (spec.fields_format (length records) labels) fields_spelling (HaveFieldRanges (length records) MayBe)) where
    spelt_data_fields : Spelt (spec.data_fields records strings bricks labels) fields_spelling (λ fs. HaveFieldRanges (length records) MayBe fs × (is_within_most (size_of records fs) ≡ true))
    spelt_data_fields = spelt_passing (λ fs. is_within_most (size_of records fs)) (spec.fields_format (length records) labels) fields_spelling (HaveFieldRanges (length records) MayBe) g

    spelt_outside : Spelt (spec.data_fields records strings bricks labels) fields_spelling (HaveOutsideRanges records strings bricks MayBe)
    spelt_outside = spelt_same (spec.data_fields records strings bricks labels) fields_spelling fields_spelling (λ fs. HaveFieldRanges (length records) MayBe fs × (is_within_most (size_of records fs) ≡ true)) (HaveOutsideRanges records strings bricks MayBe) spelt_data_fields (λ fs h. refl)
        (λ fs h. record { fields = h.0; size = within_has_size records fs h.1 }) (λ fs h. (h.fields, has_size_within records fs h.size.0 h.size.1))

  spelt_plain : Spelt (spec.data_fields records strings bricks false) fields_spelling (HaveOutsideRanges records strings bricks IsNoLabel)
  spelt_plain = spelt_outside false IsNoLabel (spelt_plain_fields (length records) few_records)

  spelt_of_rrerr : (n : List ℕ) → Spelt (spec.data_fields records strings bricks (is_rrerr n)) fields_spelling (HaveOutsideRanges records strings bricks (IsInRrerr n))
  spelt_of_rrerr n = spelt_outside (is_rrerr n) (IsInRrerr n) (spelt_fields (length records) few_records (is_rrerr n) (IsInRrerr n) (in_rrerr_is n) (in_rrerr_back n))

  spelt_data_bytes : (fields : List Field) → is_within_most (size_of records fields) ≡ true → Spelt (spec.data_bytes records strings bricks fields) block_spelling (λ x. HaveBytes records fields (length x) × AreBytes x)
  spelt_data_bytes fields most = spelt_sized (word (where_true (is_size (size_of records fields)))) (HaveBytes records fields)
      (spelt_same (word (where_true (is_size (size_of records fields)))) word_bytes word_bytes (λ n. (n < 2 ^ 16) × (is_size (size_of records fields) n ≡ true)) (HaveBytes records fields) (spelt_test (is_size (size_of records fields))) (λ n h. refl)
      (λ n h. is_size_has records fields n most h.1) (λ n h. (few_bytes n h, has_is_size records fields n h))) few_bytes
    where
      few_bytes : (n : ℕ) → HaveBytes records fields n → n < 2 ^ 16
      few_bytes n h = let few = h.1.1 in let same = h.2 in omega arith

  abbrev made_data : List Field → List ℕ → List Relocation → DataContent
  made_data fs bs rs = record { fields = fs; bytes = bs; relocations = rs }

  spelt_data : Spelt (spec.data_format records strings bricks) data_spelling (HasDataRanges records strings bricks)
  spelt_data =
      let made : List Field → List ℕ → Format DataContent = λ fs bs. spec.relocations_format records strings bricks 2 (length bs) >>= (λ rs. nothing (made_data fs bs rs)) in
      let fits_bytes : List Field → List ℕ → DataContent → Type 0 = λ fs bs d. HaveRelocationRanges strings bricks 2 (length bs) d.relocations × (made_data fs bs d.relocations ≡ d) in
      let behind : List Field → Format DataContent = λ fs. spec.data_bytes records strings bricks fs >>= made fs in
      let fits : List Field → DataContent → Type 0 = λ fs d. (HaveBytes records fs (length d.bytes) × AreBytes d.bytes) × fits_bytes fs d.bytes d in
      let spelt_behind : (fs : List Field) → is_within_most (size_of records fs) ≡ true → Spelt (behind fs) (λ d. block_spelling d.bytes ++ relocations_spelling d.relocations) (fits fs) =
      λ fs most. spelt_then (spec.data_bytes records strings bricks fs) block_spelling (λ x. HaveBytes records fs (length x) × AreBytes x) (spelt_data_bytes fs most) (made fs) (λ d. relocations_spelling d.relocations) (fits_bytes fs) (λ d. d.bytes)
      (λ bs k. spelt_made (spec.relocations_format records strings bricks 2 (length bs)) relocations_spelling (HaveRelocationRanges strings bricks 2 (length bs))
      (let few = k.0.1.1 in let same = k.0.2 in spelt_data_relocations records strings bricks few_strings few_bricks (length bs) (omega arith)) (made_data fs bs) (λ d. d.relocations) (λ rs. refl))
      (λ bs d h. ap (λ (y : DataContent). y.bytes) h.1) in
      spelt_same (spec.data_format records strings bricks) data_spelling data_spelling (λ d. (HaveFieldRanges (length records) IsNoLabel d.fields × (is_within_most (size_of records d.fields) ≡ true)) × fits d.fields d) (HasDataRanges records strings bricks)
      (spelt_then (spec.data_fields records strings bricks false) fields_spelling (λ fs. HaveFieldRanges (length records) IsNoLabel fs × (is_within_most (size_of records fs) ≡ true))
      (spelt_data_fields false IsNoLabel (spelt_plain_fields (length records) few_records)) behind (λ d. block_spelling d.bytes ++ relocations_spelling d.relocations) fits (λ d. d.fields) (λ fs k. spelt_behind fs k.1)
      (λ fs d h. ap (λ (y : DataContent). y.fields) h.1.1))
      (λ d h. refl)
      (λ d h. record { fields = h.0.0; size = h.1.0.0; each_byte = h.1.0.1; relocations = h.1.1.0 })
      (λ d h. ((h.fields, has_size_within records d.fields h.size.0 h.size.1), ((h.size, h.each_byte), (h.relocations, refl))))

  -- ---- what a brick holds

  abbrev content_tag : Content → Sort
  content_tag (content.Proc p) = sorts.Proc
  content_tag (content.Data d) = sorts.Data
  content_tag (content.Stack n) = sorts.Stack

  abbrev external_tag : External → Sort
  external_tag (external.Proc m) = sorts.Proc
  external_tag (external.Data fs) = sorts.Data
  external_tag external.Stack = sorts.Stack

  abbrev supplied_tag : Supplied → Sort
  supplied_tag (supplied.Proc m) = sorts.Proc
  supplied_tag (supplied.Data fs) = sorts.Data

  -- A value of one variant: what it is made of is spelled, and stands.
  module _ {A B : Type 0} (P : Format A) (s : A → List ℕ) (K : A → Type 0) (g : Spelt P s K) (f : A → B) (t : B → List ℕ) (L : B → Type 0) (same : (a : A) → s a ≡ t (f a)) (to : (a : A) → K a → L (f a)) (from : (b : B) → L b → (a : A) × (K a × (f a ≡ b))) where
    variant_there : (l r : List ℕ) (b : B) → AreBytes l → (P >>= (λ x. nothing (f x))).Fits l r b → (l ≡ t b ++ r) × L b
    variant_there l r b h (m, a, k, (e, is)) =
        let x = g.spelled.there l m a h k in
        subst (λ c. (l ≡ t c ++ r) × L c) is (x.0 ∙ ap (λ z. s a ++ z) e ∙ ap (λ z. z ++ r) (same a), to a x.1)

    variant_back : (r : List ℕ) (b : B) → L b → (P >>= (λ x. nothing (f x))).Fits (t b ++ r) r b
    variant_back r b h = let k = from b h in subst (λ c. (P >>= (λ x. nothing (f x))).Fits (t c ++ r) r c) k.1.1 (subst (λ z. (P >>= (λ x. nothing (f x))).Fits (z ++ r) r (f k.0)) (same k.0) (r, k.0, g.spelled.back r k.0 k.1.0, (refl, refl)))

    variant_bytes : (b : B) → L b → AreBytes (t b)
    variant_bytes b h = let k = from b h in subst (λ c. AreBytes (t c)) k.1.1 (subst AreBytes (same k.0) (g.bytes k.0 k.1.0))

    spelt_variant : Spelt (P >>= (λ x. nothing (f x))) t L
    spelt_variant = record { spelled = record { there = variant_there; back = variant_back }; bytes = variant_bytes }

  abbrev IsContent : Sort → Content → Type 0
  IsContent sort c = (sort ≡ content_tag c) × HasContentRanges records strings bricks c

  spelt_content : (sort : Sort) → Spelt (spec.content_format records strings bricks sort) content_spelling (IsContent sort)
  spelt_content sorts.Proc = spelt_variant (spec.proc_format records strings bricks) proc_spelling (HasProcRanges records strings bricks) spelt_proc content.Proc content_spelling (IsContent sorts.Proc) (λ p. refl) (λ p h. (refl, h)) from
    where
      from : (c : Content) → IsContent sorts.Proc c → (p : ProcContent) × (HasProcRanges records strings bricks p × (content.Proc p ≡ c))
      from (content.Proc p) h = (p, (h.1, refl))
      from (content.Data d) h = absurd (let bad = h.0 in cc)
      from (content.Stack n) h = absurd (let bad = h.0 in cc)
  spelt_content sorts.Data = spelt_variant (spec.data_format records strings bricks) data_spelling (HasDataRanges records strings bricks) spelt_data content.Data content_spelling (IsContent sorts.Data) (λ d. refl) (λ d h. (refl, h)) from
    where
      from : (c : Content) → IsContent sorts.Data c → (d : DataContent) × (HasDataRanges records strings bricks d × (content.Data d ≡ c))
      from (content.Data d) h = (d, (h.1, refl))
      from (content.Proc p) h = absurd (let bad = h.0 in cc)
      from (content.Stack n) h = absurd (let bad = h.0 in cc)
  spelt_content sorts.Stack = spelt_variant (word (within 1 28672)) word_bytes (λ n. (1 ≤ n) × (n ≤ 28672)) (spelt_within 1 28672 (omega arith)) content.Stack content_spelling (IsContent sorts.Stack) (λ n. refl) (λ n h. (refl, h)) from
    where
      from : (c : Content) → IsContent sorts.Stack c → (n : ℕ) × (((1 ≤ n) × (n ≤ 28672)) × (content.Stack n ≡ c))
      from (content.Stack n) h = (n, (h.1, refl))
      from (content.Proc p) h = absurd (let bad = h.0 in cc)
      from (content.Data d) h = absurd (let bad = h.0 in cc)

  abbrev IsProcOf : Mode → Type 0
  IsProcOf m = MayStand (length records) m × IsProcMode m

  abbrev IsExternal : Sort → External → Type 0
  IsExternal sort e = (sort ≡ external_tag e) × HasExternalRanges records strings bricks e

  spelt_external : (sort : Sort) → Spelt (spec.external_format records strings bricks sort) external_spelling (IsExternal sort)
  spelt_external sorts.Proc = spelt_variant (beginning is_proc_code (spec.mode records strings bricks)) spelling IsProcOf (spelt_proc_mode (length records) few_records) external.Proc external_spelling (IsExternal sorts.Proc) (λ m. refl) (λ m h. (refl, h)) from
    where
      from : (e : External) → IsExternal sorts.Proc e → (m : Mode) × (IsProcOf m × (external.Proc m ≡ e))
      from (external.Proc m) h = (m, (h.1, refl))
      from (external.Data fs) h = absurd (let bad = h.0 in cc)
      from external.Stack h = absurd (let bad = h.0 in cc)
  spelt_external sorts.Data = spelt_variant (spec.data_fields records strings bricks false) fields_spelling (HaveOutsideRanges records strings bricks IsNoLabel) spelt_plain external.Data external_spelling (IsExternal sorts.Data) (λ fs. refl) (λ fs h. (refl, h)) from
    where
      from : (e : External) → IsExternal sorts.Data e → (fs : List Field) × (HaveOutsideRanges records strings bricks IsNoLabel fs × (external.Data fs ≡ e))
      from (external.Data fs) h = (fs, (h.1, refl))
      from (external.Proc m) h = absurd (let bad = h.0 in cc)
      from external.Stack h = absurd (let bad = h.0 in cc)
  spelt_external sorts.Stack = spelt_same (nothing external.Stack) (λ e. []) external_spelling (λ e. external.Stack ≡ e) (IsExternal sorts.Stack) (spelt_nothing external.Stack) (λ e h. ap external_spelling h) (λ e h. subst (IsExternal sorts.Stack) h (refl, tt)) from
    where
      from : (e : External) → IsExternal sorts.Stack e → external.Stack ≡ e
      from external.Stack h = refl
      from (external.Proc m) h = absurd (let bad = h.0 in cc)
      from (external.Data fs) h = absurd (let bad = h.0 in cc)

  -- the sort of a supplied brick is no stack
  abbrev IsSupplied : List ℕ → Sort → Supplied → Type 0
  IsSupplied n sort s = (sort ≡ supplied_tag s) × HasSuppliedRanges records strings bricks n s

  spelt_supplied : (n : List ℕ) (sort : Sort) → (sort ≡ sorts.Stack → ⊥) → Spelt (spec.supplied_format records strings bricks n sort) supplied_spelling (IsSupplied n sort)
  spelt_supplied n sorts.Proc other = spelt_variant (beginning is_proc_code (spec.mode records strings bricks)) spelling IsProcOf (spelt_proc_mode (length records) few_records) supplied.Proc supplied_spelling (IsSupplied n sorts.Proc) (λ m. refl) (λ m h. (refl, h)) from
    where
      from : (s : Supplied) → IsSupplied n sorts.Proc s → (m : Mode) × (IsProcOf m × (supplied.Proc m ≡ s))
      from (supplied.Proc m) h = (m, (h.1, refl))
      from (supplied.Data fs) h = absurd (let bad = h.0 in cc)
  spelt_supplied n sorts.Data other = spelt_variant (spec.data_fields records strings bricks (is_rrerr n)) fields_spelling (HaveOutsideRanges records strings bricks (IsInRrerr n)) (spelt_of_rrerr n) supplied.Data supplied_spelling (IsSupplied n sorts.Data) (λ fs. refl) (λ fs h. (refl, h)) from
    where
      from : (s : Supplied) → IsSupplied n sorts.Data s → (fs : List Field) × (HaveOutsideRanges records strings bricks (IsInRrerr n) fs × (supplied.Data fs ≡ s))
      from (supplied.Data fs) h = (fs, (h.1, refl))
      from (supplied.Proc m) h = absurd (let bad = h.0 in cc)
  spelt_supplied n sorts.Stack other = absurd (other refl)

  -- ---- kinds

  abbrev kind_tag : BrickKind → Kind
  kind_tag (Own c) = kinds.Own
  kind_tag (Ent c) = kinds.Ent
  kind_tag (Ext e) = kinds.Ext
  kind_tag (Svc s) = kinds.Svc

  abbrev sort_tag : BrickKind → Sort
  sort_tag (Own c) = content_tag c
  sort_tag (Ent c) = content_tag c
  sort_tag (Ext e) = external_tag e
  sort_tag (Svc s) = supplied_tag s

  abbrev kind_code : Kind → ℕ
  kind_code kinds.Own = 1
  kind_code kinds.Ent = 2
  kind_code kinds.Ext = 3
  kind_code kinds.Svc = 4

  kind_is : (b : ℕ) (k : Kind) → spec.kind_of b ≡ Some k → b ≡ kind_code k
  kind_is b kinds.Own e = grind (arith, nat_tests)
  kind_is b kinds.Ent e = grind (arith, nat_tests)
  kind_is b kinds.Ext e = grind (arith, nat_tests)
  kind_is b kinds.Svc e = grind (arith, nat_tests)

  kind_small : (k : Kind) → kind_code k < 256
  kind_small kinds.Own = omega arith
  kind_small kinds.Ent = omega arith
  kind_small kinds.Ext = omega arith
  kind_small kinds.Svc = omega arith

  kind_stands : (k : Kind) → spec.kind_of (kind_code k) ≡ Some k
  kind_stands kinds.Own = refl
  kind_stands kinds.Ent = refl
  kind_stands kinds.Ext = refl
  kind_stands kinds.Svc = refl

  abbrev sort_code : Sort → ℕ
  sort_code sorts.Proc = 1
  sort_code sorts.Data = 2
  sort_code sorts.Stack = 3

  sort_of_is : (b : ℕ) (s : Sort) → spec.sort_of b ≡ Some s → b ≡ sort_code s
  sort_of_is b sorts.Proc e = grind (arith, nat_tests)
  sort_of_is b sorts.Data e = grind (arith, nat_tests)
  sort_of_is b sorts.Stack e = grind (arith, nat_tests)

  no_stack : (b : ℕ) (s : Sort) → spec.sort_in kinds.Svc b ≡ Some s → b ≡ sort_code s
  no_stack b sorts.Proc e = grind (arith, nat_tests)
  no_stack b sorts.Data e = grind (arith, nat_tests)
  no_stack b sorts.Stack e = grind (arith, nat_tests)

  sort_is : (k : Kind) (b : ℕ) (s : Sort) → spec.sort_in k b ≡ Some s → b ≡ sort_code s
  sort_is kinds.Own b s e = sort_of_is b s e
  sort_is kinds.Ent b s e = sort_of_is b s e
  sort_is kinds.Ext b s e = sort_of_is b s e
  sort_is kinds.Svc b s e = no_stack b s e

  sort_small : (s : Sort) → sort_code s < 256
  sort_small sorts.Proc = omega arith
  sort_small sorts.Data = omega arith
  sort_small sorts.Stack = omega arith

  sort_stands : (h : BrickKind) → spec.sort_in (kind_tag h) (sort_code (sort_tag h)) ≡ Some (sort_tag h)
  sort_stands (Own (content.Proc p)) = refl
  sort_stands (Own (content.Data d)) = refl
  sort_stands (Own (content.Stack n)) = refl
  sort_stands (Ent (content.Proc p)) = refl
  sort_stands (Ent (content.Data d)) = refl
  sort_stands (Ent (content.Stack n)) = refl
  sort_stands (Ext (external.Proc m)) = refl
  sort_stands (Ext (external.Data fs)) = refl
  sort_stands (Ext external.Stack) = refl
  sort_stands (Svc (supplied.Proc m)) = refl
  sort_stands (Svc (supplied.Data fs)) = refl

  abbrev Holds : Kind → Sort → List ℕ → BrickKind → Type 0
  Holds k sort n h = ((k ≡ kind_tag h) × (sort ≡ sort_tag h)) × HasKindRanges records strings bricks n h

  spelt_holds : (k : Kind) (sort : Sort) (n : List ℕ) → spec.sort_in k (sort_code sort) ≡ Some sort → Spelt (spec.kind_format records strings bricks k sort n) holds_spelling (Holds k sort n)
  spelt_holds kinds.Own sort n stands = spelt_variant (spec.content_format records strings bricks sort) content_spelling (IsContent sort) (spelt_content sort) Own holds_spelling (Holds kinds.Own sort n) (λ c. refl) (λ c h. ((refl, h.0), h.1)) from
    where
      from : (h : BrickKind) → Holds kinds.Own sort n h → (c : Content) × (IsContent sort c × (Own c ≡ h))
      from (Own c) h = (c, ((h.0.1, h.1), refl))
      from (Ent c) h = absurd (let bad = h.0.0 in cc)
      from (Ext e) h = absurd (let bad = h.0.0 in cc)
      from (Svc s) h = absurd (let bad = h.0.0 in cc)
  spelt_holds kinds.Ent sort n stands = spelt_variant (spec.content_format records strings bricks sort) content_spelling (IsContent sort) (spelt_content sort) Ent holds_spelling (Holds kinds.Ent sort n) (λ c. refl) (λ c h. ((refl, h.0), h.1)) from
    where
      from : (h : BrickKind) → Holds kinds.Ent sort n h → (c : Content) × (IsContent sort c × (Ent c ≡ h))
      from (Ent c) h = (c, ((h.0.1, h.1), refl))
      from (Own c) h = absurd (let bad = h.0.0 in cc)
      from (Ext e) h = absurd (let bad = h.0.0 in cc)
      from (Svc s) h = absurd (let bad = h.0.0 in cc)
  spelt_holds kinds.Ext sort n stands = spelt_variant (spec.external_format records strings bricks sort) external_spelling (IsExternal sort) (spelt_external sort) Ext holds_spelling (Holds kinds.Ext sort n) (λ e. refl) (λ e h. ((refl, h.0), h.1)) from
    where
      from : (h : BrickKind) → Holds kinds.Ext sort n h → (e : External) × (IsExternal sort e × (Ext e ≡ h))
      from (Ext e) h = (e, ((h.0.1, h.1), refl))
      from (Own c) h = absurd (let bad = h.0.0 in cc)
      from (Ent c) h = absurd (let bad = h.0.0 in cc)
      from (Svc s) h = absurd (let bad = h.0.0 in cc)
  spelt_holds kinds.Svc sort n stands =
      spelt_variant (spec.supplied_format records strings bricks n sort) supplied_spelling (IsSupplied n sort) (spelt_supplied n sort other) Svc holds_spelling (Holds kinds.Svc sort n) (λ s. refl) (λ s h. ((refl, h.0), h.1)) from
    where
      other : sort ≡ sorts.Stack → ⊥
      other e = let bad : None ≡ Some sorts.Stack = subst (λ x. spec.sort_in kinds.Svc (sort_code x) ≡ Some x) e stands in cc

      from : (h : BrickKind) → Holds kinds.Svc sort n h → (s : Supplied) × (IsSupplied n sort s × (Svc s ≡ h))
      from (Svc s) h = (s, ((h.0.1, h.1), refl))
      from (Own c) h = absurd (let bad = h.0.0 in cc)
      from (Ent c) h = absurd (let bad = h.0.0 in cc)
      from (Ext e) h = absurd (let bad = h.0.0 in cc)

  -- ---- a brick

  tags_spelled : (h : BrickKind) (rest : List ℕ) → (kind_code (kind_tag h) ∷ []) ++ ((sort_code (sort_tag h) ∷ []) ++ rest) ≡ kind_spelling h ++ rest
  tags_spelled (Own (content.Proc p)) rest = refl
  tags_spelled (Own (content.Data d)) rest = refl
  tags_spelled (Own (content.Stack n)) rest = refl
  tags_spelled (Ent (content.Proc p)) rest = refl
  tags_spelled (Ent (content.Data d)) rest = refl
  tags_spelled (Ent (content.Stack n)) rest = refl
  tags_spelled (Ext (external.Proc m)) rest = refl
  tags_spelled (Ext (external.Data fs)) rest = refl
  tags_spelled (Ext external.Stack) rest = refl
  tags_spelled (Svc (supplied.Proc m)) rest = refl
  tags_spelled (Svc (supplied.Data fs)) rest = refl

  abbrev made_brick : List ℕ → BrickKind → Brick
  made_brick n h = record { name = n; kind = h }

  pub spelt_brick : (before : List Brick) → Spelt (spec.brick_format records strings bricks before) brick_spelling (Fresh (λ (b : Brick). b.name) (HasBrickRanges records strings bricks) before)
  spelt_brick before =
      let names : List (List ℕ) = map (λ (b : Brick). b.name) before in
      let f3 : Kind → Sort → List ℕ → Format Brick = λ k sort n. spec.kind_format records strings bricks k sort n >>= (λ h. nothing (made_brick n h)) in
      let k3 : Kind → Sort → List ℕ → Brick → Type 0 = λ k sort n b. Holds k sort n b.kind × (made_brick n b.kind ≡ b) in
      let s3 : Brick → List ℕ = λ b. holds_spelling b.kind in
      let f2 : Kind → Sort → Format Brick = λ k sort. passing (spec.is_new names) name >>= f3 k sort in
      let k2 : Kind → Sort → Brick → Type 0 = λ k sort b. (IsName b.name × (spec.is_new names b.name ≡ true)) × k3 k sort b.name b in
      let s2 : Brick → List ℕ = λ b. name_bytes b.name ++ s3 b in
      let f1 : Kind → Format Brick = λ k. byte (spec.sort_in k) >>= f2 k in
      let k1 : Kind → Brick → Type 0 = λ k b. (spec.sort_in k (sort_code (sort_tag b.kind)) ≡ Some (sort_tag b.kind)) × k2 k (sort_tag b.kind) b in
      let s1 : Brick → List ℕ = λ b. (sort_code (sort_tag b.kind) ∷ []) ++ s2 b in
      let g3 : (k : Kind) (sort : Sort) (n : List ℕ) → spec.sort_in k (sort_code sort) ≡ Some sort → Spelt (f3 k sort n) s3 (k3 k sort n) = λ k sort n e. spelt_made (spec.kind_format records strings bricks k sort n) holds_spelling (Holds k sort n) (spelt_holds k sort n e) (made_brick n) (λ b. b.kind) (λ h. refl) in
      let g2 : (k : Kind) (sort : Sort) → spec.sort_in k (sort_code sort) ≡ Some sort → Spelt (f2 k sort) s2 (k2 k sort) =
      λ k sort e. spelt_then (passing (spec.is_new names) name) name_bytes (λ n. IsName n × (spec.is_new names n ≡ true)) (spelt_new names) (f3 k sort) s3 (k3 k sort) (λ b. b.name) (λ n x. g3 k sort n e) (λ n b h. ap (λ (y : Brick). y.name) h.1) in
      let g1 : (k : Kind) → Spelt (f1 k) s1 (k1 k) =
      λ k. spelt_then (byte (spec.sort_in k)) (λ s. sort_code s ∷ []) (λ s. spec.sort_in k (sort_code s) ≡ Some s) (spelt_code (spec.sort_in k) sort_code (sort_is k) sort_small) (f2 k) s2 (k2 k) (λ b. sort_tag b.kind) (λ sort e. g2 k sort e) (λ sort b h. h.1.0.0.1) in
      spelt_same (spec.brick_format records strings bricks before) (λ b. (kind_code (kind_tag b.kind) ∷ []) ++ s1 b) brick_spelling (λ b. (spec.kind_of (kind_code (kind_tag b.kind)) ≡ Some (kind_tag b.kind)) × k1 (kind_tag b.kind) b) (Fresh (λ (b : Brick). b.name) (HasBrickRanges records strings bricks) before)
      (spelt_then (byte spec.kind_of) (λ k. kind_code k ∷ []) (λ k. spec.kind_of (kind_code k) ≡ Some k) (spelt_code spec.kind_of kind_code kind_is kind_small) f1 s1 k1 (λ b. kind_tag b.kind) (λ k e. g1 k) (λ k b h. h.1.1.0.0.0))
      (λ b h. tags_spelled b.kind (s2 b))
      (λ b h. (h.1.1.0.1, record { name = h.1.1.0.0; kind = h.1.1.1.0.1 }))
      (λ b h. (kind_stands (kind_tag b.kind), (sort_stands b.kind, ((h.1.name, h.0), (((refl, refl), h.1.kind), refl)))))
