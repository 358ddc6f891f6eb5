-- What fits the format of an object is one, and so is the field that is refused; never both.
use Rattle.std.proofs.Common.{◌≡◌, ℕ, zero, suc, ◌+◌, ◌<◌, ◌⊎◌, inl, inr, List, [], ◌∷◌, ◌++◌, length, take, codes, refl, sym, ap, subst, ◌∙◌, arith}
use Rattle.rt_words.specs.Format.{Format, nothing, word, tag, name, any, ◌>>=◌, each}
use Rattle.rt_words.specs.Format as format
use Rattle.rt_words.specs.Reading as formats
use Rattle.rt_words.proofs.Determined as determined
use Rattle.rt_words.proofs.Right.{Right, right_nothing, right_word, right_tag, right_name, right_then, right_each}
use Rattle.rt_modes.specs.declared.mode.RecordDef.{RecordDef}
use Rattle.rt_object.specs.declared.object.ObjectParts.{ObjectParts}
use Rattle.std.proofs.lemmas.List.{length-append}
use Rattle.rt_object.specs.Grammar.{IsFirstBad, without_bad}
use Rattle.rt_object.specs.Grammar as spec
use Rattle.rt_object.specs.Reading as reads
use Rattle.rt_object.proofs.Decided.{first_told, each_front}
use Rattle.rt_object.proofs.ObjectReads.{right_record, right_strings, right_bricks, right_taken}

pub record Sure {A : Type 0} (P : Format A) : Type 0 where
  pub one : (l r s : List ℕ) (a b : A) → P.Fits l r a → P.Fits l s b → (r ≡ s) × (a ≡ b)
  pub apart : (l r : List ℕ) (a : A) (n : ℕ) → P.Fits l r a → P.Refuses l n → ⊥
  pub place : (l : List ℕ) (m n : ℕ) → P.Refuses l m → P.Refuses l n → m ≡ n
  pub either : (l : List ℕ) → ((r : List ℕ) × (a : A) × P.Fits l r a) ⊎ ((n : ℕ) × P.Refuses l n)

sure : {A : Type 0} (p : formats.Reader A) (P : Format A) → Right p P → Sure P
sure p P g = record { one = determined.one_meaning p P g; apart = determined.never_both p P g; place = determined.one_place p P g; either = (determined.determined p P g).either }

module _ {A B : Type 0} (P : Format A) (Q : A → Format B) (g : Sure P) (h : (a : A) → Sure (Q a)) where
  -- what the second part says where the first one means the same
  fits_same : (m m' r : List ℕ) (a a' : A) (b : B) → m ≡ m' → a ≡ a' → (Q a').Fits m' r b → (Q a).Fits m r b
  fits_same m m' r a a' b e f k = subst (λ x. (Q x).Fits m r b) (sym f) (subst (λ x. (Q a').Fits x r b) (sym e) k)

  refuses_same : (m m' : List ℕ) (a a' : A) (n : ℕ) → m ≡ m' → a ≡ a' → (Q a').Refuses m' n → (Q a).Refuses m n
  refuses_same m m' a a' n e f k = subst (λ x. (Q x).Refuses m n) (sym f) (subst (λ x. (Q a').Refuses x n) (sym e) k)

  then_one : (l r s : List ℕ) (b c : B) → (P >>= Q).Fits l r b → (P >>= Q).Fits l s c → (r ≡ s) × (b ≡ c)
  then_one l r s b c (m, a, f, k) (m', a', f', k') = let e = g.one l m m' a a' f f' in (h a).one m r s b c k (fits_same m m' s a a' c e.0 e.1 k')

  then_apart : (l r : List ℕ) (b : B) (n : ℕ) → (P >>= Q).Fits l r b → (P >>= Q).Refuses l n → ⊥
  then_apart l r b n (m, a, f, k) (inl x) = g.apart l m a n f x
  then_apart l r b n (m, a, f, k) (inr (m', a', f', k')) = let e = g.one l m m' a a' f f' in (h a).apart m r b n k (refuses_same m m' a a' n e.0 e.1 k')

  then_place : (l : List ℕ) (n o : ℕ) → (P >>= Q).Refuses l n → (P >>= Q).Refuses l o → n ≡ o
  then_place l n o (inl x) (inl y) = g.place l n o x y
  then_place l n o (inl x) (inr (m, a, f, k)) = absurd (g.apart l m a n f x)
  then_place l n o (inr (m, a, f, k)) (inl y) = absurd (g.apart l m a o f y)
  then_place l n o (inr (m, a, f, k)) (inr (m', a', f', k')) = let e = g.one l m m' a a' f f' in (h a).place m n o k (refuses_same m m' a a' o e.0 e.1 k')

  then_either : (l : List ℕ) → ((r : List ℕ) × (b : B) × (P >>= Q).Fits l r b) ⊎ ((n : ℕ) × (P >>= Q).Refuses l n)
  then_either l = elim (g.either l) [
    | inr (n, x) ↦ inr (n, inl x)
    | inl (m, a, f) ↦ elim ((h a).either m) [ inl (r, b, k) ↦ inl (r, b, (m, a, f, k)) | inr (n, k) ↦ inr (n, inr (m, a, f, k)) ]
  ]

  sure_then : Sure (P >>= Q)
  sure_then = record { one = then_one; apart = then_apart; place = then_place; either = then_either }

-- ---- records

-- the first bad record is one
same_first : (records : List RecordDef) (j k : ℕ) → IsFirstBad records j → IsFirstBad records k → j ≡ k
same_first records j k a b = by (cases j k)
  where
    cases : (j k : ℕ) → (j < k) ⊎ ((j ≡ k) ⊎ (k < j))
    cases j k = grind arith

    by : (j < k) ⊎ ((j ≡ k) ⊎ (k < j)) → j ≡ k
    by (inl below) = absurd (b.none_before j below a.bad)
    by (inr (inl e)) = e
    by (inr (inr above)) = absurd (a.none_before k above b.bad)

module _ (front : ℕ → Format (List RecordDef)) (P : Format (List RecordDef)) (f : (k : ℕ) → Sure (front k)) (g : Sure P) (begins : (l r : List ℕ) (records : List RecordDef) (k : ℕ) → P.Fits l r records → k < length records → (m : List ℕ) × (front k).Fits l m (take k records)) where
  bad_apart : (l r : List ℕ) (records : List RecordDef) (n : ℕ) → (without_bad front P).Fits l r records → (without_bad front P).Refuses l n → ⊥
  bad_apart l r records n (fits, none) (inl x) = g.apart l r records n fits x
  bad_apart l r records n (fits, none) (inr (r', records', k, fits', bad, (m, first, e))) =
      let same = (g.one l r r' records records' fits fits').1 in
      let here = subst (λ x. IsFirstBad x k) (sym same) bad in
      none k here.there here.bad

  bad_place : (l : List ℕ) (n o : ℕ) → (without_bad front P).Refuses l n → (without_bad front P).Refuses l o → n ≡ o
  bad_place l n o (inl x) (inl y) = g.place l n o x y
  bad_place l n o (inl x) (inr (r, records, k, fits, bad, (m, first, e))) = absurd (g.apart l r records n fits x)
  bad_place l n o (inr (r, records, k, fits, bad, (m, first, e))) (inl y) = absurd (g.apart l r records o fits y)
  bad_place l n o (inr (r, records, k, fits, bad, (m, first, e))) (inr (r', records', k', fits', bad', (m', first', e'))) =
      let same = (g.one l r r' records records' fits fits').1 in
      let place = same_first records k k' bad (subst (λ x. IsFirstBad x k') (sym same) bad') in
      let again : (front k).Fits l m' (take k records) = subst (λ j. (front j).Fits l m' (take j records)) (sym place) (subst (λ x. (front k').Fits l m' (take k' x)) (sym same) first') in
      let left = ((f k).one l m m' (take k records) (take k records) first again).0 in
      e ∙ ap length left ∙ sym e'

  bad_either : (l : List ℕ) → ((r : List ℕ) × (records : List RecordDef) × (without_bad front P).Fits l r records) ⊎ ((n : ℕ) × (without_bad front P).Refuses l n)
  bad_either l = elim (g.either l) [
    | inr (n, x) ↦ inr (n, inl x)
    | inl (r, records, fits) ↦ elim (first_told records) [
      | inr none ↦ inl (r, records, (fits, none))
      | inl (k, bad) ↦ let front_k = begins l r records k fits bad.there in inr (length front_k.0, inr (r, records, k, fits, bad, (front_k.0, front_k.1, refl)))
    ]
  ]

  sure_without_bad : Sure (without_bad front P)
  sure_without_bad = record { one = λ l r s a b x y. g.one l r s a b x.0 y.0; apart = bad_apart; place = bad_place; either = bad_either }

right_all : Right reads.records_reader (word any >>= (λ count. each (spec.record_format count) count []))
unfolding reads.records_reader
right_all = right_then (formats.word any) _ (format.word any) _ (right_word any) (λ count. right_each (reads.record_reader count) (spec.record_format count) (right_record count) count [])

right_front : (k : ℕ) → Right (formats.◌>>=◌ (formats.word any) (λ count. formats.each (reads.record_reader count) k [])) (spec.front_records k)
right_front k = right_then (formats.word any) (λ count. formats.each (reads.record_reader count) k []) (format.word any) (λ count. each (spec.record_format count) k []) (right_word any) (λ count. right_each (reads.record_reader count) (spec.record_format count) (right_record count) k [])

-- the number of elements of a list that fits is that of its word
each_count : (n m : ℕ) (found all : List RecordDef) (l r : List ℕ) → (each (spec.record_format m) n found).Fits l r all → length all ≡ length found + n
unfolding each
each_count zero m found all l r (e, f) = let same : length found ≡ length all = ap length f in omega arith
each_count (suc n) m found all l r (b, a, fits, rest) = let next = each_count n m (found ++ a ∷ []) all b r rest in let size = length-append found (a ∷ []) in omega arith

begins_all : (l r : List ℕ) (records : List RecordDef) (k : ℕ) → (word any >>= (λ count. each (spec.record_format count) count [])).Fits l r records → k < length records → (m : List ℕ) × (spec.front_records k).Fits l m (take k records)
begins_all l r records k (m, count, w, rest) below =
    let size = each_count count count [] records m r rest in
    let front = each_front (spec.record_format count) count k [] records m r (omega arith) rest in
    let same : 0 + k ≡ k = omega arith in
    (front.0, (m, count, w, subst (λ z. (each (spec.record_format count) k []).Fits m front.0 (take z records)) same front.1))

pub sure_records : Sure spec.records_format
sure_records = sure_without_bad spec.front_records (word any >>= (λ count. each (spec.record_format count) count []))
    (λ k. sure (formats.◌>>=◌ (formats.word any) (λ count. formats.each (reads.record_reader count) k [])) (spec.front_records k) (right_front k)) (sure reads.records_reader (word any >>= (λ count. each (spec.record_format count) count [])) right_all) begins_all

-- ---- the object

pub sure_object : Sure spec.object_format
sure_object = sure_then (tag (codes "RTO" ++ 1 ∷ [])) _ (sure (formats.tag (codes "RTO" ++ 1 ∷ [])) (tag (codes "RTO" ++ 1 ∷ [])) (right_tag (codes "RTO" ++ 1 ∷ [])))
    (λ magic. sure_then name _ (sure formats.name name right_name)
    (λ title. sure_then spec.records_format _ sure_records
    (λ records. sure_then spec.strings_format _ (sure reads.strings_reader spec.strings_format right_strings)
    (λ strings. sure_then (spec.bricks_format records (length strings)) _ (sure (reads.bricks_reader records (length strings)) (spec.bricks_format records (length strings)) (right_bricks records (length strings)))
    (λ bricks. sure_then (spec.taken_format bricks) _ (sure (reads.taken_reader bricks) (spec.taken_format bricks) (right_taken bricks))
    (λ taken. let o : ObjectParts = record { title = title; records = record { records = records }; strings = strings; bricks = bricks; taken = taken } in sure (formats.nothing o) (nothing o) (right_nothing o)))))))
