-- What reading the records of an object answers, and what reading all of it.
use Rattle.std.proofs.Common.{◌≡◌, ℕ, ◌+◌, ◌<◌, ◌⊎◌, inl, inr, List, [], ◌∷◌, ◌++◌, length, take, codes, Result, Ok, Err, refl, sym, ap, subst, arith}
use Rattle.rt_words.specs.Format.{Format, nothing, word, tag, name, any, ◌>>=◌, each, whole}
use Rattle.rt_words.specs.Reading as formats
use Rattle.rt_words.specs.Reading.{Fails}
use Rattle.rt_words.specs.declared.stop.Stop.{Stop}
use Rattle.rt_words.specs.declared.stop.Stop.TheVariants as stop
use Rattle.rt_words.proofs.Right.{Right, same_err, right_nothing, right_word, right_tag, right_name, right_then, right_each}
use Rattle.rt_modes.specs.declared.mode.RecordDef.{RecordDef}
use Rattle.rt_object.specs.Grammar.{IsFirstBad, object_format}
use Rattle.rt_object.specs.Grammar as spec
use Rattle.rt_object.specs.Known.{StopsAt}
use Rattle.rt_object.specs.Ranges.{IsBadRecord}
use Rattle.rt_object.specs.Reading as reads
use Rattle.rt_object.specs.declared.object.Brick.{Brick}
use Rattle.rt_object.specs.declared.object.ObjectParts.{ObjectParts}
use Rattle.rt_object.proofs.Decided.{each_front}
use Rattle.rt_object.proofs.ObjectReads.{right_record, right_strings, right_bricks, right_taken}

abbrev magic : List ℕ
magic = codes "RTO" ++ 1 ∷ []

right_list : (count n : ℕ) → Right (formats.each (reads.record_reader count) n []) (each (spec.record_format count) n [])
right_list count n = right_each (reads.record_reader count) (spec.record_format count) (right_record count) n []

-- ---- what a reader that stops says of a format

pub fails_stops : {A B : Type 0} (P : Format A) (bytes : List ℕ) (read : Result B ℕ) (e : Stop) → Fails e read → ((n : ℕ) → read ≡ Err n → P.Refuses bytes n) → StopsAt P bytes e
fails_stops P bytes read stop.Memory h g = tt
fails_stops P bytes read (stop.Refused n) h g = g n h

pub stops_stops : {A B : Type 0} (P : Format A) (Q : Format B) (l bytes : List ℕ) (e : Stop) → StopsAt P l e → ((n : ℕ) → P.Refuses l n → Q.Refuses bytes n) → StopsAt Q bytes e
stops_stops P Q l bytes stop.Memory h g = tt
stops_stops P Q l bytes (stop.Refused n) h g = g n h

pub told_stops : {A : Type 0} (P : Format A) (bytes : List ℕ) (n : ℕ) (e : Stop) → (e ≡ stop.Memory) ⊎ (e ≡ stop.Refused n) → P.Refuses bytes n → StopsAt P bytes e
told_stops P bytes n e (inl k) h = rw k tt
told_stops P bytes n e (inr k) h = rw k h

-- ---- records

module _ (bytes : List ℕ) where
  pub count_refused : (n : ℕ) → formats.word any bytes ≡ Err n → spec.records_format.Refuses bytes n
  count_refused n e = inl (inl ((right_word any).refuses bytes n e))

  module _ (count size : ℕ) (same : size ≡ count) (behind : List ℕ) (w : formats.word any bytes ≡ Ok (count, behind)) where
    pub list_refused : (n : ℕ) → formats.each (reads.record_reader count) size [] behind ≡ Err n → spec.records_format.Refuses bytes n
    list_refused n e = inl (inr (behind, count, (right_word any).sound bytes behind count w, (right_list count count).refuses behind n (subst (λ k. formats.each (reads.record_reader count) k [] behind ≡ Err n) same e)))

    module _ (records : List RecordDef) (rest : List ℕ) (read : formats.each (reads.record_reader count) size [] behind ≡ Ok (records, rest)) where
      e : formats.each (reads.record_reader count) count [] behind ≡ Ok (records, rest)
      e = subst (λ k. formats.each (reads.record_reader count) k [] behind ≡ Ok (records, rest)) same read

      all_fit : (word any >>= (λ count. each (spec.record_format count) count [])).Fits bytes rest records
      all_fit = (behind, count, (right_word any).sound bytes behind count w, (right_list count count).sound behind rest records e)

      pub list_read : ((k : ℕ) → k < length records → IsBadRecord records k → ⊥) → spec.records_format.Fits bytes rest records
      list_read none = (all_fit, none)

      -- the records in front of one, and the bytes behind them
      pub front_read : (k : ℕ) → k < length records → length records ≡ size → (m : List ℕ) × (formats.each (reads.record_reader count) k [] behind ≡ Ok (take k records, m))
      front_read k below long =
          let front = each_front (spec.record_format count) count k [] records behind rest (omega arith) ((right_list count count).sound behind rest records e) in
          let none : 0 + k ≡ k = omega arith in
          (front.0, (right_list count k).complete behind front.0 (take k records) (subst (λ z. (each (spec.record_format count) k []).Fits behind front.0 (take z records)) none front.1))

      pub bad_refused : (k : ℕ) (m : List ℕ) → IsFirstBad records k → formats.each (reads.record_reader count) k [] behind ≡ Ok (take k records, m) → spec.records_format.Refuses bytes (length m)
      bad_refused k m bad f = inr (rest, records, k, all_fit, bad, (m, (behind, count, (right_word any).sound bytes behind count w, (right_list count k).sound behind m (take k records) f), refl))

-- ---- the object

abbrev Tail : Type 0
Tail = (List (List ℕ) × List Brick) × List ℕ

tail_format : List RecordDef → Format Tail
tail_format records = spec.strings_format >>= (λ strings. spec.bricks_format records (length strings) >>= (λ bricks. spec.taken_format bricks >>= (λ taken. nothing ((strings, bricks), taken))))

right_tail : (records : List RecordDef) → Right (reads.tail records) (tail_format records)
unfolding reads.tail tail_format
right_tail records = right_then reads.strings_reader _ spec.strings_format _ right_strings
    (λ strings. right_then (reads.bricks_reader records (length strings)) _ (spec.bricks_format records (length strings)) _ (right_bricks records (length strings))
    (λ bricks. right_then (reads.taken_reader bricks) _ (spec.taken_format bricks) _ (right_taken bricks) (λ taken. right_nothing ((strings, bricks), taken))))

module _ (bytes : List ℕ) where
  pub tag_refused : (n : ℕ) → formats.tag magic bytes ≡ Err n → object_format.Refuses bytes n
  tag_refused n e = inl ((right_tag magic).refuses bytes n e)

  module _ (m : List ℕ) (t : formats.tag magic bytes ≡ Ok (tt, m)) where
    tag_fits : (tag magic).Fits bytes m tt
    tag_fits = (right_tag magic).sound bytes m tt t

    pub title_refused : (n : ℕ) → formats.name m ≡ Err n → object_format.Refuses bytes n
    title_refused n e = inr (m, tt, tag_fits, inl (right_name.refuses m n e))

    module _ (title m1 : List ℕ) (g : formats.name m ≡ Ok (title, m1)) where
      title_fits : name.Fits m m1 title
      title_fits = right_name.sound m m1 title g

      pub records_refused : (n : ℕ) → spec.records_format.Refuses m1 n → object_format.Refuses bytes n
      records_refused n e = inr (m, tt, tag_fits, inr (m1, title, title_fits, inl e))

      module _ (records : List RecordDef) (m2 : List ℕ) (h : spec.records_format.Fits m1 m2 records) where
        pub tail_refused : (n : ℕ) → reads.tail records m2 ≡ Err n → object_format.Refuses bytes n
        unfolding tail_format
        tail_refused n e = inr (m, tt, tag_fits, inr (m1, title, title_fits, inr (m2, records, h, (right_tail records).refuses m2 n e)))

        pub object_read : (tail : Tail) (rest : List ℕ) → reads.tail records m2 ≡ Ok (tail, rest) → object_format.Fits bytes rest (reads.parts title records tail)
        unfolding tail_format
        object_read tail rest e = by ((right_tail records).sound m2 rest tail e)
          where
            by : (tail_format records).Fits m2 rest tail → object_format.Fits bytes rest (reads.parts title records tail)
            by (m3, strings, f, (m4, bricks, k, (m5, taken, l, (same, is)))) = (m, tt, tag_fits, (m1, title, title_fits, (m2, records, h, (m3, strings, f, (m4, bricks, k, (m5, taken, l, (same, ap (reads.parts title records) is)))))))

-- ---- all of the bytes

module _ (bytes : List ℕ) (o : ObjectParts) where
  pub whole_read : object_format.Fits bytes [] o → (whole object_format).Fits bytes [] o
  whole_read f = (f, refl)

  pub byte_behind : (rest : List ℕ) (n : ℕ) → object_format.Fits bytes rest o → formats.ended (tt {0}) rest ≡ Err n → (whole object_format).Refuses bytes n
  byte_behind [] n f e = absurd cc
  byte_behind (b ∷ rest) n f e = inr (b, rest, o, f, sym (same_err {A = Unit {0}} (length (b ∷ rest)) n e))

  pub nothing_behind : (rest x : List ℕ) → formats.ended (tt {0}) rest ≡ Ok (tt {0}, x) → rest ≡ []
  nothing_behind [] x e = refl
  nothing_behind (b ∷ rest) x e = absurd cc

pub front_refused : (bytes : List ℕ) (n : ℕ) → object_format.Refuses bytes n → (whole object_format).Refuses bytes n
front_refused bytes n f = inl f
