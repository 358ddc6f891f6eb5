-- Where starts fit, there are as many bytes as the items have.
use Rattle.std.proofs.Common.{◌≡◌, ℕ, zero, suc, ◌+◌, ◌*◌, ◌%◌, ◌==◌, ◌&&◌, Bool, true, false, if◌then◌else◌, List, [], ◌∷◌, length, map, Option, Some, None, option_map, refl, sym, ap, ◌∙◌, subst, arith, length-append}
use Rattle.std.proofs.lemmas.Bool.Decides.{nat_tests}
use Rattle.std.specs.Prelude.{slice_get}
use Rattle.rt_words.specs.Bytes.{word_bytes}
use Rattle.rt_modes.specs.declared.mode.Field.{Field}
use Rattle.rt_modes.specs.declared.mode.Mode.{Mode, out-Mode}
use Rattle.rt_modes.specs.declared.mode.Mode.TheOpen.{Mode-F}
use Rattle.rt_modes.specs.declared.mode.RecordDef.{RecordDef}
use Rattle.rt_sizes.specs.Sizes.{begins, and_then, Table, fields_if, fields_of, within, End, size_layer, size, field_begins, field_end, fields_end, record_layer}
use Rattle.rt_sizes.specs.Sizes as sizes
use Rattle.rt_sizes.proofs.Layers.{size_at, some_is}
use Rattle.rt_tree_nodes.specs.declared.brick.DataStart.{DataStart, out-DataStart, roll-DataStart, map-DataStart}
use Rattle.rt_tree_nodes.specs.declared.brick.DataStart.TheFolds.{ind-DataStart}
use Rattle.rt_tree_nodes.specs.declared.brick.DataStart.TheOpen.{DataStart-F}
use Rattle.rt_tree_nodes.specs.Scopes.{Scope, same, proc_mode}
use Rattle.rt_tree_nodes.proofs.Same.{same_equal}
use Rattle.rt_tree.specs.Modules.{Starts, shared_mode, number_starts, text_starts, place_starts, all_start, fields_start, record_starts, list_starts}
use Rattle.rt_tree.specs.Modules as modules
use Rattle.rt_object.specs.declared.object.Relocated.{Relocated}
use Rattle.rt_object.specs.declared.object.Relocated.TheVariants as relocated
use Rattle.rt_object.specs.Ranges.{IsProcMode, IsProcLayer}
use Rattle.rt_lower.specs.declared.layouts.Layouts.{Layouts}
use Rattle.rt_lower.specs.Layouts.{table_of}
use Rattle.rt_compile.specs.declared.data.written.Data.{Data}
use Rattle.rt_compile.specs.Data.{nothing, with_bytes, even, word, address, offset_of, Writing, number, elements, fields, record_fields, listed, one_start, starts, data_of}
use Rattle.rt_compile.proofs.Layers.{out_roll, fits_at, written_at}
use Rattle.rt_compile.proofs.Tests.{left_of, right_of, passed}

-- procedures have PROC modes
abbrev pub ProcsArePROC : Scope → Type 0
ProcsArePROC c = (b : ℕ) (m : Mode) → proc_mode c.bricks b ≡ Some m → IsProcMode m

-- how many bytes are written
abbrev count : Data → ℕ
count d = length d.bytes

-- ---- what is written, counted

even_by : (b : Bool) (d : Data) → (length d.bytes % 2 == 1) ≡ b → count (if b then with_bytes (0 ∷ []) d else d) ≡ sizes.even (count d)
even_by true d e = grind (arith, nat_tests, length-append d.bytes (0 ∷ []))
even_by false d e = grind (arith, nat_tests)

even_counts : (d : Data) → count (even d) ≡ sizes.even (count d)
even_counts d = even_by (length d.bytes % 2 == 1) d refl

word_counts : (n : ℕ) (d : Data) → count (word n d) ≡ sizes.even (count d) + 2
word_counts n d = length-append (even d).bytes (word_bytes n) ∙ ap (λ k. k + 2) (even_counts d)

address_counts : (of : Relocated) (offset : ℕ) (d : Data) → count (address of offset d) ≡ sizes.even (count d) + 2
address_counts of offset d = length-append (even d).bytes (0 ∷ (0 ∷ [])) ∙ ap (λ k. k + 2) (even_counts d)

-- ---- even numbers

even_is : (n : ℕ) → sizes.even n % 2 ≡ 0
even_is n = omega arith

even_stays : (n : ℕ) → n % 2 ≡ 0 → sizes.even n ≡ n
even_stays n e = omega arith

even_behind : (x n : ℕ) → x % 2 ≡ 0 → sizes.even (x + n) ≡ x + sizes.even n
even_behind x n e = omega arith

begins_even : {A : Type 0} (z : Mode-F A) (x : ℕ) → x % 2 ≡ 0 → begins z x ≡ x
begins_even Mode-F.Byte x e = refl
begins_even Mode-F.Int x e = even_stays x e
begins_even Mode-F.Frac x e = even_stays x e
begins_even Mode-F.Label x e = even_stays x e
begins_even (Mode-F.Ref m) x e = even_stays x e
begins_even (Mode-F.RefArray m) x e = even_stays x e
begins_even (Mode-F.Array k m) x e = even_stays x e
begins_even (Mode-F.Record r) x e = even_stays x e
begins_even (Mode-F.Proc ps r) x e = even_stays x e

begins_behind : {A : Type 0} (z : Mode-F A) (x n : ℕ) → x % 2 ≡ 0 → begins z (x + n) ≡ x + begins z n
begins_behind Mode-F.Byte x n e = refl
begins_behind Mode-F.Int x n e = even_behind x n e
begins_behind Mode-F.Frac x n e = even_behind x n e
begins_behind Mode-F.Label x n e = even_behind x n e
begins_behind (Mode-F.Ref m) x n e = even_behind x n e
begins_behind (Mode-F.RefArray m) x n e = even_behind x n e
begins_behind (Mode-F.Array k m) x n e = even_behind x n e
begins_behind (Mode-F.Record r) x n e = even_behind x n e
begins_behind (Mode-F.Proc ps r) x n e = even_behind x n e

-- ---- sizes

-- fields that stand behind an even number of bytes more end so many bytes further on
module _ (f : ℕ → Option ℕ) where
  ends_behind : (fs : List Field) (x n e : ℕ) → x % 2 ≡ 0 → fields_end f fs n ≡ Some e → fields_end f fs (x + n) ≡ Some (x + e)
  ends_behind [] x n e even h = ap (λ k. Some (x + k)) (some_is n e h)
  ends_behind (field ∷ fs) x n e even h = by (size f field.mode) h (λ k g. ends_behind fs x k e even g) where
    by : (o : Option ℕ) → and_then (option_map (λ s. field_begins f field n + s) o) (fields_end f fs) ≡ Some e → ((k : ℕ) → fields_end f fs k ≡ Some e → fields_end f fs (x + k) ≡ Some (x + e))
        → and_then (option_map (λ s. field_begins f field (x + n) + s) o) (fields_end f fs) ≡ Some (x + e)
    by None g go = absurd cc
    by (Some s) g go =
        let moved : x + (field_begins f field n + s) ≡ field_begins f field (x + n) + s = omega (arith, begins_behind (out-Mode field.mode) x n even) in
        subst (λ k. fields_end f fs k ≡ Some (x + e)) moved (go (field_begins f field n + s) g)

mapped_even : (o : Option ℕ) (op : ℕ → ℕ) (n : ℕ) → ((k : ℕ) → op k % 2 ≡ 0) → option_map op o ≡ Some n → n % 2 ≡ 0
mapped_even None op n h e = absurd cc
mapped_even (Some k) op n h e = subst (λ i. i % 2 ≡ 0) (some_is (op k) n e) (h k)

record_even : (t : Table) (k r n : ℕ) → within t k r ≡ Some n → n % 2 ≡ 0
unfolding within
record_even t zero r n e = absurd cc
record_even t (suc k) r n e = by (fields_of t r) e where
  by : (o : Option (List Field)) → record_layer (within t k) o ≡ Some n → n % 2 ≡ 0
  by None g = absurd cc
  by (Some fs) g = mapped_even (fields_end (within t k) fs 0) sizes.even n even_is g

two : (n : ℕ) → Some 2 ≡ Some n → 2 ≡ n
two n e = some_is 2 n e

-- a value that begins where one of its mode may ends where the next may begin
module _ (t : Table) (k : ℕ) where
  stays_even : (x s : ℕ) → sizes.even x ≡ x → s % 2 ≡ 0 → sizes.even (x + s) ≡ x + s
  stays_even x s e h = omega arith

  stays_two : (x s : ℕ) → sizes.even x ≡ x → Some 2 ≡ Some s → sizes.even (x + s) ≡ x + s
  stays_two x s e h = let is : 2 ≡ s = two s h in omega arith

  next_begins : (m : Mode) (z : Mode-F Mode) (x s : ℕ) → out-Mode m ≡ z → size (within t k) m ≡ Some s → begins z x ≡ x → begins z (x + s) ≡ x + s
  next_begins m Mode-F.Byte x s o e h = refl
  next_begins m Mode-F.Int x s o e h = stays_two x s h (sym (size_at (within t k) m Mode-F.Int o) ∙ e)
  next_begins m Mode-F.Frac x s o e h = stays_two x s h (sym (size_at (within t k) m Mode-F.Frac o) ∙ e)
  next_begins m Mode-F.Label x s o e h = stays_two x s h (sym (size_at (within t k) m Mode-F.Label o) ∙ e)
  next_begins m (Mode-F.Ref a) x s o e h = stays_two x s h (sym (size_at (within t k) m (Mode-F.Ref a) o) ∙ e)
  next_begins m (Mode-F.RefArray a) x s o e h = stays_two x s h (sym (size_at (within t k) m (Mode-F.RefArray a) o) ∙ e)
  next_begins m (Mode-F.Array i a) x s o e h = stays_even x s h (mapped_even (size (within t k) a) (λ n. sizes.even (2 + i * n)) s (λ n. even_is (2 + i * n)) (sym (size_at (within t k) m (Mode-F.Array i a) o) ∙ e))
  next_begins m (Mode-F.Record r) x s o e h = stays_even x s h (record_even t k r s (sym (size_at (within t k) m (Mode-F.Record r) o) ∙ e))
  next_begins m (Mode-F.Proc ps r) x s o e h = stays_two x s h (sym (size_at (within t k) m (Mode-F.Proc ps r) o) ∙ e)

-- the fields that a table has of a record are the record's
fields_are : (b : Option Bool) (d : RecordDef) (gs : List Field) → fields_if b (Some d) ≡ Some gs → gs ≡ d.fields
fields_are None d gs e = absurd cc
fields_are (Some true) d gs e = cc
fields_are (Some false) d gs e = absurd cc

record_size : (t : Table) (k r n : ℕ) (d : RecordDef) → slice_get t.records r ≡ Some d → within t k r ≡ Some n → (j e : ℕ) × (fields_end (within t j) d.fields 0 ≡ Some e) × (n ≡ sizes.even e)
unfolding within
record_size t zero r n d is e = absurd cc
record_size t (suc k) r n d is e = by (fields_of t r) refl e where
  ended : (o : Option ℕ) (fs : List Field) → fields_end (within t k) fs 0 ≡ o → option_map sizes.even o ≡ Some n → fs ≡ d.fields → (j e : ℕ) × (fields_end (within t j) d.fields 0 ≡ Some e) × (n ≡ sizes.even e)
  ended None fs h g same = absurd cc
  ended (Some i) fs h g same = (k, i, subst (λ (gs : List Field). fields_end (within t k) gs 0 ≡ Some i) same h, sym (some_is (sizes.even i) n g))

  by : (o : Option (List Field)) → fields_of t r ≡ o → record_layer (within t k) o ≡ Some n → (j e : ℕ) × (fields_end (within t j) d.fields 0 ≡ Some e) × (n ≡ sizes.even e)
  by None h g = absurd cc
  by (Some fs) h g = ended (fields_end (within t k) fs 0) fs refl g (fields_are (slice_get t.known r) d fs (sym (ap (fields_if (slice_get t.known r)) is) ∙ h))

-- ---- tests

same_count : (a b : ℕ) → (a == b) ≡ true → a ≡ b
same_count a b e = grind (arith, nat_tests)

none_left : (a : ℕ) → (suc a == 0) ≡ true → ⊥
none_left a e = grind (arith, nat_tests)

-- ---- values

-- What is written of a value that fits, which has n bytes, ends n bytes behind where the value begins.
module _ (l : Layouts) (c : Scope) (procs : ProcsArePROC c) where
  abbrev t : Table
  t = table_of c.records

  abbrev Ends : Mode → Mode-F Mode → ℕ → Data → Data → Type 0
  Ends m z k d new = (n : ℕ) → size (within t k) m ≡ Some n → count new ≡ begins z (count d) + n

  -- what has the size of a word
  as_word : (m : Mode) (z : Mode-F Mode) (k : ℕ) (d new : Data) → size (within t k) m ≡ Some 2 → begins z (count d) ≡ sizes.even (count d) → count new ≡ sizes.even (count d) + 2 → Ends m z k d new
  as_word m z k d new two_is at e n h = let is : 2 ≡ n = some_is 2 n (sym two_is ∙ h) in omega arith

  number_ends : (i : ℕ) (m : Mode) (z : Mode-F Mode) (k : ℕ) (d : Data) → out-Mode m ≡ z → number_starts i z ≡ true → Ends m z k d (number i z d)
  number_ends i m Mode-F.Byte k d o fit = λ n h.
      let is : 1 ≡ n = some_is 1 n (sym (size_at (within t k) m Mode-F.Byte o) ∙ h) in
      length-append d.bytes (i % 256 ∷ []) ∙ ap (λ s. count d + s) is
  number_ends i m Mode-F.Int k d o fit = as_word m Mode-F.Int k d (word i d) (size_at (within t k) m Mode-F.Int o) refl (word_counts i d)
  number_ends i m Mode-F.Frac k d o fit = as_word m Mode-F.Frac k d (word i d) (size_at (within t k) m Mode-F.Frac o) refl (word_counts i d)
  number_ends i m _ k d o fit = absurd cc

  text_ends : (i : ℕ) (m : Mode) (z : Mode-F Mode) (k : ℕ) (d : Data) (of : Relocated) → out-Mode m ≡ z → text_starts c i z ≡ true → Ends m z k d (address of 0 d)
  text_ends i m (Mode-F.RefArray a) k d of o fit = as_word m (Mode-F.RefArray a) k d (address of 0 d) (size_at (within t k) m (Mode-F.RefArray a) o) refl (address_counts of 0 d)
  text_ends i m _ k d of o fit = absurd cc

  proc_ends : (m : Mode) (z : Mode-F Mode) (k : ℕ) (d : Data) (of : Relocated) → out-Mode m ≡ z → IsProcLayer z → Ends m z k d (address of 0 d)
  proc_ends m (Mode-F.Proc ps r) k d of o fit = as_word m (Mode-F.Proc ps r) k d (address of 0 d) (size_at (within t k) m (Mode-F.Proc ps r) o) refl (address_counts of 0 d)
  proc_ends m _ k d of o fit = absurd fit

  place_ends : (m : Mode) (z : Mode-F Mode) (found : Mode) (k : ℕ) (d : Data) (of : Relocated) (offset : ℕ) → out-Mode m ≡ z → place_starts found z ≡ true → Ends m z k d (address of offset d)
  place_ends m (Mode-F.Ref a) found k d of offset o fit = as_word m (Mode-F.Ref a) k d (address of offset d) (size_at (within t k) m (Mode-F.Ref a) o) refl (address_counts of offset d)
  place_ends m (Mode-F.RefArray a) found k d of offset o fit = as_word m (Mode-F.RefArray a) k d (address of offset d) (size_at (within t k) m (Mode-F.RefArray a) o) refl (address_counts of offset d)
  place_ends m _ found k d of offset o fit = absurd cc

  -- ---- all starts

  abbrev Good : DataStart → Type 0
  Good s = (m : Mode) → modules.starts c s m ≡ true → (k : ℕ) (d : Data) → Ends m (out-Mode m) k d (starts l c s m d)

  abbrev Pair : Type 0
  Pair = (s : DataStart) × Good s

  abbrev firsts : List Pair → List DataStart
  firsts xs = map (λ (e : Pair). e.0) xs

  abbrev fits : List Pair → List Starts
  fits xs = map (modules.starts c) (firsts xs)

  abbrev writes : List Pair → List Writing
  writes xs = map (starts l c) (firsts xs)

  elements_end : (xs : List Pair) (m : Mode) (k s : ℕ) (d : Data) → all_start (fits xs) m ≡ true → size (within t k) m ≡ Some s → begins (out-Mode m) (count d) ≡ count d → count (elements (writes xs) m d) ≡ count d + length (fits xs) * s
  elements_end [] m k s d fit e at = omega arith
  elements_end (x ∷ xs) m k s d fit e at =
      let one : count (starts l c x.0 m d) ≡ count d + s = x.1 m (left_of (modules.starts c x.0 m) (all_start (fits xs) m) fit) k d s e ∙ ap (λ n. n + s) at in
      let next : begins (out-Mode m) (count (starts l c x.0 m d)) ≡ count (starts l c x.0 m d) = subst (λ n. begins (out-Mode m) n ≡ n) (sym one) (next_begins t k m (out-Mode m) (count d) s refl e at) in
      let rest = elements_end xs m k s (starts l c x.0 m d) (right_of (modules.starts c x.0 m) (all_start (fits xs) m) fit) e next in
      let more : suc (length (fits xs)) * s ≡ s + length (fits xs) * s = grind arith in
      omega (arith, rest, one, more)

  fields_finish : (xs : List Pair) (fs : List Field) (k e : ℕ) (d : Data) → fields_start (fits xs) fs ≡ true → fields_end (within t k) fs (count d) ≡ Some e → count (fields (writes xs) fs d) ≡ e
  fields_finish [] [] k e d fit h = some_is (count d) e h
  fields_finish [] (f ∷ fs) k e d fit h = absurd (none_left (length fs) fit)
  fields_finish (x ∷ xs) [] k e d fit h = absurd cc
  fields_finish (x ∷ xs) (f ∷ fs) k e d fit h =
      let new : Data = starts l c x.0 f.mode d in
      let one : Ends f.mode (out-Mode f.mode) k d new = x.1 f.mode (left_of (modules.starts c x.0 f.mode) (fields_start (fits xs) fs) fit) k d in
      by (size (within t k) f.mode) refl h one (λ g. fields_finish xs fs k e new (right_of (modules.starts c x.0 f.mode) (fields_start (fits xs) fs) fit) g)
    where
      by : (o : Option ℕ) → size (within t k) f.mode ≡ o → and_then (option_map (λ s. begins (out-Mode f.mode) (count d) + s) o) (fields_end (within t k) fs) ≡ Some e → Ends f.mode (out-Mode f.mode) k d (starts l c x.0 f.mode d)
          → (fields_end (within t k) fs (count (starts l c x.0 f.mode d)) ≡ Some e → count (fields (writes xs) fs (starts l c x.0 f.mode d)) ≡ e) → count (fields (writes xs) fs (starts l c x.0 f.mode d)) ≡ e
      by None o g one go = absurd cc
      by (Some s) o g one go = go (subst (λ n. fields_end (within t k) fs n ≡ Some e) (sym (one s o)) g)

  array_ends : (xs : List Pair) (m : Mode) (i : ℕ) (a : Mode) (k : ℕ) (d : Data) → out-Mode m ≡ Mode-F.Array i a → (length (fits xs) == i && all_start (fits xs) a) ≡ true → Ends m (Mode-F.Array i a) k d (even (elements (writes xs) a (word i d)))
  array_ends xs m i a k d o fit n h = by (size (within t k) a) refl (sym (size_at (within t k) m (Mode-F.Array i a) o) ∙ h) where
    by : (u : Option ℕ) → size (within t k) a ≡ u → option_map (λ s. sizes.even (2 + i * s)) u ≡ Some n → count (even (elements (writes xs) a (word i d))) ≡ sizes.even (count d) + n
    by None e g = absurd cc
    by (Some s) e g =
        let start : count (word i d) % 2 ≡ 0 = omega (arith, word_counts i d) in
        let all : count (elements (writes xs) a (word i d)) ≡ count (word i d) + length (fits xs) * s = elements_end xs a k s (word i d) (right_of (length (fits xs) == i) (all_start (fits xs) a) fit) e (begins_even (out-Mode a) (count (word i d)) start) in
        let many : length (fits xs) * s ≡ i * s = ap (λ j. j * s) (same_count (length (fits xs)) i (left_of (length (fits xs) == i) (all_start (fits xs) a) fit)) in
        let whole : count (elements (writes xs) a (word i d)) ≡ sizes.even (count d) + (2 + i * s) = omega (arith, all, many, word_counts i d) in
        even_counts (elements (writes xs) a (word i d)) ∙ ap sizes.even whole ∙ even_behind (sizes.even (count d)) (2 + i * s) (even_is (count d)) ∙ ap (λ j. sizes.even (count d) + j) (some_is (sizes.even (2 + i * s)) n g)

  record_ends : (xs : List Pair) (m : Mode) (r : ℕ) (u : Option RecordDef) (k : ℕ) (d : Data) → out-Mode m ≡ Mode-F.Record r → slice_get c.records r ≡ u → record_starts (fits xs) u ≡ true → Ends m (Mode-F.Record r) k d (even (record_fields (writes xs) u (even d)))
  record_ends xs m r None k d o is fit n h = absurd cc
  record_ends xs m r (Some def) k d o is fit n h =
      let found = record_size t k r n def is (sym (size_at (within t k) m (Mode-F.Record r) o) ∙ h) in
      let first : count (even d) + 0 ≡ count (even d) = omega arith in
      let start : count (even d) % 2 ≡ 0 = omega (arith, even_counts d) in
      let all : count (fields (writes xs) def.fields (even d)) ≡ count (even d) + found.1 = fields_finish xs def.fields found.0 (count (even d) + found.1) (even d) fit
      (subst (λ j. fields_end (within t found.0) def.fields j ≡ Some (count (even d) + found.1)) first (ends_behind (within t found.0) def.fields (count (even d)) 0 found.1 start found.2)) in
      even_counts (fields (writes xs) def.fields (even d)) ∙ ap sizes.even all ∙ even_behind (count (even d)) found.1 start ∙ (omega (arith, found.3, even_counts d))

  list_ends : (xs : List Pair) (m : Mode) (z : Mode-F Mode) (k : ℕ) (d : Data) → out-Mode m ≡ z → list_starts c.records (fits xs) z ≡ true → Ends m z k d (listed c.records (writes xs) z d)
  list_ends xs m (Mode-F.Array i a) k d o fit = array_ends xs m i a k d o fit
  list_ends xs m (Mode-F.Record r) k d o fit = record_ends xs m r (slice_get c.records r) k d o refl fit
  list_ends xs m _ k d o fit = absurd cc

  of_form : (m : Mode) (y : DataStart-F Pair) → modules.one_start c (map-DataStart DataStart Starts (modules.starts c) (map-DataStart Pair DataStart (λ e. e.0) y)) m ≡ true → (k : ℕ) (d : Data)
      → Ends m (out-Mode m) k d (one_start l c (map-DataStart DataStart Writing (starts l c) (map-DataStart Pair DataStart (λ e. e.0) y)) m d)
  of_form m (DataStart-F.Number i) fit k d = number_ends i m (out-Mode m) k d refl fit
  of_form m (DataStart-F.Text s) fit k d = text_ends s m (out-Mode m) k d (relocated.String s) refl fit
  of_form m (DataStart-F.Proc b) fit k d =
      let p = passed (same m) (proc_mode c.bricks b) fit in
      let is : m ≡ p.0 = same_equal m p.0 p.2 in
      proc_ends m (out-Mode m) k d (relocated.Brick b) refl (subst (λ v. IsProcMode v) (sym is) (procs b p.0 p.1))
  of_form m (DataStart-F.Place b j path) fit k d =
      let p = passed (λ (v : Mode). place_starts v (out-Mode m)) (shared_mode c b j path) fit in
      place_ends m (out-Mode m) p.0 k d (relocated.Brick b) (offset_of l c b j path) refl p.2
  of_form m (DataStart-F.List xs) fit k d = list_ends xs m (out-Mode m) k d refl fit

  by_form : (s : DataStart) (y : DataStart-F Pair) → out-DataStart s ≡ map-DataStart Pair DataStart (λ e. e.0) y → Good s
  by_form s y o m fit k d n h =
      let x : DataStart-F DataStart = map-DataStart Pair DataStart (λ e. e.0) y in
      ap (λ (f : Writing). count (f m d)) (written_at l c s x o) ∙ of_form m y (sym (ap (λ (f : Starts). f m) (fits_at c s x o)) ∙ fit) k d n h

  start_good : (s : DataStart) → Good s
  start_good = ind-DataStart Good (λ x y is. by_form (roll-DataStart x) y (out_roll x ∙ sym is))

  pairs : List DataStart → List Pair
  pairs ss = map (λ s. (s, start_good s)) ss

  first_pairs : (ss : List DataStart) → firsts (pairs ss) ≡ ss
  unfolding pairs
  first_pairs [] = refl
  first_pairs (s ∷ ss) = ap (λ xs. s ∷ xs) (first_pairs ss)

  items_count : (fs : List Field) (ss : List DataStart) (n : ℕ) → fields_start (map (modules.starts c) ss) fs ≡ true → End t fs n → count (fields (map (starts l c) ss) fs nothing) ≡ n
  items_count fs ss n fit end =
      subst (λ (xs : List DataStart). count (fields (map (starts l c) xs) fs nothing) ≡ n) (first_pairs ss)
      (fields_finish (pairs ss) fs end.0 n nothing (subst (λ (xs : List DataStart). fields_start (map (modules.starts c) xs) fs ≡ true) (sym (first_pairs ss)) fit) end.1)

  pub data_counts : (fs : List Field) (ss : List DataStart) (n : ℕ) → fields_start (map (modules.starts c) ss) fs ≡ true → End t fs n → count (data_of l c fs ss) ≡ sizes.even n
  data_counts fs ss n fit end = even_counts (fields (map (starts l c) ss) fs nothing) ∙ ap sizes.even (items_count fs ss n fit end)
