-- What lists of starts write, and so every start.
use Rattle.std.proofs.Common.{◌≡◌, inl, inr, ℕ, zero, suc, ◌+◌, ◌*◌, ◌/◌, ◌%◌, ◌==◌, ◌<◌, ◌≤◌, Bool, true, false, nat_lt, nat_le, if◌then◌else◌, List, [], ◌∷◌, ◌++◌, length, map, Option, Some, None, slice_get, refl, sym, ap, ◌∙◌, subst, arith, length-append}
use Rattle.std.specs.List.{Contains}
use Rattle.std.proofs.Math.Nat.{mul_comm}
use Rattle.std.proofs.lemmas.List.{append-nil}
use Rattle.rt_link.specs.Relocated.{padded, patched_bytes}
use Rattle.std.proofs.lemmas.Bool.Decides.{nat_tests}
use Rattle.std.proofs.lemmas.Option.{slice_get_within}
use Rattle.std.proofs.lemmas.List.Elements.{Contains-push, Contains-append_left, Contains-append_right}
use Rattle.rt_words.specs.Bytes.{word_bytes}
use Rattle.rt_modes.specs.declared.mode.Field.{Field}
use Rattle.rt_modes.specs.declared.mode.Mode.{Mode, out-Mode}
use Rattle.rt_modes.specs.declared.mode.Mode.TheOpen.{Mode-F}
use Rattle.rt_modes.specs.declared.mode.Mode.TheVariants as mode
use Rattle.rt_modes.specs.declared.mode.RecordDef.{RecordDef}
use Rattle.rt_modes.specs.FullMode.{joined}
use Rattle.rt_tree_nodes.specs.declared.brick.DataStart.{DataStart, out-DataStart, roll-DataStart, map-DataStart}
use Rattle.rt_tree_nodes.specs.declared.brick.DataStart.TheFolds.{ind-DataStart, fold_out-DataStart}
use Rattle.rt_tree_nodes.specs.declared.brick.DataStart.TheOpen.{DataStart-F}
use Rattle.rt_tree_nodes.specs.declared.store.Contents.{Contents}
use Rattle.rt_tree_nodes.specs.declared.store.Contents.TheOpen.{Contents-F}
use Rattle.rt_tree_nodes.specs.declared.store.Contents.TheVariants as contents
use Rattle.rt_tree_nodes.specs.declared.store.Datum.{Datum}
use Rattle.rt_tree_nodes.specs.declared.store.Datum.TheVariants.{Word, Procedure}
use Rattle.rt_tree_nodes.specs.Scopes.{Scope, passes, same, proc_mode}
use Rattle.rt_tree_nodes.proofs.Same.{same_equal}
use Rattle.rt_tree.specs.Modules as modules
use Rattle.rt_tree.specs.Modules.{Starts, shared_mode, number_starts, text_starts, place_starts, all_start, fields_start, record_starts, list_starts}
use Rattle.rt_tree.specs.Stored.{inside, part, part_of}
use Rattle.rt_sizes.specs.Sizes as sizes
use Rattle.rt_sizes.specs.Sizes.{begins, size, field_end, fields_end, offset}
use Rattle.rt_sizes.proofs.Layers.{some_is, size_at}
use Rattle.rt_resolve.specs.Starting as starting
use Rattle.rt_resolve.specs.Starting.{Home, Starting, lead, text_of, place_start}
use Rattle.rt_meaning_laws.specs.Starting.{one_number, numbers_in}
use Rattle.rt_object.specs.declared.object.Relocated.TheVariants as relocated
use Rattle.rt_object.specs.declared.object.Relocation.{Relocation}
use Rattle.rt_object.specs.Ranges.{IsProcLayer}
use Rattle.rt_lower.specs.declared.layouts.Layouts.{Layouts}
use Rattle.rt_compile.specs.declared.data.written.Data.{Data}
use Rattle.rt_compile.specs.Data as bytes
use Rattle.rt_compile.specs.Data.{even, relocation, offset_of, Writing}
use Rattle.rt_places.specs.Places.{AreSizes, Leads}
use Rattle.rt_places.proofs.Fields.{end_of_one, then_left, next_begins, offset_from, mapped_left, is_sized, ends_within}
use Rattle.rt_places.proofs.Parts.{even_sized, record_size, record_is, times_less}
use Rattle.rt_started.specs.Views.{view, AllIn, word_in}
use Rattle.rt_started.specs.Started.{Resolves, Shown, AllShown, DataShowStarts}
use Rattle.rt_started.proofs.Viewing.{Inside, patched_left, patched_length, view_length, GoesOn, goes_on, both_go_on, with_bytes_goes, even_goes}
use Rattle.rt_started.proofs.Written.{left_of, right_of, passed, parts_out, start_out, word_last, word_left, split_word, Wordy, all_stay, Wrote, word_written, byte_written, address_written}

there_is : {A : Type 0} (xs : List A) (k : ℕ) → k < length xs → (x : A) × (slice_get xs k ≡ Some x)
there_is [] k l = absurd (omega arith)
there_is (x ∷ xs) zero l = (x, refl)
there_is (x ∷ xs) (suc k) l = there_is xs k (omega arith)

begins_behind : (z : Mode-F Mode) (b n : ℕ) → b % 2 ≡ 0 → begins z (b + n) ≡ b + begins z n
begins_behind Mode-F.Byte b n e = refl
begins_behind _ b n e = omega arith

begins_there : (z : Mode-F Mode) (n : ℕ) → n % 2 ≡ 0 → begins z n ≡ n
begins_there Mode-F.Byte n e = refl
begins_there _ n e = omega arith

next_there : (z : Mode-F Mode) (x s : ℕ) → begins z x ≡ x → ((z ≡ Mode-F.Byte → ⊥) → s % 2 ≡ 0) → begins z (x + s) ≡ x + s
next_there Mode-F.Byte x s e h = refl
next_there z x s e h = by z e (λ isnt. h isnt)
  where
    by : (z : Mode-F Mode) → begins z x ≡ x → ((z ≡ Mode-F.Byte → ⊥) → s % 2 ≡ 0) → begins z (x + s) ≡ x + s
    by Mode-F.Byte e h = refl
    by Mode-F.Int e h = let a : sizes.even x ≡ x = e in let b = h (λ q. cc) in omega arith
    by Mode-F.Frac e h = let a : sizes.even x ≡ x = e in let b = h (λ q. cc) in omega arith
    by Mode-F.Label e h = let a : sizes.even x ≡ x = e in let b = h (λ q. cc) in omega arith
    by (Mode-F.Ref m) e h = let a : sizes.even x ≡ x = e in let b = h (λ q. cc) in omega arith
    by (Mode-F.RefArray m) e h = let a : sizes.even x ≡ x = e in let b = h (λ q. cc) in omega arith
    by (Mode-F.Array k m) e h = let a : sizes.even x ≡ x = e in let b = h (λ q. cc) in omega arith
    by (Mode-F.Record r) e h = let a : sizes.even x ≡ x = e in let b = h (λ q. cc) in omega arith
    by (Mode-F.Proc ps r) e h = let a : sizes.even x ≡ x = e in let b = h (λ q. cc) in omega arith

same_count : (a b : ℕ) → (a == b) ≡ true → a ≡ b
same_count a b e = grind (arith, nat_tests)

never_field : (z : Mode-F Mode) (n r : ℕ) (e : Mode) → z ≡ Mode-F.Array n e → z ≡ Mode-F.Record r → ⊥
never_field z n r e a b = cc

arrays_same : (z : Mode-F Mode) (n k : ℕ) (e f : Mode) → z ≡ Mode-F.Array n e → z ≡ Mode-F.Array k f → (n ≡ k) × (e ≡ f)
arrays_same z n k e f a b = (cc, cc)

-- every number is a word
abbrev pub Words : List ℕ → Type 0
Words ns = (k : ℕ) → Contains ns k → k < 65536

module _ (S : ℕ → Option ℕ) (value : Datum → ℕ) (word : Relocation → ℕ) (l : Layouts) (h : Home) (are : AreSizes h.scope.records S) (res : Resolves word value l h.scope h) where
  abbrev pub c : Scope
  c = h.scope

  abbrev pub W : Data → Data → Mode → Contents → ℕ → Type 0
  W d e m x s = Wrote c.records S are value word d e m x s

  abbrev pub AllIs : List ℕ → ℕ → Mode → Contents → Type 0
  AllIs xs p m x = AllShown value c.records S xs p m x

  -- What a start writes for a mode that it fits shows its contents.
  abbrev pub Good : DataStart → Type 0
  Good st = (m : Mode) (s : ℕ) → modules.starts c st m ≡ true → size S m ≡ Some s → Words (numbers_in st) → (d : Data) → Inside word d → W d (bytes.starts l c st m d) m (starting.starts h st m) s

  abbrev Pair : Type 0
  Pair = (st : DataStart) × Good st

  abbrev firsts : List Pair → List DataStart
  firsts xs = map (λ (e : Pair). e.0) xs

  abbrev fit : List Pair → List Starts
  fit xs = map (modules.starts c) (firsts xs)

  abbrev writ : List Pair → List Writing
  writ xs = map (bytes.starts l c) (firsts xs)

  abbrev made : List Pair → List Starting
  made xs = map (starting.starts h) (firsts xs)

  abbrev said : List Pair → List ℕ
  said xs = joined (map numbers_in (firsts xs))

  in_first : (x : Pair) (xs : List Pair) → Words (said (x ∷ xs)) → Words (numbers_in x.0)
  in_first x xs w k i = w k (Contains-append_left (numbers_in x.0) (said xs) k i)

  in_rest : (x : Pair) (xs : List Pair) → Words (said (x ∷ xs)) → Words (said xs)
  in_rest x xs w k i = w k (Contains-append_right (numbers_in x.0) (said xs) k i)

  -- shown there, and so behind more
  kept_on : (d e : Data) (m : Mode) (p s : ℕ) (x : Contents) (ys : List ℕ) → GoesOn word d e ys → size S m ≡ Some s → p + s ≤ length (view word d) → AllIs (view word d) p m x → AllIs (view word e) p m x
  kept_on d e m p s x ys g z b i = subst (λ (xs : List ℕ). AllIs xs p m x) (sym g.view_is) (all_stay c.records S are value m (view word d) ys p s x z b i)

  -- ---- elements

  record Row (d e : Data) (m : Mode) (s : ℕ) (cs : List Contents) : Type 0 where
    pub chunk : List ℕ
    pub goes : GoesOn word d e chunk
    pub ends : length (view word e) ≡ length (view word d) + s * length cs
    pub each : (i : ℕ) (x : Contents) → slice_get cs i ≡ Some x → AllIs (view word e) (length (view word d) + s * i) m x

  row_written : (xs : List Pair) (m : Mode) (s : ℕ) → all_start (fit xs) m ≡ true → size S m ≡ Some s → Words (said xs) → (d : Data) → Inside word d → begins (out-Mode m) (length (view word d)) ≡ length (view word d)
      → Row d (bytes.elements (writ xs) m d) m s (starting.elements (made xs) m)
  row_written [] m s e z w d i a = record { chunk = []; goes = goes_on word d i; ends = omega arith; each = λ k x at. absurd cc }
  row_written (x ∷ xs) m s e z w d i a =
      let one = x.1 m s (left_of (modules.starts c x.0 m) (all_start (fit xs) m) e) z (in_first x xs w) d i in
      let d1 = bytes.starts l c x.0 m d in
      let begin : one.begin ≡ length (view word d) = one.is ∙ a in
      let long : length (view word d1) ≡ one.begin + s = one.ends in
      let next : length (view word d1) ≡ length (view word d) + s = omega arith in
      let there : begins (out-Mode m) (length (view word d1)) ≡ length (view word d1) =
      subst (λ (n : ℕ). begins (out-Mode m) n ≡ n) (sym next) (next_there (out-Mode m) (length (view word d)) s a (λ isnt. even_sized c.records S are m s z isnt)) in
      let rest = row_written xs m s (right_of (modules.starts c x.0 m) (all_start (fit xs) m) e) z (in_rest x xs w) d1 one.goes.inside there in
      let count = length (starting.elements (made xs) m) in
      let ends : length (view word (bytes.elements (writ xs) m d1)) ≡ length (view word d1) + s * count = rest.ends in
      let first : AllIs (view word (bytes.elements (writ xs) m d1)) one.begin m (starting.starts h x.0 m) = kept_on d1 (bytes.elements (writ xs) m d1) m one.begin s (starting.starts h x.0 m) rest.chunk rest.goes z (omega arith) one.shown in
      record {
        chunk = one.chunk ++ rest.chunk;
        goes = both_go_on word d d1 (bytes.elements (writ xs) m d1) one.chunk rest.chunk one.goes rest.goes;
        ends = omega arith;
        each = each d1 (bytes.elements (writ xs) m d1) (starting.starts h x.0 m) (starting.elements (made xs) m) next (subst (λ (n : ℕ). AllIs (view word (bytes.elements (writ xs) m d1)) n m (starting.starts h x.0 m)) begin first) rest.each;
      }
    where
      each : (d1 e1 : Data) (x0 : Contents) (cs : List Contents) → length (view word d1) ≡ length (view word d) + s → AllIs (view word e1) (length (view word d)) m x0
          → ((i : ℕ) (y : Contents) → slice_get cs i ≡ Some y → AllIs (view word e1) (length (view word d1) + s * i) m y) → (i : ℕ) (y : Contents) → slice_get (x0 ∷ cs) i ≡ Some y → AllIs (view word e1) (length (view word d) + s * i) m y
      each d1 e1 x0 cs next first rest zero y at =
          let is : x0 ≡ y = some_is x0 y at in
          let here : length (view word d) ≡ length (view word d) + s * zero = omega arith in
          subst (λ (n : ℕ). AllIs (view word e1) n m y) here (subst (λ (z : Contents). AllIs (view word e1) (length (view word d)) m z) is first)
      each d1 e1 x0 cs next first rest (suc i) y at =
          let here : length (view word d1) + s * i ≡ length (view word d) + s * suc i = omega arith in
          subst (λ (n : ℕ). AllIs (view word e1) n m y) here (rest i y at)

  -- ---- fields

  record Fielded (d e : Data) (b n : ℕ) (fs : List Field) (cs : List Contents) (total : ℕ) : Type 0 where
    pub chunk : List ℕ
    pub goes : GoesOn word d e chunk
    pub ends : length (view word e) ≡ b + total
    pub each : (k : ℕ) (x : Contents) (f : Field) (a : ℕ) → slice_get cs k ≡ Some x → slice_get fs k ≡ Some f → offset_from S fs k n ≡ Some a → AllIs (view word e) (b + a) f.mode x

  none_left : (n : ℕ) → (suc n == 0) ≡ true → ⊥
  none_left n e = let bad : suc n ≡ 0 = grind (arith, nat_tests) in absurd (omega arith)

  more_each : (e1 : Data) (b n : ℕ) (f : Field) (fs : List Field) (x0 : Contents) (cs : List Contents) (y : ℕ) → field_end S f n ≡ Some y → AllIs (view word e1) (b + begins (out-Mode f.mode) n) f.mode x0
      → ((k : ℕ) (x : Contents) (g : Field) (a : ℕ) → slice_get cs k ≡ Some x → slice_get fs k ≡ Some g → offset_from S fs k y ≡ Some a → AllIs (view word e1) (b + a) g.mode x)
      → (k : ℕ) (x : Contents) (g : Field) (a : ℕ) → slice_get (x0 ∷ cs) k ≡ Some x → slice_get (f ∷ fs) k ≡ Some g → offset_from S (f ∷ fs) k n ≡ Some a → AllIs (view word e1) (b + a) g.mode x
  more_each e1 b n f fs x0 cs y end first rest zero x g a at has off =
      let is : x0 ≡ x = some_is x0 x at in
      let field : f ≡ g = some_is f g has in
      let begin : begins (out-Mode f.mode) n ≡ a = some_is (begins (out-Mode f.mode) n) a off in
      subst (λ (z : ℕ). AllIs (view word e1) (b + z) g.mode x) begin (subst (λ (z : Contents). AllIs (view word e1) (b + begins (out-Mode f.mode) n) g.mode z) is (subst (λ (z : Field). AllIs (view word e1) (b + begins (out-Mode f.mode) n) z.mode x0) field first))
  more_each e1 b n f fs x0 cs y end first rest (suc k) x g a at has off =
      let next = next_begins S f fs k n a off in
      let equals : next.0 ≡ y = some_is next.0 y (sym next.1 ∙ end) in
      rest k x g a at has (subst (λ (z : ℕ). offset_from S fs k z ≡ Some a) equals next.2)

  fields_written : (xs : List Pair) (fs : List Field) (b n total : ℕ) → fields_start (fit xs) fs ≡ true → Words (said xs) → (d : Data) → Inside word d → b % 2 ≡ 0 → length (view word d) ≡ b + n → fields_end S fs n ≡ Some total
      → Fielded d (bytes.fields (writ xs) fs d) b n fs (starting.parts (made xs) fs) total
  fields_written [] [] b n total e w d i even_b long end = record { chunk = []; goes = goes_on word d i; ends = (let q = some_is n total end in omega arith); each = λ k x f a at has off. absurd cc }
  fields_written [] (f ∷ fs) b n total e w d i even_b long end = absurd (none_left (length fs) e)
  fields_written (x ∷ xs) [] b n total e w d i even_b long end = absurd cc
  fields_written (x ∷ xs) (f ∷ fs) b n total e w d i even_b long end =
      let first = then_left (field_end S f n) (fields_end S fs) total end in
      let its = end_of_one S f n first.0 first.1 in
      let one = x.1 f.mode its.0 (left_of (modules.starts c x.0 f.mode) (fields_start (fit xs) fs) e) its.1 (in_first x xs w) d i in
      let d1 = bytes.starts l c x.0 f.mode d in
      let begin : one.begin ≡ b + begins (out-Mode f.mode) n = one.is ∙ ap (begins (out-Mode f.mode)) long ∙ begins_behind (out-Mode f.mode) b n even_b in
      let last : begins (out-Mode f.mode) n + its.0 ≡ first.0 = its.2 in
      let end_one : length (view word d1) ≡ one.begin + its.0 = one.ends in
      let next : length (view word d1) ≡ b + first.0 = omega arith in
      let rest = fields_written xs fs b first.0 total (right_of (modules.starts c x.0 f.mode) (fields_start (fit xs) fs) e) (in_rest x xs w) d1 one.goes.inside even_b next first.2 in
      let shown : AllIs (view word (bytes.fields (writ xs) fs d1)) one.begin f.mode (starting.starts h x.0 f.mode) = kept_on d1 (bytes.fields (writ xs) fs d1) f.mode one.begin its.0 (starting.starts h x.0 f.mode) rest.chunk rest.goes its.1 (omega arith) one.shown in
      record {
        chunk = one.chunk ++ rest.chunk;
        goes = both_go_on word d d1 (bytes.fields (writ xs) fs d1) one.chunk rest.chunk one.goes rest.goes;
        ends = rest.ends;
        each = more_each (bytes.fields (writ xs) fs d1) b n f fs (starting.starts h x.0 f.mode) (starting.parts (made xs) fs) first.0 first.1
            (subst (λ (z : ℕ). AllIs (view word (bytes.fields (writ xs) fs d1)) z f.mode (starting.starts h x.0 f.mode)) begin shown) rest.each;
      }

  parts_there : (xs : List Pair) (fs : List Field) (k : ℕ) (f : Field) → fields_start (fit xs) fs ≡ true → slice_get fs k ≡ Some f → (x : Contents) × (slice_get (starting.parts (made xs) fs) k ≡ Some x)
  parts_there [] [] k f e has = absurd cc
  parts_there [] (g ∷ fs) k f e has = absurd (none_left (length fs) e)
  parts_there (x ∷ xs) [] k f e has = absurd cc
  parts_there (x ∷ xs) (g ∷ fs) zero f e has = (starting.starts h x.0 g.mode, refl)
  parts_there (x ∷ xs) (g ∷ fs) (suc k) f e has = parts_there xs fs k f (right_of (modules.starts c x.0 g.mode) (fields_start (fit xs) fs) e) has

  elements_count : (xs : List Pair) (m : Mode) → length (starting.elements (made xs) m) ≡ length (fit xs)
  elements_count [] m = refl
  elements_count (x ∷ xs) m = ap suc (elements_count xs m)

  -- the part of a list is its element's or its field's
  in_parts : (cs : List Contents) (k : ℕ) (x : Contents) (ks : List ℕ) → slice_get cs k ≡ Some x → inside (Some (contents.Parts cs)) (k ∷ ks) ≡ inside (Some x) ks
  in_parts cs k x ks at = ap (λ (y : Contents-F Contents). inside (part_of y k) ks) (parts_out cs) ∙ ap (λ (y : Option Contents). inside y ks) at

  -- ---- arrays

  array_written : (xs : List Pair) (m e : Mode) (n s : ℕ) → out-Mode m ≡ Mode-F.Array n e → list_starts c.records (fit xs) (Mode-F.Array n e) ≡ true → size S m ≡ Some s → Words (said xs) → (d : Data) → Inside word d
      → W d (even (bytes.elements (writ xs) e (bytes.word n d))) m (contents.Parts (starting.elements (made xs) e)) s
  array_written xs m e n s o fits z w d i =
      let evened = even_goes word d i in
      let d0 = even d in
      let b = length (view word d0) in
      let begin : b ≡ sizes.even (length (view word d)) = evened.2 in
      let even_b : b % 2 ≡ 0 = omega arith in
      let d1 = bytes.word n d in
      let lengthened = with_bytes_goes word (word_bytes n) d0 evened.1.inside in
      let long1 : length (view word d1) ≡ b + 2 = ap length lengthened.view_is ∙ length-append (view word d0) (word_bytes n) in
      let aligned : begins (out-Mode e) (length (view word d1)) ≡ length (view word d1) = begins_there (out-Mode e) (length (view word d1)) (omega arith) in
      let inner = mapped_left (λ x. sizes.even (2 + n * x)) (size S e) s (sym (size_at S m (Mode-F.Array n e) o) ∙ z) in
      let row = row_written xs e inner.0 (right_of (length (fit xs) == n) (all_start (fit xs) e) fits) inner.1 w d1 lengthened.inside aligned in
      let d2 = bytes.elements (writ xs) e d1 in
      let cs = starting.elements (made xs) e in
      let count : length cs ≡ n = elements_count xs e ∙ same_count (length (fit xs)) n (left_of (length (fit xs) == n) (all_start (fit xs) e) fits) in
      let turned : inner.0 * length cs ≡ n * inner.0 = ap (λ (k : ℕ). inner.0 * k) count ∙ mul_comm inner.0 n in
      let long2 : length (view word d2) ≡ length (view word d1) + inner.0 * length cs = row.ends in
      let closed = even_goes word d2 row.goes.inside in
      let d3 = even d2 in
      let long3 : length (view word d3) ≡ sizes.even (length (view word d2)) = closed.2 in
      let total : sizes.even (2 + n * inner.0) ≡ s = inner.2 in
      let tail : GoesOn word d1 d3 (row.chunk ++ closed.0) = both_go_on word d1 d2 d3 row.chunk closed.0 row.goes closed.1 in
      let front : GoesOn word d d1 (evened.0 ++ word_bytes n) = both_go_on word d d0 d1 evened.0 (word_bytes n) evened.1 lengthened in
      let length_word : word_in (view word d1) b ≡ n % 65536 = ap (λ (ys : List ℕ). word_in ys b) lengthened.view_is ∙ word_last (view word d0) (n % 256) (n / 256) b refl ∙ split_word n in
      let length_kept : word_in (view word d3) b ≡ n % 65536 = ap (λ (ys : List ℕ). word_in ys b) tail.view_is ∙ word_left (view word d1) (row.chunk ++ closed.0) b (omega arith) ∙ length_word in
      record {
        chunk = (evened.0 ++ word_bytes n) ++ (row.chunk ++ closed.0);
        goes = both_go_on word d d1 d3 (evened.0 ++ word_bytes n) (row.chunk ++ closed.0) front tail;
        begin = b;
        is = begin ∙ sym (ap (λ (y : Mode-F Mode). begins y (length (view word d))) o);
        ends = omega arith;
        shown = array_shown m e n b inner.0 s o (view word d3) cs length_kept count inner.1
            (λ k x at.
            let less = slice_get_within cs k x at in
            let product = times_less inner.0 k (length cs) less in
            let back : length cs * inner.0 ≡ inner.0 * length cs = mul_comm (length cs) inner.0 in
            let there : length (view word d1) + inner.0 * k ≡ b + (2 + inner.0 * k) = omega arith in
            subst (λ (y : ℕ). AllIs (view word d3) y e x) there (kept_on d2 d3 e (length (view word d1) + inner.0 * k) inner.0 x closed.0 closed.1 inner.1 (omega arith) (row.each k x at)));
      }
    where
      array_shown : (m e : Mode) (n b se s : ℕ) → out-Mode m ≡ Mode-F.Array n e → (ys : List ℕ) (cs : List Contents) → word_in ys b ≡ n % 65536 → length cs ≡ n → size S e ≡ Some se
          → ((k : ℕ) (x : Contents) → slice_get cs k ≡ Some x → AllIs ys (b + (2 + se * k)) e x) → AllIs ys b m (contents.Parts cs)
      array_shown m e n b se s o ys cs lw count z each [] u x to =
          let none : b ≡ b + x = (let q : x ≡ 0 = to.1 in omega arith) in
          subst (λ (y : Mode). Shown value ys (b + x) (out-Mode y) (Some (contents.Parts cs))) to.0
          (subst (λ (y : Mode-F Mode). Shown value ys (b + x) y (Some (contents.Parts cs))) (sym o) (subst (λ (k : ℕ). Shown value ys k (Mode-F.Array n e) (Some (contents.Parts cs))) none lw))
      array_shown m e n b se s o ys cs lw count z each (k ∷ ks) u x (f, a, y, inl part, rest, is) = absurd (never_field (out-Mode m) n part.number e o part.is)
      array_shown m e n b se s o ys cs lw count z each (k ∷ ks) u x (f, a, y, inr part, rest, is) =
          let both = arrays_same (out-Mode m) n part.count e f o part.is in
          let less : k < length cs = (let q : k < part.count = part.in_it in let r = both.0 in omega arith) in
          let at = there_is cs k less in
          let bytes : part.bytes ≡ se = some_is part.bytes se (sym part.sized ∙ ap (size S) (sym both.1) ∙ z) in
          let begin : a ≡ 2 + se * k = part.begins ∙ ap (λ (i : ℕ). 2 + i * k) bytes in
          let there : b + (2 + se * k) + y ≡ b + x = omega arith in
          let deep : Shown value ys (b + (2 + se * k) + y) (out-Mode u) (inside (Some at.0) ks) = each k at.0 at.1 ks u y (subst (λ (i : Mode). Leads c.records S ks i u y) (sym both.1) rest) in
          subst (λ (i : Option Contents). Shown value ys (b + x) (out-Mode u) i) (sym (in_parts cs k at.0 ks at.1)) (subst (λ (i : ℕ). Shown value ys i (out-Mode u) (inside (Some at.0) ks)) there deep)

  -- ---- records

  record_shown : (m : Mode) (r b : ℕ) (rd : RecordDef) → out-Mode m ≡ Mode-F.Record r → slice_get c.records r ≡ Some rd → (ys : List ℕ) (cs : List Contents) → ((k : ℕ) (f : Field) → slice_get rd.fields k ≡ Some f → (x : Contents) × (slice_get cs k ≡ Some x))
      → ((k : ℕ) (x : Contents) (f : Field) (a : ℕ) → slice_get cs k ≡ Some x → slice_get rd.fields k ≡ Some f → offset S rd.fields k ≡ Some a → AllIs ys (b + a) f.mode x) → AllIs ys b m (contents.Parts cs)
  record_shown m r b rd o at ys cs there each [] u x to =
      subst (λ (y : Mode). Shown value ys (b + x) (out-Mode y) (Some (contents.Parts cs))) to.0 (subst (λ (y : Mode-F Mode). Shown value ys (b + x) y (Some (contents.Parts cs))) (sym o) tt)
  record_shown m r b rd o at ys cs there each (k ∷ ks) u x (f, a, y, inr part, rest, is) = absurd (never_field (out-Mode m) part.count r f part.is o)
  record_shown m r b rd o at ys cs there each (k ∷ ks) u x (f, a, y, inl part, rest, is) =
      let number : part.number ≡ r = record_is (out-Mode m) part.number r part.is o in
      let def : part.def ≡ rd = some_is part.def rd (sym part.at ∙ ap (slice_get c.records) number ∙ at) in
      let has : slice_get rd.fields k ≡ Some part.field = ap (λ (i : RecordDef). slice_get i.fields k) (sym def) ∙ part.has in
      let begins_at : offset S rd.fields k ≡ Some a = ap (λ (i : RecordDef). offset S i.fields k) (sym def) ∙ part.begins in
      let its = there k part.field has in
      let deep : Shown value ys (b + a + y) (out-Mode u) (inside (Some its.0) ks) = each k its.0 part.field a its.1 has begins_at ks u y (subst (λ (i : Mode). Leads c.records S ks i u y) (sym part.mode) rest) in
      let place : b + a + y ≡ b + x = omega arith in
      subst (λ (i : Option Contents). Shown value ys (b + x) (out-Mode u) i) (sym (in_parts cs k its.0 ks its.1)) (subst (λ (i : ℕ). Shown value ys i (out-Mode u) (inside (Some its.0) ks)) place deep)

  known_written : (xs : List Pair) (m : Mode) (r s : ℕ) (rd : RecordDef) → out-Mode m ≡ Mode-F.Record r → slice_get c.records r ≡ Some rd → fields_start (fit xs) rd.fields ≡ true → size S m ≡ Some s → Words (said xs) → (d : Data) → Inside word d
      → W d (even (bytes.fields (writ xs) rd.fields (even d))) m (contents.Parts (starting.parts (made xs) rd.fields)) s
  known_written xs m r s rd o at fits z w d i =
      let evened = even_goes word d i in
      let d0 = even d in
      let b = length (view word d0) in
      let begin : b ≡ sizes.even (length (view word d)) = evened.2 in
      let even_b : b % 2 ≡ 0 = omega arith in
      let all = record_size c.records S are m r s rd o at z in
      let row = fields_written xs rd.fields b 0 all.0 fits w d0 evened.1.inside even_b (omega arith) all.1 in
      let d1 = bytes.fields (writ xs) rd.fields d0 in
      let long1 : length (view word d1) ≡ b + all.0 = row.ends in
      let closed = even_goes word d1 row.goes.inside in
      let d2 = even d1 in
      let long2 : length (view word d2) ≡ sizes.even (length (view word d1)) = closed.2 in
      let total : s ≡ sizes.even all.0 = all.2 in
      let cs = starting.parts (made xs) rd.fields in
      record {
        chunk = evened.0 ++ (row.chunk ++ closed.0);
        goes = both_go_on word d d0 d2 evened.0 (row.chunk ++ closed.0) evened.1 (both_go_on word d0 d1 d2 row.chunk closed.0 row.goes closed.1);
        begin = b;
        is = begin ∙ sym (ap (λ (y : Mode-F Mode). begins y (length (view word d))) o);
        ends = omega arith;
        shown = record_shown m r b rd o at (view word d2) cs (λ k f has. parts_there xs rd.fields k f fits has)
            (λ k x f a in_cs has off.
            let its = is_sized S rd.fields k 0 all.0 f all.1 has in
            let bound : a + its.0 ≤ all.0 = ends_within S rd.fields k 0 a its.0 all.0 f off has its.1 all.1 in
            kept_on d1 d2 f.mode (b + a) its.0 x closed.0 closed.1 its.1 (omega arith) (row.each k x f a in_cs has off));
      }

  record_written : (xs : List Pair) (m : Mode) (r s : ℕ) (q : Option RecordDef) → out-Mode m ≡ Mode-F.Record r → slice_get c.records r ≡ q → record_starts (fit xs) q ≡ true → size S m ≡ Some s → Words (said xs) → (d : Data) → Inside word d
      → W d (even (bytes.record_fields (writ xs) q (even d))) m (contents.Parts (starting.record_parts (made xs) q)) s
  record_written xs m r s None o at fits z w d i = absurd cc
  record_written xs m r s (Some rd) o at fits z w d i = known_written xs m r s rd o at fits z w d i

  list_written : (xs : List Pair) (m : Mode) (z : Mode-F Mode) (s : ℕ) → out-Mode m ≡ z → list_starts c.records (fit xs) z ≡ true → size S m ≡ Some s → Words (said xs) → (d : Data) → Inside word d
      → W d (bytes.listed c.records (writ xs) z d) m (contents.Parts (starting.listed c.records (made xs) z)) s
  list_written xs m (Mode-F.Array n e) s o fits z w d i = array_written xs m e n s o fits z w d i
  list_written xs m (Mode-F.Record r) s o fits z w d i = record_written xs m r s (slice_get c.records r) o refl fits z w d i
  list_written xs m _ s o fits z w d i = absurd cc

  -- ---- one value

  number_written : (m : Mode) (z : Mode-F Mode) (n s : ℕ) → out-Mode m ≡ z → number_starts n z ≡ true → size S m ≡ Some s → n < 65536 → (d : Data) → Inside word d → W d (bytes.number n z d) m (contents.Datum (Word n)) s
  number_written m Mode-F.Byte n s o fits z w d i = byte_written c.records S are value word m s n d o z i (res.numbers n) (let q : nat_le n 255 ≡ true = fits in grind (arith, nat_tests))
  number_written m Mode-F.Int n s o fits z w d i = word_written c.records S are value word m Mode-F.Int s n d o tt z i (res.numbers n) w
  number_written m Mode-F.Frac n s o fits z w d i = word_written c.records S are value word m Mode-F.Frac s n d o tt z i (res.numbers n) w
  number_written m _ n s o fits z w d i = absurd cc

  text_written : (m : Mode) (z : Mode-F Mode) (k s : ℕ) → out-Mode m ≡ z → text_starts c k z ≡ true → size S m ≡ Some s → (d : Data) → Inside word d → W d (bytes.address (relocated.String k) 0 d) m (contents.Datum (text_of h k)) s
  text_written m (Mode-F.RefArray e) k s o fits z d i =
      let r = relocation (relocated.String k) 0 (even d) in
      address_written c.records S are value word m (Mode-F.RefArray e) s (relocated.String k) 0 d (text_of h k) o tt z i (res.texts r k refl refl (right_of (same e mode.Byte) (nat_lt k c.strings) fits)) (res.small r)
  text_written m _ k s o fits z d i = absurd cc

  proc_wordy : (v : Mode) (z : Mode-F Mode) → IsProcLayer z → Wordy z
  proc_wordy v (Mode-F.Proc ps r) p = tt
  proc_wordy v _ p = absurd p

  place_wordy : (v : Mode) (z : Mode-F Mode) → place_starts v z ≡ true → Wordy z
  place_wordy v (Mode-F.Ref w) e = tt
  place_wordy v (Mode-F.RefArray w) e = tt
  place_wordy v _ e = absurd cc

  place_written : (m : Mode) (b j s : ℕ) (path : List ℕ) → passes (λ (found : Mode). place_starts found (out-Mode m)) (shared_mode c b j path) ≡ true → size S m ≡ Some s → (d : Data) → Inside word d → W d (bytes.address (relocated.Brick b) (offset_of l c b j path) d) m (contents.Datum (place_start h b j path m)) s
  place_written m b j s path fits z d i =
      let r = relocation (relocated.Brick b) (offset_of l c b j path) (even d) in
      let x = passed (λ (found : Mode). place_starts found (out-Mode m)) (shared_mode c b j path) fits in
      address_written c.records S are value word m (out-Mode m) s (relocated.Brick b) (offset_of l c b j path) d (place_start h b j path m) refl (place_wordy x.0 (out-Mode m) x.2) z i (res.places r b j path x.0 m refl refl x.1 x.2) (res.small r)

  proc_written : (procs : (k : ℕ) (v : Mode) → proc_mode c.bricks k ≡ Some v → IsProcLayer (out-Mode v)) (m : Mode) (b s : ℕ) → passes (same m) (proc_mode c.bricks b) ≡ true → size S m ≡ Some s → (d : Data) → Inside word d → W d (bytes.address (relocated.Brick b) 0 d) m (contents.Datum (Procedure (lead h b))) s
  proc_written procs m b s fits z d i =
      let r = relocation (relocated.Brick b) 0 (even d) in
      let x = passed (same m) (proc_mode c.bricks b) fits in
      let is : m ≡ x.0 = same_equal m x.0 x.2 in
      let layer : IsProcLayer (out-Mode m) = subst (λ (v : Mode). IsProcLayer (out-Mode v)) (sym is) (procs b x.0 x.1) in
      address_written c.records S are value word m (out-Mode m) s (relocated.Brick b) 0 d (Procedure (lead h b)) refl (proc_wordy m (out-Mode m) layer) z i (res.procs r b x.0 refl refl x.1) (res.small r)

  -- ---- every start

  module _ (procs : (k : ℕ) (v : Mode) → proc_mode c.bricks k ≡ Some v → IsProcLayer (out-Mode v)) where
    of_form : (m : Mode) (s : ℕ) (y : DataStart-F Pair) → modules.one_start c (map-DataStart DataStart Starts (modules.starts c) (map-DataStart Pair DataStart (λ e. e.0) y)) m ≡ true → size S m ≡ Some s
        → Words (one_number (map-DataStart DataStart (List ℕ) numbers_in (map-DataStart Pair DataStart (λ e. e.0) y))) → (d : Data) → Inside word d
        → W d (bytes.one_start l c (map-DataStart DataStart Writing (bytes.starts l c) (map-DataStart Pair DataStart (λ e. e.0) y)) m d) m (starting.one_start h (map-DataStart DataStart Starting (starting.starts h) (map-DataStart Pair DataStart (λ e. e.0) y)) m) s
    of_form m s (DataStart-F.Number n) fits z w d i = number_written m (out-Mode m) n s refl fits z (w n (Contains-push [] n)) d i
    of_form m s (DataStart-F.Text k) fits z w d i = text_written m (out-Mode m) k s refl fits z d i
    of_form m s (DataStart-F.Proc b) fits z w d i = proc_written procs m b s fits z d i
    of_form m s (DataStart-F.Place b j path) fits z w d i = place_written m b j s path fits z d i
    of_form m s (DataStart-F.List xs) fits z w d i = list_written xs m (out-Mode m) s refl fits z w d i

    by_form : (st : DataStart) (y : DataStart-F Pair) → out-DataStart st ≡ map-DataStart Pair DataStart (λ e. e.0) y → Good st
    by_form st y o m s fits z w d i =
        let one : modules.starts c st ≡ modules.one_start c (map-DataStart DataStart Starts (modules.starts c) (map-DataStart Pair DataStart (λ e. e.0) y)) = rw (fold_out-DataStart, o) refl in
        let two : bytes.starts l c st ≡ bytes.one_start l c (map-DataStart DataStart Writing (bytes.starts l c) (map-DataStart Pair DataStart (λ e. e.0) y)) = rw (fold_out-DataStart, o) refl in
        let three : numbers_in st ≡ one_number (map-DataStart DataStart (List ℕ) numbers_in (map-DataStart Pair DataStart (λ e. e.0) y)) = rw (fold_out-DataStart, o) refl in
        let four : starting.starts h st ≡ starting.one_start h (map-DataStart DataStart Starting (starting.starts h) (map-DataStart Pair DataStart (λ e. e.0) y)) = rw (fold_out-DataStart, o) refl in
        subst (λ (f : Starting). W d (bytes.starts l c st m d) m (f m) s) (sym four)
        (subst (λ (f : Writing). W d (f m d) m (starting.one_start h (map-DataStart DataStart Starting (starting.starts h) (map-DataStart Pair DataStart (λ e. e.0) y)) m) s) (sym two)
        (of_form m s y (sym (ap (λ (f : Starts). f m) one) ∙ fits) z (subst (λ (ns : List ℕ). Words ns) three w) d i))

    pub start_written : (st : DataStart) → Good st
    start_written = ind-DataStart Good (λ x y is. by_form (roll-DataStart x) y (start_out x ∙ sym is))

    -- ---- a data brick

    pairs : List DataStart → List Pair
    pairs [] = []
    pairs (st ∷ ss) = (st, start_written st) ∷ pairs ss

    firsts_are : (ss : List DataStart) → firsts (pairs ss) ≡ ss
    unfolding pairs
    firsts_are [] = refl
    firsts_are (st ∷ ss) = ap (λ (xs : List DataStart). st ∷ xs) (firsts_are ss)

    -- each item shows its contents, where it begins
    pub record ShowsItems (d : Data) (fs : List Field) (cs : List Contents) (total : ℕ) : Type 0 where
      pub inside_it : Inside word d
      pub long : length (view word d) ≡ total
      pub each : (k : ℕ) (x : Contents) (f : Field) (a : ℕ) → slice_get cs k ≡ Some x → slice_get fs k ≡ Some f → offset S fs k ≡ Some a → AllIs (view word d) a f.mode x

    items_by : (xs : List Pair) (fs : List Field) (total : ℕ) → fields_start (fit xs) fs ≡ true → Words (said xs) → fields_end S fs 0 ≡ Some total → Inside word bytes.nothing → ShowsItems (bytes.fields (writ xs) fs bytes.nothing) fs (starting.parts (made xs) fs) total
    items_by xs fs total fits w end i =
        let all = fields_written xs fs 0 0 total fits w bytes.nothing i refl refl end in
        record { inside_it = all.goes.inside; long = (let q = all.ends in omega arith); each = λ k x f a at has off. subst (λ (n : ℕ). AllIs (view word (bytes.fields (writ xs) fs bytes.nothing)) n f.mode x) (let n : 0 + a ≡ a = omega arith in n) (all.each k x f a at has off) }

    pub items_shown : (ss : List DataStart) (fs : List Field) (total : ℕ) → fields_start (map (modules.starts c) ss) fs ≡ true → Words (joined (map numbers_in ss)) → fields_end S fs 0 ≡ Some total
        → ShowsItems (bytes.fields (map (bytes.starts l c) ss) fs bytes.nothing) fs (starting.parts (map (starting.starts h) ss) fs) total
    items_shown ss fs total fits w end =
        let e = firsts_are ss in
        subst (λ (xs : List DataStart). ShowsItems (bytes.fields (map (bytes.starts l c) xs) fs bytes.nothing) fs (starting.parts (map (starting.starts h) xs) fs) total) e
        (items_by (pairs ss) fs total (subst (λ (xs : List DataStart). fields_start (map (modules.starts c) xs) fs ≡ true) (sym e) fits) (subst (λ (xs : List DataStart). Words (joined (map numbers_in xs))) (sym e) w) end tt)

-- ---- rounded up

padded_by : (word : Relocation → ℕ) (rs : List Relocation) (xs : List ℕ) (b : Bool) → (length xs % 2 == 0) ≡ b → AllIn (length xs) rs
    → (pad : List ℕ) × (patched_bytes word rs (if b then xs else xs ++ 0 ∷ []) ≡ patched_bytes word rs xs ++ pad) × (length (if b then xs else xs ++ 0 ∷ []) ≡ sizes.even (length xs))
padded_by word rs xs true e i = let q : length xs % 2 ≡ 0 = grind (arith, nat_tests) in ([], sym (append-nil (patched_bytes word rs xs)), omega arith)
padded_by word rs xs false e i =
    let odd : length xs % 2 ≡ 1 = grind (arith, nat_tests) in
    let long : length (xs ++ 0 ∷ []) ≡ length xs + 1 = length-append xs (0 ∷ []) in
    (0 ∷ [], patched_left word rs xs (0 ∷ []) i, omega arith)

-- an even number is its own
even_stays : (n : ℕ) → sizes.even (sizes.even n) ≡ sizes.even n
even_stays n = omega arith

pub data_show : DataShowStarts
data_show S value word l h ss fs total are res procs fits w end =
    let items = bytes.fields (map (bytes.starts l h.scope) ss) fs bytes.nothing in
    let d = bytes.data_of l h.scope fs ss in
    let shown = items_shown S value word l h are res procs ss fs total fits w end in
    let closed = even_goes word items shown.inside_it in
    let more = padded_by word d.relocations d.bytes (length d.bytes % 2 == 0) refl closed.1.inside in
    let long : length (view word d) ≡ length d.bytes = view_length word d in
    let total_is : length (view word items) ≡ total = shown.long in
    let even_is : length (view word d) ≡ sizes.even total = closed.2 ∙ ap sizes.even total_is in
    record {
      long = patched_length word d.relocations (padded d.bytes) ∙ more.2 ∙ ap sizes.even (sym long ∙ even_is) ∙ even_stays total;
      each = λ k x f a at has off.
          let its = is_sized S fs k 0 total f end has in
          let bound : a + its.0 ≤ total = ends_within S fs k 0 a its.0 total f off has its.1 end in
          let first : AllShown value h.scope.records S (view word items ++ closed.0) a f.mode x = all_stay h.scope.records S are value f.mode (view word items) closed.0 a its.0 x its.1 (omega arith) (shown.each k x f a at has off) in
          let second : AllShown value h.scope.records S (view word d) a f.mode x = subst (λ (ys : List ℕ). AllShown value h.scope.records S ys a f.mode x) (sym closed.1.view_is) first in
          subst (λ (ys : List ℕ). AllShown value h.scope.records S ys a f.mode x) (sym more.1) (all_stay h.scope.records S are value f.mode (view word d) more.0 a its.0 x its.1 (omega arith) second);
    }
