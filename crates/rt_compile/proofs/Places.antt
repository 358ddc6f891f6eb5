-- The places of relocations rise, are even, and lie in the bytes.
use Rattle.std.proofs.Common.{◌≡◌, ℕ, zero, suc, ◌+◌, ◌*◌, ◌/◌, ◌%◌, ◌==◌, ◌<◌, ◌≤◌, Bool, true, false, if◌then◌else◌, List, [], ◌∷◌, ◌++◌, length, map, Option, Some, None, refl, sym, ap, ◌∙◌, subst, ◌⊎◌, inl, inr, arith, length-append}
use Rattle.std.proofs.lemmas.Bool.Decides.{nat_tests}
use Rattle.std.proofs.lemmas.Option.{slice_get_within}
use Rattle.std.specs.Prelude.{slice_get}
use Rattle.std.specs.List.{AllByRecursion}
use Rattle.rt_words.specs.Bytes.{word_bytes}
use Rattle.rt_modes.specs.declared.mode.Field.{Field}
use Rattle.rt_modes.specs.declared.mode.Mode.{Mode, out-Mode}
use Rattle.rt_modes.specs.declared.mode.Mode.TheOpen.{Mode-F}
use Rattle.rt_modes.specs.declared.mode.RecordDef.{RecordDef}
use Rattle.rt_tree_nodes.specs.declared.brick.DataStart.{DataStart, out-DataStart, roll-DataStart, map-DataStart}
use Rattle.rt_tree_nodes.specs.declared.brick.DataStart.TheFolds.{ind-DataStart}
use Rattle.rt_tree_nodes.specs.declared.brick.DataStart.TheOpen.{DataStart-F}
use Rattle.rt_tree_nodes.specs.Scopes.{Scope}
use Rattle.rt_object.specs.declared.object.Relocated.{Relocated}
use Rattle.rt_object.specs.declared.object.Relocated.TheVariants as relocated
use Rattle.rt_object.specs.declared.object.Relocation.{Relocation}
use Rattle.rt_object.specs.Ranges.{Rise}
use Rattle.rt_lower.specs.declared.layouts.Layouts.{Layouts}
use Rattle.rt_compile.specs.declared.data.written.Data.{Data}
use Rattle.rt_compile.specs.Data.{nothing, with_bytes, even, word, relocation, hole, address, offset_of, Writing, number, elements, fields, record_fields, listed, one_start, starts, data_of}
use Rattle.rt_compile.specs.DataLaws.{places, IsInside, AreWithin}
use Rattle.rt_compile.proofs.Layers.{out_roll, written_at}

-- ---- lists

all_so : {A : Type 0} (P Q : A → Type 0) → ((x : A) → P x → Q x) → (xs : List A) → AllByRecursion P xs → AllByRecursion Q xs
all_so P Q h [] a = tt
all_so P Q h (x ∷ xs) a = (h x a.0, all_so P Q h xs a.1)

pub all_and_one : {A : Type 0} (P : A → Type 0) (xs : List A) (y : A) → AllByRecursion P xs → P y → AllByRecursion P (xs ++ y ∷ [])
all_and_one P [] y a h = (h, tt)
all_and_one P (x ∷ xs) y a h = (a.0, all_and_one P xs y a.1 h)

-- a place among some is before what all are before
place_below : (n : ℕ) (rs : List Relocation) → AllByRecursion (IsInside n) rs → (i m : ℕ) → slice_get (places rs) i ≡ Some m → m < n
place_below n [] a i m e = absurd cc
place_below n (r ∷ rs) a zero m e = let same : r.place ≡ m = cc in omega (arith, same, a.0.0)
place_below n (r ∷ rs) a (suc i) m e = place_below n rs a.1 i m e

-- what stands in a list that got one more
pushed : (xs : List ℕ) (y j z : ℕ) → slice_get (xs ++ y ∷ []) j ≡ Some z → (slice_get xs j ≡ Some z) ⊎ ((j ≡ length xs) × (y ≡ z))
pushed [] y zero z e = inr (refl, cc)
pushed [] y (suc j) z e = absurd cc
pushed (x ∷ xs) y zero z e = inl e
pushed (x ∷ xs) y (suc j) z e = next (pushed xs y j z e) where
  next : (slice_get xs j ≡ Some z) ⊎ ((j ≡ length xs) × (y ≡ z)) → (slice_get (x ∷ xs) (suc j) ≡ Some z) ⊎ ((suc j ≡ length (x ∷ xs)) × (y ≡ z))
  next (inl h) = inl h
  next (inr h) = inr (ap suc h.0, h.1)

rise_by : (ns : List ℕ) (p i j m n : ℕ) → Rise ns → ((k q : ℕ) → slice_get ns k ≡ Some q → q < p) → i < j → (slice_get ns i ≡ Some m) ⊎ ((i ≡ length ns) × (p ≡ m)) → (slice_get ns j ≡ Some n) ⊎ ((j ≡ length ns) × (p ≡ n)) → m < n
rise_by ns p i j m n r below h (inl e) (inl f) = r i j m n h e f
rise_by ns p i j m n r below h (inl e) (inr f) = let l : m < p = below i m e in omega (arith, l, f.1)
rise_by ns p i j m n r below h (inr e) (inl f) = let l : j < length ns = slice_get_within ns j n f in absurd (omega (arith, l, e.0, h))
rise_by ns p i j m n r below h (inr e) (inr f) = absurd (omega (arith, e.0, f.0, h))

-- a greater number behind
rise_more : (ns : List ℕ) (p : ℕ) → Rise ns → ((k q : ℕ) → slice_get ns k ≡ Some q → q < p) → Rise (ns ++ p ∷ [])
rise_more ns p r below i j m n h e f = rise_by ns p i j m n r below h (pushed ns p i m e) (pushed ns p j n f)

places_more : (rs : List Relocation) (r : Relocation) → places (rs ++ r ∷ []) ≡ places rs ++ r.place ∷ []
places_more [] r = refl
places_more (x ∷ rs) r = ap (λ ns. x.place ∷ ns) (places_more rs r)

-- ---- what is written keeps its places within

inside_more : (m n : ℕ) → m ≤ n → (r : Relocation) → IsInside m r → IsInside n r
inside_more m n h r i = (let l : r.place < m = i.0 in omega (arith, l), i.1)

more_bytes : (bs : List ℕ) (d : Data) → AreWithin d → AreWithin (with_bytes bs d)
more_bytes bs d a = record {
  rise = a.rise;
  inside = all_so (IsInside (length d.bytes)) (IsInside (length (d.bytes ++ bs))) (inside_more (length d.bytes) (length (d.bytes ++ bs)) (omega (arith, length-append d.bytes bs))) d.relocations a.inside;
}

even_by : (b : Bool) (d : Data) → AreWithin d → AreWithin (if b then with_bytes (0 ∷ []) d else d)
even_by true d a = more_bytes (0 ∷ []) d a
even_by false d a = a

even_within : (d : Data) → AreWithin d → AreWithin (even d)
even_within d a = even_by (length d.bytes % 2 == 1) d a

word_within : (n : ℕ) (d : Data) → AreWithin d → AreWithin (word n d)
word_within n d a = more_bytes (word_bytes n) (even d) (even_within d a)

half_by : (b : Bool) (d : Data) → (length d.bytes % 2 == 1) ≡ b → (k : ℕ) × (length (if b then with_bytes (0 ∷ []) d else d).bytes ≡ 2 * k)
half_by true d e = ((length d.bytes + 1) / 2, grind (arith, nat_tests, length-append d.bytes (0 ∷ [])))
half_by false d e = (length d.bytes / 2, grind (arith, nat_tests))

is_even : (d : Data) → (k : ℕ) × (length (even d).bytes ≡ 2 * k)
is_even d = half_by (length d.bytes % 2 == 1) d refl

hole_within : (of : Relocated) (offset : ℕ) (d : Data) → AreWithin d → (k : ℕ) × (length d.bytes ≡ 2 * k) → AreWithin (hole of offset d)
hole_within of offset d a k =
    let more = more_bytes (0 ∷ (0 ∷ [])) d a in
    let last : length d.bytes < length (d.bytes ++ 0 ∷ (0 ∷ [])) = omega (arith, length-append d.bytes (0 ∷ (0 ∷ []))) in
    record {
      rise = subst (λ (ns : List ℕ). Rise ns) (sym (places_more d.relocations (relocation of offset d))) (rise_more (places d.relocations) (length d.bytes) a.rise (place_below (length d.bytes) d.relocations a.inside));
      inside = all_and_one (IsInside (length (d.bytes ++ 0 ∷ (0 ∷ [])))) d.relocations (relocation of offset d) more.inside (last, k);
    }

address_within : (of : Relocated) (offset : ℕ) (d : Data) → AreWithin d → AreWithin (address of offset d)
address_within of offset d a = hole_within of offset (even d) (even_within d a) (is_even d)

number_within : (n : ℕ) (z : Mode-F Mode) (d : Data) → AreWithin d → AreWithin (number n z d)
number_within n Mode-F.Byte d a = more_bytes (n % 256 ∷ []) d a
number_within n Mode-F.Int d a = word_within n d a
number_within n Mode-F.Frac d a = word_within n d a
number_within n Mode-F.Label d a = word_within n d a
number_within n (Mode-F.Ref m) d a = word_within n d a
number_within n (Mode-F.RefArray m) d a = word_within n d a
number_within n (Mode-F.Array k m) d a = word_within n d a
number_within n (Mode-F.Record r) d a = word_within n d a
number_within n (Mode-F.Proc ps r) d a = word_within n d a

-- ---- so does each value

abbrev Keeps : Writing → Type 0
Keeps f = (m : Mode) (d : Data) → AreWithin d → AreWithin (f m d)

elements_within : (fs : List Writing) → AllByRecursion Keeps fs → (m : Mode) (d : Data) → AreWithin d → AreWithin (elements fs m d)
elements_within [] all m d a = a
elements_within (f ∷ fs) all m d a = elements_within fs all.1 m (f m d) (all.0 m d a)

fields_within : (fs : List Writing) → AllByRecursion Keeps fs → (xs : List Field) (d : Data) → AreWithin d → AreWithin (fields fs xs d)
fields_within [] all xs d a = a
fields_within (f ∷ fs) all [] d a = a
fields_within (f ∷ fs) all (x ∷ xs) d a = fields_within fs all.1 xs (f x.mode d) (all.0 x.mode d a)

record_within : (fs : List Writing) → AllByRecursion Keeps fs → (o : Option RecordDef) (d : Data) → AreWithin d → AreWithin (record_fields fs o d)
record_within fs all None d a = a
record_within fs all (Some r) d a = fields_within fs all r.fields d a

listed_within : (records : List RecordDef) (fs : List Writing) → AllByRecursion Keeps fs → (z : Mode-F Mode) (d : Data) → AreWithin d → AreWithin (listed records fs z d)
listed_within records fs all Mode-F.Byte d a = a
listed_within records fs all Mode-F.Int d a = a
listed_within records fs all Mode-F.Frac d a = a
listed_within records fs all Mode-F.Label d a = a
listed_within records fs all (Mode-F.Ref m) d a = a
listed_within records fs all (Mode-F.RefArray m) d a = a
listed_within records fs all (Mode-F.Array n m) d a = even_within (elements fs m (word n d)) (elements_within fs all m (word n d) (word_within n d a))
listed_within records fs all (Mode-F.Record r) d a = even_within (record_fields fs (slice_get records r) (even d)) (record_within fs all (slice_get records r) (even d) (even_within d a))
listed_within records fs all (Mode-F.Proc ps r) d a = a

module _ (l : Layouts) (c : Scope) where
  abbrev Good : DataStart → Type 0
  Good s = Keeps (starts l c s)

  abbrev Pair : Type 0
  Pair = (s : DataStart) × Good s

  abbrev firsts : List Pair → List DataStart
  firsts xs = map (λ (e : Pair). e.0) xs

  all_keep : (xs : List Pair) → AllByRecursion Keeps (map (starts l c) (firsts xs))
  all_keep [] = tt
  all_keep (x ∷ xs) = (x.1, all_keep xs)

  of_form : (y : DataStart-F Pair) → Keeps (one_start l c (map-DataStart DataStart Writing (starts l c) (map-DataStart Pair DataStart (λ e. e.0) y)))
  of_form (DataStart-F.Number n) m d a = number_within n (out-Mode m) d a
  of_form (DataStart-F.Text s) m d a = address_within (relocated.String s) 0 d a
  of_form (DataStart-F.Proc b) m d a = address_within (relocated.Brick b) 0 d a
  of_form (DataStart-F.Place b j path) m d a = address_within (relocated.Brick b) (offset_of l c b j path) d a
  of_form (DataStart-F.List xs) m d a = listed_within c.records (map (starts l c) (firsts xs)) (all_keep xs) (out-Mode m) d a

  by_form : (s : DataStart) (y : DataStart-F Pair) → out-DataStart s ≡ map-DataStart Pair DataStart (λ e. e.0) y → Good s
  by_form s y o = subst (λ (f : Writing). Keeps f) (sym (written_at l c s (map-DataStart Pair DataStart (λ e. e.0) y) o)) (of_form y)

  start_keeps : (s : DataStart) → Good s
  start_keeps = ind-DataStart Good (λ x y is. by_form (roll-DataStart x) y (out_roll x ∙ sym is))

  starts_keep : (ss : List DataStart) → AllByRecursion Keeps (map (starts l c) ss)
  starts_keep [] = tt
  starts_keep (s ∷ ss) = (start_keeps s, starts_keep ss)

  pub data_within : (fs : List Field) (ss : List DataStart) → AreWithin (data_of l c fs ss)
  data_within fs ss = even_within (fields (map (starts l c) ss) fs nothing) (fields_within (map (starts l c) ss) (starts_keep ss) fs nothing (record { rise = λ i j m n h e f. absurd cc; inside = tt }))
