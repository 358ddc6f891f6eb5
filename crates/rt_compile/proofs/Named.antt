-- What relocations of data name is there, where starts fit.
use Rattle.std.proofs.Common.{◌≡◌, ℕ, ◌<◌, ◌%◌, ◌==◌, nat_lt, Bool, true, false, if◌then◌else◌, List, [], ◌∷◌, length, map, Option, Some, None, refl, sym, ap, ◌∙◌, subst, arith}
use Rattle.std.proofs.lemmas.Bool.Decides.{nat_tests}
use Rattle.std.proofs.lemmas.Option.{slice_get_within}
use Rattle.std.specs.Prelude.{slice_get}
use Rattle.std.specs.List.{AllByRecursion}
use Rattle.rt_modes.specs.declared.mode.Field.{Field}
use Rattle.rt_modes.specs.declared.mode.Mode.{Mode, out-Mode}
use Rattle.rt_modes.specs.declared.mode.Mode.TheOpen.{Mode-F}
use Rattle.rt_modes.specs.declared.mode.Mode.TheVariants as mode
use Rattle.rt_modes.specs.declared.mode.RecordDef.{RecordDef}
use Rattle.rt_tree_nodes.specs.declared.brick.DataStart.{DataStart, out-DataStart, roll-DataStart, map-DataStart}
use Rattle.rt_tree_nodes.specs.declared.brick.DataStart.TheFolds.{ind-DataStart}
use Rattle.rt_tree_nodes.specs.declared.brick.DataStart.TheOpen.{DataStart-F}
use Rattle.rt_tree_nodes.specs.Scopes.{Scope, Face, with, same, proc_mode}
use Rattle.rt_tree.specs.Modules.{Starts, shared_mode, text_starts, place_starts, all_start, fields_start, record_starts, list_starts}
use Rattle.rt_tree.specs.Modules as modules
use Rattle.rt_object.specs.declared.object.Relocated.{Relocated}
use Rattle.rt_object.specs.declared.object.Relocated.TheVariants as relocated
use Rattle.rt_object.specs.declared.object.Relocation.{Relocation}
use Rattle.rt_object.specs.Ranges.{IsNamed}
use Rattle.rt_lower.specs.declared.layouts.Layouts.{Layouts}
use Rattle.rt_compile.specs.declared.data.written.Data.{Data}
use Rattle.rt_compile.specs.Data.{nothing, with_bytes, even, word, relocation, address, offset_of, Writing, number, elements, fields, record_fields, listed, one_start, starts, data_of}
use Rattle.rt_compile.proofs.Layers.{out_roll, fits_at, written_at}
use Rattle.rt_compile.proofs.Places.{all_and_one}
use Rattle.rt_compile.proofs.Tests.{left_of, right_of, passed}

-- ---- what has a number is there

first_there : {A : Type 0} (bs : List Face) (b : ℕ) (go : Face → Option A) (o : Option Face) (x : A) → slice_get bs b ≡ o → with o go ≡ Some x → b < length bs
first_there bs b go None x e h = absurd cc
first_there bs b go (Some d) x e h = slice_get_within bs b d e

text_there : (c : Scope) (s : ℕ) (z : Mode-F Mode) → text_starts c s z ≡ true → s < c.strings
text_there c s (Mode-F.RefArray m) fit = low (right_of (same m mode.Byte) (nat_lt s c.strings) fit) where
  low : nat_lt s c.strings ≡ true → s < c.strings
  low e = grind (arith, nat_tests)
text_there c s _ fit = absurd cc

-- ---- what is written

module _ (l : Layouts) (c : Scope) where
  abbrev Names : Relocation → Type 0
  Names r = IsNamed c.strings (length c.bricks) r.of

  abbrev Named : Data → Type 0
  Named d = AllByRecursion Names d.relocations

  even_by : (b : Bool) (d : Data) → Named d → Named (if b then with_bytes (0 ∷ []) d else d)
  even_by true d a = a
  even_by false d a = a

  even_named : (d : Data) → Named d → Named (even d)
  even_named d a = even_by (length d.bytes % 2 == 1) d a

  address_named : (of : Relocated) (offset : ℕ) (d : Data) → IsNamed c.strings (length c.bricks) of → Named d → Named (address of offset d)
  address_named of offset d is a = all_and_one Names (even d).relocations (relocation of offset (even d)) (even_named d a) is

  number_named : (n : ℕ) (z : Mode-F Mode) (d : Data) → Named d → Named (number n z d)
  number_named n Mode-F.Byte d a = a
  number_named n Mode-F.Int d a = even_named d a
  number_named n Mode-F.Frac d a = even_named d a
  number_named n Mode-F.Label d a = even_named d a
  number_named n (Mode-F.Ref m) d a = even_named d a
  number_named n (Mode-F.RefArray m) d a = even_named d a
  number_named n (Mode-F.Array k m) d a = even_named d a
  number_named n (Mode-F.Record r) d a = even_named d a
  number_named n (Mode-F.Proc ps r) d a = even_named d a

  abbrev Good : DataStart → Type 0
  Good s = (m : Mode) → modules.starts c s m ≡ true → (d : Data) → Named d → Named (starts l c s m d)

  abbrev Pair : Type 0
  Pair = (s : DataStart) × Good s

  abbrev firsts : List Pair → List DataStart
  firsts xs = map (λ (e : Pair). e.0) xs

  abbrev fits : List Pair → List Starts
  fits xs = map (modules.starts c) (firsts xs)

  abbrev writes : List Pair → List Writing
  writes xs = map (starts l c) (firsts xs)

  elements_named : (xs : List Pair) (m : Mode) (d : Data) → all_start (fits xs) m ≡ true → Named d → Named (elements (writes xs) m d)
  elements_named [] m d fit a = a
  elements_named (x ∷ xs) m d fit a =
      elements_named xs m (starts l c x.0 m d) (right_of (modules.starts c x.0 m) (all_start (fits xs) m) fit) (x.1 m (left_of (modules.starts c x.0 m) (all_start (fits xs) m) fit) d a)

  fields_named : (xs : List Pair) (fs : List Field) (d : Data) → fields_start (fits xs) fs ≡ true → Named d → Named (fields (writes xs) fs d)
  fields_named [] fs d fit a = a
  fields_named (x ∷ xs) [] d fit a = absurd cc
  fields_named (x ∷ xs) (f ∷ fs) d fit a =
      fields_named xs fs (starts l c x.0 f.mode d) (right_of (modules.starts c x.0 f.mode) (fields_start (fits xs) fs) fit) (x.1 f.mode (left_of (modules.starts c x.0 f.mode) (fields_start (fits xs) fs) fit) d a)

  record_named : (xs : List Pair) (o : Option RecordDef) (d : Data) → record_starts (fits xs) o ≡ true → Named d → Named (record_fields (writes xs) o d)
  record_named xs None d fit a = absurd cc
  record_named xs (Some r) d fit a = fields_named xs r.fields d fit a

  list_named : (xs : List Pair) (z : Mode-F Mode) (d : Data) → list_starts c.records (fits xs) z ≡ true → Named d → Named (listed c.records (writes xs) z d)
  list_named xs (Mode-F.Array i m) d fit a = even_named (elements (writes xs) m (word i d)) (elements_named xs m (word i d) (right_of (length (fits xs) == i) (all_start (fits xs) m) fit) (even_named d a))
  list_named xs (Mode-F.Record r) d fit a = even_named (record_fields (writes xs) (slice_get c.records r) (even d)) (record_named xs (slice_get c.records r) (even d) fit (even_named d a))
  list_named xs _ d fit a = absurd cc

  of_form : (m : Mode) (y : DataStart-F Pair) → modules.one_start c (map-DataStart DataStart Starts (modules.starts c) (map-DataStart Pair DataStart (λ e. e.0) y)) m ≡ true → (d : Data) → Named d
      → Named (one_start l c (map-DataStart DataStart Writing (starts l c) (map-DataStart Pair DataStart (λ e. e.0) y)) m d)
  of_form m (DataStart-F.Number i) fit d a = number_named i (out-Mode m) d a
  of_form m (DataStart-F.Text s) fit d a = address_named (relocated.String s) 0 d (text_there c s (out-Mode m) fit) a
  of_form m (DataStart-F.Proc b) fit d a =
      let p = passed (same m) (proc_mode c.bricks b) fit in
      address_named (relocated.Brick b) 0 d (first_there c.bricks b _ (slice_get c.bricks b) p.0 refl p.1) a
  of_form m (DataStart-F.Place b j path) fit d a =
      let p = passed (λ (v : Mode). place_starts v (out-Mode m)) (shared_mode c b j path) fit in
      address_named (relocated.Brick b) (offset_of l c b j path) d (first_there c.bricks b _ (slice_get c.bricks b) p.0 refl p.1) a
  of_form m (DataStart-F.List xs) fit d a = list_named xs (out-Mode m) d fit a

  by_form : (s : DataStart) (y : DataStart-F Pair) → out-DataStart s ≡ map-DataStart Pair DataStart (λ e. e.0) y → Good s
  by_form s y o m fit d a =
      let x : DataStart-F DataStart = map-DataStart Pair DataStart (λ e. e.0) y in
      subst (λ (f : Writing). Named (f m d)) (sym (written_at l c s x o)) (of_form m y (sym (ap (λ (f : Starts). f m) (fits_at c s x o)) ∙ fit) d a)

  start_good : (s : DataStart) → Good s
  start_good = ind-DataStart Good (λ x y is. by_form (roll-DataStart x) y (out_roll x ∙ sym is))

  pairs : List DataStart → List Pair
  pairs ss = map (λ s. (s, start_good s)) ss

  first_pairs : (ss : List DataStart) → firsts (pairs ss) ≡ ss
  unfolding pairs
  first_pairs [] = refl
  first_pairs (s ∷ ss) = ap (λ xs. s ∷ xs) (first_pairs ss)

  items_named : (fs : List Field) (ss : List DataStart) → fields_start (map (modules.starts c) ss) fs ≡ true → Named (fields (map (starts l c) ss) fs nothing)
  items_named fs ss fit =
      subst (λ (xs : List DataStart). Named (fields (map (starts l c) xs) fs nothing)) (first_pairs ss)
      (fields_named (pairs ss) fs nothing (subst (λ (xs : List DataStart). fields_start (map (modules.starts c) xs) fs ≡ true) (sym (first_pairs ss)) fit) tt)

  pub data_named : (fs : List Field) (ss : List DataStart) → fields_start (map (modules.starts c) ss) fs ≡ true → Named (data_of l c fs ss)
  data_named fs ss fit = even_named (fields (map (starts l c) ss) fs nothing) (items_named fs ss fit)
