-- Where no name is declared twice, no two records have one name.
use Rattle.std.proofs.Common.{◌≡◌, ◌≢◌, ℕ, ◌+◌, zero, suc, Bool, true, false, List, [], ◌∷◌, ◌++◌, length, map, Option, Some, None, if◌then◌else◌, refl, sym, ap, ◌∙◌}
use Rattle.std.specs.Prelude.{slice_get}
use Rattle.std.specs.List.{AllByRecursion}
use Rattle.std.specs.Str.{bytes_eq}
use Rattle.rt_bricks.specs.declared.tree.Declaration.{Declaration}
use Rattle.rt_bricks.specs.declared.tree.Declaration.TheVariants as declares
use Rattle.rt_modes.specs.declared.mode.RecordDef.{RecordDef}
use Rattle.rt_check_faults.specs.declared.fault.CheckFault.TheVariants as fault
use Rattle.rt_check_declared.specs.Written.{Names}
use Rattle.rt_check_declared.specs.declared.names.Declared.{Declared}
use Rattle.rt_check_declared.specs.Names.{Named, Known, find, is_there, twice, names_in, names_from, names, name_faults, records_in, bricks_in}
use Rattle.rt_check_declared.specs.Records.{definition, record_modes}
use Rattle.rt_check_module_laws.proofs.Known.{text_same, find_first, find_next, find_nothing}
use Rattle.rt_bricks_laws.proofs.AllLists.{some_is, no_some, all_right, all_get}

-- ---- lists in which no name stands twice

module _ {A : Type 0} (name : A → List ℕ) where
  abbrev pub IsNot : List ℕ → A → Type 0
  IsNot n x = name x ≢ n

  abbrev pub AreApart : List A → Type 0
  AreApart [] = Unit {0}
  AreApart (x ∷ xs) = AllByRecursion (IsNot (name x)) xs × AreApart xs

  pub apart_right : (xs ys : List A) → AreApart (xs ++ ys) → AreApart ys
  apart_right [] ys h = h
  apart_right (x ∷ xs) ys h = apart_right xs ys h.1

  first_not : (x y : A) (xs : List A) (k : ℕ) → AllByRecursion (IsNot (name x)) xs → slice_get xs k ≡ Some y → name x ≡ name y → ⊥
  first_not x y xs k h e same = all_get (IsNot (name x)) xs k y h e (sym same)

  -- Where two names are equal, it is one place.
  pub one_place : (xs : List A) (i j : ℕ) (x y : A) → AreApart xs → slice_get xs i ≡ Some x → slice_get xs j ≡ Some y → name x ≡ name y → i ≡ j
  one_place [] i j x y h a b same = no_some x a
  one_place (z ∷ zs) zero zero x y h a b same = refl
  one_place (z ∷ zs) zero (suc j) x y h a b same = absurd (first_not z y zs j h.0 b (ap name (some_is z x a) ∙ same))
  one_place (z ∷ zs) (suc i) zero x y h a b same = absurd (first_not z x zs i h.0 a (ap name (some_is z y b) ∙ sym same))
  one_place (z ∷ zs) (suc i) (suc j) x y h a b same = ap suc (one_place zs i j x y h.1 a b same)

-- ---- names that are found

found_before : (ks xs : Known) (n : List ℕ) (d : Declared) → find ks n ≡ Some d → find (ks ++ xs) n ≡ Some d
found_before [] xs n d e = no_some d (sym (find_nothing n) ∙ e)
found_before (k ∷ ks) xs n d e = by_test (bytes_eq n k.0) refl (found_before ks xs n d) where
  by_test : (t : Bool) → bytes_eq n k.0 ≡ t → (find ks n ≡ Some d → find (ks ++ xs) n ≡ Some d) → find (k ∷ (ks ++ xs)) n ≡ Some d
  by_test true q go = find_first k (ks ++ xs) n q ∙ sym (find_first k ks n q) ∙ e
  by_test false q go = find_next k (ks ++ xs) n q ∙ go (sym (find_next k ks n q) ∙ e)

found_last : (ks : Known) (n : List ℕ) (d : Declared) → find ks n ≡ None → find (ks ++ (n, d) ∷ []) n ≡ Some d
found_last [] n d e = find_first (n, d) [] n (text_same n n refl)
found_last (k ∷ ks) n d e = by_test (bytes_eq n k.0) refl (found_last ks n d) where
  by_test : (t : Bool) → bytes_eq n k.0 ≡ t → (find ks n ≡ None → find (ks ++ (n, d) ∷ []) n ≡ Some d) → find (k ∷ (ks ++ (n, d) ∷ [])) n ≡ Some d
  by_test true q go = no_some k.1 (sym e ∙ find_first k ks n q)
  by_test false q go = find_next k (ks ++ (n, d) ∷ []) n q ∙ go (sym (find_next k ks n q) ∙ e)

-- ---- names of which none is a fault

-- the first is new, and the others are no faults behind it
first_new : (known : Known) (m : Named) (ms : List Named) → twice known (m ∷ ms) ≡ [] → (find known m.name ≡ None) × (twice (known ++ (m.name, m.is) ∷ []) ms ≡ [])
unfolding twice
first_new known m ms e = by_find (find known m.name) refl e where
  by_find : (o : Option Declared) → find known m.name ≡ o
      → (if is_there o then fault.DeclaredTwice m.at ∷ twice known ms else twice (if is_there o then known else known ++ (m.name, m.is) ∷ []) ms) ≡ [] → (find known m.name ≡ None) × (twice (known ++ (m.name, m.is) ∷ []) ms ≡ [])
  by_find None q h = (q, h)
  by_find (Some d) q h = absurd cc

abbrev name_of : Named → List ℕ
name_of m = m.name

-- what is known already is the name of none of them
none_known : (known : Known) (ms : List Named) (n : List ℕ) (d : Declared) → find known n ≡ Some d → twice known ms ≡ [] → AllByRecursion (IsNot name_of n) ms
none_known known [] n d e h = tt
none_known known (m ∷ ms) n d e h =
    let new = first_new known m ms h in
    ((λ same. no_some d (sym new.0 ∙ ap (find known) same ∙ e)), none_known (known ++ (m.name, m.is) ∷ []) ms n d (found_before known ((m.name, m.is) ∷ []) n d e) new.1)

named_apart : (known : Known) (ms : List Named) → twice known ms ≡ [] → AreApart name_of ms
named_apart known [] h = tt
named_apart known (m ∷ ms) h =
    let new = first_new known m ms h in
    (none_known (known ++ (m.name, m.is) ∷ []) ms m.name m.is (found_last known m.name m.is new.0) new.1, named_apart (known ++ (m.name, m.is) ∷ []) ms new.1)

-- ---- the records among them

abbrev pub record_name : RecordDef → List ℕ
record_name d = d.name

module _ (seen : Names) where
  abbrev definitions : List Declaration → List RecordDef
  definitions ds = map (definition seen) (record_modes ds)

  behind_all : (n : List ℕ) (r b : ℕ) (d : Declaration) (ds : List Declaration) → AllByRecursion (IsNot name_of n) (names_from r b (d ∷ ds)) → AllByRecursion (IsNot name_of n) (names_from (r + records_in d) (b + bricks_in d) ds)
  behind_all n r b d ds h = all_right (IsNot name_of n) (names_in r b d) (names_from (r + records_in d) (b + bricks_in d) ds) h

  -- a name that is none of a module's is none of its records'
  not_records : (n : List ℕ) (r b : ℕ) (ds : List Declaration) → AllByRecursion (IsNot name_of n) (names_from r b ds) → AllByRecursion (IsNot record_name n) (definitions ds)
  not_records n r b [] h = tt
  not_records n r b (declares.Record x ∷ ds) h = (h.0, not_records n (r + 1) (b + 0) ds h.1)
  not_records n r b (declares.Data x ∷ ds) h = not_records n (r + 0) (b + 1) ds (behind_all n r b (declares.Data x) ds h)
  not_records n r b (declares.Stack x ∷ ds) h = not_records n (r + 0) (b + 1) ds (behind_all n r b (declares.Stack x) ds h)
  not_records n r b (declares.Procedure x ∷ ds) h = not_records n (r + 0) (b + 1) ds (behind_all n r b (declares.Procedure x) ds h)
  not_records n r b (declares.ImportedProcedures x ∷ ds) h = not_records n (r + 0) (b + length x.names) ds (behind_all n r b (declares.ImportedProcedures x) ds h)
  not_records n r b (declares.ImportedData x ∷ ds) h = not_records n (r + 0) (b + 1) ds (behind_all n r b (declares.ImportedData x) ds h)
  not_records n r b (declares.ImportedStacks x ∷ ds) h = not_records n (r + 0) (b + length x.names) ds (behind_all n r b (declares.ImportedStacks x) ds h)

  behind_apart : (r b : ℕ) (d : Declaration) (ds : List Declaration) → AreApart name_of (names_from r b (d ∷ ds)) → AreApart name_of (names_from (r + records_in d) (b + bricks_in d) ds)
  behind_apart r b d ds h = apart_right name_of (names_in r b d) (names_from (r + records_in d) (b + bricks_in d) ds) h

  some_apart : (r b : ℕ) (ds : List Declaration) → AreApart name_of (names_from r b ds) → AreApart record_name (definitions ds)
  some_apart r b [] h = tt
  some_apart r b (declares.Record x ∷ ds) h = (not_records x.name.name (r + 1) (b + 0) ds h.0, some_apart (r + 1) (b + 0) ds h.1)
  some_apart r b (declares.Data x ∷ ds) h = some_apart (r + 0) (b + 1) ds (behind_apart r b (declares.Data x) ds h)
  some_apart r b (declares.Stack x ∷ ds) h = some_apart (r + 0) (b + 1) ds (behind_apart r b (declares.Stack x) ds h)
  some_apart r b (declares.Procedure x ∷ ds) h = some_apart (r + 0) (b + 1) ds (behind_apart r b (declares.Procedure x) ds h)
  some_apart r b (declares.ImportedProcedures x ∷ ds) h = some_apart (r + 0) (b + length x.names) ds (behind_apart r b (declares.ImportedProcedures x) ds h)
  some_apart r b (declares.ImportedData x ∷ ds) h = some_apart (r + 0) (b + 1) ds (behind_apart r b (declares.ImportedData x) ds h)
  some_apart r b (declares.ImportedStacks x ∷ ds) h = some_apart (r + 0) (b + length x.names) ds (behind_apart r b (declares.ImportedStacks x) ds h)

  -- No two records of a module whose names have no fault have one name.
  pub records_apart : (ds : List Declaration) → name_faults ds ≡ [] → AreApart record_name (definitions ds)
  records_apart ds e = some_apart 0 0 ds (named_apart [] (names ds) e)
