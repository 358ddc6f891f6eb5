-- The names of a module: each stands once, and each MODE is one of its records.
use Rattle.std.proofs.Common.{◌≡◌, ℕ, ◌+◌, ◌<◌, Bool, true, false, List, [], ◌∷◌, ◌++◌, length, Option, Some, None, if◌then◌else◌, refl, sym, ◌∙◌, arith}
use Rattle.std.specs.Prelude.{nat_lt}
use Rattle.std.specs.List.{AllByRecursion}
use Rattle.std.specs.Str.{bytes_eq}
use Rattle.std.proofs.lemmas.Bool.Decides.{nat_tests}
use Rattle.std.proofs.lemmas.Slice.Eq.{bytes_eq-Decides}
use Rattle.rt_grammar.specs.declared.at.Ident.{Ident}
use Rattle.rt_bricks.specs.declared.tree.DataLine.{DataLine}
use Rattle.rt_bricks.specs.declared.tree.Declaration.{Declaration}
use Rattle.rt_bricks.specs.declared.tree.Declaration.TheVariants as declares
use Rattle.rt_bricks.specs.declared.tree.Fields.{Fields}
use Rattle.rt_check_declared.specs.declared.names.Declared.{Declared}
use Rattle.rt_check_declared.specs.declared.names.Declared.TheVariants as what
use Rattle.rt_check_declared.specs.Names.{Named, Known, find, is_second, with_name, counting, items_of, idents, fields_names, lines_names, bricks_of, names_from, names, scope}
use Rattle.rt_check_declared.specs.Records.{record_modes}
use Rattle.rt_bricks_laws.proofs.AllLists.{all_joined}

-- ---- names that are equal

pub same_text : (a b : List ℕ) → bytes_eq a b ≡ true → a ≡ b
same_text a b e = (bytes_eq-Decides a b).0 e

pub text_same : (a b : List ℕ) → a ≡ b → bytes_eq a b ≡ true
text_same a b e = (bytes_eq-Decides a b).1 e

other_text : (a b : List ℕ) → bytes_eq a b ≡ false → bytes_eq b a ≡ false
other_text a b e = by_test (bytes_eq b a) refl where
  by_test : (t : Bool) → bytes_eq b a ≡ t → bytes_eq b a ≡ false
  by_test false q = q
  by_test true q = absurd (let bad = text_same a b (sym (same_text b a q)) in cc)

-- ---- each stands once

-- no name stands behind itself
abbrev pub Once : Known → Type 0
Once [] = Unit {0}
Once (k ∷ ks) = (find ks k.0 ≡ None) × Once ks

pub find_first : (k : List ℕ × Declared) (ks : Known) (n : List ℕ) → bytes_eq n k.0 ≡ true → find (k ∷ ks) n ≡ Some k.1
unfolding find
find_first k ks n e = rw e refl

pub find_next : (k : List ℕ × Declared) (ks : Known) (n : List ℕ) → bytes_eq n k.0 ≡ false → find (k ∷ ks) n ≡ find ks n
unfolding find
find_next k ks n e = rw e refl

pub find_nothing : (n : List ℕ) → find [] n ≡ None
unfolding find
find_nothing n = refl

-- what isn't found among some isn't found in the first
not_first : (k : List ℕ × Declared) (ks : Known) (n : List ℕ) → find (k ∷ ks) n ≡ None → bytes_eq n k.0 ≡ false
not_first k ks n e = by_test (bytes_eq n k.0) refl where
  by_test : (t : Bool) → bytes_eq n k.0 ≡ t → bytes_eq n k.0 ≡ false
  by_test false q = q
  by_test true q = absurd (let bad = find_first k ks n q in cc)

find_added : (ks : Known) (m n : List ℕ) (d : Declared) → find ks m ≡ None → bytes_eq m n ≡ false → find (ks ++ (n, d) ∷ []) m ≡ None
find_added [] m n d e h = find_next (n, d) [] m h ∙ find_nothing m
find_added (k ∷ ks) m n d e h =
    let other = not_first k ks m e in
    find_next k (ks ++ (n, d) ∷ []) m other ∙ find_added ks m n d (sym (find_next k ks m other) ∙ e) h

added_once : (ks : Known) (n : List ℕ) (d : Declared) → find ks n ≡ None → Once ks → Once (ks ++ (n, d) ∷ [])
added_once [] n d e h = (find_nothing n, tt)
added_once (k ∷ ks) n d e h =
    let other = not_first k ks n e in
    (find_added ks k.0 n d h.0 (other_text n k.0 other), added_once ks n d (sym (find_next k ks n other) ∙ e) h.1)

with_name_once : (ks : Known) (m : Named) → Once ks → Once (with_name ks m)
with_name_once ks m h = by_find (find ks m.name) refl where
  by_find : (o : Option Declared) → find ks m.name ≡ o → Once (with_name ks m)
  by_find None e = rw e (added_once ks m.name m.is e h)
  by_find (Some d) e = rw e h

counting_once : (ks : Known) (ms : List Named) → Once ks → Once (counting ks ms)
unfolding counting
counting_once ks [] h = h
counting_once ks (m ∷ ms) h = counting_once (with_name ks m) ms (with_name_once ks m h)

pub scope_once : (ds : List Declaration) → Once (scope ds)
scope_once ds = counting_once [] (names ds) tt

-- ---- each MODE is a record

abbrev pub IsBelow : ℕ → Declared → Type 0
IsBelow n (what.Record r) = nat_lt r n ≡ true
IsBelow n _ = Unit {0}

abbrev NamedBelow : ℕ → Named → Type 0
NamedBelow n m = IsBelow n m.is

abbrev pub KnownBelow : ℕ → List ℕ × Declared → Type 0
KnownBelow n k = IsBelow n k.1

module _ (n : ℕ) where
  items_below : (b k : ℕ) (is : List Ident) → AllByRecursion (NamedBelow n) (items_of b k is)
  items_below b k [] = tt
  items_below b k (i ∷ is) = (tt, items_below b (k + 1) is)

  fields_below : (b k : ℕ) (fs : List Fields) → AllByRecursion (NamedBelow n) (fields_names b k fs)
  fields_below b k [] = tt
  fields_below b k (f ∷ fs) = all_joined (NamedBelow n) (items_of b k f.names) (fields_names b (k + length f.names) fs) (items_below b k f.names) (fields_below b (k + length f.names) fs)

  lines_below : (b k : ℕ) (ls : List DataLine) → AllByRecursion (NamedBelow n) (lines_names b k ls)
  lines_below b k [] = tt
  lines_below b k (l ∷ ls) = all_joined (NamedBelow n) (items_of b k (idents l.items)) (lines_names b (k + length l.items) ls) (items_below b k (idents l.items)) (lines_below b (k + length l.items) ls)

  bricks_below : (b : ℕ) (is : List Ident) → AllByRecursion (NamedBelow n) (bricks_of b is)
  bricks_below b [] = tt
  bricks_below b (i ∷ is) = (tt, bricks_below (b + 1) is)

  is_less : (r : ℕ) → r < n → nat_lt r n ≡ true
  is_less r h = grind (arith, nat_tests)

  names_below : (r b : ℕ) (ds : List Declaration) → r + length (record_modes ds) ≡ n → AllByRecursion (NamedBelow n) (names_from r b ds)
  names_below r b [] e = tt
  names_below r b (declares.Record m ∷ ds) e = (is_less r (omega (arith, e)), names_below (r + 1) (b + 0) ds (omega (arith, e)))
  names_below r b (declares.Data d ∷ ds) e = (tt, all_joined (NamedBelow n) (lines_names b 0 d.lines) (names_from (r + 0) (b + 1) ds) (lines_below b 0 d.lines) (names_below (r + 0) (b + 1) ds (omega (arith, e))))
  names_below r b (declares.Stack s ∷ ds) e = (tt, names_below (r + 0) (b + 1) ds (omega (arith, e)))
  names_below r b (declares.Procedure p ∷ ds) e = (tt, names_below (r + 0) (b + 1) ds (omega (arith, e)))
  names_below r b (declares.ImportedProcedures p ∷ ds) e = all_joined (NamedBelow n) (bricks_of b p.names) (names_from (r + 0) (b + length p.names) ds) (bricks_below b p.names) (names_below (r + 0) (b + length p.names) ds (omega (arith, e)))
  names_below r b (declares.ImportedData d ∷ ds) e = (tt, all_joined (NamedBelow n) (fields_names b 0 d.lines) (names_from (r + 0) (b + 1) ds) (fields_below b 0 d.lines) (names_below (r + 0) (b + 1) ds (omega (arith, e))))
  names_below r b (declares.ImportedStacks s ∷ ds) e = all_joined (NamedBelow n) (bricks_of b s.names) (names_from (r + 0) (b + length s.names) ds) (bricks_below b s.names) (names_below (r + 0) (b + length s.names) ds (omega (arith, e)))

  with_name_below : (ks : Known) (m : Named) → AllByRecursion (KnownBelow n) ks → NamedBelow n m → AllByRecursion (KnownBelow n) (with_name ks m)
  with_name_below ks m h g = by_test (is_second ks m) where
    by_test : (t : Bool) → AllByRecursion (KnownBelow n) (if t then ks else ks ++ (m.name, m.is) ∷ [])
    by_test true = h
    by_test false = all_joined (KnownBelow n) ks ((m.name, m.is) ∷ []) h (g, tt)

  counting_below : (ks : Known) (ms : List Named) → AllByRecursion (KnownBelow n) ks → AllByRecursion (NamedBelow n) ms → AllByRecursion (KnownBelow n) (counting ks ms)
  unfolding counting
  counting_below ks [] h g = h
  counting_below ks (m ∷ ms) h g = counting_below (with_name ks m) ms (with_name_below ks m h g.0) g.1

pub scope_below : (ds : List Declaration) → AllByRecursion (KnownBelow (length (record_modes ds))) (scope ds)
scope_below ds = counting_below (length (record_modes ds)) [] (names ds) tt (names_below (length (record_modes ds)) 0 0 ds (omega arith))
