-- The maps of records' fields: how they grow, and what they find.
use Rattle.std.proofs.Common.{◌≡◌, ℕ, zero, suc, ◌+◌, ◌<◌, ◌≤◌, Bool, true, false, List, [], ◌∷◌, ◌++◌, Option, Some, None, Vec, length, take, drop, get_or, slice_get, option_map, option_copied, is_some, if◌then◌else◌, refl, sym, ap, subst, ◌∙◌, add-one, arith, bytes_eq}
use Rattle.std.proofs.Math.Seq.{drop-cons, take-suc}
use Rattle.std.proofs.lemmas.List.{drop_all}
use Rattle.std.specs.Cmp.Lexicographic.{nat_list_eq_equiv}
use Rattle.std.specs.Map.{lookup}
use Rattle.std.specs.Option.{unwrap_or}
use Rattle.indexmap.specs.IndexMap.{IndexMap, insert_entry}
use Rattle.indexmap.proofs.CallerLemmas.{insert_entry-new}
use denote.Bor.{Bor}
use Rattle.rt_modes.specs.declared.mode.Field.{Field}
use Rattle.rt_modes.specs.declared.mode.Mode.{Mode}
use Rattle.rt_modes.specs.declared.mode.RecordDef.{RecordDef}
use Rattle.rt_exprs.specs.Indexed.{number_at, FindsFields, FindsAllFields, NotesFirst}
use Rattle.rt_exprs.specs.Operands.{or_else, field_from, field_in, first_field}

-- the number, from k, of the first field of a name
abbrev pub number_from : ℕ → List Field → List ℕ → Option ℕ
number_from k fs name = option_map (λ x. x.0) (field_from k fs name)

none_from : (k : ℕ) (name : List ℕ) → number_from k [] name ≡ None
unfolding field_from
none_from k name = refl

one_from : (k : ℕ) (f : Field) (fs : List Field) (name : List ℕ) → number_from k (f ∷ fs) name ≡ (if bytes_eq f.name name then Some k else number_from (k + 1) fs name)
unfolding field_from
one_from k f fs name = by (bytes_eq f.name name) refl
  where
    by : (b : Bool) → bytes_eq f.name name ≡ b → number_from k (f ∷ fs) name ≡ (if b then Some k else number_from (k + 1) fs name)
    by true e = rw e refl
    by false e = rw e refl

or_none : {A : Type 0} (o : Option A) → or_else o None ≡ o
or_none None = refl
or_none (Some x) = refl

or_one : (a : Option ℕ) (b : Bool) (k : ℕ) (o : Option ℕ) → or_else (or_else a (if b then Some k else None)) o ≡ or_else a (if b then Some k else o)
or_one (Some x) b k o = refl
or_one None true k o = refl
or_one None false k o = refl

drop_next : {A : Type 0} (xs : List A) (i : ℕ) (x : A) → i < length xs → x ≡ get_or xs i x → drop i xs ≡ x ∷ drop (i + 1) xs
drop_next xs i x h e = rw (add-one, drop-cons xs i x, ← e) refl

-- ---- field by field

module _ {A S : Type 0} (old new : IndexMap (Vec ℕ A) ℕ S) where
  pub one_more_field : (fs : List Field) (i : ℕ) (f : Field) (bytes : List ℕ) → bytes ≡ f.name → NotesFirst old new bytes i → i < length fs → f ≡ get_or fs i f → (name : List ℕ)
      → or_else (number_at new name) (number_from (i + 1) (drop (i + 1) fs) name) ≡ or_else (number_at old name) (number_from i (drop i fs) name)
  one_more_field fs i f bytes is notes h e name =
      ap (λ (o : Option ℕ). or_else o (number_from (i + 1) (drop (i + 1) fs) name)) (notes name) ∙ or_one (number_at old name) (bytes_eq bytes name) i (number_from (i + 1) (drop (i + 1) fs) name)
      ∙ ap (λ (b : List ℕ). or_else (number_at old name) (if bytes_eq b name then Some i else number_from (i + 1) (drop (i + 1) fs) name)) is
      ∙ sym (ap (or_else (number_at old name)) (ap (λ (xs : List Field). number_from i xs name) (drop_next fs i f h e) ∙ one_from i f (drop (i + 1) fs) name))

pub no_more_fields : (o : Option ℕ) (fs : List Field) (i : ℕ) (name : List ℕ) → length fs ≤ i → or_else o (number_from i (drop i fs) name) ≡ o
no_more_fields o fs i name e = ap (λ (xs : List Field). or_else o (number_from i xs name)) (drop_all i fs e) ∙ ap (or_else o) (none_from i name) ∙ or_none o

-- ---- a name is noted

lookup_last : {K : Type 0} (test : K → Bool) (es : List (K × ℕ)) (k : K) (n : ℕ) → lookup test (es ++ (k, n) ∷ []) ≡ or_else (lookup test es) (if test k then Some n else None)
lookup_last test [] k n = refl
lookup_last test (e ∷ es) k n = by (test e.0) refl (lookup_last test es k n)
  where
    by : (b : Bool) → test e.0 ≡ b → lookup test (es ++ (k, n) ∷ []) ≡ or_else (lookup test es) (if test k then Some n else None) → lookup test (e ∷ es ++ (k, n) ∷ []) ≡ or_else (lookup test (e ∷ es)) (if test k then Some n else None)
    by true h rest = rw h refl
    by false h rest = rw h rest

none_copied : (o : Option (Bor ℕ)) → is_some o ≡ false → option_copied o ≡ None
none_copied None e = refl
none_copied (Some x) e = absurd cc

module _ {A S : Type 0} (old : IndexMap (Vec ℕ A) ℕ S) (name : List ℕ) (n : ℕ) where
  pub is_added : (new : IndexMap (Vec ℕ A) ℕ S) (key : Vec ℕ A) (o : Option (Bor ℕ)) → option_copied o ≡ number_at old name → is_some o ≡ false → key.items ≡ name
      → new.entries ≡ insert_entry (λ x y. bytes_eq x.items y.items) old.entries key n → NotesFirst old new name n
  is_added new key o e none is added = λ other.
      ap (lookup (λ (k : Vec ℕ A). bytes_eq other k.items)) (added ∙ insert_entry-new (λ x y. bytes_eq x.items y.items) old key n (ap (number_at old) is ∙ sym e ∙ none_copied o none))
      ∙ lookup_last (λ (k : Vec ℕ A). bytes_eq other k.items) old.entries key n
      ∙ ap (λ (b : Bool). or_else (number_at old other) (if b then Some n else None)) (nat_list_eq_equiv.symm other key.items ∙ ap (λ (x : List ℕ). bytes_eq x other) is)

-- ---- record by record

module _ {A S : Type 0} where
  finds_last : (rs : List RecordDef) (ms : List (IndexMap (Vec ℕ A) ℕ S)) (r : RecordDef) (m : IndexMap (Vec ℕ A) ℕ S) → FindsAllFields rs ms → FindsFields r.fields m → FindsAllFields (rs ++ r ∷ []) (ms ++ m ∷ [])
  finds_last [] [] r m all one = (one, tt)
  finds_last [] (x ∷ ms) r m all one = absurd all
  finds_last (x ∷ rs) [] r m all one = absurd all
  finds_last (x ∷ rs) (y ∷ ms) r m all one = (all.0, finds_last rs ms r m all.1 one)

  pub one_more_record : (rs : List RecordDef) (i : ℕ) (r : RecordDef) (fs : List Field) (ms new : List (IndexMap (Vec ℕ A) ℕ S)) (m : IndexMap (Vec ℕ A) ℕ S) → FindsAllFields (take i rs) ms → fs ≡ r.fields → FindsFields fs m
      → new ≡ ms ++ m ∷ [] → i < length rs → r ≡ get_or rs i r → FindsAllFields (take (i + 1) rs) new
  one_more_record rs i r fs ms new m all is one grown h e =
      rw (grown, add-one, take-suc rs i r h, ← e) (finds_last (take i rs) ms r m all (subst (λ (xs : List Field). FindsFields xs m) is one))

-- ---- what is found

-- what is found in a record's map, by the record's number
abbrev pub found_in : {A S : Type 0} → Option (IndexMap (Vec ℕ A) ℕ S) → List ℕ → Option ℕ
found_in None name = None
found_in (Some m) name = number_at m name

abbrev pub number_in : Option RecordDef → List ℕ → Option ℕ
number_in None name = None
number_in (Some r) name = number_from 0 r.fields name

pub finds : {A S : Type 0} (rs : List RecordDef) (ms : List (IndexMap (Vec ℕ A) ℕ S)) → FindsAllFields rs ms → (r : ℕ) (name : List ℕ) → found_in (slice_get ms r) name ≡ number_in (slice_get rs r) name
finds [] [] all r name = refl
finds [] (m ∷ ms) all r name = absurd all
finds (x ∷ rs) [] all r name = absurd all
finds (x ∷ rs) (m ∷ ms) all zero name = all.0 name
finds (x ∷ rs) (m ∷ ms) all (suc r) name = finds rs ms all.1 r name

-- the field of a number, with this number
abbrev pub numbered : List Field → ℕ → ℕ → Option (ℕ × Mode)
numbered fs i k = option_map (λ f. (k, f.mode)) (slice_get fs i)

-- the field whose number is found
stands : (j : ℕ) (fs : List Field) (name : List ℕ) (k : ℕ) → number_from j fs name ≡ Some k → (i : ℕ) × (k ≡ j + i) × (field_from j fs name ≡ numbered fs i k)
unfolding field_from
stands j [] name k e = absurd (no_some k (sym e ∙ none_from j name))
  where
    no_some : (x : ℕ) → Some x ≡ None → ⊥
    no_some x h = cc
stands j (f ∷ fs) name k e = by (stands (j + 1) fs name k) (bytes_eq f.name name) refl (sym (one_from j f fs name) ∙ e)
  where
    by : (number_from (j + 1) fs name ≡ Some k → (i : ℕ) × (k ≡ j + 1 + i) × (field_from (j + 1) fs name ≡ numbered fs i k)) → (b : Bool) → bytes_eq f.name name ≡ b → (if b then Some j else number_from (j + 1) fs name) ≡ Some k → (i : ℕ) × (k ≡ j + i) × (field_from j (f ∷ fs) name ≡ numbered (f ∷ fs) i k)
    by later true h is =
        let same : j ≡ k = ap (λ (o : Option ℕ). unwrap_or o 0) is in
        (0, omega (arith, same), rw (h, same) refl)
    by later false h is =
        let rest = later is in
        (suc rest.0, omega (arith, rest.1), rw h rest.2)

no_field : (fs : List Field) (name : List ℕ) → number_from 0 fs name ≡ None → field_from 0 fs name ≡ None
no_field fs name e = by (field_from 0 fs name) e
  where
    by : (o : Option (ℕ × Mode)) → option_map (λ x. x.0) o ≡ None → o ≡ None
    by None h = refl
    by (Some x) h = absurd cc

no_field_in : (o : Option RecordDef) (name : List ℕ) → number_in o name ≡ None → field_in o name ≡ None
no_field_in None name e = refl
no_field_in (Some r) name e = no_field r.fields name e

the_field : (o : Option RecordDef) (r : RecordDef) (name : List ℕ) (k : ℕ) → o ≡ Some r → number_in o name ≡ Some k → field_in o name ≡ numbered r.fields k k
the_field o r name k is e =
    let at = stands 0 r.fields name k (ap (λ (p : Option RecordDef). number_in p name) (sym is) ∙ e) in
    ap (λ (p : Option RecordDef). field_in p name) is ∙ at.2 ∙ ap (λ (i : ℕ). numbered r.fields i k) (omega (arith, at.1))

module _ {A S : Type 0} (rs : List RecordDef) (ms : List (IndexMap (Vec ℕ A) ℕ S)) (all : FindsAllFields rs ms) (number : ℕ) (name : List ℕ) where
  -- where the map has nothing there is no field
  pub finds_none : found_in (slice_get ms number) name ≡ None → None ≡ first_field rs number name
  finds_none e = sym (no_field_in (slice_get rs number) name (sym (finds rs ms all number name) ∙ e))

  -- where it has a number the field is the one of that number
  pub finds_some : (r : RecordDef) (k : ℕ) → slice_get rs number ≡ Some r → found_in (slice_get ms number) name ≡ Some k → numbered r.fields k k ≡ first_field rs number name
  finds_some r k is e = sym (the_field (slice_get rs number) r name k is (sym (finds rs ms all number name) ∙ e))
