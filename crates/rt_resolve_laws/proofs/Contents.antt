-- What is read in contents after a write.
use Rattle.std.proofs.Common.{◌≡◌, ◌≢◌, ℕ, zero, suc, ◌==◌, Bool, true, false, List, [], ◌∷◌, Option, Some, None, option_map, slice_get, slice_set, refl, sym, ap, ◌∙◌, subst, eqb-true, eq-eqb}
use Rattle.rt_tree_nodes.specs.declared.store.Contents.{Contents, out-Contents, the_lemmas}
use Rattle.rt_tree_nodes.specs.declared.store.Contents.TheOpen.{Contents-F}
use Rattle.rt_tree_nodes.specs.declared.store.Contents.TheVariants as contents
use Rattle.rt_tree_nodes.specs.declared.store.Datum.{Datum}
use Rattle.rt_tree.specs.Stored.{inside, part, part_of, change_found, changed, with_datum, with_part, written}
use Rattle.rt_work_state.specs.Stores.{datum_at, datum_of}

parts_out : (cs : List Contents) → out-Contents (contents.Parts cs) ≡ Contents-F.Parts cs
parts_out cs = search the_lemmas

datum_out : (d : Datum) → out-Contents (contents.Datum d) ≡ Contents-F.Datum d
datum_out d = search the_lemmas

-- ---- lists

pub get_set : {A : Type 0} (xs : List A) (k : ℕ) (x y : A) → slice_get xs k ≡ Some y → slice_get (slice_set xs k x) k ≡ Some x
get_set [] k x y e = absurd cc
get_set (z ∷ zs) zero x y e = refl
get_set (z ∷ zs) (suc k) x y e = get_set zs k x y e

pub get_other : {A : Type 0} (xs : List A) (k l : ℕ) (x : A) → k ≢ l → slice_get (slice_set xs k x) l ≡ slice_get xs l
get_other [] k l x ne = refl
get_other (y ∷ ys) zero zero x ne = absurd (ne refl)
get_other (y ∷ ys) zero (suc l) x ne = refl
get_other (y ∷ ys) (suc k) zero x ne = refl
get_other (y ∷ ys) (suc k) (suc l) x ne = get_other ys k l x (λ e. ne (ap suc e))

pub changed_other : {A : Type 0} (xs : List A) (k l : ℕ) (f : A → A) → k ≢ l → slice_get (changed xs k f) l ≡ slice_get xs l
changed_other {A = A} xs k l f ne = by_found (slice_get xs k)
  where
    by_found : (o : Option A) → slice_get (change_found o xs k f) l ≡ slice_get xs l
    by_found None = refl
    by_found (Some x) = get_other xs k l (f x) ne

-- the element that is changed
pub changed_here : {A : Type 0} (xs : List A) (k : ℕ) (f : A → A) → slice_get (changed xs k f) k ≡ option_map f (slice_get xs k)
changed_here {A = A} xs k f = by_found (slice_get xs k) refl
  where
    by_found : (o : Option A) → slice_get xs k ≡ o → slice_get (change_found o xs k f) k ≡ option_map f o
    by_found None e = e
    by_found (Some x) e = get_set xs k (f x) x e

-- ---- contents

part_written : (k l : ℕ) (f : Contents → Contents) (parts : List Contents) → part (with_part k f (Contents-F.Parts parts)) l ≡ slice_get (changed parts k f) l
part_written k l f parts = ap (λ (o : Contents-F Contents). part_of o l) (parts_out (changed parts k f))

part_kept : (k l : ℕ) (f : Contents → Contents) (old : Datum) → part (with_part k f (Contents-F.Datum old)) l ≡ None
part_kept k l f old = ap (λ (o : Contents-F Contents). part_of o l) (datum_out old)

abbrev read_in : Option Contents → List ℕ → Datum
read_in o path = datum_of (inside o path)

some_same : {A : Type 0} (x y : A) → Some x ≡ Some y → x ≡ y
some_same x y e = cc

pub reads_written : (path : List ℕ) (c x : Contents) (d e : Datum) → inside (Some c) path ≡ Some x → out-Contents x ≡ Contents-F.Datum e → read_in (Some (written path d c)) path ≡ d
reads_written [] c x d e found is =
    let same : c ≡ x = some_same c x found in
    let w : with_datum d (out-Contents c) ≡ contents.Datum d = ap (λ (y : Contents). with_datum d (out-Contents y)) same ∙ ap (λ (o : Contents-F Contents). with_datum d o) is in
    ap (λ (y : Contents). datum_at (out-Contents y)) w ∙ ap datum_at (datum_out d)
reads_written (k ∷ path) c x d e found is = by_level (λ y g. reads_written path y x d e g is) (out-Contents c) found
  where
    f : Contents → Contents
    f = λ y. written path d y

    in_part : ((y : Contents) → inside (Some y) path ≡ Some x → read_in (Some (f y)) path ≡ d) → (o : Option Contents) → inside o path ≡ Some x → read_in (option_map f o) path ≡ d
    in_part go None g = absurd cc
    in_part go (Some y) g = go y g

    by_level : ((y : Contents) → inside (Some y) path ≡ Some x → read_in (Some (f y)) path ≡ d) → (o : Contents-F Contents) → inside (part_of o k) path ≡ Some x → read_in (part (with_part k f o) k) path ≡ d
    by_level go (Contents-F.Datum old) g = absurd cc
    by_level go (Contents-F.Parts parts) g = ap (λ (o : Option Contents). read_in o path) (part_written k k f parts ∙ changed_here parts k f) ∙ in_part go (slice_get parts k) g

pub reads_other : (path other : List ℕ) (c : Contents) (d : Datum) → path ≢ other → read_in (Some (written path d c)) other ≡ read_in (Some c) other
reads_other [] [] c d ne = absurd (ne refl)
reads_other [] (l ∷ other) c d ne = by_level (out-Contents c)
  where
    by_level : (o : Contents-F Contents) → read_in (part (with_datum d o) l) other ≡ read_in (part_of o l) other
    by_level (Contents-F.Datum old) = ap (λ (o : Contents-F Contents). read_in (part_of o l) other) (datum_out d)
    by_level (Contents-F.Parts parts) = ap (λ (o : Contents-F Contents). read_in (part_of o l) other) (parts_out parts)
reads_other (k ∷ path) [] c d ne = by_level (out-Contents c)
  where
    by_level : (o : Contents-F Contents) → datum_at (out-Contents (with_part k (λ y. written path d y) o)) ≡ datum_at o
    by_level (Contents-F.Datum old) = ap datum_at (datum_out old)
    by_level (Contents-F.Parts parts) = ap datum_at (parts_out (changed parts k (λ y. written path d y)))
reads_other (k ∷ path) (l ∷ other) c d ne = by_level (λ y differ. reads_other path other y d differ) (out-Contents c)
  where
    f : Contents → Contents
    f = λ y. written path d y

    -- in the part where the path goes on
    in_part : ((y : Contents) → path ≢ other → read_in (Some (f y)) other ≡ read_in (Some y) other) → (o : Option Contents) → path ≢ other → read_in (option_map f o) other ≡ read_in o other
    in_part go None differ = refl
    in_part go (Some y) differ = go y differ

    by_number : ((y : Contents) → path ≢ other → read_in (Some (f y)) other ≡ read_in (Some y) other) → (parts : List Contents) (b : Bool) → (k == l) ≡ b → read_in (slice_get (changed parts k f) l) other ≡ read_in (slice_get parts l) other
    by_number go parts true e =
        let same : k ≡ l = eqb-true k l e in
        let differ : path ≢ other = λ h. ne (ap (λ (m : ℕ). m ∷ path) same ∙ ap (λ (q : List ℕ). l ∷ q) h) in
        subst (λ (m : ℕ). read_in (slice_get (changed parts k f) m) other ≡ read_in (slice_get parts m) other) same
        (ap (λ (o : Option Contents). read_in o other) (changed_here parts k f) ∙ in_part go (slice_get parts k) differ)
    by_number go parts false e =
        let differ : k ≢ l = λ h. let no : true ≡ false = sym (eq-eqb k l h) ∙ e in absurd cc in
        ap (λ (o : Option Contents). read_in o other) (changed_other parts k l f differ)

    by_level : ((y : Contents) → path ≢ other → read_in (Some (f y)) other ≡ read_in (Some y) other) → (o : Contents-F Contents) → read_in (part (with_part k f o) l) other ≡ read_in (part_of o l) other
    by_level go (Contents-F.Datum old) = ap (λ (o : Option Contents). read_in o other) (part_kept k l f old)
    by_level go (Contents-F.Parts parts) = ap (λ (o : Option Contents). read_in o other) (part_written k l f parts) ∙ by_number go parts (k == l) refl
