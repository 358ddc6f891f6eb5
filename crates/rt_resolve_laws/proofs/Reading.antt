-- What is read in a store and in a task's own data after a write.
use Rattle.std.proofs.Common.{◌≡◌, ◌≢◌, ℕ, zero, suc, ◌==◌, ◌&&◌, Bool, true, false, List, [], ◌∷◌, Option, Some, None, option_map, refl, sym, ap, ◌∙◌, subst, eqb-true, eq-eqb}
use Rattle.rt_tree_nodes.specs.declared.store.Contents.{Contents, out-Contents}
use Rattle.rt_tree_nodes.specs.declared.store.Contents.TheOpen.{Contents-F}
use Rattle.rt_tree_nodes.specs.declared.store.Datum.{Datum}
use Rattle.rt_tree_nodes.specs.declared.store.Location.{Location}
use Rattle.rt_tree_nodes.specs.declared.store.Location.TheVariants.{Shared, Own}
use Rattle.rt_tree_nodes.specs.declared.store.Origin.{Origin}
use Rattle.rt_tree_nodes.specs.declared.store.Origin.TheVariants.{Brick, Text}
use Rattle.rt_tree.specs.Stored.{inside, written}
use Rattle.rt_work_state.specs.declared.store.ModuleStore.{ModuleStore}
use Rattle.rt_work_state.specs.Stores.{Store, numbered, datum_in, datum_of, brick_in, text_in, origin_in, changed_number, module_of, module_written, write}
use Rattle.rt_work.specs.Task.{same_path, same_origin, same_location}
use Rattle.rt_resolve_laws.specs.Reading.{ReadsWritten, ReadsOther, SameWhereEqual}
use Rattle.rt_resolve_laws.proofs.Contents.{get_set, get_other, changed_other, changed_here, reads_written as reads_inside, reads_other as reads_beside}

both_true : (a b : Bool) → a && b ≡ true → (a ≡ true) × (b ≡ true)
both_true true b e = (refl, e)
both_true false b e = absurd cc

true_both : (a b : Bool) → a ≡ true → b ≡ true → a && b ≡ true
true_both true b e h = h
true_both false b e h = absurd cc

-- ---- equal locations

path_is : (p q : List ℕ) → same_path p q ≡ true → p ≡ q
path_is [] [] e = refl
path_is [] (j ∷ q) e = absurd cc
path_is (i ∷ p) [] e = absurd cc
path_is (i ∷ p) (j ∷ q) e =
    let h = both_true (i == j) (same_path p q) e in
    ap (λ (k : ℕ). k ∷ p) (eqb-true i j h.0) ∙ ap (λ (r : List ℕ). j ∷ r) (path_is p q h.1)

one_path : (p : List ℕ) → same_path p p ≡ true
one_path [] = refl
one_path (i ∷ p) = true_both (i == i) (same_path p p) (eq-eqb i i refl) (one_path p)

origin_is : (o r : Origin) → same_origin o r ≡ true → o ≡ r
origin_is (Brick m b) (Brick n c) e =
    let h = both_true (m == n) (b == c) e in
    ap (λ (k : ℕ). Brick k b) (eqb-true m n h.0) ∙ ap (λ (k : ℕ). Brick n k) (eqb-true b c h.1)
origin_is (Text m b) (Text n c) e =
    let h = both_true (m == n) (b == c) e in
    ap (λ (k : ℕ). Text k b) (eqb-true m n h.0) ∙ ap (λ (k : ℕ). Text n k) (eqb-true b c h.1)
origin_is (Brick m b) (Text n c) e = absurd cc
origin_is (Text m b) (Brick n c) e = absurd cc

one_origin : (o : Origin) → same_origin o o ≡ true
one_origin (Brick m b) = true_both (m == m) (b == b) (eq-eqb m m refl) (eq-eqb b b refl)
one_origin (Text m b) = true_both (m == m) (b == b) (eq-eqb m m refl) (eq-eqb b b refl)

location_is : (l other : Location) → same_location l other ≡ true → l ≡ other
location_is (Shared o p) (Shared r q) e =
    let h = both_true (same_origin o r) (same_path p q) e in
    ap (λ (x : Origin). Shared x p) (origin_is o r h.0) ∙ ap (λ (x : List ℕ). Shared r x) (path_is p q h.1)
location_is (Own i) (Own j) e = ap (λ (k : ℕ). Own k) (eqb-true i j e)
location_is (Shared o p) (Own j) e = absurd cc
location_is (Own i) (Shared r q) e = absurd cc

one_location : (l : Location) → same_location l l ≡ true
one_location (Shared o p) = true_both (same_origin o o) (same_path p p) (one_origin o) (one_path p)
one_location (Own i) = eq-eqb i i refl

pub same_where_equal : SameWhereEqual
same_where_equal l other = (location_is l other, λ e. subst (λ (x : Location). same_location l x ≡ true) e (one_location l))

-- ---- modules

number_other : {A : Type 0} (xs : List A) (k j : ℕ) (f : A → A) → k ≢ j → numbered (changed_number xs k f) j ≡ numbered xs j
number_other xs zero j f ne = refl
number_other xs (suc k) zero f ne = refl
number_other xs (suc k) (suc j) f ne = changed_other xs k j f (λ e. ne (ap suc e))

number_here : {A : Type 0} (xs : List A) (k : ℕ) (f : A → A) → numbered (changed_number xs k f) k ≡ option_map f (numbered xs k)
number_here xs zero f = refl
number_here xs (suc k) f = changed_here xs k f

-- ---- origins

abbrev after_write : Origin → List ℕ → Datum → ModuleStore → ModuleStore
after_write o path d c = module_written o path d c

-- what the origin of a write contains then
origin_here : (S : Store) (o : Origin) (path : List ℕ) (d : Datum) → origin_in (write S (Shared o path) d) o ≡ option_map (λ c. written path d c) (origin_in S o)
origin_here S (Brick m b) path d = ap (λ (x : Option ModuleStore). brick_in x b) (number_here S m (after_write (Brick m b) path d)) ∙ in_brick (numbered S m)
  where
    in_brick : (x : Option ModuleStore) → brick_in (option_map (after_write (Brick m b) path d) x) b ≡ option_map (λ c. written path d c) (brick_in x b)
    in_brick None = refl
    in_brick (Some c) = changed_here c.bricks b (λ x. written path d x)
origin_here S (Text m k) path d = ap (λ (x : Option ModuleStore). text_in x k) (number_here S m (after_write (Text m k) path d)) ∙ in_text (numbered S m)
  where
    in_text : (x : Option ModuleStore) → text_in (option_map (after_write (Text m k) path d) x) k ≡ option_map (λ c. written path d c) (text_in x k)
    in_text None = refl
    in_text (Some c) = changed_here c.texts k (λ x. written path d x)

abbrev in_module : Origin → Option ModuleStore → Option Contents
in_module (Brick m b) x = brick_in x b
in_module (Text m k) x = text_in x k

origin_by : (S : Store) (o : Origin) → origin_in S o ≡ in_module o (numbered S (module_of o))
origin_by S (Brick m b) = refl
origin_by S (Text m k) = refl

-- another origin of the same module
beside : (o r : Origin) (path : List ℕ) (d : Datum) (x : Option ModuleStore) → o ≢ r → module_of o ≡ module_of r → in_module r (option_map (after_write o path d) x) ≡ in_module r x
beside o (Brick n c) path d None ne same = refl
beside o (Text n l) path d None ne same = refl
beside (Brick m b) (Brick n c) path d (Some y) ne same = changed_other y.bricks b c (λ x. written path d x) (λ e. ne (ap (λ (i : ℕ). Brick i b) same ∙ ap (λ (i : ℕ). Brick n i) e))
beside (Text m k) (Text n l) path d (Some y) ne same = changed_other y.texts k l (λ x. written path d x) (λ e. ne (ap (λ (i : ℕ). Text i k) same ∙ ap (λ (i : ℕ). Text n i) e))
beside (Brick m b) (Text n l) path d (Some y) ne same = refl
beside (Text m k) (Brick n c) path d (Some y) ne same = refl

-- what another origin than that of a write contains then
origin_other : (S : Store) (o r : Origin) (path : List ℕ) (d : Datum) → o ≢ r → origin_in (write S (Shared o path) d) r ≡ origin_in S r
origin_other S o r path d ne = origin_by (write S (Shared o path) d) r ∙ by_number (module_of o == module_of r) refl ∙ sym (origin_by S r)
  where
    now : ℕ → Option ModuleStore
    now j = numbered (changed_number S (module_of o) (after_write o path d)) j

    by_number : (b : Bool) → (module_of o == module_of r) ≡ b → in_module r (now (module_of r)) ≡ in_module r (numbered S (module_of r))
    by_number true e =
        let same : module_of o ≡ module_of r = eqb-true (module_of o) (module_of r) e in
        let here : now (module_of r) ≡ option_map (after_write o path d) (numbered S (module_of r)) =
        subst (λ (j : ℕ). now j ≡ option_map (after_write o path d) (numbered S j)) same (number_here S (module_of o) (after_write o path d)) in
        ap (in_module r) here ∙ beside o r path d (numbered S (module_of r)) ne same
    by_number false e =
        let differ : module_of o ≢ module_of r = λ h. let no : true ≡ false = sym (eq-eqb (module_of o) (module_of r) h) ∙ e in absurd cc in
        ap (in_module r) (number_other S (module_of o) (module_of r) (after_write o path d) differ)

-- ---- reads

abbrev read_in : Option Contents → List ℕ → Datum
read_in x path = datum_of (inside x path)

here_read : (x : Option Contents) (path : List ℕ) (y : Contents) (d e : Datum) → inside x path ≡ Some y → out-Contents y ≡ Contents-F.Datum e → read_in (option_map (λ c. written path d c) x) path ≡ d
here_read None path y d e found is = absurd cc
here_read (Some c) path y d e found is = reads_inside path c y d e found is

beside_read : (x : Option Contents) (path other : List ℕ) (d : Datum) → path ≢ other → read_in (option_map (λ c. written path d c) x) other ≡ read_in x other
beside_read None path other d ne = refl
beside_read (Some c) path other d ne = reads_beside path other c d ne

pub reads_written : ReadsWritten
reads_written S own (Shared o path) d h = ap (λ (x : Option Contents). read_in x path) (origin_here S o path d) ∙ here_read (origin_in S o) path h.0 d h.1 h.2 h.3
reads_written S own (Own k) d h = ap datum_in (get_set own k d h.0 h.1)

pub reads_other : ReadsOther
reads_other S own (Shared o path) (Shared r other) d ne = by_origin (same_origin o r) refl
  where
    by_origin : (b : Bool) → same_origin o r ≡ b → read_in (origin_in (write S (Shared o path) d) r) other ≡ read_in (origin_in S r) other
    by_origin true e =
        let same : o ≡ r = origin_is o r e in
        let differ : path ≢ other = λ h. ne (ap (λ (x : Origin). Shared x path) same ∙ ap (λ (p : List ℕ). Shared r p) h) in
        subst (λ (x : Origin). read_in (origin_in (write S (Shared o path) d) x) other ≡ read_in (origin_in S x) other) same
        (ap (λ (x : Option Contents). read_in x other) (origin_here S o path d) ∙ beside_read (origin_in S o) path other d differ)
    by_origin false e =
        let differ : o ≢ r = λ h. let no : true ≡ false = sym (subst (λ (x : Origin). same_origin o x ≡ true) h (one_origin o)) ∙ e in absurd cc in
        ap (λ (x : Option Contents). read_in x other) (origin_other S o r path d differ)
reads_other S own (Shared o path) (Own k) d ne = refl
reads_other S own (Own k) (Shared r other) d ne = refl
reads_other S own (Own k) (Own j) d ne = ap datum_in (get_other own k j d (λ e. ne (ap (λ (i : ℕ). Own i) e)))
