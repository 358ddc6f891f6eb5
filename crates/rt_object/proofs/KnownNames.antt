-- A set of names that has just those of a list.
use Rattle.std.proofs.Common.{◌≡◌, ℕ, Bool, true, false, not, ◌||◌, List, [], ◌∷◌, ◌++◌, Vec, refl, sym, ap, ◌∙◌}
use Rattle.std.specs.BTreeMap.{is_at}
use Rattle.std.specs.BTreeSet.{BTreeSet, contains_by, insert_key}
use Rattle.std.specs.Cmp.Lexicographic.{slice_cmp}
use Rattle.std.specs.List.{list_any}
use Rattle.std.specs.Ordering.{nat_cmp, match_ordering}
use Rattle.std.specs.declared.cmp.Ordering.{Ordering}
use Rattle.std.specs.declared.cmp.Ordering.TheVariants.{Less, Equal, Greater}
use Rattle.std.specs.Str.{bytes_eq}
use Rattle.std.proofs.lemmas.Map.Lookups.{exact_bytes}
use Rattle.std.proofs.lemmas.Map.Text.{is_eq-slice_cmp}
use Rattle.std.proofs.lemmas.Slice.Eq.{bytes_eq-Decides}
use Rattle.rt_object.specs.Grammar.{is_new}
use Rattle.rt_object.specs.Known.{Knows}

abbrev order : {A : Type 0} → Vec ℕ A → Vec ℕ A → Ordering
order x y = slice_cmp nat_cmp x.items y.items

abbrev is_named : {A : Type 0} → List ℕ → Vec ℕ A → Bool
is_named n x = is_at (λ k. slice_cmp nat_cmp n k.items) x

or_twice : (b c : Bool) → (b || c) ≡ (b || (b || c))
or_twice true c = refl
or_twice false c = refl

or_swap : (a b c : Bool) → (a || (b || c)) ≡ (b || (a || c))
or_swap true true c = refl
or_swap true false c = refl
or_swap false b c = refl

or_end : (a b : Bool) → (a || b) ≡ (b || a)
or_end true true = refl
or_end true false = refl
or_end false true = refl
or_end false false = refl

module _ {A : Type 0} (n : List ℕ) where
  insert_any : (ks : List (Vec ℕ A)) (k : Vec ℕ A) → list_any (is_named n) (insert_key order ks k) ≡ (is_named n k || list_any (is_named n) ks)
  insert_any [] k = refl
  insert_any (x ∷ ks) k = by (insert_any ks k) (order k x) refl
    where
      by : list_any (is_named n) (insert_key order ks k) ≡ (is_named n k || list_any (is_named n) ks) → (o : Ordering) → order k x ≡ o → list_any (is_named n) (match_ordering o (k ∷ x ∷ ks) (x ∷ ks) (x ∷ insert_key order ks k)) ≡ (is_named n k || (is_named n x || list_any (is_named n) ks))
      by rest Less e = refl
      by rest Equal e =
          let same : k.items ≡ x.items = exact_bytes k.items x.items e in
          let tests : is_named n k ≡ is_named n x = ap (λ y. is_at (λ (z : List ℕ). slice_cmp nat_cmp n z) y) same in
          or_twice (is_named n x) (list_any (is_named n) ks) ∙ ap (λ b. b || (is_named n x || list_any (is_named n) ks)) (sym tests)
      by rest Greater e = ap (λ b. is_named n x || b) rest ∙ or_swap (is_named n x) (is_named n k) (list_any (is_named n) ks)

same_test : (a b : List ℕ) → bytes_eq a b ≡ bytes_eq b a
same_test a b = by (bytes_eq a b) (bytes_eq b a) refl refl
  where
    by : (x y : Bool) → bytes_eq a b ≡ x → bytes_eq b a ≡ y → x ≡ y
    by true true e f = refl
    by false false e f = refl
    by true false e f = let g = (bytes_eq-Decides b a).1 (sym ((bytes_eq-Decides a b).0 e)) in let h : true ≡ false = sym g ∙ f in absurd cc
    by false true e f = let g = (bytes_eq-Decides a b).1 (sym ((bytes_eq-Decides b a).0 f)) in let h : true ≡ false = sym g ∙ e in absurd cc

any_behind : (n m : List ℕ) (names : List (List ℕ)) → list_any (λ x. bytes_eq x n) (names ++ m ∷ []) ≡ (bytes_eq m n || list_any (λ x. bytes_eq x n) names)
any_behind n m [] = refl
any_behind n m (x ∷ names) = ap (λ b. bytes_eq x n || b) (any_behind n m names) ∙ or_swap (bytes_eq x n) (bytes_eq m n) (list_any (λ x. bytes_eq x n) names)

pub empty_knows : {A : Type 0} (set : BTreeSet (Vec ℕ A)) → set.keys ≡ [] → Knows set []
empty_knows set e n = ap (list_any (is_named n)) e

pub knows_new : {A : Type 0} (set : BTreeSet (Vec ℕ A)) (names : List (List ℕ)) (key : Vec ℕ A) → Knows set names → not (contains_by (order key) set) ≡ is_new names key.items
knows_new set names key h = ap not (h key.items)

pub knows_more : {A : Type 0} (old new : BTreeSet (Vec ℕ A)) (names : List (List ℕ)) (key : Vec ℕ A) → Knows old names → new.keys ≡ insert_key order old.keys key → Knows new (names ++ key.items ∷ [])
knows_more old new names key h e n = ap (list_any (is_named n)) e ∙ insert_any n old.keys key
    ∙ ap (λ b. b || list_any (is_named n) old.keys) (is_eq-slice_cmp n key.items ∙ same_test n key.items)
    ∙ ap (λ b. bytes_eq key.items n || b) (h n) ∙ sym (any_behind n key.items names)
