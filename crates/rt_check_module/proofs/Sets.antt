-- Items as a set.
use Rattle.std.proofs.Common.{◌≡◌, ℕ, ◌==◌, ◌||◌, Bool, true, false, if◌then◌else◌, List, [], ◌∷◌, ◌++◌, arith, refl, sym, ap, ◌∙◌}
use Rattle.std.specs.Prelude.{nat_eq}
use Rattle.std.specs.List.{list_any}
use Rattle.std.proofs.lemmas.Bool.Decides.{nat_tests}
use Rattle.indexmap.specs.IndexSet.{insert_key}
use Rattle.rt_check_module.specs.Strings.{is_in, HasOneMore}

turned : (k x : ℕ) → nat_eq k x ≡ (x == k)
turned k x = grind (arith, nat_tests)

-- the test of a set
pub is_any : (k : ℕ) (xs : List ℕ) → list_any (nat_eq k) xs ≡ is_in xs k
is_any k [] = refl
is_any k (x ∷ xs) = rw (turned k x, is_any k xs) refl

or_assoc : (a b c : Bool) → (a || b) || c ≡ a || (b || c)
or_assoc true b c = refl
or_assoc false b c = refl

at_end : (xs : List ℕ) (x k : ℕ) → is_in (xs ++ x ∷ []) k ≡ is_in xs k || x == k
at_end [] x k = or_false (x == k) where
  or_false : (b : Bool) → b || false ≡ b
  or_false true = refl
  or_false false = refl
at_end (y ∷ ys) x k = ap (λ (b : Bool). (y == k) || b) (at_end ys x k) ∙ sym (or_assoc (y == k) (is_in ys k) (x == k))

-- an item that is there already is no other one
there_already : (xs : List ℕ) (x k : ℕ) → is_in xs x ≡ true → is_in xs k ≡ is_in xs k || x == k
there_already xs x k e = by_test (x == k) refl where
  either : (b : Bool) → b ≡ b || false
  either true = refl
  either false = refl

  found : (b : Bool) → b ≡ true → b ≡ b || true
  found true e = refl
  found false e = e

  equal : (x k : ℕ) → (x == k) ≡ true → x ≡ k
  equal x k e = grind (arith, nat_tests)

  by_test : (b : Bool) → (x == k) ≡ b → is_in xs k ≡ is_in xs k || b
  by_test false t = either (is_in xs k)
  by_test true t = found (is_in xs k) (ap (is_in xs) (sym (equal x k t)) ∙ e)

pub one_more : (xs : List ℕ) (x : ℕ) → HasOneMore (insert_key nat_eq xs x) xs x
one_more xs x k = by_test (list_any (nat_eq x) xs) refl where
  by_test : (b : Bool) → list_any (nat_eq x) xs ≡ b → is_in (if b then xs else xs ++ x ∷ []) k ≡ is_in xs k || x == k
  by_test true e = there_already xs x k (sym (is_any x xs) ∙ e)
  by_test false e = at_end xs x k
