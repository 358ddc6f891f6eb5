-- What the tests of numbers say.
use Rattle.std.proofs.Common.{◌≡◌, ℕ, ◌+◌, ◌*◌, ◌%◌, ◌<◌, ◌≤◌, Bool, true, false, ◌&&◌, eqb, leb, ltb, Some, refl, arith}
use Rattle.std.proofs.lemmas.Bool.{eqb-true, leb-true, ltb-true, le-leb, lt-ltb}
use Rattle.std.proofs.lemmas.Bool.Decides.{nat_tests}
use Rattle.rt_words.specs.Format.{within}
use Rattle.rt_words.proofs.Spelled.{true_is, true_back}
use Rattle.rt_image.specs.Grammar.{data_count, entry_below, stack_behind, is_stack}

both_true : (a b : Bool) → (a && b) ≡ true → (a ≡ true) × (b ≡ true)
both_true true b e = (refl, e)
both_true false b e = absurd cc

even_test : (n : ℕ) → n % 2 ≡ 0 → eqb (n % 2) 0 ≡ true
even_test n e = grind (arith, nat_tests)

-- ---- from one number to another

abbrev in_range : ℕ → ℕ → ℕ → Bool
in_range least most n = leb least n && leb n most

pub within_same : (least most n x : ℕ) → within least most n ≡ Some x → n ≡ x
within_same least most n x e = (true_is (in_range least most) n x e).0

pub within_is : (least most x : ℕ) → within least most x ≡ Some x → (least ≤ x) × (x ≤ most)
within_is least most x e = let b = both_true (leb least x) (leb x most) (true_is (in_range least most) x x e).1 in (leb-true least x b.0, leb-true x most b.1)

pub within_back : (least most x : ℕ) → least ≤ x → x ≤ most → within least most x ≡ Some x
within_back least most x h k = true_back (in_range least most) x (rw (le-leb least x h, le-leb x most k) refl)

-- ---- the data

abbrev is_data : ℕ → ℕ → Bool
is_data code_end d = eqb (d % 2) 0 && leb (code_end + d) 57344

pub data_same : (code_end n x : ℕ) → data_count code_end n ≡ Some x → n ≡ x
data_same code_end n x e = (true_is (is_data code_end) n x e).0

pub data_is : (code_end x : ℕ) → data_count code_end x ≡ Some x → (x % 2 ≡ 0) × (code_end + x ≤ 57344)
data_is code_end x e = let b = both_true (eqb (x % 2) 0) (leb (code_end + x) 57344) (true_is (is_data code_end) x x e).1 in (eqb-true (x % 2) 0 b.0, leb-true (code_end + x) 57344 b.1)

pub data_back : (code_end x : ℕ) → x % 2 ≡ 0 → code_end + x ≤ 57344 → data_count code_end x ≡ Some x
data_back code_end x h k = true_back (is_data code_end) x (rw (even_test x h, le-leb (code_end + x) 57344 k) refl)

-- ---- the entry

abbrev is_entry : ℕ → ℕ → Bool
is_entry code_end a = eqb (a % 2) 0 && ltb a code_end

pub entry_same : (code_end n x : ℕ) → entry_below code_end n ≡ Some x → n ≡ x
entry_same code_end n x e = (true_is (is_entry code_end) n x e).0

pub entry_is : (code_end x : ℕ) → entry_below code_end x ≡ Some x → (x % 2 ≡ 0) × (x < code_end)
entry_is code_end x e = let b = both_true (eqb (x % 2) 0) (ltb x code_end) (true_is (is_entry code_end) x x e).1 in (eqb-true (x % 2) 0 b.0, ltb-true x code_end b.1)

pub entry_back : (code_end x : ℕ) → x % 2 ≡ 0 → x < code_end → entry_below code_end x ≡ Some x
entry_back code_end x h k = true_back (is_entry code_end) x (rw (even_test x h, lt-ltb x code_end k) refl)

-- ---- the brick

pub stack_same : (used n x : ℕ) → stack_behind used n ≡ Some x → n ≡ x
stack_same used n x e = (true_is (is_stack used) n x e).0

pub record IsStack (used x : ℕ) : Type 0 where
  pub some : 1 ≤ x
  pub most : x ≤ 28672
  pub room : used + (16 + 2 * x) ≤ 57344

pub stack_is : (used x : ℕ) → stack_behind used x ≡ Some x → IsStack used x
stack_is used x e =
    let outer = both_true (leb 1 x && leb x 28672) (leb (used + (16 + 2 * x)) 57344) (true_is (is_stack used) x x e).1 in
    let inner = both_true (leb 1 x) (leb x 28672) outer.0 in
    record { some = leb-true 1 x inner.0; most = leb-true x 28672 inner.1; room = leb-true (used + (16 + 2 * x)) 57344 outer.1 }

pub stack_back : (used x : ℕ) → IsStack used x → stack_behind used x ≡ Some x
stack_back used x h = true_back (is_stack used) x (rw (le-leb 1 x h.some, le-leb x 28672 h.most, le-leb (used + (16 + 2 * x)) 57344 h.room) refl)
