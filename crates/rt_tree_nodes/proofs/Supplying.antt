-- The bricks that declare the task's own data as it is supplied.
use Rattle.std.proofs.Common.{◌≡◌, ℕ, suc, ◌+◌, nat_lt, cond, Bool, true, false, not, List, [], ◌∷◌, length, Option, Some, None, arith, refl, ap, ◌∙◌}
use Rattle.std.specs.Prelude.{position}
use Rattle.std.specs.List.{prefix_len}
use Rattle.std.proofs.lemmas.Bool.Decides.{nat_tests}
use Rattle.rt_tree_nodes.specs.declared.brick.Brick.{Brick}
use Rattle.rt_tree_nodes.specs.declared.supplied.Supplied.{Supplied}
use Rattle.rt_tree_nodes.specs.Scopes.{Face, face, faces, first_fields, fields_at, is_errors, is_streams, errors_of, streams_of, supplied_of}

-- ---- what is first among bricks is first among their faces

length_faces : (bs : List Brick) → length (faces bs) ≡ length bs
length_faces [] = refl
length_faces (b ∷ bs) = ap suc (length_faces bs)

before_first : (test : Face → Bool) (bs : List Brick) → prefix_len (λ b. not (test (face b))) bs ≡ prefix_len (λ b. not (test b)) (faces bs)
before_first test [] = refl
before_first test (b ∷ bs) = rw (before_first test bs) refl

pub first_face : (test : Face → Bool) (bs : List Brick) → position (λ b. test (face b)) bs ≡ position test (faces bs)
first_face test bs = rw (before_first test bs, length_faces bs) refl

-- ---- the fields of the brick at that number are those of the first brick

abbrev at_most : ℕ → ℕ → Option ℕ
at_most n count = cond (nat_lt n count) (Some n) None

one_more : (n : ℕ) → 1 + n ≡ suc n
one_more n = omega arith

first_below : (n : ℕ) → nat_lt 0 (suc n) ≡ true
first_below n = grind (arith, nat_tests)

below_more : (n count : ℕ) (c : Bool) → nat_lt n count ≡ c → nat_lt (suc n) (suc count) ≡ c
below_more n count true e = grind (arith, nat_tests)
below_more n count false e = grind (arith, nat_tests)

later : (b : Face) (bs : List Face) (n : ℕ) → fields_at (b ∷ bs) (at_most (1 + n) (length (b ∷ bs))) ≡ fields_at bs (at_most n (length bs))
later b bs n = by_test (nat_lt n (length bs)) refl
  where
    by_test : (c : Bool) → nat_lt n (length bs) ≡ c → fields_at (b ∷ bs) (at_most (1 + n) (length (b ∷ bs))) ≡ fields_at bs (at_most n (length bs))
    by_test true e = rw (one_more n, below_more n (length bs) true e, e) refl
    by_test false e = rw (one_more n, below_more n (length bs) false e, e) refl

here_or_later : (test : Face → Bool) (b : Face) (bs : List Face) (c : Bool) → test b ≡ c → fields_at bs (position test bs) ≡ first_fields test bs → fields_at (b ∷ bs) (position test (b ∷ bs)) ≡ first_fields test (b ∷ bs)
here_or_later test b bs true e h = rw (e, first_below (length bs)) refl
here_or_later test b bs false e h = rw e (later b bs (prefix_len (λ x. not (test x)) bs) ∙ h)

first_found : (test : Face → Bool) (bs : List Face) → fields_at bs (position test bs) ≡ first_fields test bs
first_found test [] = refl
first_found test (b ∷ bs) = here_or_later test b bs (test b) refl (first_found test bs)

pub errors_found : (bs : List Brick) (s : Supplied) → s ≡ supplied_of bs → fields_at (faces bs) s.errors ≡ errors_of (faces bs)
errors_found bs s e = ap (λ (k : Option ℕ). fields_at (faces bs) k) (ap (λ (s : Supplied). s.errors) e) ∙ first_found is_errors (faces bs)

pub streams_found : (bs : List Brick) (s : Supplied) → s ≡ supplied_of bs → fields_at (faces bs) s.streams ≡ streams_of (faces bs)
streams_found bs s e = ap (λ (k : Option ℕ). fields_at (faces bs) k) (ap (λ (s : Supplied). s.streams) e) ∙ first_found is_streams (faces bs)
