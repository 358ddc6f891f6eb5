-- Placements in a run are placements in a longer one.
use Rattle.std.proofs.Common.{◌≡◌, ℕ, ◌≤◌, Bool, true, false, ◌&&◌, nat_le, List, [], ◌∷◌, ◌++◌, refl, arith, leb-true}
use Rattle.std.proofs.lemmas.Bool.{le-leb}
use Rattle.rt_meaning.specs.Runs.{rise_from, are_placements}
use Rattle.rt_meaning.proofs.Longer.{both_true}

and_true : (a b : Bool) → a ≡ true → b ≡ true → a && b ≡ true
and_true true b e f = f
and_true false b e f = absurd cc

rise_more : (ps : List ℕ) (least n m : ℕ) → n ≤ m → rise_from least n ps ≡ true → rise_from least m ps ≡ true
rise_more [] least n m h e = refl
rise_more (p ∷ ps) least n m h e =
    let x = both_true (nat_le least p) (nat_le p n && rise_from p n ps) e in
    let y = both_true (nat_le p n) (rise_from p n ps) x.1 in
    let z = leb-true p n y.0 in
    and_true (nat_le least p) (nat_le p m && rise_from p m ps) x.0 (and_true (nat_le p m) (rise_from p m ps) (le-leb p m (omega (arith, z, h))) (rise_more ps p n m h y.1))

-- placements in a run are placements in a longer one
pub placed_more : (ps : List ℕ) (n m : ℕ) → n ≤ m → are_placements ps n ≡ true → are_placements ps m ≡ true
placed_more ps n m h e = rise_more ps 0 n m h e

rise_by : (ps : List ℕ) (least n p : ℕ) (a b : Bool) → nat_le least p ≡ a → nat_le p n ≡ b → (p ≤ n → rise_from p n ps ≡ true → rise_from p n (ps ++ n ∷ []) ≡ true) → (a && (b && rise_from p n ps)) ≡ true → (nat_le least p && (nat_le p n && rise_from p n (ps ++ n ∷ []))) ≡ true
rise_by ps least n p true true f g more h = rw (f, g) (more (leb-true p n g) h)
rise_by ps least n p true false f g more h = absurd cc
rise_by ps least n p false b f g more h = absurd cc

-- and one more after the last step is one
pub rise_last : (ps : List ℕ) (least n : ℕ) → least ≤ n → rise_from least n ps ≡ true → rise_from least n (ps ++ n ∷ []) ≡ true
rise_last [] least n low e = rw (le-leb least n low, le-leb n n (omega arith)) refl
rise_last (p ∷ ps) least n low e = rise_by ps least n p (nat_le least p) (nat_le p n) refl refl (rise_last ps p n) e
