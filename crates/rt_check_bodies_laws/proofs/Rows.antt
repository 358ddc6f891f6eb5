-- How many REFs stand in a row inside a mode in which few do.
use Rattle.std.proofs.Common.{◌≡◌, ℕ, zero, suc, ◌-◌, ◌<◌, ◌≤◌, ◌&&◌, Bool, true, false, List, Some, None, map, arith, refl, sym, ◌∙◌}
use Rattle.std.specs.Prelude.{nat_lt}
use Rattle.std.proofs.lemmas.Bool.Decides.{nat_tests}
use Rattle.rt_modes.specs.declared.mode.Mode.{Mode, out-Mode, roll-Mode, map-Mode, the_lemmas}
use Rattle.rt_modes.specs.declared.mode.Mode.TheFolds.{ind-Mode, fold_out-Mode}
use Rattle.rt_modes.specs.declared.mode.Mode.TheOpen.{Mode-F}
use Rattle.rt_modes.specs.declared.mode.Mode.TheVariants as mode
use Rattle.rt_exprs.specs.Following.{refs}
use Rattle.rt_check_bodies_laws.specs.Refs.{few_by, few, FewRefs}

few_at : (m : Mode) (l : Mode-F Mode) (k : ℕ) → out-Mode m ≡ l → few m k ≡ few_by (map-Mode Mode (ℕ → Bool) few l) k
unfolding few
few_at m l k o = rw (fold_out-Mode, o) refl

left_of : (a b : Bool) → a && b ≡ true → a ≡ true
left_of true b e = refl
left_of false b e = e

right_of : (a b : Bool) → a && b ≡ true → b ≡ true
right_of true b e = e
right_of false b e = absurd cc

below : (k : ℕ) → nat_lt 0 k ≡ true → 0 < k
below k e = grind (arith, nat_tests)

tested : (k : ℕ) → 0 < k → nat_lt 0 k ≡ true
tested k e = grind (arith, nat_tests)

both_true : (a b : Bool) → a ≡ true → b ≡ true → a && b ≡ true
both_true a b e h = rw (e, h) refl

-- ---- one REF less

pub some_few : (m n : Mode) (k : ℕ) → out-Mode m ≡ Mode-F.Ref n → few m k ≡ true → 0 < k
some_few m n k o h = below k (left_of (nat_lt 0 k) (few n (k - 1)) (sym (few_at m (Mode-F.Ref n) k o) ∙ h))

pub one_less_few : (m n : Mode) (k : ℕ) → out-Mode m ≡ Mode-F.Ref n → few m k ≡ true → few n (k - 1) ≡ true
one_less_few m n k o h = right_of (nat_lt 0 k) (few n (k - 1)) (sym (few_at m (Mode-F.Ref n) k o) ∙ h)

-- ---- more may stand there

abbrev Grows : Mode → Type 0
Grows m = (j k : ℕ) → j ≤ k → few m j ≡ true → few m k ≡ true

abbrev Pair : Type 0
Pair = (m : Mode) × Grows m

opened : (m : Mode) (y : Mode-F Pair) → out-Mode m ≡ map-Mode Pair Mode (λ e. e.0) y → Grows m
opened m (Mode-F.Ref n) o j k l h =
    few_at m (Mode-F.Ref n.0) k o
    ∙ both_true (nat_lt 0 k) (few n.0 (k - 1)) (tested k (omega (arith, l, some_few m n.0 j o h))) (n.1 (j - 1) (k - 1) (omega (arith, l)) (one_less_few m n.0 j o h))
opened m (Mode-F.RefArray n) o j k l h = few_at m (Mode-F.RefArray n.0) k o ∙ sym (few_at m (Mode-F.RefArray n.0) j o) ∙ h
opened m (Mode-F.Array d n) o j k l h = few_at m (Mode-F.Array d n.0) k o ∙ sym (few_at m (Mode-F.Array d n.0) j o) ∙ h
opened m (Mode-F.Proc ps None) o j k l h = few_at m (Mode-F.Proc (map (λ e. e.0) ps) None) k o
opened m (Mode-F.Proc ps (Some r)) o j k l h = few_at m (Mode-F.Proc (map (λ e. e.0) ps) (Some r.0)) k o ∙ sym (few_at m (Mode-F.Proc (map (λ e. e.0) ps) (Some r.0)) j o) ∙ h
opened m Mode-F.Byte o j k l h = few_at m Mode-F.Byte k o
opened m Mode-F.Int o j k l h = few_at m Mode-F.Int k o
opened m Mode-F.Frac o j k l h = few_at m Mode-F.Frac k o
opened m Mode-F.Label o j k l h = few_at m Mode-F.Label k o
opened m (Mode-F.Record r) o j k l h = few_at m (Mode-F.Record r) k o

out_roll : (l : Mode-F Mode) → out-Mode (roll-Mode l) ≡ l
out_roll l = search the_lemmas

pub few_more : (m : Mode) → Grows m
few_more = ind-Mode Grows (λ x y is. opened (roll-Mode x) y (out_roll x ∙ sym is))

-- ---- what a value leads to

pub ref_few : (m n : Mode) → out-Mode m ≡ Mode-F.Ref n → FewRefs m → FewRefs n
ref_few m n o h = few_more n 7 8 (omega arith) (one_less_few m n 8 o h)

pub row_few : (m n : Mode) → out-Mode m ≡ Mode-F.RefArray n → FewRefs m → FewRefs n
row_few m n o h = sym (few_at m (Mode-F.RefArray n) 8 o) ∙ h

pub array_few : (m : Mode) (k : ℕ) (n : Mode) → out-Mode m ≡ Mode-F.Array k n → FewRefs m → FewRefs n
array_few m k n o h = sym (few_at m (Mode-F.Array k n) 8 o) ∙ h

pub answer_few : (m : Mode) (ps : List Mode) (r : Mode) → out-Mode m ≡ Mode-F.Proc ps (Some r) → FewRefs m → FewRefs r
answer_few m ps r o h = sym (few_at m (Mode-F.Proc ps (Some r)) 8 o) ∙ h

-- so many REFs in front of a mode are no more than there may be
pub refs_few : (k : ℕ) (w : Mode) (j : ℕ) → few (refs k w) j ≡ true → k ≤ j
refs_few zero w j h = omega arith
refs_few (suc k) w j h =
    let o : out-Mode (mode.Ref (refs k w)) ≡ Mode-F.Ref (refs k w) = search the_lemmas in
    let some = some_few (mode.Ref (refs k w)) (refs k w) j o h in
    omega (arith, some, refs_few k w (j - 1) (one_less_few (mode.Ref (refs k w)) (refs k w) j o h))
