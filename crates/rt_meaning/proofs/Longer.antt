-- A run with one more tick, and a run with one more step.
use Rattle.std.proofs.Common.{◌≡◌, ℕ, zero, suc, ◌+◌, ◌<◌, ◌==◌, Bool, true, false, ◌&&◌, nat_le, List, [], ◌∷◌, ◌++◌, Option, Some, None, refl, ap, arith, eqb-true, leb-true, eq-eqb}
use Rattle.rt_resolve.specs.World.{World}
use Rattle.rt_meaning.specs.Run.{State}
use Rattle.rt_meaning.specs.Runs.{Reached, ticks_after, then_step, then_ticks, after, rise_from, are_placements}
use Rattle.rt_meaning.proofs.Placements.{one_if, no_hit, after_cons}

-- ---- one more tick

-- how many ticks fall after s steps, where one more placement stands behind the others
with_last : (ps : List ℕ) (n s : ℕ) → ticks_after (ps ++ n ∷ []) s ≡ one_if (n == s) + ticks_after ps s
with_last [] n s = after_cons n [] s
with_last (p ∷ ps) n s = omega (arith, after_cons p (ps ++ n ∷ []) s, after_cons p ps s, with_last ps n s)

as_many : (ps : List ℕ) (n s : ℕ) → s < n → ticks_after (ps ++ n ∷ []) s ≡ ticks_after ps s
as_many ps n s h =
    let none = no_hit (n == s) (λ e. let same = eqb-true n s e in omega arith) in omega (arith, with_last ps n s, none)

one_at : (n : ℕ) → one_if (n == n) ≡ 1
one_at n = ap one_if (eq-eqb n n refl)

one_more : (ps : List ℕ) (n : ℕ) → ticks_after (ps ++ n ∷ []) n ≡ suc (ticks_after ps n)
one_more ps n = omega (arith, with_last ps n n, one_at n)

-- up to the step before the tick the run is the same
as_before : (w : World) (s : State) (ps input : List ℕ) (n k : ℕ) → k < n → after w s (ps ++ n ∷ []) input k ≡ after w s ps input k
as_before w s ps input n zero h = rw (as_many ps n 0 h) refl
as_before w s ps input n (suc k) h = rw (as_many ps n (suc k) h, as_before w s ps input n k (omega arith)) refl

last_tick : (t : ℕ) (r : Option Reached) → then_ticks (suc t) r ≡ then_ticks 1 (then_ticks t r)
last_tick t None = refl
last_tick t (Some r) = refl

-- a tick behind all others, after the last step, is one tick of what the run came to
pub one_more_tick : (w : World) (s : State) (ps input : List ℕ) (n : ℕ) → after w s (ps ++ n ∷ []) input n ≡ then_ticks 1 (after w s ps input n)
one_more_tick w s ps input zero = rw (one_more ps 0) refl
one_more_tick w s ps input (suc k) =
    rw (one_more ps (suc k), as_before w s ps input (suc k) k (omega arith)) (last_tick (ticks_after ps (suc k)) _)

-- ---- one more step

pub both_true : (a b : Bool) → a && b ≡ true → (a ≡ true) × (b ≡ true)
both_true true b e = (refl, e)
both_true false b e = absurd cc

-- no placement of a run of n steps falls after one step more
none_behind : (ps : List ℕ) (least n : ℕ) → rise_from least n ps ≡ true → ticks_after ps (suc n) ≡ 0
none_behind [] least n e = refl
none_behind (p ∷ ps) least n e =
    let inner = both_true (nat_le p n) (rise_from p n ps) (both_true (nat_le least p) (nat_le p n && rise_from p n ps) e).1 in
    let low = leb-true p n inner.0 in
    let none = no_hit (p == suc n) (λ q. let same = eqb-true p (suc n) q in omega arith) in
    omega (arith, after_cons p ps (suc n), none, none_behind ps p n inner.1)

no_tick : (r : Option Reached) → then_ticks 0 r ≡ r
no_tick None = refl
no_tick (Some r) = refl

-- where no tick falls after it, one more step is one step of what the run came to
pub one_more_step : (w : World) (s : State) (ps input : List ℕ) (n : ℕ) → are_placements ps n ≡ true → after w s ps input (suc n) ≡ then_step w input (after w s ps input n)
one_more_step w s ps input n e = rw (none_behind ps 0 n e) (no_tick _)
