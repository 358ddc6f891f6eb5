-- How many ticks fall up to a number of steps.
use Rattle.std.proofs.Common.{◌≡◌, ℕ, zero, suc, ◌+◌, ◌-◌, ◌<◌, ◌≤◌, ◌==◌, Bool, true, false, if◌then◌else◌, List, [], ◌∷◌, Option, Some, None, length, refl, sym, ◌∙◌, ap, arith, eqb-true}
use Rattle.rt_resolve.specs.World.{World}
use Rattle.rt_meaning.specs.Run.{State}
use Rattle.rt_meaning.specs.Runs.{Reached, ticks_after, then_step, then_ticks, after}

abbrev pub ticks_to : List ℕ → ℕ → ℕ
ticks_to ps zero = ticks_after ps 0
ticks_to ps (suc k) = ticks_to ps k + ticks_after ps (suc k)

pub to_next : (ps : List ℕ) (k : ℕ) → ticks_to ps (k + 1) ≡ ticks_to ps k + ticks_after ps (k + 1)
to_next ps k = let e : k + 1 ≡ suc k = omega arith in rw e refl

abbrev pub one_if : Bool → ℕ
one_if true = 1
one_if false = 0

abbrev hit : ℕ → ℕ → ℕ
hit p zero = one_if (p == 0)
hit p (suc k) = hit p k + one_if (p == suc k)

if_one : (b : Bool) (n : ℕ) → (if b then suc n else n) ≡ one_if b + n
if_one true n = omega arith
if_one false n = omega arith

pub after_cons : (p : ℕ) (ps : List ℕ) (s : ℕ) → ticks_after (p ∷ ps) s ≡ one_if (p == s) + ticks_after ps s
after_cons p ps s = if_one (p == s) (ticks_after ps s)

to_cons : (p : ℕ) (ps : List ℕ) (k : ℕ) → ticks_to (p ∷ ps) k ≡ hit p k + ticks_to ps k
to_cons p ps zero = after_cons p ps 0
to_cons p ps (suc k) = omega (arith, to_cons p ps k, after_cons p ps (suc k))

pub no_hit : (b : Bool) → (b ≡ true → ⊥) → one_if b ≡ 0
no_hit true f = absurd (f refl)
no_hit false f = refl

hit_none : (p k : ℕ) → k < p → hit p k ≡ 0
hit_none p zero h = no_hit (p == 0) (λ e. let z = eqb-true p 0 e in omega arith)
hit_none p (suc k) h =
    let here = no_hit (p == suc k) (λ e. let z = eqb-true p (suc k) e in omega arith) in omega (arith, hit_none p k (omega arith), here)

hit_few_by : (p k : ℕ) (b : Bool) → (p == suc k) ≡ b → hit p k ≤ 1 → hit p k + one_if b ≤ 1
hit_few_by p k true e h = let z = eqb-true p (suc k) e in omega (arith, hit_none p k (omega arith))
hit_few_by p k false e h = omega arith

one_few : (b : Bool) → one_if b ≤ 1
one_few true = omega arith
one_few false = omega arith

hit_few : (p k : ℕ) → hit p k ≤ 1
hit_few p zero = one_few (p == 0)
hit_few p (suc k) = hit_few_by p k (p == suc k) refl (hit_few p k)

to_nil : (k : ℕ) → ticks_to [] k ≡ 0
to_nil zero = refl
to_nil (suc k) = omega (arith, to_nil k)

pub ticks_to_few : (ps : List ℕ) (k : ℕ) → ticks_to ps k ≤ length ps
ticks_to_few [] k = omega (arith, to_nil k)
ticks_to_few (p ∷ ps) k = omega (arith, to_cons p ps k, hit_few p k, ticks_to_few ps k)

-- a run that isn't there for so many steps isn't there for more
none_after : (w : World) (s : State) (ps input : List ℕ) (k j : ℕ) → after w s ps input k ≡ None → after w s ps input (k + j) ≡ None
none_after w s ps input k zero e = let z : k + 0 ≡ k = omega arith in rw z e
none_after w s ps input k (suc j) e =
    let z : k + suc j ≡ suc (k + j) = omega arith in
    rw z (ap (λ (r : Option Reached). then_ticks (ticks_after ps (suc (k + j))) (then_step w input r)) (none_after w s ps input k j e))

pub none_stays : (w : World) (s : State) (ps input : List ℕ) (k n : ℕ) → k ≤ n → after w s ps input k ≡ None → after w s ps input n ≡ None
none_stays w s ps input k n h e =
    let same : k + (n - k) ≡ n = omega arith in ap (λ (m : ℕ). after w s ps input m) (sym same) ∙ none_after w s ps input k (n - k) e

pub next_turn : (w : World) (s : State) (ps input : List ℕ) (k : ℕ) (r : Reached) (o : Option Reached) → after w s ps input k ≡ Some r → o ≡ then_ticks (ticks_after ps (suc k)) (then_step w input (Some r)) → after w s ps input (suc k) ≡ o
next_turn w s ps input k r o e t = ap (λ (q : Option Reached). then_ticks (ticks_after ps (suc k)) (then_step w input q)) e ∙ sym t
