-- Where who waits owns lower facilities alone, no tasks wait for each other in a ring.
use Rattle.std.proofs.Common.{◌≡◌, ℕ, zero, suc, ◌+◌, ◌<◌, List, [], ◌∷◌, Some, slice_get, length, get_or, refl, ◌∙◌, subst, arith}
use Rattle.std.proofs.lemmas.Option.{slice_get-get_or}
use Rattle.rt_rules.specs.declared.task.State.TheVariants.{Facility}
use Rattle.rt_rules.specs.Roster.{Roster, row, owner_of, IsTask, IsNumber}
use Rattle.rt_rules.specs.Laws.{WaitersWait}
use Rattle.rt_guards_laws.specs.Owning.{WaitersOwnLower}
use Rattle.rt_guards_laws.specs.Rings.{WaitsFor, IsRing, RingsAreRefused}

-- what stands before an element of a list
before : (is : List ℕ) (k j : ℕ) → slice_get is (suc k) ≡ Some j → (i : ℕ) × (slice_get is k ≡ Some i)
before [] k j e = cc
before (i ∷ is) zero j e = (i, refl)
before (i ∷ is) (suc k) j e = before is k j e

-- From the facility for which the last one waits they rise, each above the one before.
rises : (r : Roster) (wait : WaitersWait r) (low : WaitersOwnLower r) (i0 : ℕ) (rest : List ℕ) (ring : IsRing r (i0 ∷ rest)) (f : ℕ) → IsNumber f → owner_of r f ≡ i0
    → (k i n : ℕ) → slice_get (i0 ∷ rest) k ≡ Some i → IsTask r i → (row r i).state ≡ Facility n → f < n
rises r wait low i0 rest ring f number own zero i n at there waits =
    let same : i0 ≡ i = cc in low i n f there waits number (own ∙ same)
rises r wait low i0 rest ring f number own (suc k) j n at there waits =
    let b = before (i0 ∷ rest) k j at in
    let next : suc k ≡ k + 1 = omega arith in
    let w : WaitsFor r b.0 j = ring.next k b.0 j b.1 (subst (λ x. slice_get (i0 ∷ rest) x ≡ Some j) next at) in
    let lower : f < w.facility = rises r wait low i0 rest ring f number own k b.0 w.facility b.1 w.there w.waits in
    let higher : w.facility < n = low j n w.facility there waits (wait b.0 w.facility w.there w.waits).0 w.owned in
    omega (arith, lower, higher)

pub rings_are_refused : RingsAreRefused
rings_are_refused r wait low [] ring = omega (arith, ring.some)
rings_are_refused r wait low (i0 ∷ rest) ring =
    let i : ℕ = get_or (i0 ∷ rest) (length rest) 0 in
    let at : slice_get (i0 ∷ rest) (length rest) ≡ Some i = slice_get-get_or (i0 ∷ rest) (length rest) 0 (omega arith) in
    let w : WaitsFor r i i0 = ring.last (length rest) i i0 refl at refl in
    let less : w.facility < w.facility = rises r wait low i0 rest ring w.facility (wait i w.facility w.there w.waits).0 w.owned (length rest) i w.facility at w.there w.waits in
    omega (arith, less)
