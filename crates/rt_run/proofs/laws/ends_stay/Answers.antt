use Rattle.std.proofs.Common.{◌≡◌, ℕ, zero, suc, ◌+◌, ◌-◌, List, ap, subst, arith}
use Rattle.rt_image.specs.declared.image.ImageParts.{ImageParts}
use Rattle.rt_run.specs.Boundaries.{State, Why, Over, boundary, onward}
use Rattle.rt_run.proofs.laws.ends_stay.Goals as goal

-- so many instructions later
later : (image : ImageParts) (gaps all : List ℕ) (k n m : ℕ) (why : Why) (s : State) → m ≡ n + k → boundary image gaps all k ≡ Over why s → boundary image gaps all m ≡ Over why s
later image gaps all k zero m why s e h = let same : k ≡ m = omega (arith, e) in subst (λ (j : ℕ). boundary image gaps all j ≡ Over why s) same h
later image gaps all k (suc n) zero why s e h = absurd (omega (arith, e))
later image gaps all k (suc n) (suc m) why s e h = ap (onward image all) (later image gaps all k n m why s (omega (arith, e)) h)

pub returns : goal.returns
returns c image gaps all limit limit2 why s h less = later image gaps all limit (limit2 - limit) limit2 why s (omega (arith, less)) h
