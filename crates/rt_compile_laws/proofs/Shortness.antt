-- No procedure's code is too long, or there is a first one that is.
use Rattle.std.proofs.Common.{◌≡◌, ◌⊎◌, inl, inr, ℕ, zero, suc, ◌<◌, ◌≤◌, Bool, true, false, List, [], ◌∷◌, Some, refl, subst, arith}
use Rattle.std.specs.Prelude.{slice_get, nat_le}
use Rattle.std.proofs.lemmas.Bool.Decides.{nat_tests}
use Rattle.rt_bricks_laws.proofs.AllLists.{some_is, no_some}
use Rattle.rt_icode.specs.declared.procedure.IModule.{IModule}
use Rattle.rt_icode.specs.declared.procedure.IProc.{IProc}
use Rattle.rt_templates.specs.Expanded.{most, size_of, IsTooLong}
use Rattle.rt_compile.specs.Objects.{AreShort}

abbrev AllShort : List IProc → Type 0
AllShort qs = (k : ℕ) (q : IProc) → slice_get qs k ≡ Some q → size_of q.code ≤ most

record HasFirst (qs : List IProc) : Type 0 where
  number : ℕ
  proc : IProc
  at : slice_get qs number ≡ Some proc
  long : most < size_of proc.code
  before : (k : ℕ) (q : IProc) → k < number → slice_get qs k ≡ Some q → size_of q.code ≤ most

fits_or : (n : ℕ) → (n ≤ most) ⊎ (most < n)
fits_or n = by_test (nat_le n most) refl where
  by_test : (b : Bool) → nat_le n most ≡ b → (n ≤ most) ⊎ (most < n)
  by_test true e = inl (grind (arith, nat_tests))
  by_test false e = inr (grind (arith, nat_tests))

module _ (q : IProc) (qs : List IProc) where
  all_more : size_of q.code ≤ most → AllShort qs → AllShort (q ∷ qs)
  all_more s h zero x e = subst (λ (y : IProc). size_of y.code ≤ most) (some_is q x e) s
  all_more s h (suc k) x e = h k x e

  first_more : size_of q.code ≤ most → HasFirst qs → HasFirst (q ∷ qs)
  first_more s h = record { number = suc h.number; proc = h.proc; at = h.at; long = h.long; before = before } where
    before : (k : ℕ) (x : IProc) → k < suc h.number → slice_get (q ∷ qs) k ≡ Some x → size_of x.code ≤ most
    before zero x l e = subst (λ (y : IProc). size_of y.code ≤ most) (some_is q x e) s
    before (suc k) x l e = h.before k x (omega (arith, l)) e

  next_or : (size_of q.code ≤ most) ⊎ (most < size_of q.code) → AllShort qs ⊎ HasFirst qs → AllShort (q ∷ qs) ⊎ HasFirst (q ∷ qs)
  next_or (inl s) (inl h) = inl (all_more s h)
  next_or (inl s) (inr h) = inr (first_more s h)
  next_or (inr long) h = inr (record { number = 0; proc = q; at = refl; long = long; before = λ k x l e. absurd (omega (arith, l)) })

all_or : (qs : List IProc) → AllShort qs ⊎ HasFirst qs
all_or [] = inl (λ k q e. no_some q e)
all_or (q ∷ qs) = next_or q qs (fits_or (size_of q.code)) (all_or qs)

pub short_or_long : (m : IModule) → AreShort m ⊎ ((name : List ℕ) × IsTooLong m name)
short_or_long m = elim (all_or m.procs) [
  | inl h ↦ inl h
  | inr f ↦ inr (f.proc.name, record { number = f.number; proc = f.proc; at = f.at; named = refl; long = f.long; before = f.before })
]
