-- Outcomes of two operands that are joined.
use Rattle.std.proofs.Common.{◌≡◌, false, None, Ok, Err, inl, inr, refl, ap, ◌∙◌}
use Rattle.rt_check_faults.specs.declared.fault.CheckFault.{CheckFault}
use Rattle.rt_check_faults.specs.declared.fault.CheckFault.TheVariants.{WrongMode}
use Rattle.rt_check_faults.specs.Outcomes.{Outcome, sooner, UnlessMemory}
use Rattle.rt_check_faults.proofs.Joins.{given, told, free, sooner_left, sooner_right}
use Rattle.rt_grammar.specs.declared.at.At.{At}
use Rattle.rt_syntax_exprs.specs.declared.tree.Op2.{Op2}
use Rattle.rt_syntax_exprs.specs.declared.tree.Rel.{Rel}
use Rattle.rt_exprs.specs.Operands.{Judged, by_itself}
use Rattle.rt_exprs.specs.Judging.{dyadic, of_int, right_alone, compare, compares}

-- a left operand that isn't known, and a right one that is judged by itself
pub dyadic_err : (at : At) (op : Op2) (f g : CheckFault) (l r : Outcome Judged) → of_int op ≡ false → UnlessMemory f (l ≡ Err f) → UnlessMemory g (g ≡ right_alone op r) → UnlessMemory (sooner f g) (dyadic at op l r ≡ Err (sooner f g))
dyadic_err at op f g l r i h k = elim (told f (l ≡ Err f) h) [
  | inl m ↦ free (sooner f g) (dyadic at op l r ≡ Err (sooner f g)) (ap (λ (q : CheckFault). sooner q g) m ∙ sooner_left g)
  | inr e ↦ elim (told g (g ≡ right_alone op r) k) [
    | inl m ↦ free (sooner f g) (dyadic at op l r ≡ Err (sooner f g)) (ap (sooner f) m ∙ sooner_right f)
    | inr d ↦ given (sooner f g) (dyadic at op l r ≡ Err (sooner f g)) (rw (i, e, d) refl)
  ]
]

-- a left side that isn't known, and a right one that is judged by itself
pub compare_err : (r : Rel) (f g : CheckFault) (l b : Outcome Judged) → UnlessMemory f (l ≡ Err f) → UnlessMemory g (g ≡ by_itself b) → UnlessMemory (sooner f g) (compare r l b ≡ Err (sooner f g))
compare_err r f g l b h k = elim (told f (l ≡ Err f) h) [
  | inl m ↦ free (sooner f g) (compare r l b ≡ Err (sooner f g)) (ap (λ (q : CheckFault). sooner q g) m ∙ sooner_left g)
  | inr e ↦ elim (told g (g ≡ by_itself b) k) [
    | inl m ↦ free (sooner f g) (compare r l b ≡ Err (sooner f g)) (ap (sooner f) m ∙ sooner_right f)
    | inr d ↦ given (sooner f g) (compare r l b ≡ Err (sooner f g)) (rw (e, d) refl)
  ]
]

pub unwanted_err : (r : Rel) (j : Judged) (g : CheckFault) (l b : Outcome Judged) → l ≡ Ok j → compares r j.found.is ≡ None → UnlessMemory g (g ≡ by_itself b) → UnlessMemory (sooner (WrongMode j.found.at) g) (compare r l b ≡ Err (sooner (WrongMode j.found.at) g))
unwanted_err r j g l b e n k = elim (told g (g ≡ by_itself b) k) [
  | inl m ↦ free (sooner (WrongMode j.found.at) g) (compare r l b ≡ Err (sooner (WrongMode j.found.at) g)) (ap (sooner (WrongMode j.found.at)) m ∙ sooner_right (WrongMode j.found.at))
  | inr d ↦ given (sooner (WrongMode j.found.at) g) (compare r l b ≡ Err (sooner (WrongMode j.found.at) g)) (rw (e, n, d) refl)
]
