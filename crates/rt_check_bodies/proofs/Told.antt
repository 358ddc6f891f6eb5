-- What is answered where memory may have run out.
use Rattle.std.proofs.Common.{◌≡◌, Option, Err, inl, inr, refl, sym, ap, ◌∙◌}
use Rattle.rt_syntax_exprs.specs.declared.tree.Expr.{Expr}
use Rattle.rt_modes.specs.declared.mode.Mode.{Mode}
use Rattle.rt_tree_nodes.specs.declared.value.Place.{Place}
use Rattle.rt_check_faults.specs.declared.fault.CheckFault.{CheckFault}
use Rattle.rt_check_faults.specs.declared.fault.CheckFault.TheVariants as fault
use Rattle.rt_check_faults.specs.Outcomes.{Outcome, UnlessMemory, sooner}
use Rattle.rt_check_faults.proofs.Joins.{given, told, free, sooner_left, sooner_right}
use Rattle.rt_exprs.specs.Sights.{Sight}
use Rattle.rt_check_bodies.specs.Sights.{alone_in, assigned_in}

-- a fault as an answer
pub told_err : {A : Type 0} (f g : CheckFault) → UnlessMemory f (f ≡ g) → (o : Outcome A) → o ≡ Err g → UnlessMemory f (o ≡ Err f)
told_err f g h o e = elim (told f (f ≡ g) h) [
  | inl m ↦ free f (o ≡ Err f) m
  | inr i ↦ given f (o ≡ Err f) (e ∙ ap (λ (x : CheckFault). Err x) (sym i))
]

-- where memory didn't run out
pub told_known : (f g : CheckFault) → UnlessMemory f (f ≡ g) → (f ≡ fault.Memory → ⊥) → f ≡ g
told_known f g h n = elim (told f (f ≡ g) h) [
  | inl m ↦ absurd (n m)
  | inr i ↦ i
]

-- an assignment to what is unfit or can't be known
pub assigned_err : (s : Sight) (e : Expr) (f g : CheckFault) (t : Outcome (Option Place × Mode)) → UnlessMemory f (t ≡ Err f) → UnlessMemory g (g ≡ alone_in s e) → UnlessMemory (sooner f g) (assigned_in s t e ≡ Err (sooner f g))
assigned_err s e f g t h k = elim (told f (t ≡ Err f) h) [
  | inl m ↦ free (sooner f g) (assigned_in s t e ≡ Err (sooner f g)) (ap (λ (q : CheckFault). sooner q g) m ∙ sooner_left g)
  | inr d ↦ elim (told g (g ≡ alone_in s e) k) [
    | inl m ↦ free (sooner f g) (assigned_in s t e ≡ Err (sooner f g)) (ap (sooner f) m ∙ sooner_right f)
    | inr i ↦ given (sooner f g) (assigned_in s t e ≡ Err (sooner f g)) (rw (d, i) refl)
  ]
]
