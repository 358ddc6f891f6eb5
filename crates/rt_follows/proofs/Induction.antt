-- One induction over the number of instructions discharges what each procedure assumes of the others.
use Rattle.std.proofs.Common.{◌≡◌, ℕ, zero, suc, ◌<◌, true, sym, subst, inl, inr, arith}
use Rattle.std.specs.Prelude.{◌⊎◌}
use Rattle.rt_tree_nodes.specs.declared.store.Proc.{Proc}
use Rattle.rt_meaning_laws.specs.Work.{IsProcedure}
use Rattle.rt_follows.specs.Whole.{Whole, Home, Sits}
use Rattle.rt_follows.specs.Runs.{ProcRuns, RoutinesRun, Before}
use Rattle.rt_follows.specs.Linked.{Linked}

less_or_same : (j k : ℕ) → j < suc k → (j < k) ⊎ (j ≡ k)
less_or_same j k h = grind arith

module _ (w : Whole) (linked : Linked w) (h : Home) (sits : Sits w h) where
  pub before : (k : ℕ) → Before w h k
  before zero = record { procs = λ j less f is there. absurd (omega (arith, less)); routines = λ j less. absurd (omega (arith, less)) }
  before (suc k) =
      let b = before k in
      record {
        procs = λ j less f is there. elim (less_or_same j k less) as (λ _. ProcRuns w h j f) [ inl p ↦ b.procs j p f is there | inr e ↦ subst (λ n. ProcRuns w h n f) (sym e) (linked.procs h k f sits b is there) ];
        routines = λ j less. elim (less_or_same j k less) as (λ _. RoutinesRun w h j) [ inl p ↦ b.routines j p | inr e ↦ subst (λ n. RoutinesRun w h n) (sym e) (linked.routines h k sits b) ];
      }

  -- every procedure that is reached runs, for any number of instructions
  pub all_run : (k : ℕ) (f : Proc) → IsProcedure w.ps f → w.reached f ≡ true → ProcRuns w h k f
  all_run k f is there = linked.procs h k f sits (before k) is there
