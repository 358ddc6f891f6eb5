-- Tables by needs that are told alike.
use Rattle.std.proofs.Common.{◌≡◌, ◌++◌, ℕ, suc, List, [], ◌∷◌, Option, Some, None, refl, ap, ◌∙◌}
use Rattle.rt_tree_nodes.specs.declared.store.Proc.{Proc}
use Rattle.rt_object.specs.declared.object.Brick.{Brick}
use Rattle.rt_object.specs.declared.object.ObjectParts.{ObjectParts}
use Rattle.rt_system.specs.declared.parts.Task.{Task}
use Rattle.rt_graph.specs.Calls.{brick}
use Rattle.rt_graph.specs.Numbers.{and_then}
use Rattle.rt_graph.specs.Scans.{root_named, stack_named}
use Rattle.rt_report.specs.Stacks.{line_of, line_with, bricks_text, modules_text, task_text, tasks_text, table_text}

module _ (f g : Proc → Option ℕ) (same : (p : Proc) → f p ≡ g p) where
  same_bricks : (title : List ℕ) (m b : ℕ) (ds : List Brick) → bricks_text f title m b ds ≡ bricks_text g title m b ds
  same_bricks title m b [] = refl
  same_bricks title m b (d ∷ ds) =
      ap (λ (o : Option ℕ). line_of title d.name o ++ bricks_text f title m (suc b) ds) (same (brick m b))
      ∙ ap (λ (l : List ℕ). line_of title d.name (g (brick m b)) ++ l) (same_bricks title m (suc b) ds)

  same_modules : (m : ℕ) (os : List ObjectParts) → modules_text f m os ≡ modules_text g m os
  same_modules m [] = refl
  same_modules m (o ∷ os) =
      ap (λ (l : List ℕ). l ++ modules_text f (suc m) os) (same_bricks o.title m 0 o.bricks)
      ∙ ap (λ (l : List ℕ). bricks_text g o.title m 0 o.bricks ++ l) (same_modules (suc m) os)

  same_root : (o : Option Proc) → and_then o f ≡ and_then o g
  same_root None = refl
  same_root (Some p) = same p

  same_tasks : (objects : List ObjectParts) (ts : List Task) → tasks_text f objects ts ≡ tasks_text g objects ts
  same_tasks objects [] = refl
  same_tasks objects (t ∷ ts) =
      ap (λ (o : Option ℕ). line_with t o (stack_named objects t.stack) ++ tasks_text f objects ts) (same_root (root_named objects t.root))
      ∙ ap (λ (l : List ℕ). task_text g objects t ++ l) (same_tasks objects ts)

  pub same_table : (objects : List ObjectParts) (tasks : List Task) → table_text f objects tasks ≡ table_text g objects tasks
  same_table objects tasks =
      ap (λ (l : List ℕ). l ++ tasks_text f objects tasks) (same_modules 1 objects)
      ∙ ap (λ (l : List ℕ). modules_text g 1 objects ++ l) (same_tasks objects tasks)
