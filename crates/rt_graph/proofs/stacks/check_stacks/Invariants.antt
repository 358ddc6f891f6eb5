use Rattle.std.proofs.Common.{◌≡◌, ℕ, ◌<◌, Some, None, slice_get}
use Rattle.rt_system.specs.declared.parts.Task.{Task}
use Rattle.rt_graph.specs.Scans.{small, stack_named}
use Rattle.rt_graph.proofs.stacks.check_stacks.Given as goal

-- no task looked at has too few words
abbrev pub invariant-loop-task : goal.invariant-loop-task
invariant-loop-task l = (i : ℕ) (t : Task) → i < l.task-index → slice_get l.system.tasks i ≡ Some t → (small l.objects l.order.procs l.needs t ≡ None) × ((n : ℕ) → stack_named l.objects t.stack ≡ Some n → n < 65536)
