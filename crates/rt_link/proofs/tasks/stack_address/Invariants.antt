use Rattle.std.proofs.Common.{◌≡◌, ℕ, ◌<◌, false, get_or}
use Rattle.rt_tree_nodes.specs.declared.store.Proc.{Proc}
use Rattle.rt_graph.specs.Scans.{is_same}
use Rattle.rt_link.proofs.tasks.stack_address.Given as goal

abbrev pub invariant-loop-number : goal.invariant-loop-number
invariant-loop-number l = (k : ℕ) (d : Proc) → k < l.number → is_same l.of (get_or l.stacks k d) ≡ false
