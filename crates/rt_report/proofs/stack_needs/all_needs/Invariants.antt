use Rattle.std.proofs.Common.{◌≡◌, drop}
use Rattle.rt_tree_nodes.specs.declared.store.Proc.{Proc}
use Rattle.rt_graph.specs.Scans.{or_else, told_need}
use Rattle.rt_report.specs.StackNeeds.{need_in}
use Rattle.rt_report.proofs.stack_needs.all_needs.Given as goal

-- What the map tells, and else the list behind, is what the list tells.
abbrev pub invariant-loop-number : goal.invariant-loop-number
invariant-loop-number l = (g : Proc) → or_else (need_in l.map g) (told_need (drop l.number l.procs) (drop l.number l.needs) g) ≡ told_need l.procs l.needs g
