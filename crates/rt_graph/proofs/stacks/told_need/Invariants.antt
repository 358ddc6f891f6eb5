use Rattle.std.proofs.Common.{◌≡◌, drop}
use Rattle.rt_graph.specs.Scans.{told_need}
use Rattle.rt_graph.proofs.stacks.told_need.Given as goal

abbrev pub invariant-loop-number : goal.invariant-loop-number
invariant-loop-number l = told_need (drop l.number l.procs) (drop l.number l.needs) l.of ≡ told_need l.procs l.needs l.of
