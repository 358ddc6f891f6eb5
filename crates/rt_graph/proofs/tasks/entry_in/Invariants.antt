use Rattle.std.proofs.Common.{◌≡◌, drop}
use Rattle.rt_graph.specs.Scans.{entry_in}
use Rattle.rt_graph.proofs.tasks.entry_in.Given as goal

abbrev pub invariant-loop-number : goal.invariant-loop-number
invariant-loop-number l = entry_in l.name l.«module» l.number (drop l.number l.bricks) ≡ entry_in l.name l.«module» 0 l.bricks
