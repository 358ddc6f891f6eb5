use Rattle.std.proofs.Common.{◌≡◌, ◌++◌, drop}
use Rattle.rt_graph.specs.Classes.{texts_of}
use Rattle.rt_graph.proofs.taken.texts_of.Given as goal

abbrev pub invariant-loop-number : goal.invariant-loop-number
invariant-loop-number l = l.texts ++ texts_of l.objects l.marks l.number (drop l.number l.row) ≡ texts_of l.objects l.marks 0 l.row
