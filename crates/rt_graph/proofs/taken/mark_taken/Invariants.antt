use Rattle.std.proofs.Common.{◌≡◌, drop}
use Rattle.rt_graph.specs.Classes.{mark_taken}
use Rattle.rt_graph.proofs.taken.mark_taken.Given as goal

abbrev pub invariant-loop-brick : goal.invariant-loop-brick
invariant-loop-brick l = mark_taken l.objects l.bindings.of l.«module» (drop l.brick-index l.taken) l.marks ≡ mark_taken l.objects l.bindings.of l.«module» l.taken l.initial.marks
