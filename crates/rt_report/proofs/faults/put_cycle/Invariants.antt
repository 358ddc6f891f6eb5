use Rattle.std.proofs.Common.{◌≡◌, ◌∷◌, decimal, map, take}
use Rattle.rt_report.specs.Lines.{texts_of}
use Rattle.rt_report.specs.Faults.{name_of}
use Rattle.rt_report.proofs.faults.put_cycle.Given as goal

abbrev pub invariant-loop-procedure : goal.invariant-loop-procedure
invariant-loop-procedure l = texts_of l.words ≡ decimal 14 ∷ decimal 64 ∷ map name_of (take l.procedure-index l.cycle)
