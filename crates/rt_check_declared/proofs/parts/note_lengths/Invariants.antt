use Rattle.std.proofs.Common.{◌≡◌, drop}
use Rattle.rt_check_declared.specs.Verdicts.{with_faults}
use Rattle.rt_check_declared.specs.Parts.{line_faults}
use Rattle.rt_check_declared.specs.declared.parts.Line.TheVariants as line
use Rattle.rt_check_declared.proofs.parts.note_lengths.Given as goal

abbrev pub invariant-loop-name : goal.invariant-loop-name
invariant-loop-name l = with_faults l.faults (line_faults line.BadLength (drop l.name-index l.names)) ≡ with_faults l.initial.faults (line_faults line.BadLength l.names)
