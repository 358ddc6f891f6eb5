use Rattle.std.proofs.Common.{◌≡◌, drop}
use Rattle.rt_check_declared.specs.Verdicts.{with_faults}
use Rattle.rt_check_declared.specs.Parts.{line_faults}
use Rattle.rt_check_declared.specs.declared.parts.Line.TheVariants as line
use Rattle.rt_check_declared.specs.Names.{idents}
use Rattle.rt_check_declared.proofs.parts.note_item_lengths.Given as goal

abbrev pub invariant-loop-item : goal.invariant-loop-item
invariant-loop-item l = with_faults l.faults (line_faults line.BadLength (idents (drop l.item-index l.items))) ≡ with_faults l.initial.faults (line_faults line.BadLength (idents l.items))
