use Rattle.std.proofs.Common.{◌≡◌, drop}
use Rattle.rt_check_declared.specs.Fields.{faults_by}
use Rattle.rt_check_declared.specs.Verdicts.{fit, with_faults}
use Rattle.rt_check_declared.specs.declared.written.Resolved.TheVariants as resolved
use Rattle.rt_check_declared.proofs.fields.note_lengths.Given as goal

abbrev pub invariant-loop-name : goal.invariant-loop-name
invariant-loop-name l = with_faults l.faults (faults_by (fit resolved.BadLength) (drop l.name-index l.names)) ≡ with_faults l.initial.faults (faults_by (fit resolved.BadLength) l.names)
