use Rattle.std.proofs.Common.{◌≡◌, map, drop}
use Rattle.rt_check_declared.specs.Verdicts.{with_faults}
use Rattle.rt_check_module.specs.Starts as spec
use Rattle.rt_check_module.proofs.judge.+unknown.Given as goal

abbrev pub invariant-note_all_unknown-loop-part : goal.invariant-note_all_unknown-loop-part
invariant-note_all_unknown-loop-part l =
    with_faults l.faults (spec.all_unknown (map (spec.written_in l.scope) (drop l.part-index l.parts))) ≡ with_faults l.initial.faults (spec.all_unknown (map (spec.written_in l.scope) l.parts))
