use Rattle.std.proofs.Common.{◌≡◌, ◌&&◌, map, drop}
use Rattle.rt_check_declared.specs.Verdicts.{with_faults}
use Rattle.rt_check_module.specs.Starts as spec
use Rattle.rt_check_module.proofs.judge.+judge.Given as goal

abbrev pub invariant-judge_each-loop-part : goal.invariant-judge_each-loop-part
invariant-judge_each-loop-part l = record {
  fit : l.fit && spec.each_fits (map (spec.written_in l.scope) (drop l.part-index l.parts)) l.mode ≡ spec.each_fits (map (spec.written_in l.scope) l.parts) l.mode;
  noted : with_faults l.faults (spec.in_each (λ w. w.private) (map (spec.written_in l.scope) (drop l.part-index l.parts)) l.mode)
      ≡ with_faults l.initial.faults (spec.in_each (λ w. w.private) (map (spec.written_in l.scope) l.parts) l.mode);
}

abbrev pub invariant-judge_fields-loop-part : goal.invariant-judge_fields-loop-part
invariant-judge_fields-loop-part l = record {
  fit : l.fit && spec.fields_fit (map (spec.written_in l.scope) (drop l.part-index l.parts)) l.left ≡ spec.fields_fit (map (spec.written_in l.scope) l.parts) l.fields;
  noted : with_faults l.faults (spec.in_fields (λ w. w.private) (map (spec.written_in l.scope) (drop l.part-index l.parts)) l.left)
      ≡ with_faults l.initial.faults (spec.in_fields (λ w. w.private) (map (spec.written_in l.scope) l.parts) l.fields);
}

abbrev pub invariant-judge_fields-loop-field : goal.invariant-judge_fields-loop-field
invariant-judge_fields-loop-field l = record {
  fit : l.fit && spec.all_fit (spec.written_in l.scope l.part) (drop l.field-index l.these) ≡ l.initial.fit && spec.all_fit (spec.written_in l.scope l.part) l.these;
  noted : with_faults l.faults (spec.in_all (λ w. w.private) (spec.written_in l.scope l.part) (drop l.field-index l.these))
      ≡ with_faults l.initial.faults (spec.in_all (λ w. w.private) (spec.written_in l.scope l.part) l.these);
}
