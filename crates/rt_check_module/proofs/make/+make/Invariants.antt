use Rattle.std.proofs.Common.{◌≡◌, ◌++◌, map, drop}
use Rattle.std.specs.Prelude.{replicate}
use Rattle.rt_check_module.specs.Starts as spec
use Rattle.rt_check_module.proofs.make.+make.Given as goal

abbrev pub invariant-make_each-loop-part : goal.invariant-make_each-loop-part
invariant-make_each-loop-part l = l.made ++ spec.each_made (map (spec.written_in l.scope) (drop l.part-index l.parts)) l.mode ≡ spec.each_made (map (spec.written_in l.scope) l.parts) l.mode

abbrev pub invariant-make_each-loop-copy : goal.invariant-make_each-loop-copy
invariant-make_each-loop-copy l = l.made ≡ l.initial.made ++ replicate l._copy ((spec.written_in l.scope l.part).made l.mode)

abbrev pub invariant-make_fields-loop-part : goal.invariant-make_fields-loop-part
invariant-make_fields-loop-part l = l.made ++ spec.fields_made (map (spec.written_in l.scope) (drop l.part-index l.parts)) l.left ≡ spec.fields_made (map (spec.written_in l.scope) l.parts) l.fields

abbrev pub invariant-make_fields-loop-field : goal.invariant-make_fields-loop-field
invariant-make_fields-loop-field l = l.made ++ spec.all_made (spec.written_in l.scope l.part) (drop l.field-index l.these) ≡ l.initial.made ++ spec.all_made (spec.written_in l.scope l.part) l.these
