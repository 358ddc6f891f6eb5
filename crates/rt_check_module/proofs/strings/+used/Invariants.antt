use Rattle.std.proofs.Common.{◌≡◌, ◌++◌, None, [], map, drop}
use Rattle.rt_check_module.specs.Starts as spec
use Rattle.rt_check_module.specs.Starts.{written}
use Rattle.rt_check_module.proofs.strings.+used.Given as goal

abbrev pub invariant-used_in_each-loop-part : goal.invariant-used_in_each-loop-part
invariant-used_in_each-loop-part l = l.used ++ spec.in_each (λ w. w.used) (map (written l.modes.records (λ n. None) []) (drop l.part-index l.parts)) l.mode
    ≡ l.initial.used ++ spec.in_each (λ w. w.used) (map (written l.modes.records (λ n. None) []) l.parts) l.mode

abbrev pub invariant-used_in_fields-loop-part : goal.invariant-used_in_fields-loop-part
invariant-used_in_fields-loop-part l = l.used ++ spec.in_fields (λ w. w.used) (map (written l.modes.records (λ n. None) []) (drop l.part-index l.parts)) l.left
    ≡ l.initial.used ++ spec.in_fields (λ w. w.used) (map (written l.modes.records (λ n. None) []) l.parts) l.fields

abbrev pub invariant-used_in_fields-loop-field : goal.invariant-used_in_fields-loop-field
invariant-used_in_fields-loop-field l = l.used ++ spec.in_all (λ w. w.used) (written l.modes.records (λ n. None) [] l.part) (drop l.field-index l.these)
    ≡ l.initial.used ++ spec.in_all (λ w. w.used) (written l.modes.records (λ n. None) [] l.part) l.these
