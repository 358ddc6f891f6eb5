use Rattle.std.proofs.Common.{◌≡◌, drop, map}
use Rattle.rt_syntax.specs.Strings as spec
use Rattle.rt_syntax.specs.Strings.{text_of}
use Rattle.rt_syntax.proofs.strings.+conditions.Given as goal

abbrev pub invariant-in_conditions-loop-condition : goal.invariant-in_conditions-loop-condition
invariant-in_conditions-loop-condition l = spec.all (map spec.in_cond (drop l.condition-index l.conditions)) (map text_of l.found) ≡ spec.all (map spec.in_cond l.conditions) (map text_of l.initial.found)
