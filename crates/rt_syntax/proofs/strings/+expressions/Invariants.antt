use Rattle.std.proofs.Common.{◌≡◌, drop, map}
use Rattle.rt_syntax.specs.Strings as spec
use Rattle.rt_syntax.specs.Strings.{text_of}
use Rattle.rt_syntax.proofs.strings.+expressions.Given as goal

abbrev pub invariant-in_arguments-loop-argument : goal.invariant-in_arguments-loop-argument
invariant-in_arguments-loop-argument l = spec.all (map spec.in_expr (drop l.argument-index l.arguments)) (map text_of l.found) ≡ spec.all (map spec.in_expr l.arguments) (map text_of l.initial.found)

abbrev pub invariant-in_chain-loop-link : goal.invariant-in_chain-loop-link
invariant-in_chain-loop-link l = spec.all (map spec.in_link (drop l.link-index l.link-items)) (map text_of l.found) ≡ spec.all (map spec.in_link l.link-items) (map text_of l.initial.found)
