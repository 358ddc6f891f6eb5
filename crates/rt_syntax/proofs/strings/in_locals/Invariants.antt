use Rattle.std.proofs.Common.{◌≡◌, drop, map}
use Rattle.rt_syntax.specs.Strings as spec
use Rattle.rt_syntax.specs.Strings.{text_of}
use Rattle.rt_syntax.proofs.strings.in_locals.Given as goal

abbrev pub invariant-loop-local : goal.invariant-loop-local
invariant-loop-local l = spec.in_locals (drop l.local-index l.locals) (map text_of l.found) ≡ spec.in_locals l.locals (map text_of l.initial.found)
