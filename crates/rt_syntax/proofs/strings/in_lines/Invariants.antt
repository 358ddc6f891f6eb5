use Rattle.std.proofs.Common.{◌≡◌, drop, map}
use Rattle.rt_syntax.specs.Strings as spec
use Rattle.rt_syntax.specs.Strings.{text_of}
use Rattle.rt_syntax.proofs.strings.in_lines.Given as goal

abbrev pub invariant-loop-line : goal.invariant-loop-line
invariant-loop-line l = spec.in_lines (drop l.line-index l.lines) (map text_of l.found) ≡ spec.in_lines l.lines (map text_of l.initial.found)
