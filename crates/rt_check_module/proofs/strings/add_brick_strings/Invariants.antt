use Rattle.std.proofs.Common.{◌≡◌, ◌++◌, map, drop}
use Rattle.rt_syntax.specs.Strings.{text_of}
use Rattle.rt_check_module.specs.Strings as spec
use Rattle.rt_check_module.proofs.strings.add_brick_strings.Given as goal

abbrev pub invariant-loop-line : goal.invariant-loop-line
invariant-loop-line l = map text_of l.found ++ spec.brick_texts l.modes.records (drop l.line-index l.lines) l.left ≡ map text_of l.initial.found ++ spec.brick_texts l.modes.records l.lines l.parts
