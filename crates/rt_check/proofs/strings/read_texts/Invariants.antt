use Rattle.std.proofs.Common.{◌≡◌, [], map, drop}
use Rattle.rt_syntax.specs.Strings.{text_of}
use Rattle.rt_check_module.specs.Tree as spec
use Rattle.rt_check.proofs.strings.read_texts.Given as goal

abbrev pub invariant-loop-declaration : goal.invariant-loop-declaration
invariant-loop-declaration l = spec.texts_from l.modes.records (map text_of l.found) l.left (drop l.declaration-index l.declarations) ≡ spec.texts_from l.modes.records [] l.bricks l.declarations
