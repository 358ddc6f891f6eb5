use Rattle.std.proofs.Common.{◌≡◌, ◌++◌, map, drop}
use Rattle.rt_syntax.specs.Strings.{text_of}
use Rattle.rt_check_module.specs.Strings as spec
use Rattle.rt_check_module.proofs.strings.+texts.Given as goal

abbrev pub invariant-add_all_texts-loop-part : goal.invariant-add_all_texts-loop-part
invariant-add_all_texts-loop-part l = map text_of l.found ++ spec.all (map (spec.texts l.items.keys) (drop l.part-index l.parts)) ≡ map text_of l.initial.found ++ spec.all (map (spec.texts l.items.keys) l.parts)
