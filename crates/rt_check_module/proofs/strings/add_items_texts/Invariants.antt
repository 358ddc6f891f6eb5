use Rattle.std.proofs.Common.{◌≡◌, ◌++◌, map, drop}
use Rattle.rt_syntax.specs.Strings.{text_of}
use Rattle.rt_check_module.specs.Strings as spec
use Rattle.rt_check_module.proofs.strings.add_items_texts.Given as goal

abbrev pub invariant-loop-item : goal.invariant-loop-item
invariant-loop-item l = map text_of l.found ++ spec.items_texts l.modes.records (drop l.item-index l.items) l.left ≡ map text_of l.initial.found ++ spec.items_texts l.modes.records l.items l.parts
