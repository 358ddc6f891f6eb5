use Rattle.std.proofs.Common.{◌≡◌, drop}
use Rattle.std.specs.List.{list_all}
use Rattle.rt_tree.specs.Modules as modules
use Rattle.rt_tree.proofs.bricks.are_short.Given as goal

abbrev pub invariant-loop-string : goal.invariant-loop-string
invariant-loop-string l = list_all modules.is_short (drop l.string-index l.strings) ≡ list_all modules.is_short l.strings
