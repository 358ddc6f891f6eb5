use Rattle.std.proofs.Common.{◌≡◌, true, map, take, drop}
use Rattle.std.specs.List.{list_all}
use Rattle.rt_tree.specs.Modules.{is_short}
use Rattle.rt_resolve.specs.Starting.{text_length}
use Rattle.rt_resolve.proofs.system.text_lengths.Given as goal

abbrev pub invariant-loop-bytes : goal.invariant-loop-bytes
invariant-loop-bytes l = (l.made ≡ map text_length (take l.bytes-index l.strings)) × (list_all is_short (drop l.bytes-index l.strings) ≡ true)
