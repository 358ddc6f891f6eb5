use Rattle.std.proofs.Common.{◌≡◌, map, drop}
use Rattle.rt_compile.specs.Marks.{all_marked}
use Rattle.rt_modes.specs.FullMode.{joined}
use Rattle.rt_tree.specs.Taken.{in_start}
use Rattle.rt_compile.proofs.taken.starts.+starts.Given as goal

abbrev pub invariant-starts-loop-one : goal.invariant-starts-loop-one
invariant-starts-loop-one l = all_marked (joined (map in_start (drop l.one-index l.all))) l.marks ≡ all_marked (joined (map in_start l.all)) l.initial.marks
