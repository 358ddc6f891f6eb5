use Rattle.std.proofs.Common.{◌≡◌, ◌++◌, None, drop}
use Rattle.rt_exprs.specs.Names.{find_in}
use Rattle.rt_check_declared.specs.Verdicts.{with_faults}
use Rattle.rt_check_declared.specs.Parts.{item_parts, item_faults}
use Rattle.rt_check_declared.proofs.parts.read_items.Given as goal

abbrev pub invariant-loop-line : goal.invariant-loop-line
invariant-loop-line l = (l.parts ++ item_parts (find_in l.levels) (drop l.line-index l.lines) ≡ item_parts (find_in l.levels) l.lines) × (with_faults l.fault (item_faults (find_in l.levels) (drop l.line-index l.lines)) ≡ with_faults None (item_faults (find_in l.levels) l.lines))
