use Rattle.std.proofs.Common.{◌≡◌, ◌++◌, None, drop}
use Rattle.rt_exprs.specs.Names.{find_in}
use Rattle.rt_check_declared.specs.Verdicts.{with_faults}
use Rattle.rt_check_declared.specs.Parts.{parts, parts_faults}
use Rattle.rt_check_declared.proofs.parts.read_parts.Given as goal

abbrev pub invariant-loop-line : goal.invariant-loop-line
invariant-loop-line l = (l.parts ++ parts (find_in l.levels) l.recovers (drop l.line-index l.lines) ≡ parts (find_in l.levels) l.recovers l.lines) × (with_faults l.fault (parts_faults (find_in l.levels) l.recovers (drop l.line-index l.lines)) ≡ with_faults None (parts_faults (find_in l.levels) l.recovers l.lines))
