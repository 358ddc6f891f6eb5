use Rattle.std.proofs.Common.{◌≡◌, ◌++◌, None, drop}
use Rattle.rt_exprs.specs.Names.{find_in}
use Rattle.rt_check_declared.specs.Fields.{written_fields, mode_faults}
use Rattle.rt_check_declared.specs.Verdicts.{with_faults}
use Rattle.rt_check_declared.proofs.fields.read_fields.Given as goal

abbrev pub invariant-loop-line : goal.invariant-loop-line
invariant-loop-line l = (l.found.fields ++ written_fields (find_in l.levels) l.site (drop l.line-index l.lines) ≡ written_fields (find_in l.levels) l.site l.lines)
    × (with_faults l.found.fault (mode_faults (find_in l.levels) l.site (drop l.line-index l.lines)) ≡ with_faults None (mode_faults (find_in l.levels) l.site l.lines))
