use Rattle.std.proofs.Common.{◌≡◌, ◌++◌, drop}
use Rattle.rt_exprs.specs.Names.{find_in}
use Rattle.rt_check_declared.specs.Heads.{definitions, heads}
use Rattle.rt_check_declared.specs.Records.{record_modes}
use Rattle.rt_check_declared.proofs.records.read_modes.Given as goal

abbrev pub invariant-loop-declaration : goal.invariant-loop-declaration
invariant-loop-declaration l = (l.read.records ++ definitions (find_in l.levels) (record_modes (drop l.declaration-index l.declarations)) ≡ definitions (find_in l.levels) (record_modes l.declarations))
    × (l.read.heads ++ heads (find_in l.levels) (record_modes (drop l.declaration-index l.declarations)) ≡ heads (find_in l.levels) (record_modes l.declarations))
