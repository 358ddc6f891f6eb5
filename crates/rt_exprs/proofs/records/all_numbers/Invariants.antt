use Rattle.std.proofs.Common.{take}
use Rattle.rt_exprs.specs.Indexed.{FindsAllFields}
use Rattle.rt_exprs.proofs.records.all_numbers.Given as goal

abbrev pub invariant-loop-definition : goal.invariant-loop-definition
invariant-loop-definition l = FindsAllFields (take l.definition-index l.records) l.maps
