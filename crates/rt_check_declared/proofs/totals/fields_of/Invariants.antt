use Rattle.std.proofs.Common.{◌≡◌, drop}
use Rattle.rt_check_declared.specs.Totals.{all_fields}
use Rattle.rt_check_declared.proofs.Large.{joined}
use Rattle.rt_check_declared.proofs.totals.fields_of.Given as goal

abbrev pub invariant-loop-part : goal.invariant-loop-part
invariant-loop-part l = joined l.fields (all_fields (drop l.part-index l.parts)) ≡ all_fields l.parts
