use Rattle.std.proofs.Common.{◌≡◌, ◌++◌, drop}
use Rattle.rt_check_declared.specs.Fields.{fields_by}
use Rattle.rt_check_declared.specs.Verdicts.{fit}
use Rattle.rt_check_declared.specs.declared.written.Resolved.TheVariants as resolved
use Rattle.rt_check_declared.proofs.fields.add_fields.Given as goal

abbrev pub invariant-loop-name : goal.invariant-loop-name
invariant-loop-name l = l.fields ++ fields_by (fit (resolved.Mode l.mode)) (drop l.name-index l.names) ≡ l.initial.fields ++ fields_by (fit (resolved.Mode l.mode)) l.names
