use Rattle.std.proofs.Common.{◌≡◌, ◌++◌, drop, map}
use Rattle.rt_check_declared.proofs.procedures.modes_of.Given as goal

abbrev pub invariant-loop-field : goal.invariant-loop-field
invariant-loop-field l = l.modes ++ map (λ f. f.mode) (drop l.field-index l.fields) ≡ map (λ f. f.mode) l.fields
