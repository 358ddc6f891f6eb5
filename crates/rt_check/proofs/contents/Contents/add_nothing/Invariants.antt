use Rattle.std.proofs.Common.{◌≡◌, ◌++◌, replicate}
use Rattle.rt_check_module.specs.Tree as spec
use Rattle.rt_check.proofs.contents.Contents.add_nothing.Given as goal

abbrev pub invariant-loop : goal.invariant-loop
invariant-loop l = l.self ≡ record { fillings = l.initial.self.fillings ++ replicate l.counter spec.nothing; fault = l.initial.self.fault }
