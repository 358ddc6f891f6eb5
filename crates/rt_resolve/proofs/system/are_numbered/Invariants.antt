use Rattle.std.proofs.Common.{take}
use Rattle.std.specs.Prelude.{All}
use Rattle.rt_resolve.specs.Systems.{IsNumbered}
use Rattle.rt_resolve.proofs.system.are_numbered.Given as goal

abbrev pub invariant-loop-module : goal.invariant-loop-module
invariant-loop-module l = All IsNumbered (take l.module-index l.modules)
