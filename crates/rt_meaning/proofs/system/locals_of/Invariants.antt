use Rattle.std.proofs.Common.{◌≡◌, ◌-◌, length}
use Rattle.rt_meaning.specs.Step.{locals_of}
use Rattle.rt_meaning.proofs.system.locals_of.Given as goal

abbrev pub invariant-loop-locals : goal.invariant-loop-locals
invariant-loop-locals l = locals_of l.locals l.size ≡ locals_of l.fn.args l.size

abbrev pub decreases-loop-locals : goal.decreases-loop-locals
decreases-loop-locals l = l.size - length l.locals
