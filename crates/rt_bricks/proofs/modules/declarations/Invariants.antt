use Rattle.std.proofs.Common.{◌≡◌, ◌-◌}
use Rattle.rt_bricks.specs.ModuleParser as reads
use Rattle.rt_bricks.proofs.modules.declarations.Given as goal

abbrev pub invariant-loop-turn : goal.invariant-loop-turn
invariant-loop-turn l = reads.declarations l.context l.fn.items ≡ reads.more_declarations l.context (l._turn-end - l._turn) l.all l.rest
