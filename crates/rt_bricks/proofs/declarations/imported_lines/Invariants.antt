use Rattle.std.proofs.Common.{◌≡◌, ◌-◌}
use Rattle.rt_bricks.specs.DeclarationParser as reads
use Rattle.rt_bricks.proofs.declarations.imported_lines.Given as goal

abbrev pub invariant-loop-turn : goal.invariant-loop-turn
invariant-loop-turn l = reads.imported_lines l.context l.fn.items ≡ reads.more_imported_lines l.context (l._turn-end - l._turn) l.all l.rest
