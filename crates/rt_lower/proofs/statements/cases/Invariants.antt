use Rattle.std.proofs.Common.{◌≡◌, ◌++◌, map}
use Rattle.rt_work_state.specs.Nodes as n
use Rattle.rt_lower.specs.declared.draft.Piece.TheVariants as piece
use Rattle.rt_lower.proofs.statements.cases.Given as goal

abbrev pub invariant-loop-rest : goal.invariant-loop-rest
invariant-loop-rest l = l.code ++ map piece.Case (n.labels l.rest) ≡ l.initial.code ++ map piece.Case (n.labels l.initial.labels)
