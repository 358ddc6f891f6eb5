use Rattle.std.proofs.Common.{◌≡◌, ◌≤◌, None}
use Rattle.rt_pieces.specs.Begins.{IsInside}
use Rattle.rt_pieces.specs.Steps.{cuts_of, cuts_at, weight}
use Rattle.rt_pieces.proofs.cut.next_piece.Given as goal

abbrev pub invariant-loop-next : goal.invariant-loop-next
invariant-loop-next l = (cuts_of l.total None l.start.line l.start.bytes.now ≡ cuts_at l.total l.cursor) × IsInside l.total l.cursor.line l.cursor.rest.now × (weight l.cursor.opened l.cursor.rest.now ≤ weight None l.start.bytes.now)

abbrev pub decreases-loop-next : goal.decreases-loop-next
decreases-loop-next l = weight l.cursor.opened l.cursor.rest.now
