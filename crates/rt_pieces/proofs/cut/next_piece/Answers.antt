use Rattle.rt_pieces.proofs.Looking.{begins_with}
use Rattle.rt_pieces.proofs.cut.next_piece.Goals as goal

pub returns-in-Sees : goal.returns-in-Sees
returns-in-Sees c =
    begins_with c.args.total c.args.start.line c.args.start.bytes.now c.loop-next.cursor.opened c.loop-next.cursor.line c.loop-next.cursor.rest.now _ c.loop-next.invariant.0 c.loop-next.invariant.2 c.in-Sees.ensures
