use Rattle.rt_modes.specs.Left.{todo_words}
use Rattle.rt_modes.proofs.Opening.{opens}
use Rattle.rt_modes.proofs.Stack.{one_more}
use Rattle.rt_modes.proofs.pieces.Pieces.of.Goals as goal

pub returns : goal.returns
returns c = rw (one_more _ _ _ c.in_ok-push.ensures.ok) (opens _ c.args.table.now (todo_words c.args.first) c.in_ok-pieces.ensures)
