use Rattle.std.proofs.Common.{◌≡◌}
use Rattle.rt_work.specs.Task as task
use Rattle.rt_work_state.specs.Nodes as n
use Rattle.rt_work.specs.Weights.{weights}
use Rattle.rt_work.proofs.work.advance.Given as goal

-- the next visible step stays what it was
abbrev pub invariant-loop-item : goal.invariant-loop-item
invariant-loop-item l =
    task.next (n.env l.env) (n.items l.initial.scene.todo) l.initial.scene.values l.initial.scene.locals ≡ task.next (n.env l.env) (n.items l.scene.todo) l.scene.values l.scene.locals

-- less and less is left to be done
abbrev pub decreases-loop-item : goal.decreases-loop-item
decreases-loop-item l = weights (n.items l.scene.todo)
