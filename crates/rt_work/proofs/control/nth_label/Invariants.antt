use Rattle.std.proofs.Common.{◌≡◌}
use Rattle.std.specs.Prelude.{slice_get}
use Rattle.rt_work_state.specs.Nodes as n
use Rattle.rt_work.proofs.control.nth_label.Given as goal

abbrev pub invariant-loop-rest : goal.invariant-loop-rest
invariant-loop-rest l = slice_get (n.labels l.rest) l.before ≡ slice_get (n.labels l.initial.rest) l.initial.before
