use Rattle.std.proofs.Common.{◌≡◌, [], reverse}
use Rattle.rt_check_module.specs.Pending.{finish}
use Rattle.rt_check_module.proofs.unwritten.make_all.Given as goal

abbrev pub invariant-loop-step : goal.invariant-loop-step
invariant-loop-step l = finish l.modes.records l.pending (reverse l.made) ≡ finish l.modes.records l.fn.pending []
