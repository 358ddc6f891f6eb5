use Rattle.std.proofs.Common.{ℕ, ◌<◌, get_or}
use Rattle.rt_object.specs.declared.object.Call.{Call}
use Rattle.rt_object.specs.Ranges.{HasCallRanges}
use Rattle.rt_object_ranges.proofs.procs.is_each_call.Given as goal

abbrev pub invariant-loop-call : goal.invariant-loop-call
invariant-loop-call l = (k : ℕ) (d : Call) → k < l.call-index → HasCallRanges l.known.records.now l.known.strings l.known.bricks (get_or l.calls k d)
