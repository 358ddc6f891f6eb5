use Rattle.rt_check_module.proofs.StartLevels.{are_defaults}
use Rattle.rt_check_module.proofs.defaults.settle.Goals as goal

pub returns : goal.returns
returns c = are_defaults c.args.records.now c.loop-is_changed.known c.loop-is_changed.invariant.0 (c.loop-is_changed.invariant.1 c.loop-is_changed-test.false)
