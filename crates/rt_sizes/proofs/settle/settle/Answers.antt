use Rattle.std.proofs.Common.{◌∙◌}
use Rattle.rt_sizes.specs.Capped.{table}
use Rattle.rt_sizes.proofs.Settling.{are_sizes}
use Rattle.rt_sizes.proofs.settle.settle.Goals as goal

pub returns : goal.returns
returns c = are_sizes (table c.args.records.now c.args.known.now) c.loop-is_changed.sizes (c.loop-is_changed.auto.sizes ∙ c.requires.length) c.loop-is_changed.invariant.0 (c.loop-is_changed.invariant.1 c.loop-is_changed-test.false)
