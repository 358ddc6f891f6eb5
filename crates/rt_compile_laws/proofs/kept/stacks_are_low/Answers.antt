use Rattle.rt_compile_laws.proofs.Keeping.{stacks_are_low}
use Rattle.rt_compile_laws.proofs.kept.stacks_are_low.Goals as goal

pub returns : goal.returns
returns c = stacks_are_low c.trees_promise.ensures
