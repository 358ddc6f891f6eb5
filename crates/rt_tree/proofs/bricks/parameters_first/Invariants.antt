use Rattle.std.proofs.Common.{◌≡◌, drop}
use Rattle.rt_tree.specs.Modules as modules
use Rattle.rt_tree.proofs.bricks.parameters_first.Given as goal

abbrev pub invariant-loop-parameter : goal.invariant-loop-parameter
invariant-loop-parameter l = modules.parameters_first (drop l.parameter-index l.parameters) l.left ≡ modules.parameters_first l.parameters l.locals
