use Rattle.std.proofs.Common.{◌≡◌, drop}
use Rattle.rt_tree.specs.Modules as modules
use Rattle.rt_tree.proofs.starts.mode_along.Given as goal

abbrev pub invariant-loop-k : goal.invariant-loop-k
invariant-loop-k l = modules.mode_along l.scope.records.now (drop l.k-index l.path) l.inner ≡ modules.mode_along l.scope.records.now l.path l.fn.mode
