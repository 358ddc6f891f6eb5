use Rattle.std.proofs.Common.{◌≡◌, drop}
use Rattle.rt_sizes.specs.Capped.{AreSizes}
use Rattle.rt_sizes.specs.Sizes.{Table}
use Rattle.rt_check.proofs.Walking.{Both}
use Rattle.rt_check.proofs.contents.read_contents.Given as goal

abbrev pub invariant-loop-declaration : goal.invariant-loop-declaration
invariant-loop-declaration l = (l.names ≡ l.initial.names) × ((t : Table) → AreSizes t l.sizes → Both l.is_fit l.initial.names t l.bricks l.declarations l.left (drop l.declaration-index l.declarations) l.contents)
