use Rattle.std.proofs.Common.{◌≡◌, ◌++◌, suc, map, drop}
use Rattle.rt_resolve.specs.Starting as starting
use Rattle.rt_resolve.specs.Systems as systems
use Rattle.rt_resolve.proofs.system.resolve_all.Given as goal

abbrev pub invariant-loop-at : goal.invariant-loop-at
invariant-loop-at l =
    (map systems.held l.codes ++ systems.all_from l.modules (suc l.at) (drop l.at l.modules) ≡ systems.all_from l.modules 1 l.modules)
    × (l.store ++ starting.stores_from l.modules (suc l.at) (drop l.at l.modules) ≡ starting.stores_from l.modules 1 l.modules)
