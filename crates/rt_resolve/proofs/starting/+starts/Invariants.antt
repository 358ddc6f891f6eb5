use Rattle.std.proofs.Common.{◌≡◌, ◌++◌, map, drop}
use Rattle.rt_resolve.specs.Starting as starting
use Rattle.rt_resolve.proofs.starting.+starts.Given as goal

abbrev pub invariant-elements-loop-start : goal.invariant-elements-loop-start
invariant-elements-loop-start l =
    l.made ++ starting.elements (map (starting.starts (starting.home l.home)) (drop l.start-index l.starts)) l.mode
    ≡ starting.elements (map (starting.starts (starting.home l.home)) l.starts) l.mode

abbrev pub invariant-parts-loop-start : goal.invariant-parts-loop-start
invariant-parts-loop-start l =
    l.made ++ starting.parts (map (starting.starts (starting.home l.home)) (drop l.start-index l.starts)) l.left
    ≡ starting.parts (map (starting.starts (starting.home l.home)) l.starts) l.fields
