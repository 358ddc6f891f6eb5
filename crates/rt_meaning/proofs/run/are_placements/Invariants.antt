use Rattle.std.proofs.Common.{◌≡◌, drop}
use Rattle.rt_meaning.specs.Runs.{rise_from}
use Rattle.rt_meaning.proofs.run.are_placements.Given as goal

abbrev pub invariant-loop-placement : goal.invariant-loop-placement
invariant-loop-placement l = rise_from 0 l.steps l.placements ≡ rise_from l.least l.steps (drop l.placement-index l.placements)
