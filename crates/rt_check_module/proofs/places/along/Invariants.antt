use Rattle.std.proofs.Common.{◌≡◌, drop}
use Rattle.rt_check_module.specs.Places as spec
use Rattle.rt_check_module.proofs.places.along.Given as goal

abbrev pub invariant-loop-selector : goal.invariant-loop-selector
invariant-loop-selector l = spec.along l.modes.records (drop l.selector-index l.selectors) l.inner ≡ spec.along l.modes.records l.selectors l.fn.mode
