use Rattle.std.proofs.Common.{◌≡◌, ℕ, ◌||◌, drop}
use Rattle.rt_check_module.specs.Strings as spec
use Rattle.rt_check_module.proofs.strings.to_set.Given as goal

abbrev pub invariant-loop-item : goal.invariant-loop-item
invariant-loop-item l = (k : ℕ) → spec.is_in l.set.keys k || spec.is_in (drop l.item-index l.items) k ≡ spec.is_in l.items k
