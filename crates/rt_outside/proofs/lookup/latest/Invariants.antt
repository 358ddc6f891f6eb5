use Rattle.std.proofs.Common.{◌≡◌, take}
use Rattle.std.specs.Option.{option_copied}
use Rattle.rt_outside.specs.Held.{first_of}
use Rattle.rt_outside.specs.Places.{kept}
use Rattle.rt_outside.proofs.lookup.latest.Given as goal

abbrev pub invariant-loop-place : goal.invariant-loop-place
invariant-loop-place l = option_copied l.found ≡ first_of (kept l.log (take l.place-index l.places)) l.name
