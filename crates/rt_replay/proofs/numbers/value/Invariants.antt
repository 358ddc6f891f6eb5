use Rattle.std.proofs.Common.{◌≡◌, take, min}
use Rattle.rt_system.specs.Numbers.{digits_value}
use Rattle.rt_replay.proofs.numbers.value.Given as goal

abbrev pub invariant-loop-digit : goal.invariant-loop-digit
invariant-loop-digit l = l.value ≡ min (digits_value (take l.digit-index l.digits)) 8000000001
