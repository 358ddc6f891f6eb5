use Rattle.std.proofs.Common.{◌≡◌, ◌<◌, take}
use Rattle.rt_replay.specs.Reading.{octal_value}
use Rattle.rt_replay.proofs.numbers.octal_value.Given as goal

abbrev pub invariant-loop-digit : goal.invariant-loop-digit
invariant-loop-digit l = record { value : l.value ≡ octal_value (take l.digit-index l.digits); low : l.value < 65536 }
