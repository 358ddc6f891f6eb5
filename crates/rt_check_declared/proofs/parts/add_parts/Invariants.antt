use Rattle.std.proofs.Common.{◌≡◌, ◌++◌, drop, map}
use Rattle.rt_check_declared.specs.Parts.{part}
use Rattle.rt_check_declared.proofs.parts.add_parts.Given as goal

abbrev pub invariant-loop-name : goal.invariant-loop-name
invariant-loop-name l = l.parts ++ map (part l.line) (drop l.name-index l.names) ≡ l.initial.parts ++ map (part l.line) l.names
