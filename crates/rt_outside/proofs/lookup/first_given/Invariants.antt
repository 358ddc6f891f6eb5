use Rattle.std.proofs.Common.{◌≡◌, drop}
use Rattle.rt_outside.specs.Held.{first_of}
use Rattle.rt_outside.proofs.lookup.first_given.Given as goal

abbrev pub invariant-loop-file : goal.invariant-loop-file
invariant-loop-file l = first_of l.files l.name ≡ first_of (drop l.file-index l.files) l.name
