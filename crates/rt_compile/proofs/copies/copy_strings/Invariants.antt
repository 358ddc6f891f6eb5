use Rattle.std.proofs.Common.{◌≡◌, take}
use Rattle.rt_compile.proofs.copies.copy_strings.Given as goal

abbrev pub invariant-loop-string : goal.invariant-loop-string
invariant-loop-string l = l.copy ≡ take l.string-index l.strings
