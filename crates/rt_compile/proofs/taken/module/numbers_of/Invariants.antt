use Rattle.std.proofs.Common.{◌≡◌, ◌++◌, drop}
use Rattle.rt_compile.specs.Marks.{numbers_of}
use Rattle.rt_compile.proofs.taken.module.numbers_of.Given as goal

abbrev pub invariant-loop-number : goal.invariant-loop-number
invariant-loop-number l = l.numbers ++ numbers_of l.number (drop l.number l.marks) ≡ numbers_of 0 l.marks
