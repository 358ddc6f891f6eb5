use Rattle.std.proofs.Common.{◌≡◌, ◌++◌, drop}
use Rattle.rt_icode.specs.Texts.{parts}
use Rattle.rt_icode.proofs.printing.put_parts.Given as goal

-- What is written and what is left are all of them.
abbrev pub invariant-loop-n : goal.invariant-loop-n
invariant-loop-n l = l.out.items ++ parts (drop l.n-index l.ns) ≡ l.initial.out.items ++ parts l.ns
