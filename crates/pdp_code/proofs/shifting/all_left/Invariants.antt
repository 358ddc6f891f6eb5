use Rattle.std.proofs.Common.{◌≡◌}
use Rattle.pdp_code.specs.Values.{lefts}
use Rattle.pdp_code.proofs.shifting.all_left.Given as goal

abbrev pub invariant-loop-i : goal.invariant-loop-i
invariant-loop-i l = l.s ≡ lefts l.i l.fn.l l.fn.h l.fn.x
