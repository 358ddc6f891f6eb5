use Rattle.std.proofs.Common.{◌≡◌}
use Rattle.pdp_code.specs.Values.{rights}
use Rattle.pdp_code.proofs.shifting.all_right.Given as goal

abbrev pub invariant-loop-i : goal.invariant-loop-i
invariant-loop-i l = l.s ≡ rights l.i l.fn.h l.fn.x
