use Rattle.std.proofs.Common.{Some, subst, sym}
use Rattle.rt_object_ranges.specs.Within.{IsWithin, within, beyond}
use Rattle.rt_object_ranges.proofs.within.object_within.Goals as goal

pub returns-then-branch : goal.returns-then-branch
returns-then-branch c = subst (λ o. IsWithin c.args.parts (Some o)) (sym c.new.ensures) within

pub returns-else-branch : goal.returns-else-branch
returns-else-branch c = beyond (λ h. let no = c.if-branch.false in let yes = c.in_ok-are_within.ensures.1 h in cc)
