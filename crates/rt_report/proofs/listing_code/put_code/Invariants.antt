use Rattle.std.proofs.Common.{◌-◌, length}
use Rattle.rt_report.specs.Writing.{PutsUpTo}
use Rattle.rt_report.proofs.listing_code.put_code.Given as goal

-- The lines up to a word are written.
abbrev pub invariant-loop-at : goal.invariant-loop-at
invariant-loop-at l = PutsUpTo l.words l.marks l.at l.initial.out.items l.out.items

abbrev pub decreases-loop-at : goal.decreases-loop-at
decreases-loop-at l = length l.words - l.at
