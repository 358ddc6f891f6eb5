use Rattle.std.proofs.Common.{drop}
use Rattle.rt_report.specs.Writing.{PutsBricks}
use Rattle.rt_report.proofs.listings.put_bricks.Given as goal

-- The lines of the bricks so far are written.
abbrev pub invariant-loop-brick : goal.invariant-loop-brick
invariant-loop-brick l = PutsBricks l.table l.bricks (drop l.brick-index l.bricks) l.initial.out.items l.out.items
