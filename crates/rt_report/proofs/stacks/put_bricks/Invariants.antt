use Rattle.std.proofs.Common.{◌≡◌, ◌++◌, drop}
use Rattle.rt_report.specs.StackNeeds.{need_in}
use Rattle.rt_report.specs.Stacks.{bricks_text}
use Rattle.rt_report.proofs.stacks.put_bricks.Given as goal

-- What is written and what is left are all of it.
abbrev pub invariant-loop-number : goal.invariant-loop-number
invariant-loop-number l = l.out.items ++ bricks_text (need_in l.map) l.object.title l.«module» l.number (drop l.number l.object.bricks) ≡ l.initial.out.items ++ bricks_text (need_in l.map) l.object.title l.«module» 0 l.object.bricks
