use Rattle.std.proofs.Common.{◌≡◌, ◌++◌, suc, drop}
use Rattle.rt_report.specs.StackNeeds.{need_in}
use Rattle.rt_report.specs.Stacks.{modules_text}
use Rattle.rt_report.proofs.stacks.put_modules.Given as goal

-- What is written and what is left are all of it.
abbrev pub invariant-loop-number : goal.invariant-loop-number
invariant-loop-number l = l.out.items ++ modules_text (need_in l.map) (suc l.number) (drop l.number l.objects) ≡ l.initial.out.items ++ modules_text (need_in l.map) 1 l.objects
