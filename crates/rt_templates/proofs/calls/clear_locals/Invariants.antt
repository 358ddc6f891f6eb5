use Rattle.std.proofs.Common.{◌≡◌, ◌+◌, ◌-◌, ◌≤◌, length, replicate}
use Rattle.pdp_code.specs.declared.instruction.SingleOp.TheVariants.{Clr}
use Rattle.rt_templates.specs.Expanded.{most}
use Rattle.rt_templates.specs.Lines.{after, quiet, on, put}
use Rattle.rt_templates.proofs.calls.clear_locals.Given as goal

-- The locals that are left, cleared behind those that were, are all.
abbrev pub invariant-loop : goal.invariant-loop
invariant-loop l =
    (after l.out (replicate (l.locals - l.counter) (quiet (on Clr put))) ≡ after l.initial.out (replicate l.locals (quiet (on Clr put))))
    × (length l.out.words + (l.locals - l.counter) ≤ most) × (l.counter ≤ l.locals)
