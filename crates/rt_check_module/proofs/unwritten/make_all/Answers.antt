use Rattle.std.proofs.Common.{reverse, sym, ◌∙◌}
use Rattle.rt_check_module.proofs.Pendings.{goes_on}
use Rattle.rt_check_module.proofs.unwritten.make_all.Goals as goal

pub loop-step-preserved : goal.loop-step-preserved
loop-step-preserved c = c.in_ok-make_next-in-Some.ensures ∙ sym (goes_on c.args.modes.now.records c.loop-step.pending c.pop.new.self c.in-Some.next (reverse c.loop-step.made) c.in-Some.ensures) ∙ c.loop-step.invariant
