use Rattle.std.proofs.Common.{reverse, ◌∙◌}
use Rattle.rt_check_module.proofs.Pendings.{takes_one, takes_none}
use Rattle.rt_check_module.proofs.unwritten.take_last.Goals as goal
use Rattle.rt_check_module.proofs.unwritten.take_last.Goals.{in-Some+in_ok-push, in_default}

pub loop-part-preserved : goal.loop-part-preserved
loop-part-preserved c = elim c.match-pop.branch [
  | in-Some+in_ok-push w ↦ takes_one (reverse c.args.made.now) c.loop-part.made c.pop.new.self c.loop-part.parts c.match-pop.parts c.loop-part._part w.in-Some.part c.loop-part.invariant w.in-Some.ensures (w.parts-is ∙ w.in_ok-push.ensures.ok)
  | in_default w ↦ takes_none (reverse c.args.made.now) c.loop-part.made c.pop.new.self c.loop-part.parts c.match-pop.parts c.loop-part._part c.loop-part.invariant (w.in_default.ensures.0) (w.in_default.ensures.1) w.parts-is
]
