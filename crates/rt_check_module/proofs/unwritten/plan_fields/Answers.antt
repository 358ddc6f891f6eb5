use Rattle.rt_check_module.proofs.Pendings.{planned_none}
use Rattle.rt_check_module.proofs.unwritten.plan_fields.Goals as goal

pub loop-field-init : goal.loop-field-init
loop-field-init c = planned_none c.args.pending.now c.push.new.self _ c.in_ok-push.ensures.ok
