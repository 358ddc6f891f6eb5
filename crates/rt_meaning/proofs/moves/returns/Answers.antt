use Rattle.std.proofs.Common.{◌∙◌}
use Rattle.rt_meaning.proofs.Callers.{returned_none, returned_back}
use Rattle.rt_meaning.proofs.moves.returns.Goals as goal

pub returns-in-None-clause-ok : goal.returns-in-None-clause-ok
returns-in-None-clause-ok c = returned_none c.args.answer c.args.task.now.callers c.args.task.now.own c.in-None.ensures

pub returns-in_ok-values-in-Some-clause-ok : goal.returns-in_ok-values-in-Some-clause-ok
returns-in_ok-values-in-Some-clause-ok c =
    returned_back c.args.answer c.args.task.now.callers c.in-Some.caller.now c.args.task.now.own c.in_ok-values-in-Some.values c.back_to_caller.new.task c.in-Some.ensures c.in_ok-values-in-Some.ensures (c.back_to_caller.ensures.going ∙ c.requires) c.back_to_caller.ensures.back
