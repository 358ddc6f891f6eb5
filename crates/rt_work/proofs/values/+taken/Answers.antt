use Rattle.std.proofs.Common.{sym}
use Rattle.rt_work_state.specs.Items.{how_many}
use Rattle.rt_work_state.specs.Nodes.{terms}
use Rattle.rt_work.proofs.Taken.{taken_more}
use Rattle.rt_work.proofs.values.+taken.Goals as goal

pub returns-in_ok-push-in-Some-clause-args : goal.returns-in_ok-push-in-Some-clause-args
returns-in_ok-push-in-Some-clause-args t c =
    rw (c.in_ok-push-in-Some.ensures.ok, c.in_ok-args-in-Some.ensures.args, c.in-MoreTerms.is, c.in-Some.ensures, c.deref.ensures) (sym (taken_more (how_many (terms c.in-MoreTerms.rest.value)) c.in-Some.v c.pop.new.self))
