use Rattle.rt_check_bodies.proofs.names.Names.called.Goals as goal

pub returns : goal.returns
returns c = rw c.scope.ensures at c.fit_call.ensures.value
