use Rattle.rt_check_bodies.proofs.names.Names.test.Goals as goal

pub returns : goal.returns
returns c = rw c.scope.ensures at c.fit_condition.ensures.value
