use Rattle.rt_check_bodies.proofs.names.Names.alone.Goals as goal

pub returns : goal.returns
returns c = rw c.scope.ensures at c.fit_by_itself.ensures.value
