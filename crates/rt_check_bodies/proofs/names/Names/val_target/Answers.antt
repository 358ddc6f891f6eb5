use Rattle.rt_check_bodies.proofs.names.Names.val_target.Goals as goal

pub returns : goal.returns
returns c = rw c.scope.ensures at c.fit_val_target.ensures.value
