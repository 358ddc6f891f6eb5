use Rattle.rt_object_ranges.proofs.bricks.is_kind.Goals as goal

pub returns-in-Own : goal.returns-in-Own
returns-in-Own c = rw c.in-Own.is c.is_content.ensures

pub returns-in-Ent : goal.returns-in-Ent
returns-in-Ent c = rw c.in-Ent.is c.is_content-in-Ent.ensures
