use Rattle.rt_object_ranges.proofs.bricks.is_content.Goals as goal

pub returns-in-Data : goal.returns-in-Data
returns-in-Data c = rw c.in-Data.is c.is_data_content.ensures
