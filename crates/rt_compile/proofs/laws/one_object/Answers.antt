use Rattle.rt_compile.proofs.OneObject.{one_object, one_of_tree, none_with_long_code, one_long_code}
use Rattle.rt_compile.proofs.laws.one_object.Goals as goal

pub returns-clause-one : goal.returns-clause-one
returns-clause-one c = one_object c.one_reading.ensures.one c.one_module.ensures c.one_tree.ensures.one c.tables_tell_once.ensures

pub returns-clause-tree : goal.returns-clause-tree
returns-clause-tree c = one_of_tree c.one_reading.ensures.one c.one_module.ensures c.one_tree.ensures.one c.tables_tell_once.ensures

pub returns-clause-none : goal.returns-clause-none
returns-clause-none c = none_with_long_code c.one_reading.ensures.one c.one_module.ensures c.one_tree.ensures.one c.tables_tell_once.ensures

pub returns-clause-long : goal.returns-clause-long
returns-clause-long c = one_long_code c.one_reading.ensures.one c.one_module.ensures c.one_tree.ensures.one c.tables_tell_once.ensures
