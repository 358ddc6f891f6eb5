use Rattle.rt_compile_laws.proofs.Faults.{texts_have_one_fault}
use Rattle.rt_compile_laws.proofs.laws.texts_have_one_fault.Goals as goal

pub returns : goal.returns
returns c = texts_have_one_fault c.one_reading.ensures.one c.one_module.ensures c.one_tree.ensures.none c.each_module_is_judged.ensures.one c.one_object.ensures.long
