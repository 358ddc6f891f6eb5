use Rattle.rt_check_laws.proofs.Modules.{each_module, one_fault}
use Rattle.rt_check_laws.proofs.laws.each_module_is_judged.Goals as goal

pub returns : goal.returns
returns c = record { each = each_module c.sizes_are_decided.ensures.rings c.sizes_are_decided.ensures.passes c.sizes_are_decided.ensures.one; one = one_fault }
