use Rattle.rt_resolve_laws.proofs.Resolved.{code_is_its_modules, others_have_none}
use Rattle.rt_resolve_laws.proofs.laws.code_is_its_modules.Goals as goal

pub returns-clause-owned : goal.returns-clause-owned
returns-clause-owned c = code_is_its_modules

pub returns-clause-others : goal.returns-clause-others
returns-clause-others c = others_have_none
