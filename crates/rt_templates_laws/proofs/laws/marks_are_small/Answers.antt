use Rattle.rt_templates_laws.proofs.Marking.{code_marked, code_small}
use Rattle.rt_templates_laws.proofs.laws.marks_are_small.Goals as goal

pub returns : goal.returns
returns c = record { one_each = code_marked; small = code_small }
