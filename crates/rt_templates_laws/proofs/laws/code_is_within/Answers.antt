use Rattle.rt_templates_laws.proofs.Weighing.{has_some, code_weighs, code_is_within, never_too_long}
use Rattle.rt_templates.proofs.Lengths.{weighs}
use Rattle.rt_templates_laws.proofs.laws.code_is_within.Goals as goal

pub returns : goal.returns
returns c = record { weigh = weighs; some = has_some; code = code_weighs; within = code_is_within; never = never_too_long }
