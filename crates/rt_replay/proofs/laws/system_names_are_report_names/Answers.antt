use Rattle.rt_replay.proofs.SystemNames.{named_is_told}
use Rattle.rt_replay.proofs.laws.system_names_are_report_names.Goals as goal

pub returns : goal.returns
returns c = named_is_told
