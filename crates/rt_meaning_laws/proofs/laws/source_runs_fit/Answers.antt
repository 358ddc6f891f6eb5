use Rattle.rt_meaning_laws.proofs.SourceRuns.{source_runs_keep, system_runs_fit}
use Rattle.rt_meaning_laws.proofs.laws.source_runs_fit.Goals as goal

pub returns : goal.returns
returns c = record { keep = source_runs_keep c.parts_suit_their_modes.ensures c.writes_keep_modes.ensures; systems = system_runs_fit c.parts_suit_their_modes.ensures c.writes_keep_modes.ensures c.full_modes_open.ensures }
