use Rattle.pdp_core_laws.proofs.Frames.{keeps}
use Rattle.pdp_core_laws.proofs.laws.others_keep_their_bytes.Goals as goal

pub returns : goal.returns
returns c = keeps
