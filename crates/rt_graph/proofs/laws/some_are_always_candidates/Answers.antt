use Rattle.rt_graph.proofs.GraphLaws as laws
use Rattle.rt_graph.proofs.laws.some_are_always_candidates.Goals as goal

pub returns : goal.returns
returns c = laws.always_candidates
