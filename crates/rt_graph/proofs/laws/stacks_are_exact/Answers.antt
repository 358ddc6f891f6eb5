use Rattle.rt_graph.proofs.GraphLaws as laws
use Rattle.rt_graph.proofs.laws.stacks_are_exact.Goals as goal

pub returns : goal.returns
returns c = laws.stacks_are_exact
