use Rattle.rt_graph.proofs.GraphLaws as laws
use Rattle.rt_graph.proofs.laws.reached_is_closed.Goals as goal

pub returns-clause-points : goal.returns-clause-points
returns-clause-points c = laws.points_are_reached

pub returns-clause-errors : goal.returns-clause-errors
returns-clause-errors c = laws.errors_are_reached

pub returns-clause-order : goal.returns-clause-order
returns-clause-order c = laws.callees_come_first
