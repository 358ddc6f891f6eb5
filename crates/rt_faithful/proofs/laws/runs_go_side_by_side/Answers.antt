use Rattle.rt_faithful.proofs.Joined.{Given}
use Rattle.rt_faithful.proofs.Linking.{starts_are_joined, ticks_keep_joined, instructions_keep_joined}
use Rattle.rt_faithful.proofs.laws.runs_go_side_by_side.Goals.{After-parts_make_one_memory}
use Rattle.rt_faithful.proofs.laws.runs_go_side_by_side.Goals as goal

given : After-parts_make_one_memory → Given
given c = record {
  fit = c.source_runs_fit.ensures.systems;
  runs_alive = c.ended_tasks_stay_ended.ensures.runs;
  framed = c.others_keep_their_bytes.ensures;
  in_order = c.images_lie_in_memory.ensures.order;
  in_memory = c.images_lie_in_memory.ensures.memory;
  side_by_side = c.parts_make_one_memory.ensures.side_by_side;
  follow = c.tasks_follow.ensures;
  own = c.tasks_own_their_parts.ensures.own;
  code_own = c.tasks_own_their_parts.ensures.code;
  services = c.services_are_of_the_source.ensures;
  may_come = c.what_comes_may_come.ensures;
}

pub returns-clause-start : goal.returns-clause-start
returns-clause-start c = starts_are_joined (given (goal.at.returns-clause-start c).After-parts_make_one_memory)

pub returns-clause-tick : goal.returns-clause-tick
returns-clause-tick c = ticks_keep_joined (given (goal.at.returns-clause-tick c).After-parts_make_one_memory)

pub returns-clause-instruction : goal.returns-clause-instruction
returns-clause-instruction c = instructions_keep_joined (given (goal.at.returns-clause-instruction c).After-parts_make_one_memory)
