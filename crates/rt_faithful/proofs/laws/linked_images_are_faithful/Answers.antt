use Rattle.rt_faithful.proofs.Linking.{linked_faithful}
use Rattle.rt_faithful.proofs.laws.linked_images_are_faithful.Goals as goal

pub returns : goal.returns
returns c = linked_faithful (record {
  fit = c.source_runs_fit.ensures.systems;
  runs_alive = c.ended_tasks_stay_ended.ensures.runs;
  framed = c.others_keep_their_bytes.ensures;
  in_order = c.images_lie_in_memory.ensures.order;
  in_memory = c.images_lie_in_memory.ensures.memory;
  side_by_side = c.parts_make_one_memory.ensures.side_by_side;
  follow = c.tasks_follow.ensures;
  own = c.tasks_own_their_parts.ensures.own;
  code_own = c.tasks_own_their_parts.ensures.code;
  services = c.services_are_of_the_source.ensures;
  may_come = c.what_comes_may_come.ensures;
})
