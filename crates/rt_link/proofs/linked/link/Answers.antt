use Rattle.rt_link.proofs.Rooted.{exact}
use Rattle.rt_link.proofs.linked.link.Goals as goal

pub returns-clause-linked : goal.returns-clause-linked
returns-clause-linked c = record {
  known = c.in_ok-judged.judged;
  judged = c.in_ok-judged.ensures.judged;
  words = _;
  root_needs = exact c.each_has_a_stack.ensures c.args.objects.now c.args.system.now.tasks c.in_ok-judged.judged c.in_ok-judged.ensures.judged;
  is_image = c.in_ok-made.ensures.image;
  is_map = c.in_ok-made.ensures.map;
}
