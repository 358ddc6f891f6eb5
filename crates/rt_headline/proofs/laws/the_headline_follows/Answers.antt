use Rattle.rt_headline.proofs.Following.{follows}
use Rattle.rt_headline.proofs.Generated.{generated}
use Rattle.rt_headline.proofs.laws.the_headline_follows.Goals as goal

pub returns-clause-goes : goal.returns-clause-goes
returns-clause-goes c = follows (record {
  imaged = c.linked_images_are_imaged.ensures;
  faithful = c.linked_images_are_faithful.ensures;
  ends = c.ends_are_faithful.ensures;
  counted = c.boundaries_are_counted.ensures;
  lines = c.tasks_are_those_of_the_lines.ensures;
  later = c.counts_never_fall.ensures;
})

pub returns-clause-generates : goal.returns-clause-generates
returns-clause-generates c = generated (record {
  imaged = c.linked_images_are_imaged.ensures;
  faithful = c.linked_images_are_faithful.ensures;
  ends = c.ends_are_faithful.ensures;
  counted = c.boundaries_are_counted.ensures;
  lines = c.tasks_are_those_of_the_lines.ensures;
  later = c.counts_never_fall.ensures;
})
