use Rattle.std.proofs.Common.{subst, arith}
use Rattle.std.specs.List.{AllByRecursion}
use Rattle.std.proofs.lemmas.Bool.{leb-true, le-leb}
use Rattle.rt_image.specs.Ranges.{IsByte, IsWord}
use Rattle.rt_image.proofs.ranges.is_task.Goals as goal

pub returns-then-task-ge1 : goal.returns-then-task-ge1
returns-then-task-ge1 c = (
  λ t.
      let stack = leb-true c.from-then-task-ge1.result 28672 t in
      record {
        name = (c.as_slice.ensures.some, c.as_slice.ensures.short);
        each_letter = subst (AllByRecursion IsByte) c.as_slice.ensures.bytes c.bytes_are_small.ensures;
        priority = omega arith;
        most_priority = omega arith;
        even_entry = c.if-task-ne0.false;
        entry = omega arith;
        block = omega arith;
        each_block_word = subst (AllByRecursion IsWord) c.as_slice-2.ensures c.words_are_small.ensures;
        some_stack = c.if-task-ge1.true;
        stack = omega arith;
      },
  λ h. let stack = h.stack in le-leb c.from-then-task-ge1.result 28672 (omega arith),
)
