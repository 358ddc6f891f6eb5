use Rattle.rt_image.proofs.InRange.{decided}
use Rattle.rt_image.proofs.ranges.are_in_range.Goals as goal

pub returns : goal.returns
returns c = decided c.args.parts.now c.as_slice-code.result.now c.as_slice-marks.result.now c.as_slice-bytes.result.now c.as_slice-tasks.result.now c.is_empty.result c.is_empty-else-bytes-ne0.result _ (record {
  is_code = c.as_slice-code.ensures;
  is_marks = c.as_slice-marks.ensures;
  is_bytes = c.as_slice-bytes.ensures;
  is_tasks = c.as_slice-tasks.ensures;
  code_told = c.is_empty.ensures;
  some_code = c.if-is_empty.false;
  most_code = c.if-code-gt-WORDS.false;
  marks_size = c.if-marks-code.false;
  even = c.if-bytes-ne0.false;
  task_told = c.is_empty-else-bytes-ne0.ensures;
  some_task = c.if-is_empty-2.false;
  most_tasks = c.if-tasks-gt-TASKS.false;
  each_word = c.words_are_small.ensures;
  each_byte = c.bytes_are_small.ensures;
  each_mark = c.are_marks.ensures.0 c.if-not-are_marks.false;
  each_task = c.are_tasks.ensures.0 c.if-not-are_tasks.false;
  names = c.have_different_names.ensures.0 c.if-not-have_different_names.false;
}) c.memory_behind.ensures.end
