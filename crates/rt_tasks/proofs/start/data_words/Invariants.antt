use Rattle.std.proofs.Common.{◌≡◌, ◌++◌, ◌*◌, drop}
use Rattle.rt_image.specs.Memory.{words_bytes}
use Rattle.rt_tasks.proofs.start.data_words.Given as goal

abbrev pub invariant-loop-n : goal.invariant-loop-n
invariant-loop-n l = words_bytes l.words.items ++ drop (2 * l.n) l.bytes ≡ l.bytes
