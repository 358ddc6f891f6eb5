use Rattle.std.proofs.Common.{rules, arith}
use Rattle.rt_tasks.proofs.Words.{code_length, length-words_bytes}
use Rattle.rt_tasks.proofs.memory.TaskMemory.new.Goals as goal

pub invariant_of-result : goal.invariant_of-result
invariant_of-result c =
    let code = c.args.code.items in
    let words = c.args.data_words.items in
    record {
      words = c.requires.words;
      ends = (omega (arith, code_length code, c.len.ensures), omega (arith, code_length code, length-words_bytes words, c.len.ensures, c.len-2.ensures));
      order = (search rules);
    }
