use Rattle.std.proofs.Common.{rules}
use Rattle.rt_tasks.specs.Words.{code_words, code_marks}
use Rattle.rt_tasks.proofs.Using.{data_read, own_read}
use Rattle.rt_tasks.proofs.Words.{read_there}
use Rattle.rt_tasks.proofs.memory.TaskMemoryBus.read_word.Goals as goal

pub returns-in-InData-clause-value : goal.returns-in-InData-clause-value
returns-in-InData-clause-value c =
    let m = c.args.self.now in
    let k = c.in-InData.place in
    let x = c.index.result.now in
    data_read (code_words m.code.items) m.data_words.items m.own.words.items (code_marks m.code.items) m.places m.ends m.order c.args.at k c.in-InData.ensures.1 x c.in-InData.ensures.0 (read_there m.data_words.items k x c.in-InData.ensures.1 c.index.ensures) (search rules)

pub returns-in-InOwn-clause-value : goal.returns-in-InOwn-clause-value
returns-in-InOwn-clause-value c =
    let m = c.args.self.now in
    let k = c.in-InOwn.place in
    let x = c.index-in-InOwn.result.now in
    own_read (code_words m.code.items) m.data_words.items m.own.words.items (code_marks m.code.items) m.places m.ends m.order c.args.at k c.in-InOwn.ensures.1 x c.in-InOwn.ensures.0 (read_there m.own.words.items k x c.in-InOwn.ensures.1 c.index-in-InOwn.ensures) (search rules)
