use Rattle.rt_tasks.specs.Words.{code_words, code_marks}
use Rattle.rt_tasks.proofs.Using.{data_written, own_written, ends_stay, order_stays}
use Rattle.rt_tasks.proofs.memory.TaskMemoryBus.write_word.Goals as goal

pub invariant_of-self : goal.invariant_of-self
invariant_of-self c =
    let m = c.args.self.now in
    record { words = m.words; ends = ends_stay (code_words m.code.items) m.data_words.items m.places c.in-InData.place c.args.w m.ends; order = m.order }

pub invariant_of-self-in-InOwn : goal.invariant_of-self-in-InOwn
invariant_of-self-in-InOwn c =
    let m = c.args.self.now in
    record { words = m.words; ends = m.ends; order = order_stays m.own.words.items m.places c.in-InOwn.place c.args.w m.order }

pub returns-in-InData-clause-value : goal.returns-in-InData-clause-value
returns-in-InData-clause-value c =
    let m = c.args.self.now in
    data_written (code_words m.code.items) m.data_words.items m.own.words.items (code_marks m.code.items) m.places m.ends m.order c.args.at c.in-InData.place c.in-InData.ensures.1 c.args.w c.in-InData.ensures.0

pub returns-in-InOwn-clause-value : goal.returns-in-InOwn-clause-value
returns-in-InOwn-clause-value c =
    let m = c.args.self.now in
    own_written (code_words m.code.items) m.data_words.items m.own.words.items (code_marks m.code.items) m.places m.ends m.order c.args.at c.in-InOwn.place c.in-InOwn.ensures.1 c.args.w c.in-InOwn.ensures.0
