use Rattle.std.proofs.Common.{rules}
use Rattle.rt_tasks.specs.Words.{code_words, code_marks}
use Rattle.rt_tasks.proofs.Using.{data_half_put, own_half_put, ends_stay, order_stays}
use Rattle.rt_tasks.proofs.Words.{read_there}
use Rattle.rt_tasks.proofs.memory.TaskMemoryBus.write_byte.Goals as goal

pub invariant_of-self : goal.invariant_of-self
invariant_of-self c =
    let m = c.args.self.now in
    record { words = m.words; ends = ends_stay (code_words m.code.items) m.data_words.items m.places c.in-InData.place c.put_half.result m.ends; order = m.order }

pub invariant_of-self-in-InOwn : goal.invariant_of-self-in-InOwn
invariant_of-self-in-InOwn c =
    let m = c.args.self.now in
    record { words = m.words; ends = m.ends; order = order_stays m.own.words.items m.places c.in-InOwn.place c.put_half-in-InOwn.result m.order }

pub returns-in-InData-clause-value : goal.returns-in-InData-clause-value
returns-in-InData-clause-value c =
    let m = c.args.self.now in
    let k = c.in-InData.place in
    let x = c.index.result.now in
    data_half_put (code_words m.code.items) m.data_words.items m.own.words.items (code_marks m.code.items) m.places m.ends m.order c.args.at k c.in-InData.ensures.1 c.args.b x c.put_half.result c.in-InData.ensures.0 (search rules) (read_there m.data_words.items k x c.in-InData.ensures.1 c.index.ensures) c.put_half.ensures

pub returns-in-InOwn-clause-value : goal.returns-in-InOwn-clause-value
returns-in-InOwn-clause-value c =
    let m = c.args.self.now in
    let k = c.in-InOwn.place in
    let x = c.index-in-InOwn.result.now in
    own_half_put (code_words m.code.items) m.data_words.items m.own.words.items (code_marks m.code.items) m.places m.ends m.order c.args.at k c.in-InOwn.ensures.1 c.args.b x c.put_half-in-InOwn.result c.in-InOwn.ensures.0 (search rules) (read_there m.own.words.items k x c.in-InOwn.ensures.1 c.index-in-InOwn.ensures) c.put_half-in-InOwn.ensures
