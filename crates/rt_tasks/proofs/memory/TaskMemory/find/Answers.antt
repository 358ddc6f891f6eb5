use Rattle.std.proofs.Common.{rules}
use Rattle.rt_tasks.specs.Words.{code_words, code_marks}
use Rattle.rt_tasks.proofs.Using.{data_there, own_there, nowhere_there}
use Rattle.rt_tasks.proofs.memory.TaskMemory.find.Goals as goal

pub returns-then-place-len : goal.returns-then-place-len
returns-then-place-len c =
    let m = c.args.self.now in
    let e = c.wrap_sub.ensures in
    let i = c.halved-place.ensures in
    let place = rw e at i in
    (own_there (code_words m.code.items) m.data_words.items m.own.words.items (code_marks m.code.items) m.places m.ends m.order c.args.at c.halved-place.result (search rules) (search rules) place (search rules), search rules)

pub returns-then-place-len-2 : goal.returns-then-place-len-2
returns-then-place-len-2 c =
    let m = c.args.self.now in
    let e = c.wrap_sub-2.ensures in
    let i = c.halved-place-2.ensures in
    let place = rw e at i in
    (data_there (code_words m.code.items) m.data_words.items m.own.words.items (code_marks m.code.items) m.places m.ends m.order c.args.at c.halved-place-2.result (search rules) (search rules) place (search rules), search rules)

pub returns : goal.returns
returns c =
    let m = c.args.self.now in
    let e = c.wrap_sub.ensures in
    let i = c.halved-place.ensures in
    let own_place = rw e at i in
    let e2 = c.wrap_sub-2.ensures in
    let i2 = c.halved-place-2.ensures in
    let data_place = rw e2 at i2 in
    nowhere_there (code_words m.code.items) m.data_words.items m.own.words.items (code_marks m.code.items) m.places m.ends m.order c.args.at c.halved-place-2.result c.halved-place.result (search rules) (search rules) (search rules) data_place own_place (search rules) (search rules)
