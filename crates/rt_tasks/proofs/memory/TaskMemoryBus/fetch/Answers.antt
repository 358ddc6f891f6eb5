use Rattle.std.proofs.Common.{rules}
use Rattle.rt_tasks.proofs.Using.{code_fetched}
use Rattle.rt_tasks.proofs.memory.TaskMemoryBus.fetch.Goals as goal

pub returns-then-place-len-clause-value : goal.returns-then-place-len-clause-value
returns-then-place-len-clause-value c =
    let m = c.args.self.now in
    code_fetched m.code.items m.data_words.items m.own.words.items m.places m.ends m.order m.words c.args.at c.halved-place.result c.index.result.now c.halved-place.ensures (search rules) (search rules)
