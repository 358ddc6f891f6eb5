use Rattle.std.proofs.Common.{◌∙◌, ap, length}
use Rattle.std.proofs.lemmas.Iterator.{items_from_collect}
use Rattle.std.proofs.lemmas.Iterator.Adapters.{YieldsList-from_vec}
use Rattle.std.specs.Vec.Iter.{into_iter_items, into_iter_len}
use Rattle.rtl2.proofs.Words.{dropped, step_none}
use Rattle.rtl2.proofs.answer.words_of.Goals as goal

pub returns : goal.returns
returns c =
    let before = c.args.args in
    let rest = c.next.new.self in
    let step = step_none _ c.next.result (into_iter_len before) (into_iter_len rest) (into_iter_items before) before.rest.ok.0 c.next.ensures.cases in
    let items = dropped c.next.result (into_iter_items before) (into_iter_items rest) c.next.ensures.items step in
    items_from_collect c.collect.result c.collect.ensures.ran (YieldsList-from_vec {s = rest} _ items (rest.rest.ok.0 ∙ ap length items))
