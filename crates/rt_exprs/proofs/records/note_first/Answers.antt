use Rattle.std.proofs.Common.{sym, ◌∙◌}
use Rattle.rt_exprs.proofs.Indexing.{is_added}
use Rattle.rt_exprs.proofs.records.note_first.Goals as goal
use Rattle.rt_exprs.proofs.records.note_first.Goals.{in-Ok-insert, in-Err-insert}

pub returns : goal.returns
returns c = elim c.match-insert.branch [
  | in-Ok-insert w ↦ rw w.result-is (is_added c.args.numbers.now c.args.name.now c.args.number c.insert.new.self c.in-Ok.key c.get.result c.get.ensures.value (sym c.is_some.ensures ∙ c.if-is_some.false) c.in-Ok.ensures.items w.in-Ok-insert.ensures.entries)
  | in-Err-insert w ↦ rw w.result-is tt
]
