use Rattle.std.proofs.Common.{[], ◌∷◌, ◌++◌, ap, subst, ◌∙◌}
use Rattle.rt_object.specs.Grammar.{is_new}
use Rattle.rt_object.specs.Known.{Knows}
use Rattle.rt_object.proofs.KnownNames.{knows_new, knows_more}
use Rattle.rt_object.proofs.names.note.Goals as goal
use Rattle.rt_object.proofs.names.note.Goals.{in-Ok-insert, in-Err-insert}

pub returns-clause-new : goal.returns-clause-new
returns-clause-new c = λ before h. elim c.match-insert.branch [
  | in-Ok-insert w ↦ rw w.result-is (w.in-Ok-insert.ensures.added ∙ knows_new c.args.names.now before c.in-Ok.key h ∙ ap (is_new before) c.in-Ok.ensures.items)
  | in-Err-insert w ↦ rw w.result-is tt
]

pub returns-clause-known : goal.returns-clause-known
returns-clause-known c = λ before h. elim c.match-insert.branch [
  | in-Ok-insert w ↦ rw w.result-is (subst (λ n. Knows c.insert.new.self (before ++ n ∷ [])) c.in-Ok.ensures.items (knows_more c.args.names.now c.insert.new.self before c.in-Ok.key h w.in-Ok-insert.ensures.keys))
  | in-Err-insert w ↦ rw w.result-is tt
]
