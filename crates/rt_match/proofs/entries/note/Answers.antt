use Rattle.std.proofs.Common.{Some}
use Rattle.std.proofs.lemmas.Map.Text.{btree_map_updates_str}
use Rattle.rt_match.proofs.entries.note.Goals as goal

pub returns-in-Ok-clause-noted : goal.returns-in-Ok-clause-noted
returns-in-Ok-clause-noted c = λ _ n. btree_map_updates_str c.args.name.now c.args.entries.now c.insert.new.self (Some c.args.entry) c.in-Ok.ensures.updates n
