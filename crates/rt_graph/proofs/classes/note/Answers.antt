use Rattle.std.proofs.Common.{Some}
use Rattle.std.proofs.lemmas.Map.Text.{btree_map_updates_str}
use Rattle.rt_graph.proofs.classes.note.Goals as goal

pub returns-in-Ok : goal.returns-in-Ok
returns-in-Ok c = λ t. btree_map_updates_str c.args.text.now c.args.map.now c.insert.new.self (Some c.args.class) c.in-Ok.ensures.updates t
