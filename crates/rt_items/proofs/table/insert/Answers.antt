use Rattle.std.proofs.Common.{refl}
use Rattle.rt_items.proofs.Tables.{put_is}
use Rattle.rt_items.proofs.table.insert.Goals as goal
use Rattle.rt_items.proofs.table.insert.Goals.{in-Ok, in-Err}

pub returns-clause-ok : goal.returns-clause-ok
returns-clause-ok c =
    elim c.match-insert.branch [
      | in-Ok w ↦ rw w.result-is (put_is c.args.key.items c.args.key c.args.text c.args.names.now.entries c.insert.new.self.entries refl w.in-Ok.ensures.entries)
      | in-Err w ↦ rw w.result-is tt
    ]
