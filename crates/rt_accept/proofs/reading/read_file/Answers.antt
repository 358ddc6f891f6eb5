use Rattle.std.proofs.Common.{ap, Err}
use Rattle.rt_accept.proofs.Accepts.{unread}
use Rattle.rt_accept.proofs.reading.read_file.Goals as goal

pub returns-in-Err-clause-err : goal.returns-in-Err-clause-err
returns-in-Err-clause-err g c =
    unread c.args.name.now (g.S.Store.read_faults c.args.store.now) (g.S.Store.read_faults c.read.new.self) (g.S.Store.files c.args.store.now) c.args.kind c.in-Err.why c.unread.result
    (λ e. c.in-Err.ensures.missing (ap Err e)) (λ e. c.in-Err.ensures.too_long (ap Err e)) (λ e. c.in-Err.ensures.failed (ap Err e)) c.unread.ensures
