use Rattle.rt_accept.proofs.Lines.{library_declined}
use Rattle.rt_accept.proofs.entries.accept_entry.Goals as goal

pub returns-in-Library-clause-err : goal.returns-in-Library-clause-err
returns-in-Library-clause-err g c =
    library_declined (g.S.Store.files c.args.store.now) c.args.entry.now (g.S.Store.read_faults c.args.store.now) c.accept_library.result c.in-Library.is
    (c.accept_library.ensures.err (g.S.Store.read_faults c.args.store.now) (g.S.Store.read_faults c.args.store.now))
