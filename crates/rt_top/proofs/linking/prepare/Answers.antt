use Rattle.rt_top.proofs.Systems.{by_modules, if_verdict}
use Rattle.rt_top.proofs.linking.prepare.Goals as goal

pub returns-in-Ok-clause-err : goal.returns-in-Ok-clause-err
returns-in-Ok-clause-err g c =
    if_verdict (g.S.Store.files c.args.store.now) c.args.system.now (g.S.Store.read_faults c.args.store.now) (g.S.Store.read_faults c.accept_modules.new.store)
    c.in-Ok.modules.system c.in-Ok.modules.objects c.make.result c.in-Ok.ensures.ok c.make.ensures.err

pub returns-in-Err-clause-err : goal.returns-in-Err-clause-err
returns-in-Err-clause-err g c =
    by_modules (g.S.Store.files c.args.store.now) c.args.system.now (g.S.Store.read_faults c.args.store.now) (g.S.Store.read_faults c.accept_modules.new.store)
    c.in-Err.why c.in-Err.ensures.err
