use Rattle.std.proofs.Common.{subst}
use Rattle.rt_accept.specs.Calls.{outside, Reports}
use Rattle.rt_top.proofs.reporting.write_report.Goals as goal

pub returns-clause-reports : goal.returns-clause-reports
returns-clause-reports g c =
    let a = outside (g.S.Store.files c.args.store.now) (g.S.Store.write_faults c.args.store.now) (g.O.Sink.written c.args.output.now) (g.O.Sink.faults c.args.output.now) in
    let b = outside (g.S.Store.files c.write_file.new.store) (g.S.Store.write_faults c.write_file.new.store) (g.O.Sink.written c.write_file.new.output) (g.O.Sink.faults c.write_file.new.output) in
    subst (λ t. Reports c.args.name.now t c.args.status a b c.write_file.result) c.into_list.ensures c.write_file.ensures.written
