use Rattle.std.proofs.Common.{refl, ap, ◌∙◌, ◌++◌, arith}
use Rattle.rt_report.specs.Reports.{report_text, run_status}
use Rattle.rt_accept.specs.Calls.{outside}
use Rattle.rt_headline.specs.Carrying.{names_of}
use Rattle.rt_top.proofs.Counts.{counted, enough_names, enough_room}
use Rattle.rt_top.proofs.Leaves.{reworded}
use Rattle.rt_top.proofs.running.finish.Goals as goal

pub report-status-requires-clause-count : goal.report-status-requires-clause-count
report-status-requires-clause-count g c =
    let b = c.requires.begins in
    enough_names c.args.ready b c.go-end.new.self (counted c.boundaries_are_counted.ensures b.image b.gaps c.args.limit c.go-end.result c.args.ready.run c.go-end.new.self _ _ _ _ b.ready.begins c.go-end.ensures.ran) c.as_slice.result.now c.as_slice.ensures

pub report-status-requires-clause-room : goal.report-status-requires-clause-room
report-status-requires-clause-room g c =
    let b = c.requires.begins in
    enough_room c.args.ready b c.go-end.new.self (counted c.boundaries_are_counted.ensures b.image b.gaps c.args.limit c.go-end.result c.args.ready.run c.go-end.new.self _ _ _ _ b.ready.begins c.go-end.ensures.ran) c.as_slice.result.now c.as_slice.ensures

pub returns : goal.returns
returns g c = λ image gaps ready. record {
  first = c.args.ready.run;
  last = c.go-end.new.self;
  end = c.go-end.result;
  middle = outside (g.S.Store.files c.args.store.now) (g.S.Store.write_faults c.args.store.now) (g.O.Sink.written c.go-end.new.output) (g.O.Sink.faults c.go-end.new.output);
  begins = ready.begins;
  runs = c.go-end.ensures.ran;
  files = refl;
  later = record { writes = λ n. omega arith; faults = c.go-end.ensures.writes_later };
  read_failed = c.go-end.ensures.read_failed;
  write_failed = c.go-end.ensures.write_failed;
  reported = reworded c.args.name.now c.report-status.new.out.items (report_text (names_of image.tasks) c.go-end.new.self c.go-end.result) c.report-status.result (run_status c.go-end.result c.go-end.new.self.rules.tasks) _ _ c.write_report.result
      (c.report-status.ensures.items ∙ ap (λ front. front ++ report_text c.as_slice.result.now c.go-end.new.self c.go-end.result) ready.empty ∙ ap (λ ns. report_text ns c.go-end.new.self c.go-end.result) (c.as_slice.ensures ∙ ready.names))
      c.report-status.ensures.status c.write_report.ensures.reports;
}
