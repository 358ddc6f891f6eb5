use Rattle.std.proofs.Common.{ap, ◌∙◌, ◌++◌, ℕ, List, codes, decimal}
use Rattle.rt_accept.specs.Calls.{outside}
use Rattle.rt_top.specs.Going.{asked_go}
use Rattle.rt_top.proofs.Generated.{all_failed, all_told}
use Rattle.rt_top.proofs.generating.carry_all.Goals as goal

pub returns-then-status-ge20 : goal.returns-then-status-ge20
returns-then-status-ge20 g c = λ files n made.
    all_failed files (asked_go c.args.words.now) n _ c.args.made.prepared made.ready c.carry_out-status.result (c.carry_out-status.ensures made.ready.accepted made.ready.prepared) c.if-status-ge20.true

pub returns : goal.returns
returns g c = λ files n made.
    all_told files (asked_go c.args.words.now) n _ c.args.made.prepared made.ready (outside (g.S.Store.files c.carry_out-status.new.store) (g.S.Store.write_faults c.carry_out-status.new.store) (g.O.Sink.written c.carry_out-status.new.output) (g.O.Sink.faults c.carry_out-status.new.output)) c.as_slice.result.now c.carry_out-status.result c.tell.result
    (c.carry_out-status.ensures made.ready.accepted made.ready.prepared) c.if-status-ge20.false
    (c.as_slice.ensures ∙ c.end_line.ensures ∙ ap (λ (front : List ℕ). front ++ (decimal c.carry_out-status.result ++ codes "\n")) made.front)
    (c.tell.ensures (g.S.Store.files c.carry_out-status.new.store) (g.S.Store.write_faults c.carry_out-status.new.store))
