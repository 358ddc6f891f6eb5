use Rattle.std.proofs.Common.{Option, subst}
use Rattle.rt_outside.specs.Files.{Files}
use Rattle.rt_top.specs.Going.{asked_go, IsAccepted, IsRefused}
use Rattle.rt_top.proofs.Declining.{by_ticks, ok_map, err_map, refused_earlier}
use Rattle.rt_top.proofs.accepting.accept_others.Goals as goal

pub returns-in-Err-clause-err : goal.returns-in-Err-clause-err
returns-in-Err-clause-err g c =
    by_ticks (g.S.Store.files c.args.store.now) (g.S.Store.read_faults c.args.store.now) (g.S.Store.read_faults c.accept_ticks.new.store) (asked_go c.args.words.now) c.args.system c.requires c.in-Err.why c.in-Err.ensures.err

pub returns-in-Ok-clause-ok : goal.returns-in-Ok-clause-ok
returns-in-Ok-clause-ok g c =
    ok_map (IsAccepted (g.S.Store.files c.accept_ticks.new.store) (asked_go c.args.words.now)) (IsAccepted (g.S.Store.files c.args.store.now) (asked_go c.args.words.now)) c.accept_lines.result
    (λ x h. subst (λ (f : Option Files). IsAccepted f (asked_go c.args.words.now) x) c.accept_ticks.ensures.unchanged h) c.accept_lines.ensures.ok

pub returns-in-Ok-clause-err : goal.returns-in-Ok-clause-err
returns-in-Ok-clause-err g c =
    err_map (IsRefused (g.S.Store.files c.accept_ticks.new.store) (g.S.Store.read_faults c.accept_ticks.new.store) (g.S.Store.read_faults c.accept_lines.new.store) (asked_go c.args.words.now)) (IsRefused (g.S.Store.files c.args.store.now) (g.S.Store.read_faults c.args.store.now) (g.S.Store.read_faults c.accept_lines.new.store) (asked_go c.args.words.now)) c.accept_lines.result
    (λ u h. refused_earlier (g.S.Store.files c.args.store.now) (g.S.Store.files c.accept_ticks.new.store) (g.S.Store.read_faults c.args.store.now) (g.S.Store.read_faults c.accept_ticks.new.store) (g.S.Store.read_faults c.accept_lines.new.store) (asked_go c.args.words.now) u c.accept_ticks.ensures.unchanged c.accept_ticks.ensures.reads_later h) c.accept_lines.ensures.err
