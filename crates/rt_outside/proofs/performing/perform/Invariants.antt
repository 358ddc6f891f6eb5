use Rattle.std.proofs.Common.{true, ℕ, ◌≤◌, List, take}
use Rattle.rt_outside.specs.Deeds.{deeds_of, Performed}
use Rattle.rt_outside.proofs.performing.perform.Given as goal

abbrev pub invariant-loop-deed : goal.invariant-loop-deed
invariant-loop-deed g l =
    ((name : List ℕ) → g.S.Store.read_faults l.initial.store name ≤ g.S.Store.read_faults l.store name)
    × Performed (deeds_of (take l.deed-index l.deeds))
    (record { files = g.S.Store.files l.initial.store; writes = g.S.Store.write_faults l.initial.store; written = g.O.Sink.written l.initial.output; faults = g.O.Sink.faults l.initial.output })
    (record { files = g.S.Store.files l.store; writes = g.S.Store.write_faults l.store; written = g.O.Sink.written l.output; faults = g.O.Sink.faults l.output })
    true
