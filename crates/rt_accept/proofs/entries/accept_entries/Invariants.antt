use Rattle.std.proofs.Common.{◌≡◌, ℕ, ◌≤◌, List, take}
use Rattle.rt_accept.specs.Systems.{HaveEntries}
use Rattle.rt_accept.proofs.entries.accept_entries.Given as goal

-- The lines so far have these objects; no file changed, and no count fell.
abbrev pub invariant-loop-entry : goal.invariant-loop-entry
invariant-loop-entry g l =
    (g.S.Store.files l.store ≡ g.S.Store.files l.initial.store)
    × ((other : List ℕ) → g.S.Store.read_faults l.initial.store other ≤ g.S.Store.read_faults l.store other)
    × ((other : List ℕ) → g.S.Store.write_faults l.initial.store other ≤ g.S.Store.write_faults l.store other)
    × HaveEntries (g.S.Store.files l.initial.store) (take l.entry-index l.entries) l.objects
