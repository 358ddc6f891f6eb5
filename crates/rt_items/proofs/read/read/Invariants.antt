use Rattle.std.proofs.Common.{◌≡◌, ◌≤◌, length, None}
use Rattle.rt_pieces.specs.Begins.{IsInside}
use Rattle.rt_pieces.specs.Steps.{cuts_of}
use Rattle.rt_items.specs.Lets.{with_items}
use Rattle.rt_items.specs.Reading.{state_of, reading_from, reading_of}
use Rattle.rt_items.specs.Table.{lets_of}
use Rattle.rt_items.proofs.read.read.Given as goal

abbrev pub invariant-loop-state : goal.invariant-loop-state
invariant-loop-state l = (reading_of l.bytes ≡ with_items l.out (reading_from (cuts_of l.total None l.rest.line l.rest.bytes.now) (state_of l.table.text l.state) (lets_of l.table) (length l.out))) × IsInside l.total l.rest.line l.rest.bytes.now × (l.total ≤ 4194304)

abbrev pub decreases-loop-state : goal.decreases-loop-state
decreases-loop-state l = length l.rest.bytes.now
