use Rattle.std.proofs.Common.{◌≡◌, ◌-◌, []}
use Rattle.rt_words.specs.Reading as formats
use Rattle.rt_object.specs.Known.{AreAbove}
use Rattle.rt_object.specs.Reading as reads
use Rattle.rt_object.proofs.taken.read_each_taken.Given as goal

-- All are those found and as many more as there are turns left; numbers above those found are those from least on.
abbrev pub invariant-loop-turn : goal.invariant-loop-turn
invariant-loop-turn l = record {
  all : formats.each (reads.taken_number l.bricks) l.count [] l.bytes ≡ formats.each (reads.taken_number l.bricks) (l.count - l._turn) l.found l.rest;
  above : AreAbove l.least l.found;
}
