use Rattle.std.proofs.Common.{◌≡◌, ◌-◌, []}
use Rattle.rt_words.specs.Reading as formats
use Rattle.rt_object.specs.Known.{Knows}
use Rattle.rt_object.specs.Ranges.{brick_names}
use Rattle.rt_object.specs.Reading as reads
use Rattle.rt_object.proofs.bricks.read_each_brick.Given as goal

-- All are those found and as many more as there are turns left, and the names of those found are known.
abbrev pub invariant-loop-turn : goal.invariant-loop-turn
invariant-loop-turn l = record {
  all : formats.each (reads.brick_reader l.known.records.now l.known.strings l.known.bricks) l.known.bricks [] l.bytes ≡ formats.each (reads.brick_reader l.known.records.now l.known.strings l.known.bricks) (l.known.bricks - l._turn) l.found l.rest;
  names : Knows l.names (brick_names l.found);
}
