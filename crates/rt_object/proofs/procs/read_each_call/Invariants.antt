use Rattle.std.proofs.Common.{◌≡◌, ◌-◌, []}
use Rattle.rt_words.specs.Reading as formats
use Rattle.rt_object.specs.Reading as reads
use Rattle.rt_object.proofs.procs.read_each_call.Given as goal

-- All are those found and as many more as there are turns left.
abbrev pub invariant-loop-turn : goal.invariant-loop-turn
invariant-loop-turn l = formats.times (reads.call_reader l.known.records.now l.known.strings l.known.bricks) l.count [] l.bytes
    ≡ formats.times (reads.call_reader l.known.records.now l.known.strings l.known.bricks) (l.count - l._turn) l.found l.rest
