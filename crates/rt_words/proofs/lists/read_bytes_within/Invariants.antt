use Rattle.std.proofs.Common.{◌≡◌, ◌-◌, []}
use Rattle.rt_words.specs.Format.{within}
use Rattle.rt_words.specs.Reading as reads
use Rattle.rt_words.proofs.lists.read_bytes_within.Given as goal

-- All are those found and as many more as there are turns left.
abbrev pub invariant-loop-turn : goal.invariant-loop-turn
invariant-loop-turn l = reads.times (reads.byte (within l.least l.most)) l.count [] l.bytes ≡ reads.times (reads.byte (within l.least l.most)) (l.count - l._turn) l.found l.rest
