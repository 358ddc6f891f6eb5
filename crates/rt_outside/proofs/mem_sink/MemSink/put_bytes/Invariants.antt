use Rattle.std.proofs.Common.{◌≡◌, ◌≤◌, ◌++◌, take, drop}
use Rattle.rt_outside.specs.States.{after_puts, puts_fail}
use Rattle.rt_outside.proofs.mem_sink.MemSink.put_bytes.Given as goal

abbrev pub invariant-loop-byte : goal.invariant-loop-byte
invariant-loop-byte l =
    (l.self.written ≡ l.initial.self.written ++ take l.byte-index l.bytes)
    × (l.initial.self.calls.faults ≤ l.self.calls.faults)
    × (after_puts (drop l.byte-index l.bytes) l.self ≡ after_puts l.bytes l.initial.self)
    × (puts_fail (drop l.byte-index l.bytes) l.self ≡ puts_fail l.bytes l.initial.self)
