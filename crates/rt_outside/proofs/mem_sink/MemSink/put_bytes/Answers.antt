use Rattle.std.proofs.Common.{◌∙◌, arith, sym, take, drop, length-drop, length, ap}
use Rattle.std.proofs.lemmas.List.{take-append-drop}
use Rattle.rt_outside.proofs.mem_sink.MemSink.put_bytes.Goals as goal

pub returns-in-Err-clause-err : goal.returns-in-Err-clause-err
returns-in-Err-clause-err c = record {
  start = take c.loop-byte.byte-index c.args.bytes.now;
  rest = drop c.loop-byte.byte-index c.args.bytes.now;
  parts = sym (take-append-drop c.loop-byte.byte-index c.args.bytes.now);
  proper = λ e. let n = length-drop c.loop-byte.byte-index c.args.bytes.now in let z = ap length e in omega (arith, n, z, c.loop-byte-test.true);
  appended = c.in-Err.ensures.err ∙ c.loop-byte.invariant.0;
}
