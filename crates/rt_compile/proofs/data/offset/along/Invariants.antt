use Rattle.std.proofs.Common.{◌≡◌, drop}
use Rattle.rt_compile.specs.Data as bytes
use Rattle.rt_compile.proofs.data.offset.along.Given as goal

abbrev pub invariant-loop-k : goal.invariant-loop-k
invariant-loop-k l =
    bytes.along l.layouts l.scope.records.now (drop l.k-index l.path) l.at l.inner ≡ bytes.along l.layouts l.scope.records.now l.path l.begin l.fn.mode
