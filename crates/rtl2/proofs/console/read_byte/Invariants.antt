use Rattle.std.proofs.Common.{◌≤◌}
use Rattle.std.specs.Io.KnownBytes.{Keeps}
use Rattle.rtl2.proofs.console.read_byte.Given as goal

abbrev pub invariant-reads : goal.invariant-reads
invariant-reads g l = record {
  kept : Keeps (g.F.Read.remaining l.initial.reader) (g.F.Read.remaining l.reader);
  later : l.initial.count.errors ≤ l.count.errors;
}
