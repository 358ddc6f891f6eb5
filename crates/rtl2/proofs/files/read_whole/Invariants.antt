use Rattle.std.proofs.Common.{◌≤◌, length}
use Rattle.std.specs.Io.KnownBytes.{Consumes}
use Rattle.rtl2.proofs.files.read_whole.Given as goal

abbrev pub invariant-reads : goal.invariant-reads
invariant-reads g l = record {
  given : Consumes (g.F.Read.remaining l.initial.file) (g.F.Read.remaining l.file) l.bytes.items;
  short : length l.bytes.items ≤ 4194305;
  later : l.initial.count.errors ≤ l.count.errors;
}
