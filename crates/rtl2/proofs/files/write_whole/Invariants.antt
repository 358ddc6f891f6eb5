use Rattle.std.proofs.Common.{◌≤◌, ◌≡◌, ℕ, List, ◌++◌}
use Rattle.std.specs.Io.KnownBytes.{Appends}
use Rattle.rtl2.proofs.files.write_whole.Given as goal

abbrev pub invariant-writes : goal.invariant-writes
invariant-writes g l = record {
  taken : (done : List ℕ) × (l.initial.rest ≡ done ++ l.rest) × Appends (g.F.Write.contents l.initial.file) (g.F.Write.contents l.file) done;
  later : l.initial.count.errors ≤ l.count.errors;
}
