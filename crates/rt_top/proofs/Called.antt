-- A call by its parts, for what is said of any.
use Rattle.std.proofs.Common.{ℕ, List, Option}
use Rattle.rt_outside.specs.Files.{Files}
use Rattle.rt_run.specs.Inputs.{Feed}
use Rattle.rt_accept.specs.Calls.{Call}

-- by what these were before and after: files, reads, writes, what was put, faults of the output, the input, its faults
abbrev pub call_of : Option Files → Option Files → (List ℕ → ℕ) → (List ℕ → ℕ) → (List ℕ → ℕ) → (List ℕ → ℕ) → Option (List ℕ) → Option (List ℕ) → ℕ → ℕ → Feed → Feed → ℕ → ℕ → Call
call_of files files2 reads reads2 writes writes2 written written2 faults faults2 left left2 input_faults input_faults2 = record {
  files = files;
  files_after = files2;
  reads = reads;
  reads_after = reads2;
  writes = writes;
  writes_after = writes2;
  written = written;
  written_after = written2;
  faults = faults;
  faults_after = faults2;
  left = left;
  left_after = left2;
  input_faults = input_faults;
  input_faults_after = input_faults2;
}
