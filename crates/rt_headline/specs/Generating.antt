-- What `gen N NAME` is to do: it writes the three texts of a generated system, does with these texts as `go NAME.SYS NAME.TCK 4000000000
-- NAME`, reading no file, and puts a line behind the run.
use Rattle.std.specs.Prelude.{ℕ, ◌<◌, ◌≤◌, true, false, List, Some}
use Rattle.rt_commands.specs.Commands.{IsCommand}
use Rattle.rt_commands.specs.declared.command.Command.TheVariants as command
use Rattle.rt_outside.specs.Deeds.{Outside, Performed}
use Rattle.rt_generated.specs.Texts.{system_name, ticks_name, writes_of, files_of, summary}
use Rattle.rt_accept.specs.Calls.{Call, before, after, KeepsInput, NothingDone, Tells}
use Rattle.rt_headline.specs.Go.{Go}
use Rattle.rt_headline.specs.Outcome.{System, Accepts}
use Rattle.rt_headline.specs.Carrying.{HasNoImage}

abbrev pub IsGen : List (List ℕ) → ℕ → List ℕ → Type 0
IsGen words n name = IsCommand words (command.Gen n name)

-- what is asked of `go`
abbrev pub asked_of : List ℕ → Go
asked_of name = record { system = system_name name; ticks = ticks_name name; limit = 4000000000; name = name }

-- the same call from one moment to another; no file is read
abbrev pub between : Call → Outside → Outside → Call
between c a b = record c { files = a.files; files_after = b.files; reads = λ name. 0; reads_after = λ name. 0; writes = a.writes; writes_after = b.writes; written = a.written; written_after = b.written; faults = a.faults; faults_after = b.faults }

-- How the command ends, by what is carried out of the system of its three texts, which is accepted.
pub data GenEnds (IsOut : Call → Go → System → ℕ → Type 0) (c : Call) (n : ℕ) (name : List ℕ) : ℕ → Type 0 where
  -- memory was wanted
  no_memory : NothingDone c → GenEnds IsOut c n name 30
  -- one of the three files can't be written; nothing followed
  unwritten : Performed (writes_of n name) (before c) (after c) false → KeepsInput c → GenEnds IsOut c n name 21
  -- they are written, and the write of NAME.IMG failed; nothing followed
  no_image : {a : System} (made : Outside) → Accepts (Some (files_of n name)) (asked_of name) a → Performed (writes_of n name) (before c) made true → HasNoImage (between c made (after c)) (asked_of name) → GenEnds IsOut c n name 21
  -- they are written, and the system is carried out; no line is put behind what answers 20 or 21
  failed : {a : System} {status : ℕ} (made : Outside) → Accepts (Some (files_of n name)) (asked_of name) a → Performed (writes_of n name) (before c) made true → IsOut (between c made (after c)) (asked_of name) a status → 20 ≤ status → GenEnds IsOut c n name status
  -- else one is, and the status is that of the run, or 21 where it can't be put
  told : {a : System} {done status : ℕ} (made ran : Outside) → Accepts (Some (files_of n name)) (asked_of name) a → Performed (writes_of n name) (before c) made true → IsOut (between c made ran) (asked_of name) a done → done < 20 → Tells (summary n done) done ran (after c) status → GenEnds IsOut c n name status
