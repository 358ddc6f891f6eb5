-- A linked image is faithful; and what stands by itself of the proof.
use Rattle.std.specs.Prelude.{◌≢◌, ℕ, ◌≡◌, ◌-◌, ◌<◌, ◌≤◌, false, List, length, slice_get, Option, Some}
use Rattle.pdp_code.specs.declared.instruction.Reg.TheVariants.{Pc}
use Rattle.pdp_core.specs.declared.cpu.Regs.{Regs}
use Rattle.pdp_core.specs.declared.cpu.Stop.{Stop}
use Rattle.pdp_core.specs.Execute.{execute, reg}
use Rattle.pdp_core.specs.Protection.{protected, usable}
use Rattle.rt_image.specs.declared.image.ImageParts.{ImageParts}
use Rattle.rt_image.specs.Memory.{code_end, block_at, brick_end, mark_at}
use Rattle.rt_image.specs.Ranges.{HasImageRanges}
use Rattle.rt_tasks.specs.Start.{places_of}
use Rattle.rt_rules.specs.Roster.{Roster, InRanges}
use Rattle.rt_rules.specs.Rules.{running}
use Rattle.rt_run.specs.declared.machine.End.{End}
use Rattle.rt_run.specs.Boundaries.{State, ticked, made_by, start}
use Rattle.rt_run.specs.Runs.{IsEnd}
use Rattle.rt_run.specs.Services as machine
use Rattle.rt_work_state.specs.declared.request.Request.{Request}
use Rattle.rt_meaning.specs.declared.begin.SourceTask.{SourceTask}
use Rattle.rt_meaning.specs.Answers.{MayCome}
use Rattle.rt_meaning.specs.Run as source
use Rattle.rt_meaning_laws.specs.Runs.{IsInput}
use Rattle.rt_meaning_laws.specs.SourceRuns.{AreBytes}
use Rattle.rt_follows.specs.Whole.{Whole}
use Rattle.rt_follows.specs.Follows.{IsFine, asked_by}
use Rattle.rt_faithful.specs.Faithful.{IsFaithfulAt, Faithful, HasNoFault}
use Rattle.rt_faithful.specs.Imaged.{Imaged}
use Rattle.rt_faithful.specs.Joined.{Joined}
use Rattle.rt_faithful.specs.Services.{SameService}

-- An image for which the linker has established what it has to is faithful: for every list of ticks, every console input and every number
-- of instructions.
abbrev pub LinkedImagesAreFaithful : Type 0
LinkedImagesAreFaithful = (w : Whole) (image : ImageParts) (ts : List SourceTask) → Imaged w image ts → Faithful w image ts

-- However a run of a faithful image up to a limit ends, also by a fault of the console, no instruction has faulted, and it is faithful there.
abbrev pub EndsAreFaithful : Type 0
EndsAreFaithful =
    (w : Whole) (image : ImageParts) (ts : List SourceTask) (gaps input : List ℕ) (limit : ℕ) (end : End) (s : State) → Faithful w image ts → AreBytes input → IsEnd image gaps input limit end s → IsFaithfulAt w image ts input s × HasNoFault end

-- Each task of an image owns its block and its brick alone: no other task may use a byte of them.
abbrev pub TasksOwnTheirParts : Type 0
TasksOwnTheirParts = (image : ImageParts) (i j a : ℕ) → HasImageRanges image → i < length image.tasks → j < length image.tasks → i ≢ j → block_at image j ≤ a → a < brick_end image j → usable (places_of image i) a ≡ false

-- No task may read or write the code as data.
abbrev pub CodeIsOfNone : Type 0
CodeIsOfNone = (image : ImageParts) (i a : ℕ) → HasImageRanges image → a < code_end image → usable (places_of image i) a ≡ false

-- Whatever an instruction asks of the machine's run, the source's run does the same service for the same request.
abbrev pub ServicesAreOfTheSource : Type 0
ServicesAreOfTheSource =
    (r : Roster) (taken i : ℕ) (next : Option ℕ) (stop : Stop) (g : Regs) → SameService stop g (machine.serve r taken next i (machine.asked_by stop g)) (source.serve r taken i next (asked_by stop g))

-- What comes of a service of the running task may come of it.
abbrev pub WhatComesMayCome : Type 0
WhatComesMayCome = (r : Roster) (taken i : ℕ) (next : Option ℕ) (q : Request) → InRanges r → running r ≡ Some i → IsInput next → MayCome q (source.serve r taken i next q).outcome

-- ---- side by side

-- At the start of a linked image each of its tasks follows its source's task, for every number of instructions.
abbrev pub StartsAreJoined : Type 0
StartsAreJoined = (w : Whole) (image : ImageParts) (ts : List SourceTask) (gaps input : List ℕ) → Imaged w image ts → AreBytes input → Joined w image ts input (start image gaps)

-- A tick on both sides keeps it so.
abbrev pub TicksKeepJoined : Type 0
TicksKeepJoined = (w : Whole) (image : ImageParts) (ts : List SourceTask) (input : List ℕ) (s : State) (left : List ℕ) → Imaged w image ts → AreBytes input → Joined w image ts input s → Joined w image ts input (ticked s left)

-- So does one instruction of the running task, with as many steps of the source as its mark says: for that task, and for all others. It
-- doesn't fault.
abbrev pub InstructionsKeepJoined : Type 0
InstructionsKeepJoined =
    (w : Whole) (image : ImageParts) (ts : List SourceTask) (input : List ℕ) (s : State) (i : ℕ) (g : Regs) → Imaged w image ts → AreBytes input → Joined w image ts input s → running s.rules ≡ Some i → slice_get s.regs (i - 1) ≡ Some g
    → let x = execute (protected (places_of image (i - 1)) s.memory) g in
    IsFine x.stop × Joined w image ts input (made_by s i (mark_at image (reg g Pc)) x (machine.serve s.rules s.taken (slice_get input s.taken) i (machine.asked_by x.stop x.regs)))
