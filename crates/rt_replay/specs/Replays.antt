-- What a replay of a report answers.
use Rattle.std.specs.Prelude.{◌≡◌, ◌≢◌, ℕ, ◌-◌, ◌<◌, ◌≤◌, List, take, Option, Some, None, slice_get}
use Rattle.rt_rules.specs.Rules.{running}
use Rattle.rt_resolve.specs.World.{World}
use Rattle.rt_meaning.specs.Run.{State}
use Rattle.rt_meaning.specs.Runs.{Reached, source_run}
use Rattle.rt_replay.specs.declared.report.Report.{Report}
use Rattle.rt_replay.specs.declared.report.ReportedTask.{ReportedTask}
use Rattle.rt_replay.specs.Reports.{reported_tasks}
use Rattle.rt_replay.specs.Trace.{Play, reached}

-- the run is that of the report; there it stops before some step; or it is there, and a task isn't as reported
pub data Answer : Type 0 where
  Same : Answer
  NoStep : ℕ → Answer
  OtherTask : ℕ → Answer

-- the run with the placements of a report
abbrev pub play_of : World → State → Report → List ℕ → Play
play_of w begin r input = record { world = w; begin = begin; placements = r.placements; input = input }

-- what the run of a report comes to, where it is there
abbrev pub replayed : World → State → Report → List ℕ → Option Reached
replayed w begin r input = source_run w begin r.placements input r.steps

-- the names and conditions of the tasks of a run
abbrev pub tasks_in : List (List ℕ) → Reached → List ReportedTask
tasks_in names x = reported_tasks names x.state.rules.tasks

-- task k, counted from 1, is the first that isn't the same in both lists, or stands in one of them alone
pub record IsFirstOther (ts us : List ReportedTask) (k : ℕ) : Type 0 where
  pub some : 1 ≤ k
  pub before : take (k - 1) ts ≡ take (k - 1) us
  pub other : slice_get ts (k - 1) ≢ slice_get us (k - 1)

-- The answer of the replay of a report, for a system that begins in this state, with tasks of these names: all is as reported; the
-- run comes to s of the steps, and then no task is ready; or it is there, and task k is the first whose name or condition isn't as
-- reported.
abbrev pub IsAnswer : World → State → List (List ℕ) → Report → List ℕ → Answer → Type 0
IsAnswer w begin names r input Same = (x : Reached) × (replayed w begin r input ≡ Some x) × (tasks_in names x ≡ r.tasks)
IsAnswer w begin names r input (NoStep s) = (x : Reached) × (s < r.steps) × (reached (play_of w begin r input) s ≡ Some x) × (running x.state.rules ≡ None)
IsAnswer w begin names r input (OtherTask k) = (x : Reached) × (replayed w begin r input ≡ Some x) × IsFirstOther (tasks_in names x) r.tasks k
