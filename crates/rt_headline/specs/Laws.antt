-- The laws.
use Rattle.std.specs.Prelude.{ℕ, false, List, Option}
use Rattle.std.specs.List.{AllByRecursion}
use Rattle.rt_tree_nodes.specs.declared.brick.ModuleParts.{ModuleParts}
use Rattle.rt_object.specs.declared.object.ObjectParts.{ObjectParts}
use Rattle.rt_object.specs.Ranges.{HasObjectRanges}
use Rattle.rt_outside.specs.Files.{Files}
use Rattle.rt_system.specs.declared.parts.Entry.{Entry}
use Rattle.rt_system.specs.declared.parts.Task.{Task}
use Rattle.rt_system.specs.Systems.{IsTaken}
use Rattle.rt_link.specs.declared.judged.Judged.{Judged}
use Rattle.rt_link.specs.Verdict.{IsJudged}
use Rattle.rt_meaning.specs.declared.begin.SourceTask.{SourceTask}
use Rattle.rt_accept.specs.Calls.{Call}
use Rattle.rt_accept.specs.Systems.{HaveEntries}
use Rattle.rt_headline.specs.Go.{Go}
use Rattle.rt_imaging.specs.Imaging.{AreTasksOf}
use Rattle.rt_headline.specs.Outcome.{AreModules}
use Rattle.rt_headline.specs.Carrying.{IsCarriedOut, GoEnds}
use Rattle.rt_headline.specs.Headline.{Carried, Goes}
use Rattle.rt_headline.specs.Generating.{GenEnds}

-- What the code of `go` does, deed by deed, is what the headline says of it.
abbrev pub TheHeadlineFollows : Type 0
TheHeadlineFollows = (files : Option Files) (c : Call) (g : Go) (status : ℕ) → GoEnds files c g status → Goes files c g status

-- So for `gen`.
abbrev pub GeneratedRunsFollow : Type 0
GeneratedRunsFollow = (c : Call) (n : ℕ) (name : List ℕ) (status : ℕ) → GenEnds IsCarriedOut c n name status → GenEnds Carried c n name status

-- A system that passes all tests of the verdict has tasks of the source.
abbrev pub TasksAreThere : Type 0
TasksAreThere = (objects : List ObjectParts) (tasks : List Task) (known : Judged) → IsJudged objects tasks known → (xs : List SourceTask) × AreTasksOf objects tasks xs

-- The objects of lines, none of which names an object, are those of trees.
abbrev pub LinesHaveTrees : Type 0
LinesHaveTrees = (files : Option Files) (es : List Entry) (os : List ObjectParts) → AllByRecursion (IsTaken false) es → AllByRecursion HasObjectRanges os → HaveEntries files es os → (ts : List ModuleParts) × AreModules files es ts os
