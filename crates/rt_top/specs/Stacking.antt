-- What `stacks SYSTEM` is to do.
use Rattle.std.specs.Prelude.{◌≡◌, ℕ, List, Option}
use Rattle.rt_commands.specs.Commands.{IsCommand}
use Rattle.rt_commands.specs.declared.command.Command.TheVariants as command
use Rattle.rt_graph.specs.Scans.{told_need}
use Rattle.rt_link.specs.declared.judged.Judged.{Judged}
use Rattle.rt_link.specs.Verdict.{IsJudged}
use Rattle.rt_object.specs.declared.object.ObjectParts.{ObjectParts}
use Rattle.rt_outside.specs.Files.{Files}
use Rattle.rt_report.specs.Stacks.{table_text}
use Rattle.rt_system.specs.declared.parts.SystemParts.{SystemParts}
use Rattle.rt_accept.specs.Calls.{Call, Says}
use Rattle.rt_accept.specs.FileEnds.{FileEnds}
use Rattle.rt_accept.specs.Systems.{HasModules, IsInTurn}
use Rattle.rt_accept.specs.Verdicts.{RefusesSystems}

abbrev pub IsStacks : List (List ℕ) → List ℕ → Type 0
IsStacks words name = IsCommand words (command.Stacks name)

-- the stack table of a system, by what is known of it where it passes the tests of the linker
pub record IsTable (s : SystemParts) (objects : List ObjectParts) (text : List ℕ) : Type 0 where
  pub known : Judged
  pub judged : IsJudged objects s.tasks known
  pub lines : text ≡ table_text (told_need known.order.procs known.needs) objects s.tasks

-- the table of the system that a file has
pub record IsTableOf (files : Option Files) (system text : List ℕ) : Type 0 where
  pub parts : SystemParts
  pub objects : List ObjectParts
  pub has : HasModules files system parts objects
  pub table : IsTable parts objects text

-- the table is put
pub record IsTold (c : Call) (system : List ℕ) (status : ℕ) : Type 0 where
  pub text : List ℕ
  pub is : IsTableOf c.files system text
  pub put : Says text 0 c status

abbrev pub StacksEnd : Call → List ℕ → ℕ → Type 0
StacksEnd c system = FileEnds (IsInTurn c.files system) (RefusesSystems c.files system) (IsTold c system) c
