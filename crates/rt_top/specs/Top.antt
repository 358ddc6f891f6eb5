-- What the program promises of a call, whatever its words.
use Rattle.std.specs.Prelude.{◌≡◌, ℕ, List, [], ◌∷◌, codes}
use Rattle.rt_commands.specs.Commands.{IsCommand}
use Rattle.rt_commands.specs.declared.command.Command.{Command}
use Rattle.rt_commands.specs.declared.command.Command.TheVariants as command
use Rattle.rt_outside.specs.Files.{IsTold, Lacks}
use Rattle.rt_words.specs.Causes.{Rose}
use Rattle.rt_accept.specs.Calls.{Call, NothingDone, KeepsOthers, Says}
use Rattle.rt_generated.specs.Texts.{module_name, system_name, ticks_name}
use Rattle.rt_headline.specs.Go.{Go, IsGo, image_name, report_name}
use Rattle.rt_headline.specs.Headline.{Carried, Goes}
use Rattle.rt_headline.specs.Generating.{IsGen, asked_of, GenEnds}
use Rattle.rt_top.specs.Compiling.{Named, IsCompile, CompileEnds}
use Rattle.rt_top.specs.Linking.{LinkNames, IsLink, LinkEnds}
use Rattle.rt_top.specs.Running.{Asked, IsRun, RunEnds}
use Rattle.rt_top.specs.Showing.{IsShow, ShowEnds}
use Rattle.rt_top.specs.Stacking.{IsStacks, StacksEnd}

-- no command has these words
abbrev pub IsNoCommand : List (List ℕ) → Type 0
IsNoCommand words = (c : Command) → IsCommand words c → ⊥

-- the fault line of words that no command has
abbrev pub words_line : List ℕ
words_line = codes "FAULT 10\n"

-- a file is missing, or the count of a file's reads rose, or that of the input
pub data HasReadFault (c : Call) : Type 0 where
  missing : (name : List ℕ) → IsTold c.files (Lacks name) → HasReadFault c
  read : (name : List ℕ) → Rose (c.reads name) (c.reads_after name) → HasReadFault c
  input : Rose c.input_faults c.input_faults_after → HasReadFault c

-- the count of a file's writes rose, or that of the output
pub data HasWriteFault (c : Call) : Type 0 where
  write : (name : List ℕ) → Rose (c.writes name) (c.writes_after name) → HasWriteFault c
  output : Rose c.faults c.faults_after → HasWriteFault c

-- the image and the report of `go`
abbrev pub written_by_go : Go → List (List ℕ)
written_by_go g = image_name g ∷ report_name g ∷ []

-- the names of the files that a command may write
abbrev pub written_by : Command → List (List ℕ)
written_by (command.Go system ticks limit name) = written_by_go (record { system = system; ticks = ticks; limit = limit; name = name })
written_by (command.Compile source object) = object ∷ []
written_by (command.Link system image map) = image ∷ map ∷ []
written_by (command.Stacks system) = []
written_by (command.Run image ticks limit report) = report ∷ []
written_by (command.Show object) = []
written_by (command.Gen n name) = module_name name ∷ system_name name ∷ ticks_name name ∷ written_by_go (asked_of name)

-- the names that may be written by these words
pub data MayWrite (words : List (List ℕ)) : List (List ℕ) → Type 0 where
  by_command : (d : Command) → IsCommand words d → MayWrite words (written_by d)
  by_none : IsNoCommand words → MayWrite words []

pub record Headline (words : List (List ℕ)) (c : Call) (status : ℕ) : Type 0 where
  -- `go`: where it accepts a system, the run is that of the modules' source meaning (rt_headline, Headline)
  pub goes : (g : Go) → IsGo words g → Goes c.files c g status
  -- `gen`: the same of the system that it makes
  pub generates : (n : ℕ) (name : List ℕ) → IsGen words n name → GenEnds Carried c n name status
  pub compiles : (n : Named) → IsCompile words n → CompileEnds c n status
  pub links : (n : LinkNames) → IsLink words n → LinkEnds c n status
  pub stacks : (name : List ℕ) → IsStacks words name → StacksEnd c name status
  pub runs : (r : Asked) → IsRun words r → RunEnds c r status
  pub shows : (name : List ℕ) → IsShow words name → ShowEnds c name status
  pub none : IsNoCommand words → Says words_line 10 c status
  -- files of other names than the words have for what is written stay as they were, whatever the answer
  pub files_kept : (names : List (List ℕ)) → MayWrite words names → KeepsOthers names c
  -- each of these answers has its cause
  pub ten : status ≡ 10 → IsNoCommand words
  pub twenty : status ≡ 20 → HasReadFault c
  pub twenty_one : status ≡ 21 → HasWriteFault c
  pub thirty : status ≡ 30 → NothingDone c
