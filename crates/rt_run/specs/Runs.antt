-- What a run comes to.
use Rattle.std.specs.Prelude.{◌≡◌, ◌<◌, ◌+◌, ◌-◌, ℕ, Bool, List, ◌++◌, length, Option, Some, slice_get}
use Rattle.std.specs.Io.KnownBytes.{Appends}
use Rattle.pdp_code.specs.declared.instruction.Reg.TheVariants.{Pc}
use Rattle.pdp_core.specs.declared.cpu.Regs.{Regs}
use Rattle.pdp_core.specs.Execute.{reg}
use Rattle.rt_image.specs.declared.image.ImageParts.{ImageParts}
use Rattle.rt_rules.specs.Rules.{running}
use Rattle.rt_tasks.specs.Traps.{trap_at}
use Rattle.rt_run.specs.declared.machine.End.{End}
use Rattle.rt_run.specs.declared.machine.End.TheVariants.{Ended, Limit, Stalled, Fault, ReadFault, WriteFault}
use Rattle.rt_run.specs.Inputs.{Feed, Gives, Ahead}
use Rattle.rt_run.specs.Boundaries.{State, At, Over, AllEnded, Stalled as IsStalled, Faulted, settle, boundary_at, boundary, instructions}
use Rattle.rt_run.specs.Picture.{Standing, Shows}

-- the state is that of a boundary of the run of an image with these gaps and this input, but for ticks that are still due
abbrev pub IsAtBoundary : ImageParts → List ℕ → List ℕ → State → Type 0
IsAtBoundary image gaps all s = boundary_at s ≡ boundary image gaps all (instructions s)

-- no tick is due
abbrev pub IsSettled : State → Type 0
IsSettled s = settle s.gaps s ≡ s

-- the next instruction of task i is TRAP n
pub record Asks (image : ImageParts) (s : State) (i n : ℕ) : Type 0 where
  pub regs : Regs
  pub is : slice_get s.regs (i - 1) ≡ Some regs
  pub trap : trap_at image.code (reg regs Pc) ≡ Some n

-- the console's input or output failed before the next instruction, which is TRAP n, and the limit isn't reached
pub record Waits (image : ImageParts) (gaps all : List ℕ) (limit : ℕ) (s : State) (n : ℕ) : Type 0 where
  pub few : instructions s < limit
  pub task : ℕ
  pub at : boundary image gaps all (instructions s) ≡ At s
  pub runs : running s.rules ≡ Some task
  pub asks : Asks image s task n

-- how a run up to a limit ended
abbrev pub IsEnd : ImageParts → List ℕ → List ℕ → ℕ → End → State → Type 0
IsEnd image gaps all limit Ended s = boundary image gaps all limit ≡ Over AllEnded s
IsEnd image gaps all limit Stalled s = boundary image gaps all limit ≡ Over IsStalled s
IsEnd image gaps all limit Limit s = (boundary image gaps all limit ≡ At s) × (instructions s ≡ limit)
IsEnd image gaps all limit (Fault i kind at) s = boundary image gaps all limit ≡ Over (Faulted i kind at) s
IsEnd image gaps all limit ReadFault s = Waits image gaps all limit s 1
IsEnd image gaps all limit WriteFault s = Waits image gaps all limit s 2

-- the run comes from one state to another, which these parts show: the input gave these bytes since, and some were put
pub record Comes (image : ImageParts) (gaps all : List ℕ) (s : State) (given : List ℕ) (d : Standing) (written written2 : Option (List ℕ)) : Type 0 where
  pub state : State
  pub shows : Shows image d state
  pub reached : IsAtBoundary image gaps all state
  pub taken : state.taken ≡ s.taken + length given
  pub bytes : List ℕ
  pub output : state.output ≡ s.output ++ bytes
  pub appended : Appends written written2 bytes

-- and no tick is due there
pub record Rests (image : ImageParts) (gaps all : List ℕ) (s : State) (given : List ℕ) (d : Standing) (written written2 : Option (List ℕ)) : Type 0 where
  pub comes : Comes image gaps all s given d written written2
  pub settled : IsSettled comes.state

-- and it is at its end there
pub record Reaches (image : ImageParts) (gaps all : List ℕ) (limit : ℕ) (s : State) (given : List ℕ) (end : End) (d : Standing) (written written2 : Option (List ℕ)) : Type 0 where
  pub rests : Rests image gaps all s given d written written2
  pub ends : IsEnd image gaps all limit end rests.comes.state

-- A call that runs up to a limit, from one standing to another: the input gave some bytes, and the end or not; and over every input in
-- which these bytes come next, from every state that the parts show, it is the run of the machine.
pub record Runs (limit : ℕ) (end : End) (d : Standing) (from : Feed) (written : Option (List ℕ)) (d2 : Standing) (to : Feed) (written2 : Option (List ℕ)) : Type 0 where
  pub given : List ℕ
  pub over : Bool
  pub gives : Gives from given over to
  pub reaches : (image : ImageParts) (gaps all rest : List ℕ) (s : State) → Shows image d s → IsAtBoundary image gaps all s → Ahead all s.taken given over rest → Reaches image gaps all limit s given end d2 written written2
