-- A task of the machine follows a task of the source, whatever the other tasks do.
use Rattle.std.specs.Prelude.{◌≡◌, ◌≢◌, ℕ, zero, suc, ◌+◌, ◌<◌, ◌≤◌, List, length}
use Rattle.pdp_code.specs.declared.instruction.Reg.TheVariants.{R0, Sp, Pc}
use Rattle.pdp_core.specs.declared.cpu.Regs.{Regs}
use Rattle.pdp_core.specs.declared.cpu.Stop.{Stop}
use Rattle.pdp_core.specs.declared.cpu.Stop.TheVariants.{Trap, Fault}
use Rattle.pdp_core.specs.Execute.{Outcome, execute, reg}
use Rattle.rt_rules.specs.declared.service.Outcome as rules
use Rattle.rt_rules.specs.declared.service.Outcome.TheVariants as came
use Rattle.rt_run.specs.declared.service.Answer.{Answer}
use Rattle.rt_run.specs.declared.service.Answer.TheVariants.{Silence, Value}
use Rattle.rt_run.specs.declared.service.Request.{Request as Want}
use Rattle.rt_run.specs.declared.service.Request.TheVariants as want
use Rattle.rt_run.specs.Services.{answer_to, number_of}
use Rattle.rt_run.specs.Services as run
use Rattle.rt_work_state.specs.declared.request.Request.{Request}
use Rattle.rt_work_state.specs.declared.request.Request.TheVariants.{Nothing}
use Rattle.rt_work_state.specs.Stores.{Store}
use Rattle.rt_work.specs.Task.{service}
use Rattle.rt_meaning.specs.Answers.{MayCome}
use Rattle.rt_meaning.specs.Step.{Task, own_of}
use Rattle.rt_meaning_laws.specs.Tasks.{TaskFits, TypedStore}
use Rattle.rt_meaning_laws.specs.Makes.{HasntEnded, Makes}
use Rattle.pdp_symbolic.specs.Machine.{WordsAt}
use Rattle.rt_tree_nodes.specs.declared.store.Datum.{Datum}
use Rattle.rt_follows.specs.Whole.{Whole, Home, meaning, Lies, OwnLies}
use Rattle.rt_follows.specs.Held.{memory}

-- ---- services

-- what the source would ask by an instruction that stopped so
abbrev pub asked_by : Stop → Regs → Request
asked_by (Trap n) g = service n (reg g R0)
asked_by _ g = Nothing

-- what the machine run answers, by what comes of the service
abbrev pub answer_of : Want → rules.Outcome → Answer
answer_of want.Nothing o = Silence
answer_of want.Reads o = Value (number_of o)
answer_of (want.Puts b) o = Silence
answer_of (want.Calls s) o = answer_to s o

abbrev pub answered : Stop → rules.Outcome → Regs → Regs
answered stop o g = run.answered g (answer_of (run.asked_by stop g) o)

abbrev pub IsFine : Stop → Type 0
IsFine (Fault k a) = ⊥
IsFine _ = Unit {0}

-- how many instructions of a task have come one after the other with no visible step, after one with this mark
abbrev pub quiet_after : ℕ → ℕ → ℕ
quiet_after zero q = suc q
quiet_after (suc mark) q = 0

-- ---- a task that follows

-- the task's brick, its block and the code are in the other memory as in this
pub record Kept (w : Whole) (h : Home) (m m0 : ℕ → ℕ) : Type 0 where
  pub brick : (a : ℕ) → h.low ≤ a → a < h.high → m0 a ≡ m a
  pub block : (a : ℕ) → h.block ≤ a → a < h.block + 16 → m0 a ≡ m a
  pub code : (a : ℕ) → a < w.code_end → m0 a ≡ w.code a

-- the block has the task's own data
pub record OwnStands (w : Whole) (h : Home) (own : List Datum) (m : ℕ → ℕ) : Type 0 where
  pub words : List ℕ
  pub at : WordsAt m h.block words
  pub eight : length words ≡ 8
  pub lies : OwnLies w own words

-- so it does of a task, also of one that has ended
abbrev pub OwnIs : Whole → Home → Task → (ℕ → ℕ) → Type 0
OwnIs w h t m = OwnStands w h (own_of t) m

-- the stack pointer lies in the brick, the block has the task's own data, and not too many unmarked instructions came in a row
pub record Stays (w : Whole) (h : Home) (q : ℕ) (g : Regs) (m : ℕ → ℕ) (t : Task) : Type 0 where
  pub above : h.low ≤ reg g Sp
  pub below : reg g Sp ≤ h.high
  pub own : OwnIs w h t m
  pub quiet : q ≤ w.bound

-- What one instruction left is the source's, where o came of what it asked for: it didn't fault, the source asked just that, the task
-- goes on unless its service ended it, and the store lies in the memory.
pub record Agreed (w : Whole) (h : Home) (x : Outcome) (o : rules.Outcome) (asked : Request) (t : Task) (S : Store) (Then : Type 0) : Type 0 where
  pub fine : IsFine x.stop
  pub asks : asked ≡ asked_by x.stop x.regs
  pub goes_on : o ≢ came.Ends → HasntEnded t
  pub world : x.world ≡ memory w h x.world.bytes
  pub lies : Lies w S x.world.bytes
  pub next : Then

-- For k instructions the machine, with these registers and the brick and block as they are in m, follows the source's task t, after q
-- unmarked instructions. Before each instruction the store is any typed one, since other tasks may have run; and anything that may
-- come of a service comes. An instruction makes as many visible steps of the task as its mark says.
abbrev pub Follows : Whole → Home → ℕ → ℕ → Regs → (ℕ → ℕ) → Task → Type 0
Follows w h zero q g m t = Stays w h q g m t
Follows w h (suc k) q g m t =
    Stays w h q g m t
    × (HasntEnded t → TaskFits w.ps (meaning w) t → (S : Store) (m0 : ℕ → ℕ) → TypedStore w.ps S → Kept w h m m0 → Lies w S m0 → (o : rules.Outcome) → MayCome (asked_by (execute (memory w h m0) g).stop (execute (memory w h m0) g).regs) o →
    Makes (meaning w) (w.marks (reg g Pc)) t S o (λ asked t' S'. Agreed w h (execute (memory w h m0) g) o asked t' S'
    (Follows w h k (quiet_after (w.marks (reg g Pc)) q) (answered (execute (memory w h m0) g).stop o (execute (memory w h m0) g).regs) (execute (memory w h m0) g).world.bytes t')))
