-- What the linker has to establish of an image, and how a task starts.
use Rattle.std.specs.Prelude.{◌≡◌, ℕ, true, ◌+◌, ◌*◌, ◌≤◌, [], ◌∷◌}
use Rattle.rt_tree_nodes.specs.declared.store.Proc.{Proc}
use Rattle.rt_work_state.specs.Items.{Begin, Serve}
use Rattle.rt_work_state.specs.Stores.{erl_in, first_own}
use Rattle.rt_meaning.specs.Step.{Act}
use Rattle.rt_meaning_laws.specs.Starting.{IsRoot}
use Rattle.rt_meaning_laws.specs.Work.{IsProcedure}
use Rattle.pdp_code.specs.declared.instruction.Operand.TheVariants.{Absolute}
use Rattle.pdp_code.specs.declared.instruction.Reg.TheVariants.{Pc}
use Rattle.pdp_code.specs.declared.instruction.Instr.TheVariants.{Call, Trap}
use Rattle.pdp_symbolic.specs.Machine.{Machine}
use Rattle.rt_follows.specs.Whole.{Whole, Home, Lays, Sits}
use Rattle.rt_follows.specs.Held.{CodeAt, shown}
use Rattle.rt_follows.specs.Runs.{ProcRuns, RoutinesRun, Before}

-- All parts lie well. Whatever is known of all procedures and routines for fewer than k instructions, each procedure that is reached,
-- compiled or supplied, and each routine runs for k.
pub record Linked (w : Whole) : Type 0 where
  pub lays : Lays w
  pub procs : (h : Home) (k : ℕ) (f : Proc) → Sits w h → Before w h k → IsProcedure w.ps f → w.reached f ≡ true → ProcRuns w h k f
  pub routines : (h : Home) (k : ℕ) → Sits w h → Before w h k → RoutinesRun w h k

-- A task as it starts: the words by which it enters its root, an empty brick, and room for all that its root needs.
pub record Starts (w : Whole) (h : Home) (root : Proc) (u : Machine) : Type 0 where
  pub sits : Sits w h
  pub is_root : IsRoot w.ps root
  pub reached : w.reached root ≡ true
  pub enters : CodeAt w h u.pc (shown (Call Pc (Absolute (w.entry root))) ∷ shown (Trap 11) ∷ [])
  pub stack : u.stack ≡ []
  pub room : h.low + 2 * w.needs 0 root ≤ h.high

-- the source's task: it is about to call its root
abbrev pub first_act : Proc → Act
first_act root = record { proc = root; todo = Begin root ∷ Serve 11 ∷ []; values = []; locals = []; kept = erl_in first_own }
