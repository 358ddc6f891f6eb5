-- One instruction of a task that follows, where the store is typed and the task fits.
use Rattle.std.proofs.Common.{◌≡◌, ℕ, suc, ◌≤◌, List, sym, subst}
use Rattle.rt_tree_nodes.specs.declared.store.Datum.{Datum}
use Rattle.rt_work_state.specs.Stores.{Store}
use Rattle.rt_rules.specs.declared.service.Outcome as rules
use Rattle.rt_meaning.specs.Step.{Act, Doing, asked}
use Rattle.rt_meaning_laws.specs.Tasks.{TaskFits, TypedStore}
use Rattle.pdp_code.specs.declared.instruction.Instr.{Instr}
use Rattle.pdp_code.specs.Code.{words_of, IsCodable}
use Rattle.pdp_core.specs.Execute.{execute}
use Rattle.pdp_symbolic.specs.Machine.{Machine, regs, Matches, Stands}
use Rattle.pdp_symbolic.specs.Acts.{act}
use Rattle.pdp_symbolic.specs.Plans.{Access, After, Asked, Shows, done}
use Rattle.pdp_symbolic.proofs.Runs as symbolic
use Rattle.rt_follows.specs.Whole.{Whole, Home, meaning, Lies, OwnLies, Lays, Sits}
use Rattle.rt_follows.specs.Held.{layout, memory, Holds}
use Rattle.rt_follows.specs.Runs.{Tracks}
use Rattle.rt_follows.proofs.Step.{Comes, laid, holds_kept, stays}

module _ (w : Whole) (lays : Lays w) (h : Home) (sits : Sits w h) where
  -- one instruction that is no TRAP, where the store and the task fit
  pub one : (i : Instr) (u : Machine) (a : Act) (cs : List Act) (own : List Datum) (k q : ℕ) → IsCodable i → Stands (layout w h) u.pc (words_of i) → (n : ℕ) (K : After) → w.marks u.pc ≡ n → q ≤ w.bound → ((m : ℕ → ℕ) → Holds w h u own m → Asked (layout w h) (act i u) K)
      → ((S : Store) (m0 m' : ℕ → ℕ) (o : rules.Outcome) (e : List Access) (v : Machine) → TypedStore w.ps S → TaskFits w.ps (meaning w) (Doing a cs own) → Lies w S m0 → Shows (layout w h) m0 m' e → Matches (layout w h) v m' → OwnLies w own u.block → K e v → Comes w h k q (Doing a cs own) S o n (done (layout w h) v m'))
      → Tracks w h (suc k) q u a cs own
  one i u a cs own k q codable code n K mark few asked makes m is = (
    stays w h q u a cs own m few is,
    λ alive fits S m0 typed kept lies o may.
        let is0 = holds_kept w h u own m m0 is kept in
        let x = symbolic.one (layout w h) (laid w h lays sits) m0 i u K codable is0.task code (asked m is) in
        subst (λ j. Comes w h k q (Doing a cs own) S o j (execute (memory w h m0) (regs u))) (sym mark)
        (subst (λ y. Comes w h k q (Doing a cs own) S o n y) (sym x.does) (makes S m0 x.after o x.accesses x.task typed fits lies x.shows x.matches is.own_data x.then)),
  )
