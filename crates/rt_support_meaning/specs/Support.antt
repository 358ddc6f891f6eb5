-- Where the support code stands, and what is owed of the procedures that may be told of an error.
use Rattle.std.specs.Prelude.{◌≡◌, ℕ, ◌+◌, ◌<◌, ◌≤◌, true, List, [], ◌∷◌, map, codes}
use Rattle.rt_tree_nodes.specs.declared.store.Proc.{Proc}
use Rattle.rt_tree_nodes.specs.declared.store.Datum.TheVariants.{Word}
use Rattle.rt_tree.specs.Stored.{IsCandidate}
use Rattle.rt_work_state.specs.Stores.{supplied}
use Rattle.rt_meaning_laws.specs.Work.{IsProcedure}
use Rattle.rt_icode_meaning.specs.Typed.{ArgsFit}
use Rattle.rt_templates.specs.declared.line.Line.{Line}
use Rattle.rt_templates.specs.Supported.{all_lines, begins, routines}
use Rattle.rt_follows.specs.Whole.{Whole, Home}
use Rattle.rt_follows.specs.Held.{Marked, CodeAt}

-- a line without a hole, as rt_follows has it
abbrev pub marked : Line → Marked
marked l = record { instr = l.instr; mark = l.mark }

abbrev pub support_code : List Marked
support_code = map marked all_lines

-- The support code stands from address 0 on, and the numbers of its routines and the supplied procedures lead into it.
pub record SupportAt (w : Whole) (h : Home) : Type 0 where
  pub code : CodeAt w h 0 support_code
  pub entries : (n : ℕ) → 1 ≤ n → n ≤ 17 → w.support n ≡ begins 0 routines n
  pub procs : (n : ℕ) → 1 ≤ n → n ≤ 10 → w.entry (supplied n) ≡ w.support n

-- What a procedure that ERP may hold has to be for the supplied procedures whose services may be refused: WAIT, SIGNAL, SECURE, RELEASE.
-- They push the error's number, and the procedure's value, which the call takes off again.
pub record Reports (w : Whole) (f : Proc) : Type 0 where
  pub is : IsProcedure w.ps f
  pub reached : w.reached f ≡ true
  pub takes : (n : ℕ) → n < 65536 → ArgsFit w.ps f (Word n ∷ [])
  pub room : (n : ℕ) → 4 ≤ n → n ≤ 7 → w.reached (supplied n) ≡ true → w.needs 0 f + 2 ≤ w.needs 0 (supplied n)

-- Where none of them is reached, nothing is asked: the linker then counts no candidate as reached, RRGEL neither.
abbrev pub AllReport : Whole → Type 0
AllReport w = (n : ℕ) → 4 ≤ n → n ≤ 7 → w.reached (supplied n) ≡ true → (f : Proc) → IsCandidate w.ps (codes "PROC(INT)") f → Reports w f
