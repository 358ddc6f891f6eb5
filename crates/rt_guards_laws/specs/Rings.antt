-- Rings of tasks that wait for one another.
use Rattle.std.specs.Prelude.{◌≡◌, ℕ, suc, ◌+◌, ◌<◌, List, Some, slice_get, length}
use Rattle.rt_rules.specs.declared.task.State.TheVariants.{Facility}
use Rattle.rt_rules.specs.Roster.{Roster, row, owner_of, IsTask}
use Rattle.rt_rules.specs.Laws.{WaitersWait}
use Rattle.rt_guards_laws.specs.Owning.{WaitersOwnLower}

-- task i waits for a facility that task j owns
pub record WaitsFor (r : Roster) (i j : ℕ) : Type 0 where
  pub there : IsTask r i
  pub facility : ℕ
  pub waits : (row r i).state ≡ Facility facility
  pub owned : owner_of r facility ≡ j

-- A ring: a list of tasks, each of which waits for a facility that the next one owns, the last one for one that the first owns.
pub record IsRing (r : Roster) (is : List ℕ) : Type 0 where
  pub some : 0 < length is
  pub next : (k i j : ℕ) → slice_get is k ≡ Some i → slice_get is (k + 1) ≡ Some j → WaitsFor r i j
  pub last : (k i j : ℕ) → suc k ≡ length is → slice_get is k ≡ Some i → slice_get is 0 ≡ Some j → WaitsFor r i j

abbrev pub NoRing : Roster → Type 0
NoRing r = (is : List ℕ) → IsRing r is → ⊥

-- where who waits owns lower facilities alone there is no ring
abbrev pub RingsAreRefused : Type 0
RingsAreRefused = (r : Roster) → WaitersWait r → WaitersOwnLower r → NoRing r
