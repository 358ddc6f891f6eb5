-- Who hasn't ended.
use Rattle.std.specs.Prelude.{◌≡◌, ℕ, Some}
use Rattle.rt_rules.specs.Roster.{Roster, InRanges, IsAlive}
use Rattle.rt_rules.specs.Rules.{running, tick, serve}
use Rattle.rt_rules.specs.declared.service.Svc.{Svc}
use Rattle.rt_rules.specs.declared.service.Outcome.TheVariants.{Ends}

-- who runs hasn't ended
abbrev pub RunsAlive : Type 0
RunsAlive = (r : Roster) (i : ℕ) → InRanges r → running r ≡ Some i → IsAlive r i

-- who hasn't ended after a tick hadn't before
abbrev pub TicksKeepEnded : Type 0
TicksKeepEnded = (r : Roster) (i : ℕ) → InRanges r → IsAlive (tick r) i → IsAlive r i

-- nor who hasn't after a service of the running task
abbrev pub ServicesKeepEnded : Type 0
ServicesKeepEnded = (r : Roster) (i j : ℕ) (s : Svc) → InRanges r → running r ≡ Some i → IsAlive (serve r i s).0 j → IsAlive r j

-- a task that a service ends has ended
abbrev pub EndsEnd : Type 0
EndsEnd = (r : Roster) (i : ℕ) (s : Svc) → InRanges r → running r ≡ Some i → (serve r i s).1 ≡ Ends → IsAlive (serve r i s).0 i → ⊥
