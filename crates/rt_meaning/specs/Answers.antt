-- What may come of a service.
use Rattle.std.specs.Prelude.{◌<◌, ◌≤◌}
use Rattle.rt_rules.specs.declared.service.Outcome.{Outcome}
use Rattle.rt_rules.specs.declared.service.Outcome.TheVariants.{Go, Waits, Error, Ends}
use Rattle.rt_rules.specs.declared.service.Svc.TheVariants as svc
use Rattle.rt_work_state.specs.declared.request.Request.{Request}
use Rattle.rt_work_state.specs.declared.request.Request.TheVariants.{Nothing, Takes, Puts, Rules}

-- RRIN gives a byte, CLOCK and TASKNO a word; DELAY is never refused; an error has a number, which is a word and not 0; RRGEL and the end
-- of a task end it.
abbrev pub MayCome : Request → Outcome → Type 0
MayCome Nothing o = Unit {0}
MayCome Takes (Go n) = n < 256
MayCome Takes _ = ⊥
MayCome (Puts b) (Go n) = Unit {0}
MayCome (Puts b) _ = ⊥
MayCome (Rules svc.Clock) (Go n) = n < 65536
MayCome (Rules svc.Clock) _ = ⊥
MayCome (Rules svc.TaskNo) (Go n) = n < 65536
MayCome (Rules svc.TaskNo) _ = ⊥
MayCome (Rules (svc.Gel n)) Ends = Unit {0}
MayCome (Rules (svc.Gel n)) _ = ⊥
MayCome (Rules svc.End) Ends = Unit {0}
MayCome (Rules svc.End) _ = ⊥
MayCome (Rules (svc.Delay k)) (Go n) = Unit {0}
MayCome (Rules (svc.Delay k)) Waits = Unit {0}
MayCome (Rules (svc.Delay k)) _ = ⊥
MayCome (Rules s) (Go n) = Unit {0}
MayCome (Rules s) Waits = Unit {0}
MayCome (Rules s) (Error n) = (1 ≤ n) × (n < 65536)
MayCome (Rules s) Ends = ⊥
