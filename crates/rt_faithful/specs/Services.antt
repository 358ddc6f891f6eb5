-- The services of the machine's run beside those of the source's.
use Rattle.std.specs.Prelude.{◌≡◌}
use Rattle.pdp_core.specs.declared.cpu.Regs.{Regs}
use Rattle.pdp_core.specs.declared.cpu.Stop.{Stop}
use Rattle.rt_run.specs.Services as machine
use Rattle.rt_meaning.specs.Run as source
use Rattle.rt_meaning.specs.Runs.{bytes_of}
use Rattle.rt_follows.specs.Follows.{answered}

-- what a service of the machine's run left is what one of the source's left: the rules, the bytes taken, those put, and the registers that
-- the task has then, where its instruction stopped so
pub record SameService (stop : Stop) (g : Regs) (v : machine.Served) (z : source.Served) : Type 0 where
  pub rules : v.rules ≡ z.rules
  pub taken : v.taken ≡ z.taken
  pub bytes : v.bytes ≡ bytes_of z.byte
  pub registers : machine.answered g v.answer ≡ answered stop z.outcome g
