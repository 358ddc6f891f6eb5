-- How an instruction ended, as the code has it: whether it was carried out, and beside that what stopped it.
use Rattle.std.specs.Prelude.{Result, Ok, Err}
use Rattle.pdp_core.specs.declared.cpu.Regs.{Regs}
use Rattle.pdp_core.specs.declared.cpu.Failure.{Failure}
use Rattle.pdp_core.specs.declared.cpu.Done.{Done}
use Rattle.pdp_core.specs.declared.cpu.Done.TheVariants.{Went as Finished, Stopped}
use Rattle.pdp_core.specs.declared.cpu.Stop.{Stop}
use Rattle.pdp_core.specs.declared.cpu.Stop.TheVariants.{Went, Trap as Service, Fault}
use Rattle.pdp_core.specs.World.{World}
use Rattle.pdp_core.specs.Execute.{Outcome, failure, goes_on}

-- what is left where this stopped it
abbrev pub stopped : Stop → Regs → World → Result Outcome Failure
stopped Went g w = goes_on w g
stopped (Service n) g w = Ok (record { stop = Service n; regs = g; world = w })
stopped (Fault kind at) g w = Err (failure kind at)

-- what stopped an instruction: nothing, where it went on
abbrev pub stop_of : Done → Stop → Stop
stop_of Finished stop = Went
stop_of Stopped stop = stop

abbrev pub told : Done → Stop → Regs → World → Result Outcome Failure
told Finished stop g w = goes_on w g
told Stopped stop g w = stopped stop g w
