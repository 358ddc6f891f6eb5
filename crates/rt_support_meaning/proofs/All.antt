-- The laws of the supplied procedures and the routines, all together.
use Rattle.rt_support_meaning.specs.Laws.{SuppliedRun, RoutinesServe}
use Rattle.rt_support_meaning.proofs.Supplied.{supplied_run, error_routine_runs}
use Rattle.rt_support_meaning.proofs.Routines.{quotient_routine_serves, remainder_routine_serves}
use Rattle.rt_support_meaning.proofs.Turns.{turns_routine_serves}

pub supplied_so : SuppliedRun
supplied_so w h k lays sits support reports before n m is reached = supplied_run w lays h sits support k before reports is reached

pub routines_so : RoutinesServe
routines_so w h k lays sits support = record {
  error = error_routine_runs w lays h sits support k;
  quotient = quotient_routine_serves w lays h sits support k;
  remainder = remainder_routine_serves w lays h sits support k;
  turns_of = turns_routine_serves w lays h sits support k;
}
