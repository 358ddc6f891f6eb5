use Rattle.rt_meaning.proofs.Tasks.{starting_count}
use Rattle.rt_meaning.proofs.state.SourceState.of_code.Goals as goal

pub invariant_of-result : goal.invariant_of-result
invariant_of-result c =
    record { counted = rw (c.into_vec.ensures, c.in_ok-rules.ensures, c.as_slice.ensures, c.in_ok-priorities.ensures) (starting_count c.in_ok-all.all c.args.tasks.now c.in_ok-all.ensures) }
