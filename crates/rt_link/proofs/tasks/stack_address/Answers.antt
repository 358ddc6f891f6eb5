use Rattle.std.proofs.Common.{get_or, sym, ◌∙◌, arith}
use Rattle.std.proofs.lemmas.List.{get_or_default}
use Rattle.std.proofs.lemmas.Option.{slice_get-get_or}
use Rattle.rt_graph.specs.Calls.{brick}
use Rattle.rt_link.specs.declared.tasks.TaskPlace.{TaskPlace}
use Rattle.rt_link.proofs.Looked.{first_task, no_task}
use Rattle.rt_link.proofs.tasks.stack_address.Goals as goal

pub returns-then-is_same : goal.returns-then-is_same
returns-then-is_same c =
    let objects = c.args._objects.now in
    let stacks = c.args.stacks.now in
    let places = c.args.places.now in
    let n = c.loop-number.number in
    let within = c.loop-number-test.true in
    let x = get_or stacks n (brick 0 0) in
    let none : TaskPlace = record { entry = 0; block = 0; stack = 0 } in
    let long = c.requires.one_each in
    first_task objects stacks places c.args.of x n (get_or places n none) c.requires within (get_or_default stacks n (brick 0 0) x within) c.loop-number.invariant (sym c.is_same.ensures ∙ c.if-is_same.true)
    (slice_get-get_or places n none (omega arith))

pub returns : goal.returns
returns c = no_task c.args._objects.now c.args.stacks.now c.args.of (λ k d h. c.loop-number.invariant k d (let past = c.loop-number-test.false in omega arith))
