use Rattle.std.proofs.Common.{◌≡◌, ℕ, ◌+◌, length, get_or, ap, ◌∙◌, arith}
use Rattle.std.proofs.lemmas.List.{get_or_default}
use Rattle.rt_digraph.proofs.Lists.{long_one}
use Rattle.rt_graph.specs.Calls.{brick}
use Rattle.rt_link.specs.declared.tasks.TaskPlace.{TaskPlace}
use Rattle.rt_link.specs.Room.{task_bytes}
use Rattle.rt_link.specs.Tables.{task_place}
use Rattle.rt_link.proofs.Summed.{sum_more}
use Rattle.rt_link.proofs.Looked.{grows, task_place_is}
use Rattle.rt_link.proofs.tasks.task_places.Goals as goal

pub loop-number-preserved : goal.loop-number-preserved
loop-number-preserved c =
    let objects = c.args.objects.now in
    let stacks = c.args.stacks.now in
    let i = c.loop-number.number in
    let x = get_or stacks i (brick 0 0) in
    let inv = c.loop-number.invariant in
    let within = c.loop-number-test.true in
    let block = c.loop-number.block in
    let place : TaskPlace = record { entry = c.code_start.result; block = block; stack = block + 16 } in
    let more = sum_more (task_bytes objects) stacks i x within (get_or_default stacks i (brick 0 0) x within) in
    let bytes : c.task_bytes-block.result ≡ task_bytes objects x = c.task_bytes-block.ensures.bytes in
    record {
      one_each = ap length c.in_ok-push.ensures.ok ∙ long_one c.loop-number.places place ∙ ap (λ (k : ℕ). k + 1) inv.one_each;
      block = omega arith;
      each = grows (task_place objects stacks) c.loop-number.places c.push.new.self place i c.in_ok-push.ensures.ok inv.one_each inv.each (task_place_is objects stacks i c.code_start.result block c.code_start.ensures inv.block);
    }
