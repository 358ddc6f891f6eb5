use Rattle.std.proofs.Common.{◌≡◌, ◌++◌, drop}
use Rattle.std.specs.List.{flat_map}
use Rattle.rt_link.specs.Imaged.{brick_data}
use Rattle.rt_link.proofs.data.put_bricks.Given as goal

abbrev pub invariant-loop-brick : goal.invariant-loop-brick
invariant-loop-brick l =
    l.out.items ++ flat_map (brick_data l.linking.objects.now l.linking.stacks.now l.linking.bindings.now.of l.«module») (drop l.brick-index l.brick-items)
    ≡ l.fn.out.items ++ flat_map (brick_data l.linking.objects.now l.linking.stacks.now l.linking.bindings.now.of l.«module») l.brick-items
