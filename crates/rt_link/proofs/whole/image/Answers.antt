use Rattle.std.proofs.Common.{◌≡◌, true, false, List, subst}
use Rattle.std.specs.List.{All, AllByRecursion}
use Rattle.rt_image.specs.Ranges.{IsWord, IsByte, HasImageRanges}
use Rattle.rt_system.specs.declared.parts.Task.{Task}
use Rattle.rt_link.specs.Imaged.{HasName}
use Rattle.rt_link.proofs.Ranged.{in_range}
use Rattle.rt_link.proofs.whole.image.Goals as goal

pub unreachable-requires : goal.unreachable-requires
unreachable-requires c =
    let objects = c.args.linking.objects.now in
    let stacks = c.args.linking.stacks.now in
    let made = c.in_ok-parts.parts in
    let h : HasImageRanges made =
    in_range objects c.args.linking.bindings.now.of c.args.system.now c.args.roots.now stacks made c.in_ok-parts.ensures c.requires.stacks c.requires.roots c.requires.words c.requires.room c.tasks.ensures.ranges c.objects_are_in_range.ensures
    (subst (λ (ts : List Task). All HasName ts) c.tasks.ensures.tasks c.tasks_are_named.ensures) (subst (AllByRecursion IsWord) c.as_slice.ensures c.words_are_small.ensures) (subst (AllByRecursion IsByte) c.as_slice-2.ensures c.bytes_are_small.ensures) in
    let bad : false ≡ true = c.in-None.ensures.ranges.1 h in
    cc
