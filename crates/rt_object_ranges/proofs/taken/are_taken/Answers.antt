use Rattle.std.proofs.Common.{arith}
use Rattle.std.proofs.lemmas.List.Elements.{All-from_recursion, recursion_from_All}
use Rattle.rt_object.specs.Ranges.{IsProcNumber}
use Rattle.rt_object_ranges.proofs.taken.are_taken.Goals as goal

pub returns : goal.returns
returns c =
    let P = IsProcNumber c.args.bricks.now in (
      λ e. (omega arith, c.numbers_rise.ensures.0 c.if-not-numbers_rise.false, recursion_from_All P c.args.taken.now (c.is_each_proc.ensures.0 e)),
      λ h. c.is_each_proc.ensures.1 (All-from_recursion P c.args.taken.now h.2),
    )
