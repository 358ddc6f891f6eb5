use Rattle.std.proofs.Common.{subst}
use Rattle.std.specs.List.{AllByRecursion}
use Rattle.rt_image.specs.Ranges.{IsByte}
use Rattle.rt_link.proofs.whole.is_named.Goals as goal

pub returns : goal.returns
returns c = ((c.as_slice.ensures.some, c.as_slice.ensures.short), subst (AllByRecursion IsByte) c.as_slice.ensures.bytes c.bytes_are_small.ensures)
