use Rattle.std.proofs.Common.{◌≡◌, length}
use Rattle.rt_lower.specs.Drafts.{place_in, lead_in, laid_from}
use Rattle.rt_lower.proofs.laid.lay.Given as goal

abbrev pub invariant-loop-piece : goal.invariant-loop-piece
invariant-loop-piece l = record {
  made : l.made ≡ laid_from (place_in l.places) (lead_in l.labels) 0 l.yielded;
  count : length l.made ≡ length l.yielded;
}
