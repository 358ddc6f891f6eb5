use Rattle.rt_report.proofs.OneListing.{one_listing}
use Rattle.rt_report.proofs.listing_laws.one_listing.Goals as goal

pub returns : goal.returns
returns c = one_listing
