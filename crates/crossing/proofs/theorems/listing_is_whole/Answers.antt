use Rattle.crossing.proofs.Listings.{listed}
use Rattle.crossing.proofs.theorems.listing_is_whole.Goals as goal

pub returns : goal.returns
returns c = listed
