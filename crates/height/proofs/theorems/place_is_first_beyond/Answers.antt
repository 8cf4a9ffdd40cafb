use Rattle.height.proofs.Places.{first_beyond_is}
use Rattle.height.proofs.theorems.place_is_first_beyond.Goals as goal

pub returns : goal.returns
returns c = first_beyond_is
