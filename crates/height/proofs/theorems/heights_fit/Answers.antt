use Rattle.height.proofs.Steps.{fits, fits_64}
use Rattle.height.proofs.theorems.heights_fit.Goals as goal

pub returns : goal.returns
returns c = (fits, fits_64)
