use Rattle.sight.proofs.Skips.{skips_most}
use Rattle.sight.proofs.theorems.skips_as_many_as_it_may.Goals as goal

pub returns : goal.returns
returns c = skips_most
