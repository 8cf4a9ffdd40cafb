use Rattle.crossing.proofs.Examples.{level_above, touching_above}
use Rattle.crossing.proofs.theorems.examples_hold.Goals as goal

pub returns : goal.returns
returns c = (level_above, touching_above)
