use Rattle.height.proofs.Examples.{level_stays, touching_once}
use Rattle.height.proofs.theorems.examples_hold.Goals as goal

pub returns : goal.returns
returns c = (level_stays, touching_once)
