use Rattle.height.proofs.Rounds.{rounded_near}
use Rattle.height.proofs.theorems.rounded_is_nearest.Goals as goal

pub returns : goal.returns
returns c = rounded_near
