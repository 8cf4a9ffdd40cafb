use Rattle.height.proofs.Steps.{by_slope}
use Rattle.height.proofs.theorems.changes_by_slope.Goals as goal

pub returns : goal.returns
returns c = by_slope
