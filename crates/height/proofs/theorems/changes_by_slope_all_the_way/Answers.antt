use Rattle.height.proofs.Steps.{all_the_way}
use Rattle.height.proofs.theorems.changes_by_slope_all_the_way.Goals as goal

pub returns : goal.returns
returns c = all_the_way
