use Rattle.binary.proofs.Stands.{near_stands}
use Rattle.binary.proofs.theorems.near_stands.Goals as goal

pub returns : goal.returns
returns c = near_stands
