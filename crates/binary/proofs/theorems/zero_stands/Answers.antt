use Rattle.binary.proofs.Stands.{zero_stands}
use Rattle.binary.proofs.theorems.zero_stands.Goals as goal

pub returns : goal.returns
returns c = zero_stands
