use Rattle.binary.proofs.Stands.{whole_stands}
use Rattle.binary.proofs.theorems.whole_stands.Goals as goal

pub returns : goal.returns
returns c = whole_stands
