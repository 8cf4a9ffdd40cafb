use Rattle.binary.proofs.Stands.{exact_stands}
use Rattle.binary.proofs.theorems.exact_stands.Goals as goal

pub returns : goal.returns
returns c = exact_stands
