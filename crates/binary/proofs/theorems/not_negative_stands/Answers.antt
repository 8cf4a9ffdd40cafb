use Rattle.binary.proofs.Stands.{not_negative_stands}
use Rattle.binary.proofs.theorems.not_negative_stands.Goals as goal

pub returns : goal.returns
returns c = not_negative_stands
