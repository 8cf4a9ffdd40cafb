use Rattle.binary.proofs.Stands.{in_order_stands}
use Rattle.binary.proofs.theorems.in_order_stands.Goals as goal

pub returns : goal.returns
returns c = in_order_stands
