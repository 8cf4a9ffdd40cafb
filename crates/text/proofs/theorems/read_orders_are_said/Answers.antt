use Rattle.text.proofs.OrdersTold.{orders_told}
use Rattle.text.proofs.theorems.read_orders_are_said.Goals as goal

pub returns : goal.returns
returns c = orders_told
