use Rattle.text.proofs.OrdersBack.{orders_back}
use Rattle.text.proofs.theorems.written_orders_are_read.Goals as goal

pub returns : goal.returns
returns c = orders_back
