use Rattle.session.proofs.Promised.{orders_keep}
use Rattle.session.proofs.theorems.refused_orders_change_nothing.Goals as goal

pub returns : goal.returns
returns c = orders_keep
