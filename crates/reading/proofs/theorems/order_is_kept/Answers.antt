use Rattle.reading.proofs.Promised.{in_order}
use Rattle.reading.proofs.theorems.order_is_kept.Goals as goal

pub returns : goal.returns
returns c = in_order
