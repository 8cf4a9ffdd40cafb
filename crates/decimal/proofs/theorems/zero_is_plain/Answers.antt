use Rattle.decimal.proofs.Floats.{zero_is}
use Rattle.decimal.proofs.theorems.zero_is_plain.Goals as goal

pub returns : goal.returns
returns c = zero_is
