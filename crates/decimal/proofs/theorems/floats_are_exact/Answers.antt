use Rattle.decimal.proofs.Floats.{float_exact}
use Rattle.decimal.proofs.theorems.floats_are_exact.Goals as goal

pub returns : goal.returns
returns c = float_exact
