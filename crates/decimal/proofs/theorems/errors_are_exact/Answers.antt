use Rattle.decimal.proofs.Floats.{error_exact}
use Rattle.decimal.proofs.theorems.errors_are_exact.Goals as goal

pub returns : goal.returns
returns c = error_exact
