use Rattle.decimal.proofs.Exact.{exact, few, no_zero_at_the_end}
use Rattle.decimal.proofs.theorems.figures_are_exact.Goals as goal

pub returns : goal.returns
returns c = (exact, few, no_zero_at_the_end)
