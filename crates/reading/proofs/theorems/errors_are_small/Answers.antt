use Rattle.reading.proofs.Promised.{half_a_unit}
use Rattle.reading.proofs.theorems.errors_are_small.Goals as goal

pub returns : goal.returns
returns c = half_a_unit
